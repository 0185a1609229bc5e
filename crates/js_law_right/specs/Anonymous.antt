-- Scripts in which no declared function has a name of its own, as each script that is read: the name of a declaration
-- stands around the function, and that of a function expression in a scope of its own (ECMA-262 5.1, section 13).
use Rattle.std.specs.Prelude.{◌≡◌, List, [], Option, None}
use Rattle.js_tree.specs.declared.bound.BoundName.{BoundName}
use Rattle.js_tree.specs.Tree.{FunctionTree, a_function, StatementTree, statements_of}
use Rattle.js_law_right.specs.EachIn.{Claims, EachInStatements}

abbrev pub own_name : FunctionTree → Option BoundName
own_name (a_function own parameters names body) = own

abbrev pub anonymous : Claims
anonymous = record {
  name = λ scopes x. Unit {0};
  expression = λ scopes f. Unit {0};
  numbered = λ scopes n. Unit {0};
  declaration = λ scopes f. own_name f ≡ None;
  declared = λ scopes n. Unit {0};
}

abbrev pub DeclaredAreAnonymous : List StatementTree → Type 0
DeclaredAreAnonymous script = EachInStatements anonymous [] (statements_of script)
