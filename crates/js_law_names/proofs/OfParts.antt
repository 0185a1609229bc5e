-- Parts: those of the two runs differ in the places of names alone.
use Rattle.std.proofs.Common.{◌≡◌, ℕ, List, [], map, refl}
use Rattle.js_tree.specs.Tree.{ExpressionTree, Number, SuffixTree, a_member, FunctionTree, StatementTree, Block}
use Rattle.js_binding.specs.Scopes.{Scope}
use Rattle.js_evaluation.specs.State.{RunState}
use Rattle.js_evaluation.specs.Objects.{Context}
use Rattle.js_evaluation.specs.Parts.{Part, expression_part, statement_part, call_part, construct_part, load_part, Within, expression_place, suffix_place, statement_place, part_place}
use Rattle.js_law_right.specs.EachIn.{EachInExpression, EachInStatement, EachInStatements}
use Rattle.js_law_right.specs.Right.{Setting, right}
use Rattle.js_law_right.specs.Unbound.{expression_unbound, suffix_unbound, function_unbound, statement_unbound, statements_unbound}
use Rattle.js_law_names.proofs.Worlds.{Shape}
use Rattle.js_law_names.proofs.Agreeing.{Agrees}
use Rattle.js_law_names.proofs.OfReferences.{ReferencesAgree}

-- the functions of a program, without the places of their names
abbrev pub bare : List FunctionTree → List FunctionTree
bare functions = map function_unbound functions

abbrev pub part_unbound : Part → Part
part_unbound (expression_part cx e) = expression_part cx (expression_unbound e)
part_unbound (statement_part cx s) = statement_part cx (statement_unbound s)
part_unbound (call_part f this vs p) = call_part f this vs p
part_unbound (construct_part f vs p) = construct_part f vs p
part_unbound (load_part outer ss) = load_part outer (statements_unbound ss)

-- A part stands in scopes among which its names are right.
abbrev pub PartRight : (ℕ → Setting) → RunState → Part → Type 0
PartRight setting z (expression_part cx e) = (xs : List Scope) × Shape z.names z.heap.scopes cx.scope xs × EachInExpression (right setting) xs e
PartRight setting z (statement_part cx s) = (xs : List Scope) × Shape z.names z.heap.scopes cx.scope xs × EachInStatement (right setting) xs s
PartRight setting z (call_part f this vs p) = Unit {0}
PartRight setting z (construct_part f vs p) = Unit {0}
PartRight setting z (load_part outer ss) = Shape z.names z.heap.scopes outer [] × EachInStatements (right setting) [] ss

-- what evaluation makes of the parts within agrees
pub record WithinAgrees (setting : ℕ → Setting) (go go' : Within) : Type 0 where
  pub value : (z : RunState) (part : Part) → PartRight setting z part
      → Agrees setting z (go.value (part_unbound part)) (go'.value part)
  pub reference : (z : RunState) (cx : Context) (xs : List Scope) → Shape z.names z.heap.scopes cx.scope xs
      → (e : ExpressionTree) → EachInExpression (right setting) xs e
      → ReferencesAgree setting xs z (go.reference cx (expression_unbound e)) (go'.reference cx e)

-- ---- places

pub expression_stays : (e : ExpressionTree) → expression_place e ≡ expression_place (expression_unbound e)
expression_stays (Number p n) = refl
expression_stays e = refl

pub suffix_stays : (s : SuffixTree) → suffix_place s ≡ suffix_place (suffix_unbound s)
suffix_stays (a_member p x) = refl
suffix_stays s = refl

statement_stays : (s : StatementTree) → statement_place s ≡ statement_place (statement_unbound s)
statement_stays (Block p ss) = refl
statement_stays s = refl

pub part_stays : (part : Part) → part_place part ≡ part_place (part_unbound part)
part_stays (expression_part cx e) = expression_stays e
part_stays (statement_part cx s) = statement_stays s
part_stays part = refl
