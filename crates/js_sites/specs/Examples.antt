-- Worked examples of the definitions, each by computation alone.
use Rattle.std.specs.Prelude.{◌≡◌, ℕ, pos, List, [], ◌∷◌, codes, Some, None, refl}
use Rattle.js_tree.specs.declared.place.Place.{Place}
use Rattle.js_tree.specs.declared.bound.Bound.{Bound}
use Rattle.js_tree.specs.declared.bound.Bound.TheVariants.{Slot, Global}
use Rattle.js_tree.specs.declared.bound.BoundName.{BoundName}
use Rattle.js_tree.specs.declared.operators.BinaryOp.TheVariants.{Equal, Less}
use Rattle.js_tree.specs.declared.operators.AssignOp.TheVariants as assign
use Rattle.js_tree.specs.Tree.{ExpressionTree, Number, Characters, This, Name, Object, Suffixed, New, Chain, Assign, present, Expressions, no_expression, an_expression, no_property, a_property, SuffixTree, a_member, an_index, a_call, Suffixes, no_suffix, a_suffix, no_operand, an_operand, a_function, Evaluate, Var, Switch, DeclareNumbered, no_statement, a_statement, no_declared, a_declared, no_clause, a_clause}
use Rattle.js_sites.specs.declared.site.Site.TheVariants as site
use Rattle.js_sites.specs.Sites.{expression_sites, statement_sites}
use Rattle.js_sites.specs.Program.{sites_of}

abbrev at : ℕ → Place
at column = record { line = 1; column = column }

abbrev bound : List ℕ → Bound → BoundName
bound x b = record { name = x; bound = b }

abbrev global : ℕ → List ℕ → ExpressionTree
global column x = Name (at column) (bound x Global)

-- the parameter `url` of a function, in its own body
abbrev the_url : ℕ → ExpressionTree
the_url column = Name (at column) (bound (codes "url") (Slot 0 0))

abbrev one : ExpressionTree → Expressions
one e = an_expression e no_expression

abbrev only : SuffixTree → Suffixes
only s = a_suffix s no_suffix

-- `Math.random()`
pub a_method_of_a_global : expression_sites (Suffixed (at 1) (global 1 (codes "Math")) (a_suffix (a_member (at 5) (codes "random")) (only (a_call (at 12) no_expression))))
    ≡ site.Named (at 1) (codes "Math") ∷ site.Member (at 5) (Some (codes "Math")) (codes "random") ∷ []
a_method_of_a_global = refl

-- `url.slice(1).charAt(0)`: a name that a scope has is no site, and only the first member stands behind a name alone
pub a_method_of_a_parameter : expression_sites (Suffixed (at 1) (the_url 1) (a_suffix (a_member (at 4) (codes "slice")) (a_suffix (a_call (at 10) (one (Number (at 11) (pos 1)))) (a_suffix (a_member (at 13) (codes "charAt")) (only (a_call (at 20) (one (Number (at 21) (pos 0)))))))))
    ≡ site.Member (at 4) None (codes "slice") ∷ site.Member (at 13) None (codes "charAt") ∷ []
a_method_of_a_parameter = refl

-- `shExpMatch(url, "ftp:*")`: the text is the second argument, beside the first one
pub a_text_that_is_handed : expression_sites (Suffixed (at 1) (global 1 (codes "shExpMatch")) (only (a_call (at 11) (an_expression (the_url 12) (one (Characters (at 17) (codes "ftp:*")))))))
    ≡ site.Named (at 1) (codes "shExpMatch") ∷ site.Handed (at 17) (codes "shExpMatch") 1 (codes "ftp:*") ∷ site.Beside (at 17) (codes "url") (codes "ftp:*") ∷ []
a_text_that_is_handed = refl

-- `url.indexOf("ftp:")`
pub a_text_for_a_method : expression_sites (Suffixed (at 1) (the_url 1) (a_suffix (a_member (at 4) (codes "indexOf")) (only (a_call (at 12) (one (Characters (at 13) (codes "ftp:")))))))
    ≡ site.Member (at 4) None (codes "indexOf") ∷ site.Beside (at 13) (codes "url") (codes "ftp:") ∷ []
a_text_for_a_method = refl

-- `url == "a"` and `"a" == url`; `url < "a"` asks for no equality
pub a_text_behind : expression_sites (Chain (at 1) (the_url 1) (an_operand (at 5) Equal (Characters (at 8) (codes "a")) no_operand)) ≡ site.Beside (at 8) (codes "url") (codes "a") ∷ []
a_text_behind = refl

pub a_text_before : expression_sites (Chain (at 1) (Characters (at 1) (codes "a")) (an_operand (at 5) Equal (the_url 8) no_operand)) ≡ site.Beside (at 1) (codes "url") (codes "a") ∷ []
a_text_before = refl

pub a_text_in_an_order : expression_sites (Chain (at 1) (the_url 1) (an_operand (at 5) Less (Characters (at 7) (codes "a")) no_operand)) ≡ []
a_text_in_an_order = refl

-- `switch (url) { case "a": }`
pub a_text_of_a_case : statement_sites (Switch (at 1) (the_url 9) (a_clause (present (Characters (at 21) (codes "a"))) no_statement no_clause)) ≡ site.Beside (at 21) (codes "url") (codes "a") ∷ []
a_text_of_a_case = refl

-- `new Date`
pub a_construction : expression_sites (New (at 1) (global 5 (codes "Date")) no_expression)
    ≡ site.Constructed (at 5) (codes "Date") ∷ site.Named (at 5) (codes "Date") ∷ []
a_construction = refl

-- `({map: 1})`
pub a_property_of_a_literal : expression_sites (Object (at 2) (a_property (codes "map") (Number (at 8) (pos 1)) no_property)) ≡ site.Made (codes "map") ∷ []
a_property_of_a_literal = refl

-- `o.a.map = 1` and `o["map"] = 1`
pub a_property_that_is_written : expression_sites (Assign (at 9) (Suffixed (at 1) (global 1 (codes "o")) (a_suffix (a_member (at 2) (codes "a")) (only (a_member (at 4) (codes "map"))))) assign.Set (Number (at 11) (pos 1)))
    ≡ site.Made (codes "map") ∷ site.Named (at 1) (codes "o") ∷ site.Member (at 2) (Some (codes "o")) (codes "a") ∷ site.Member (at 4) None (codes "map") ∷ []
a_property_that_is_written = refl

pub a_key_that_is_written : expression_sites (Assign (at 10) (Suffixed (at 1) (global 1 (codes "o")) (only (an_index (at 2) (Characters (at 3) (codes "map"))))) assign.Set (Number (at 12) (pos 1)))
    ≡ site.Made (codes "map") ∷ site.Named (at 1) (codes "o") ∷ []
a_key_that_is_written = refl

-- `this.find = 1` makes a global name, as `find = 1` does; `find += 1` doesn't
pub a_property_of_this : expression_sites (Assign (at 11) (Suffixed (at 1) (This (at 1)) (only (a_member (at 5) (codes "find")))) assign.Set (Number (at 13) (pos 1)))
    ≡ site.Written (codes "find") ∷ site.Made (codes "find") ∷ site.Member (at 5) None (codes "find") ∷ []
a_property_of_this = refl

pub a_name_that_is_written : expression_sites (Assign (at 6) (global 1 (codes "find")) assign.Set (Number (at 8) (pos 1))) ≡ site.Written (codes "find") ∷ site.Named (at 1) (codes "find") ∷ []
a_name_that_is_written = refl

pub a_name_that_is_read_first : expression_sites (Assign (at 6) (global 1 (codes "find")) assign.Add (Number (at 9) (pos 1))) ≡ site.Named (at 1) (codes "find") ∷ []
a_name_that_is_read_first = refl

-- `function f() { Date; } var x = y;`: what a function does stands where the function does
pub a_program : sites_of (a_statement (DeclareNumbered (at 1) (bound (codes "f") Global) 0) (a_statement (Var (at 24) (a_declared (bound (codes "x") Global) (present (global 32 (codes "y"))) no_declared)) no_statement))
    (a_function None [] [] (a_statement (Evaluate (at 16) (global 16 (codes "Date"))) no_statement) ∷ [])
    ≡ site.Written (codes "f") ∷ site.Function (at 1) (Some (codes "f")) 0 ∷ site.Named (at 16) (codes "Date") ∷ site.Written (codes "x") ∷ site.Named (at 32) (codes "y") ∷ []
a_program = refl
