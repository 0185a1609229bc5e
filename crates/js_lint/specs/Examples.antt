-- Worked examples of the definitions, each by computation alone.
use Rattle.std.specs.Prelude.{◌≡◌, ℕ, List, [], ◌∷◌, ◌++◌, codes, Option, Some, None, refl}
use Rattle.std.specs.Fmt.{digits}
use Rattle.js_tree.specs.declared.place.Place.{Place}
use Rattle.js_tree.specs.declared.bound.Bound.TheVariants.{Slot, Global}
use Rattle.js_tree.specs.Tree.{Characters, Name, Suffixed, New, present, no_expression, an_expression, a_member, a_call, no_suffix, a_suffix, FunctionTree, a_function, If, Return, DeclareNumbered, omitted, Statements, no_statement, a_statement, no_branch, a_branch}
use Rattle.js_ends.specs.Ways.{followed_by, either, into}
use Rattle.js_lint.specs.declared.advice.Advice.{Advice}
use Rattle.js_lint.specs.declared.advice.Advice.TheVariants as advice
use Rattle.js_lint.specs.declared.finding.Finding.{Finding}
use Rattle.js_lint.specs.declared.own.Own.{Own}
use Rattle.js_lint.specs.Advice.{rows}
use Rattle.js_lint.specs.Tables.{globals, members, object_members}
use Rattle.js_lint.specs.Texts.{handed_advice, beside_advice}
use Rattle.js_lint.specs.Rules.{name_advice, new_advice, member_finding}
use Rattle.js_lint.specs.Findings.{findings_of}
use Rattle.js_lint.specs.Lines.{line_of}

abbrev at : ℕ → ℕ → Place
at line column = record { line = line; column = column }

abbrev finding : Place → Option (List ℕ) → List ℕ → Advice → Finding
finding p object x a = record { place = p; object = object; name = x; advice = a }

-- a script that declares nothing, and one that declares `Date` and makes a property `endsWith`
abbrev nothing : Own
nothing = record { globals = []; members = [] }

abbrev something : Own
something = record { globals = codes "Date" ∷ []; members = codes "endsWith" ∷ [] }

-- ---- names

pub a_left_out_name : name_advice nothing (codes "Date") ≡ Some advice.Clock
unfolding globals
a_left_out_name = refl

pub an_own_name : name_advice something (codes "Date") ≡ None
an_own_name = refl

pub an_unknown_name : name_advice nothing (codes "inOffice") ≡ Some advice.Undeclared
unfolding globals
an_unknown_name = refl

pub a_name_that_is_here : name_advice nothing (codes "dnsDomainIs") ≡ None
unfolding globals
a_name_that_is_here = refl

pub a_word_of_a_later_edition : name_advice nothing (codes "let") ≡ Some advice.Var
unfolding globals
a_word_of_a_later_edition = refl

-- `new String`, but `new Error`
pub new_before_a_function : new_advice nothing (codes "String") ≡ Some advice.NoNew
unfolding globals
new_before_a_function = refl

pub new_before_a_constructor : new_advice nothing (codes "Error") ≡ None
unfolding globals
new_before_a_constructor = refl

-- ---- properties

pub a_left_out_function : member_finding nothing (at 1 5) (Some (codes "Math")) (codes "random") ≡ Some (finding (at 1 5) (Some (codes "Math")) (codes "random") advice.Chance)
unfolding object_members
a_left_out_function = refl

pub a_function_that_is_here : member_finding nothing (at 1 5) (Some (codes "Math")) (codes "floor") ≡ None
unfolding members object_members
a_function_that_is_here = refl

-- `log` is left out on `Math` alone
pub the_same_of_another_object : member_finding nothing (at 1 5) None (codes "log") ≡ None
unfolding members
the_same_of_another_object = refl

pub a_method_of_a_later_edition : member_finding nothing (at 1 5) None (codes "endsWith") ≡ Some (finding (at 1 5) None (codes "endsWith") advice.End)
unfolding members
a_method_of_a_later_edition = refl

pub an_own_method : member_finding something (at 1 5) None (codes "endsWith") ≡ None
an_own_method = refl

-- ---- texts

pub a_choice_in_a_pattern : handed_advice (codes "shExpMatch") 1 (codes "(www|ftp).example.com") ≡ Some advice.Pattern
a_choice_in_a_pattern = refl

pub a_shell_pattern : handed_advice (codes "shExpMatch") 1 (codes "*.example.com") ≡ None
a_shell_pattern = refl

pub a_length_behind_a_slash : handed_advice (codes "isInNet") 1 (codes "10.0.0.0/8") ≡ Some advice.Quad
a_length_behind_a_slash = refl

pub a_mask_of_three_numbers : handed_advice (codes "isInNet") 2 (codes "255.0.0") ≡ Some advice.Quad
a_mask_of_three_numbers = refl

pub a_quad : handed_advice (codes "isInNet") 2 (codes "255.0.0.0") ≡ None
a_quad = refl

pub a_prefix_without_a_length : handed_advice (codes "isInNetEx") 1 (codes "2001:db8::") ≡ Some advice.Prefix
a_prefix_without_a_length = refl

pub a_prefix : handed_advice (codes "isInNetEx") 1 (codes "2001:db8::/32") ≡ None
a_prefix = refl

-- the first argument is a host
pub a_host : handed_advice (codes "isInNet") 0 (codes "www.example.com") ≡ None
a_host = refl

pub a_scheme_that_no_url_has : beside_advice (codes "url") (codes "gopher://*") ≡ Some advice.Scheme
a_scheme_that_no_url_has = refl

pub a_scheme_in_capitals : beside_advice (codes "url") (codes "HTTP:") ≡ Some advice.Scheme
a_scheme_in_capitals = refl

pub a_scheme : beside_advice (codes "url") (codes "https:") ≡ None
a_scheme = refl

-- a port is none
pub a_port : beside_advice (codes "url") (codes "intranet:8080") ≡ None
a_port = refl

-- ---- a whole script: all of its findings, in the order in which they are written

-- `function FindProxyForURL(url, host) { if (host.endsWith(".a")) return new Date(); }`
abbrev body : Statements
body = a_statement (DeclareNumbered (at 1 1) (record { name = codes "FindProxyForURL"; bound = Global }) 0) no_statement

abbrev the_function : FunctionTree
the_function =
    let host = Name (at 2 7) (record { name = codes "host"; bound = Slot 0 1 }) in
    let ends = Suffixed (at 2 7) host (a_suffix (a_member (at 2 11) (codes "endsWith")) (a_suffix (a_call (at 2 20) (an_expression (Characters (at 2 21) (codes ".a")) no_expression)) no_suffix)) in
    let now = New (at 2 35) (Name (at 2 39) (record { name = codes "Date"; bound = Global })) no_expression in
    a_function None [] (codes "url" ∷ codes "host" ∷ []) (a_statement (If (at 2 3) (a_branch ends (Return (at 2 28) (present now)) no_branch) omitted) no_statement)

pub all_findings : findings_of body (the_function ∷ [])
    ≡ finding (at 1 1) None (codes "FindProxyForURL") advice.Return
    ∷ finding (at 2 11) None (codes "endsWith") advice.End
    ∷ finding (at 2 39) None (codes "Date") advice.Clock ∷ []
unfolding globals members object_members followed_by either into
all_findings = refl

-- ---- lines

pub a_line : line_of (finding (at 2 11) None (codes "endsWith") advice.End) ≡ codes "2:11: endsWith: write dnsDomainIs(text, part)" ++ 10 ∷ []
unfolding rows digits
a_line = refl

pub a_line_of_a_property : line_of (finding (at 1 5) (Some (codes "Math")) (codes "pow") advice.Arithmetic)
    ≡ codes "1:5: Math.pow: Math has abs, ceil, floor, max, min and round; numbers are whole" ++ 10 ∷ []
unfolding rows digits
a_line_of_a_property = refl
