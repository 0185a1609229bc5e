-- What a site comes to: a finding, or none.
use Rattle.std.specs.Prelude.{ℕ, Bool, ◌&&◌, ◌||◌, false, List, codes, bytes_eq, slice_get, Option, Some, None, if◌then◌else◌}
use Rattle.js_tree.specs.declared.place.Place.{Place}
use Rattle.js_tree.specs.Tree.{FunctionTree, a_function}
use Rattle.js_ends.specs.declared.ends.Ends.{Ends}
use Rattle.js_ends.specs.Ends.{ends_of_statements}
use Rattle.js_sites.specs.declared.site.Site.{Site}
use Rattle.js_sites.specs.declared.site.Site.TheVariants as site
use Rattle.js_lint.specs.declared.advice.Advice.{Advice}
use Rattle.js_lint.specs.declared.advice.Advice.TheVariants as advice
use Rattle.js_lint.specs.declared.finding.Finding.{Finding}
use Rattle.js_lint.specs.declared.own.Own.{Own}
use Rattle.js_lint.specs.declared.standing.Standing.{Standing}
use Rattle.js_lint.specs.declared.standing.Standing.TheVariants.{Here}
use Rattle.js_lint.specs.Own.{has_name}
use Rattle.js_lint.specs.Tables.{globals, members, object_members, standing_among, advice_among, missing_by}
use Rattle.js_lint.specs.Texts.{handed_advice, beside_advice}

-- the finding of an advice, where there is one
abbrev pub found : Place → Option (List ℕ) → List ℕ → Option Advice → Option Finding
found p object x None = None
found p object x (Some a) = Some (record { place = p; object = object; name = x; advice = a })

-- ---- global names

-- what isn't here, and what no row knows
abbrev pub name_by : Option Standing → Option Advice
name_by None = Some advice.Undeclared
name_by (Some s) = missing_by (Some s)

-- A name that the script declares itself is its own.
abbrev pub name_advice : Own → List ℕ → Option Advice
name_advice own x = if has_name own.globals x then None else name_by (standing_among globals x)

-- a text that is handed to a function of the language
abbrev pub argument_advice : Own → List ℕ → ℕ → List ℕ → Option Advice
argument_advice own f n t = if has_name own.globals f then None else handed_advice f n t

-- what is here and makes no object (LANGUAGE.md, "Built-in functions")
abbrev pub new_by : Option Standing → Option Advice
new_by (Some Here) = Some advice.NoNew
new_by s = None

abbrev pub new_advice : Own → List ℕ → Option Advice
new_advice own x = if has_name own.globals x then None else new_by (standing_among globals x)

-- ---- properties

-- a property of a global object that the script doesn't declare itself
abbrev pub global_object_advice : Own → List ℕ → List ℕ → Option Advice
global_object_advice own object x = if has_name own.globals object then None else advice_among object_members object x

abbrev pub object_advice : Own → Option (List ℕ) → List ℕ → Option Advice
object_advice own None x = None
object_advice own (Some object) x = global_object_advice own object x

-- by what its object lacks, and else by what every object lacks
abbrev pub member_by : Place → Option (List ℕ) → List ℕ → Option Advice → Option Finding
member_by p object x None = found p None x (missing_by (standing_among members x))
member_by p object x (Some a) = found p object x (Some a)

-- A property that the script makes itself is its own.
abbrev pub member_finding : Own → Place → Option (List ℕ) → List ℕ → Option Finding
member_finding own p object x = if has_name own.members x then None else member_by p object x (object_advice own object x)

-- ---- functions

-- whether control may come to the end of a function's body without a value, or leave it so
abbrev pub may_lack : Ends → Bool
may_lack ends = ends.completes || (ends.breaks || ends.returns_nothing)

-- the functions that a run may begin with
abbrev pub is_entry : Option (List ℕ) → Bool
is_entry None = false
is_entry (Some x) = bytes_eq x (codes "FindProxyForURL") || bytes_eq x (codes "FindProxyForURLEx")

-- These owe a result, and so does a function that gives one somewhere.
abbrev pub return_advice : Option (List ℕ) → Ends → Option Advice
return_advice x ends = if may_lack ends && (is_entry x || ends.returns_value) then Some advice.Return else None

-- the own name of a function expression, else the word itself
abbrev pub own_shown : FunctionTree → List ℕ
own_shown (a_function None parameters names body) = codes "function"
own_shown (a_function (Some x) parameters names body) = x.name

-- the name of a declaration before these
abbrev pub shown_name : Option (List ℕ) → FunctionTree → List ℕ
shown_name (Some x) f = x
shown_name None f = own_shown f

abbrev pub body_ends : FunctionTree → Ends
body_ends (a_function own parameters names body) = ends_of_statements body

abbrev pub function_finding : Place → Option (List ℕ) → Option FunctionTree → Option Finding
function_finding p x None = None
function_finding p x (Some f) = found p None (shown_name x f) (return_advice x (body_ends f))

-- ---- all

-- functions: those of the program, by their numbers
abbrev pub finding_at : Own → List FunctionTree → Site → Option Finding
finding_at own functions (site.Named p x) = found p None x (name_advice own x)
finding_at own functions (site.Constructed p x) = found p None x (new_advice own x)
finding_at own functions (site.Written x) = None
finding_at own functions (site.Member p object x) = member_finding own p object x
finding_at own functions (site.Made x) = None
finding_at own functions (site.Handed p f n t) = found p None t (argument_advice own f n t)
finding_at own functions (site.Beside p x t) = found p None t (beside_advice x t)
finding_at own functions (site.Function p x n) = function_finding p x (slice_get functions n)
