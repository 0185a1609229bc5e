-- The findings of a program: what each of its sites comes to, in the order in which they are written. All of them.
use Rattle.std.specs.Prelude.{List, [], ◌∷◌, ◌++◌, option_to_list}
use Rattle.js_tree.specs.Tree.{FunctionTree, Statements}
use Rattle.js_sites.specs.declared.site.Site.{Site}
use Rattle.js_sites.specs.Program.{sites_of}
use Rattle.js_lint.specs.declared.finding.Finding.{Finding}
use Rattle.js_lint.specs.declared.own.Own.{Own}
use Rattle.js_lint.specs.Own.{own_of}
use Rattle.js_lint.specs.Rules.{finding_at}

abbrev pub findings_at : Own → List FunctionTree → List Site → List Finding
findings_at own functions [] = []
findings_at own functions (s ∷ ss) = option_to_list (finding_at own functions s) ++ findings_at own functions ss

-- What the script has of its own is gathered from all of it first.
abbrev pub findings_among : List FunctionTree → List Site → List Finding
findings_among functions sites = findings_at (own_of sites) functions sites

abbrev pub findings_of : Statements → List FunctionTree → List Finding
findings_of body functions = findings_among functions (sites_of body functions)
