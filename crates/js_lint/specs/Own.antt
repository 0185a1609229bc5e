-- What a script has of its own: the global names that it declares or writes, and the names of properties that it makes.
use Rattle.std.specs.Prelude.{ℕ, Bool, List, [], ◌∷◌, ◌++◌, is_some}
use Rattle.js_binding.specs.Names.{each_once}
use Rattle.js_binding.specs.Scopes.{place_of}
use Rattle.js_sites.specs.declared.site.Site.{Site}
use Rattle.js_sites.specs.declared.site.Site.TheVariants as site
use Rattle.js_lint.specs.declared.own.Own.{Own}

abbrev pub global_in : Site → List (List ℕ)
global_in (site.Written x) = x ∷ []
global_in s = []

abbrev pub globals_in : List Site → List (List ℕ)
globals_in [] = []
globals_in (s ∷ ss) = global_in s ++ globals_in ss

abbrev pub member_in : Site → List (List ℕ)
member_in (site.Made x) = x ∷ []
member_in s = []

abbrev pub members_in : List Site → List (List ℕ)
members_in [] = []
members_in (s ∷ ss) = member_in s ++ members_in ss

-- each name once
abbrev pub own_of : List Site → Own
own_of sites = record { globals = each_once (globals_in sites); members = each_once (members_in sites) }

-- whether a name is among these
abbrev pub has_name : List (List ℕ) → List ℕ → Bool
has_name names x = is_some (place_of x names)
