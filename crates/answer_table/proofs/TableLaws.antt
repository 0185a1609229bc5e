-- Entries in the order of names, and the finite map that they are.
use Rattle.std.proofs.Common.{◌≡◌, refl, ap, sym, ◌∙◌, List, [], ◌∷◌, Option, Some}
use Rattle.std.specs.Prelude.{cond}
use Rattle.std.specs.Ordering.{eq_by_cmp}
use Rattle.std.specs.Cmp.{eq_by_cmp_equiv}
use Rattle.std.specs.Map.{lookup}
use Rattle.std.specs.BTreeMap.{is_at}
use Rattle.std.specs.FinMap as map
use Rattle.std.specs.FinMap.{find}
use Rattle.pac_names.specs.declared.answer.Answer.{Answer}
use Rattle.pac_names.specs.Names.{Name}
use Rattle.pac_names.specs.Comparing.{compare_names, names_total, names_apart}

-- the entry that a query finds
abbrev entry_of : List (Name × Answer) → Name → Option Answer
entry_of entries name = lookup (is_at (compare_names name)) entries

find-entry_of : (name : Name) (entries : List (Name × Answer))
    → find compare_names name entries ≡ entry_of entries name
find-entry_of name [] = refl
find-entry_of name (e ∷ es) = ap (cond (eq_by_cmp compare_names name e.0) (Some e.1)) (find-entry_of name es)

pub get-from_entries : (entries : List (Name × Answer)) (name : Name)
    → map.get {R = compare_names} (map.from_entries entries) name ≡ entry_of entries name
get-from_entries entries name = map.get-from_entries names_total entries name ∙ find-entry_of name entries

-- entries that differ from others in one name's answer are the map with that answer
pub from_entries-inserted : (before after : List (Name × Answer)) (name : Name) (answer : Answer)
    → ((other : Name) → entry_of after other ≡ cond (is_at (compare_names name) other) (Some answer) (entry_of before other))
    → map.from_entries {R = compare_names} after ≡ map.insert (map.from_entries before) name answer
from_entries-inserted before after name answer updates =
    map.same_map names_total names_apart _ _ (λ other.
    get-from_entries after other
    ∙ updates other
    ∙ ap (λ b. cond b (Some answer) (entry_of before other)) ((eq_by_cmp_equiv names_total).symm name other)
    ∙ ap (cond (eq_by_cmp compare_names other name) (Some answer)) (sym (get-from_entries before other))
    ∙ sym (map.get-insert names_total (map.from_entries before) name answer other))
