use Rattle.std.proofs.Common.{◌≡◌, ◌+◌, length, true, List, ℕ, Bor}
use Rattle.std.specs.List.{list_all}
use Rattle.std.specs.Option.{option_copied, option_map_or}
use Rattle.pac_names.specs.Labels.{labels_behind}
use Rattle.pac_names.specs.Names.{is_label}
use Rattle.dns_name.specs.Wire.{spells_name}
use Rattle.dns_name.specs.Walk.{labels_from}
use Rattle.dns_name.proofs.SameLaws.{spelled_rest}
use Rattle.dns_name.proofs.compare.spells.Given as goal

-- what is left of both decides, and the labels left are those of a lookup name
abbrev pub invariant-labels : goal.invariant-labels
invariant-labels l =
    (spells_name l.message l.at l.name.text ≡ spelled_rest (labels_from l.message l.place) (labels_behind (option_copied l.rest)))
    × (list_all is_label (labels_behind (option_copied l.rest)) ≡ true)

abbrev pub decreases-labels : goal.decreases-labels
decreases-labels l = option_map_or {T = Bor (List ℕ)} (λ rest. length rest.now + 1) l.rest 0
