use Rattle.std.proofs.Common.{◌≡◌, ◌++◌, ◌+◌, ℕ, List, [], length, Bor}
use Rattle.std.specs.List.{filter_map}
use Rattle.std.specs.Option.{option_map_or}
use Rattle.proxy_list.specs.Proxies.{entry_of, pieces_of}
use Rattle.proxy_list.proofs.list.entries.Given as goal

-- the entries so far, and those of what is left
abbrev pub invariant-loop-rest : goal.invariant-loop-rest
invariant-loop-rest l = l.proxies ++ option_map_or {T = Bor (List ℕ)} (λ rest. filter_map entry_of (pieces_of rest.now)) l.rest [] ≡ filter_map entry_of (pieces_of l.text)

abbrev pub decreases-loop-rest : goal.decreases-loop-rest
decreases-loop-rest l = option_map_or {T = Bor (List ℕ)} (λ rest. length rest.now + 1) l.rest 0
