use Rattle.std.proofs.Common.{◌≡◌}
use Rattle.pac_generate.specs.Names.{site_map}
use Rattle.pac_generate.specs.Numbers.{number_behind}
use Rattle.pac_generate.proofs.names.answers.Given as goal

-- the sites before this one have their answers, and the number is the one behind theirs
abbrev pub invariant-loop-site : goal.invariant-loop-site
invariant-loop-site l = (l.table ≡ site_map l.fn.seed l.site) × (l.number ≡ number_behind l.fn.seed l.site)
