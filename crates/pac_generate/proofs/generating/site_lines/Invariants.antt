use Rattle.std.proofs.Common.{◌≡◌}
use Rattle.pac_generate.specs.Generated.{site_lines}
use Rattle.pac_generate.proofs.generating.site_lines.Given as goal

-- the sites before this one have their lines
abbrev pub invariant-loop-site : goal.invariant-loop-site
invariant-loop-site l = l.lines ≡ site_lines l.site
