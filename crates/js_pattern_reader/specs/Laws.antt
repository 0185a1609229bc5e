-- What holds of every pattern that is read.
use Rattle.std.specs.Prelude.{◌≡◌, ℕ, List, Ok}
use Rattle.js_pattern.specs.Tree.{Tree}
use Rattle.js_pattern.specs.Groups.{groups_of, IsNumbered}
use Rattle.js_pattern_reader.specs.Reading.{body_of}

-- its groups are counted and numbered in order, and each Repeat names those of its body
abbrev pub BodiesAreNumbered : Type 0
BodiesAreNumbered = (us : List ℕ) (x : Tree) (groups : ℕ) → body_of us ≡ Ok (x, groups) → (groups ≡ groups_of x) × IsNumbered 0 x
