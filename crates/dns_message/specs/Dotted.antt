-- Labels as they stand in messages, read as a dotted name.
use Rattle.std.specs.Prelude.{ℕ, zero, suc, List, [], ◌∷◌, ◌++◌, codes}

-- a dot in the place of each length, where so many octets are left of the label before
abbrev pub dotted : ℕ → List ℕ → List ℕ
dotted left [] = []
dotted zero (octet ∷ octets) = codes "." ++ dotted octet octets
dotted (suc left) (octet ∷ octets) = octet ∷ dotted left octets
