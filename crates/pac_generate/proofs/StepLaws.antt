-- What one site or gate more adds.
use Rattle.std.proofs.Common.{◌≡◌, ℕ, ◌+◌, [], ◌∷◌, ◌++◌, refl, add-one}
use Rattle.std.specs.FinMap as map
use Rattle.pac_generate.specs.Numbers.{next_number, number_behind, upper_bits}
use Rattle.pac_generate.specs.Names.{gate_answer, gate_map, gate_name, site_answer, site_map, site_name}
use Rattle.pac_generate.specs.Generated.{site_line, site_lines}

pub number_more : (seed site : ℕ) → number_behind seed (site + 1) ≡ next_number (number_behind seed site)
number_more seed site = rw add-one refl

pub gate_map_more : (digit : ℕ) → gate_map (digit + 1) ≡ map.insert (gate_map digit) (gate_name digit) (gate_answer digit)
gate_map_more digit = rw add-one refl

pub site_map_more : (seed site : ℕ) → site_map seed (site + 1) ≡ map.insert (site_map seed site) (site_name site) (site_answer (upper_bits (next_number (number_behind seed site))))
site_map_more seed site = rw add-one refl

pub site_lines_more : (site : ℕ) → site_lines (site + 1) ≡ site_lines site ++ site_line site ∷ []
site_lines_more site = rw add-one refl
