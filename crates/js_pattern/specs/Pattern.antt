-- What a whole pattern is seen as.
use Rattle.std.specs.Prelude.{ℕ, refl}
use Rattle.std.specs.Coded.{Coded, code_by, coded×, coded_ℕ, coded_bool}
use Rattle.js_pattern.specs.declared.flags.Flags.{Flags}
use Rattle.js_pattern.specs.Tree.{Tree}
use Rattle.js_pattern.specs.Code.{tree_code}

-- its tree, how many groups it keeps, and its flags
pub record PatternTree : Type 0 where
  pub tree : Tree
  pub groups : ℕ
  pub flags : Flags

-- ---- their codes, by which a proof tells values apart

abbrev flags_code : Coded Flags
flags_code =
    code_by _ (coded× coded_bool (coded× coded_bool coded_bool))
    (λ f. (f.global, (f.ignore_case, f.multiline))) (λ p. record { global = p.0; ignore_case = p.1.0; multiline = p.1.1 }) (λ _. refl)

abbrev pub pattern_code : Coded PatternTree
pattern_code =
    code_by _ (coded× tree_code (coded× coded_ℕ flags_code))
    (λ p. (p.tree, (p.groups, p.flags))) (λ p. record { tree = p.0; groups = p.1.0; flags = p.1.1 }) (λ _. refl)
