-- What a pattern literal is seen as (ECMA-262 5.1, section 7.8.5), and what its flags say (15.10.7.2 to 15.10.7.4).
use Rattle.std.specs.Prelude.{ℕ, List, Bool, ◌==◌, refl}
use Rattle.std.specs.List.{list_any}
use Rattle.std.specs.Coded.{Coded, code_by, coded×, coded_list, coded_ℕ}

-- the units between its slashes, and those behind the second one
pub record Literal : Type 0 where
  pub body : List ℕ
  pub flags : List ℕ

abbrev pub has_flag : ℕ → List ℕ → Bool
has_flag flag flags = list_any (λ u. u == flag) flags

-- `g` (103), `i` (105) and `m` (109)
abbrev pub is_global : Literal → Bool
is_global l = has_flag 103 l.flags

abbrev pub ignores_case : Literal → Bool
ignores_case l = has_flag 105 l.flags

abbrev pub is_multiline : Literal → Bool
is_multiline l = has_flag 109 l.flags

-- its code, by which a proof tells values apart
abbrev pub literal_code : Coded Literal
literal_code = code_by _ (coded× (coded_list coded_ℕ) (coded_list coded_ℕ)) (λ l. (l.body, l.flags)) (λ p. record { body = p.0; flags = p.1 }) (λ _. refl)
