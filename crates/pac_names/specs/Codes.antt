-- The code of a name, by which a proof tells names apart.
use Rattle.std.specs.Prelude.{refl}
use Rattle.std.specs.Coded.{Coded, code_by, coded×, coded_list, coded_ℕ}
use Rattle.pac_names.specs.contracts.kind.NameKind as kinds
use Rattle.pac_names.specs.Names.{Name}

abbrev pub name_code : Coded Name
name_code =
    code_by _ (coded× kinds.the_row.coded (coded_list coded_ℕ))
    (λ n. (n.kind, n.text)) (λ p. record { kind = p.0; text = p.1 }) (λ _. refl)
