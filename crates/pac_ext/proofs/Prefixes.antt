-- An address with no number of bits behind it is no prefix.
use Rattle.std.proofs.Common.{◌≡◌, ◌==◌, ℕ, List, [], Option, Some, None, refl, ◌∙◌, ap}
use Rattle.std.specs.List.{before_first, after_first}
use Rattle.pac_ext.specs.declared.address.Address.{Address}
use Rattle.pac_ext.specs.Prefixes.{ip_of, bits_in, prefix_by, prefix_of}

no-bits : (address : Option Address) → prefix_by address None ≡ None
no-bits None = refl
no-bits (Some address) = refl

pub no-slash : (units : List ℕ) → after_first (λ u. u == 47) units ≡ [] → prefix_of units ≡ None
no-slash units h =
    ap (λ bits. prefix_by (ip_of (before_first (λ u. u == 47) units)) (bits_in bits)) h ∙ no-bits (ip_of (before_first (λ u. u == 47) units))
