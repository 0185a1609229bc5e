-- The two families of addresses.
use Rattle.std.specs.Prelude.{ℕ}
use Rattle.pac_names.specs.declared.kind.NameKind.{NameKind}
use Rattle.pac_names.specs.declared.kind.NameKind.TheVariants.{V4, V6}

-- the version of the Internet Protocol
abbrev pub version_of : NameKind → ℕ
version_of V4 = 4
version_of V6 = 6
