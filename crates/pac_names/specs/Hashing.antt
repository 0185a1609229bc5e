-- Equal names feed a hasher alike.
use Rattle.std.specs.Prelude.{◌≡◌, ◌++◌, true}
use Rattle.std.specs.Hash as fed
use Rattle.std.specs.Hash.{HashWrites, same_Alike}
use Rattle.pac_names.specs.Kinds.{version_of}
use Rattle.pac_names.specs.Names.{Name}
use Rattle.pac_names.specs.Comparing.{same_name, one_name}

-- the version, and then the text
abbrev pub fed_name : Name → HashWrites
fed_name name = fed.u8 (version_of name.kind) ++ fed.slice fed.u8 name.text

pub names_hash : (a b : Name) → same_name a b ≡ true → fed_name a ≡ fed_name b
names_hash = (same_Alike fed_name one_name).fed
