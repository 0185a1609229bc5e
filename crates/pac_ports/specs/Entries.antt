-- The entries of files in memory, as contracts see them.
use Rattle.std.specs.Prelude.{ℕ, List, string_bytes}
use Rattle.pac_ports.specs.declared.memory_files.Entry.{Entry}
use Rattle.pac_ports.specs.declared.memory_files.ReadMade.{ReadMade}
use Rattle.pac_ports.specs.Files.{Read}

abbrev pub entry_view : Entry → List ℕ × List ℕ
entry_view e = (string_bytes e.name, e.content.items)

abbrev pub read_view : ReadMade → Read
read_view r = record { name = string_bytes r.name; failed = r.failed }
