use Rattle.std.proofs.Common.{◌≡◌, take}
use Rattle.std.specs.Ordering.{nat_cmp}
use Rattle.std.specs.Cmp.Lexicographic.{slice_cmp}
use Rattle.std.specs.BTreeMap.{get}
use Rattle.js_binding.specs.Names.{each_once}
use Rattle.scope_names.specs.Index.{IsIndex}
use Rattle.scope_names.proofs.name_table.NameTable.new.Given as goal

abbrev pub invariant-loop-name : goal.invariant-loop-name
invariant-loop-name l = IsIndex (get (slice_cmp nat_cmp) l.slots) l.names × (l.names ≡ each_once (take l.name-index l.all))
