use Rattle.std.proofs.Common.{map}
use Rattle.heap_objects.specs.TableRows.{row_read}
use Rattle.object_heap.specs.Fresh.{names_differ}
use Rattle.object_heap.proofs.FreshLemmas.{NamesDiffer-rows, all_at}
use Rattle.object_heap.proofs.fresh.add_objects.Goals as goal

pub built_in-requires : goal.built_in-requires
built_in-requires c =
    NamesDiffer-rows _ (all_at (λ object. names_differ (map row_read object.1.now)) c.args.table.now c.loop-blank.blank-index _ c.loop-blank-test.true c.requires)
