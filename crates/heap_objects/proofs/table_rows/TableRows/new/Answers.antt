use Rattle.std.proofs.Common.{map}
use Rattle.heap_objects.specs.TableRows.{row_read}
use Rattle.heap_objects.proofs.TableLemmas.{all_there}
use Rattle.heap_objects.proofs.table_rows.TableRows.new.Goals as goal

pub returns-clause-left : goal.returns-clause-left
returns-clause-left c = all_there 64 (map row_read c.args.rows.now)
