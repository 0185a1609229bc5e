use Rattle.scope_names.proofs.Slots.{put_from}
use Rattle.scope_names.proofs.name_table.put.Goals as goal

pub returns : goal.returns
returns c = put_from _ _ _ _ c.in_ok-insert.ensures.updates.0
