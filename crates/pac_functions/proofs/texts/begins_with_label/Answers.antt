use Rattle.std.proofs.Common.{◌≡◌, rules}
use Rattle.pac_functions.proofs.Labels.{label_behind}
use Rattle.pac_functions.proofs.texts.begins_with_label.Goals as goal

pub returns-then-starts_with : goal.returns-then-starts_with
returns-then-starts_with c = rw (label_behind 46 c.args.name.now c.args.label.now) search rules

pub returns-else-starts_with : goal.returns-else-starts_with
returns-else-starts_with c = rw (label_behind 46 c.args.name.now c.args.label.now) search rules
