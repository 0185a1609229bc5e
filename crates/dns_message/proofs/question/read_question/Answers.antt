use Rattle.std.proofs.Common.{◌∙◌, sym}
use Rattle.pac_names.specs.Labels.{labels_of}
use Rattle.dns_name.specs.Wire.{name_at}
use Rattle.dns_message.proofs.Records.{name_spelled}
use Rattle.dns_message.proofs.question.read_question.Goals as goal

pub name_end-at-requires : goal.name_end-at-requires
name_end-at-requires c = name_spelled (name_at c.args.datagram.now 12) (labels_of c.args.name.now.text) (sym c.spells.ensures ∙ c.if-not-spells.false)
