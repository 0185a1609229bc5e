use Rattle.dns_message.proofs.Records.{known_there, name_of_record}
use Rattle.dns_message.proofs.record.known_fields.Goals as goal

pub returns : goal.returns
returns c = known_there c.args.kind c.args.message.now c.args.at c.name_end.result c.requires c.name_end.ensures.behind

pub name_end-requires : goal.name_end-requires
name_end-requires c = name_of_record c.args.kind c.args.message.now c.args.at c.requires
