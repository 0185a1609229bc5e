use Rattle.std.proofs.Common.{sym, arith}
use Rattle.dns_message.proofs.Records.{record_read}
use Rattle.dns_message.proofs.record.known_record.Goals as goal

pub returns-clause-record : goal.returns-clause-record
returns-clause-record c =
    record_read c.args.kind c.args.message.now c.args.at c.known_fields-fields.result c.read_u16-rdlength.result _ c.known_fields-fields.ensures.name c.read_u16-rdlength.ensures
    (omega (arith, c.known_fields-fields.ensures.room, c.read_u16-rdlength.ensures)) (sym c.known_data.ensures.told)
