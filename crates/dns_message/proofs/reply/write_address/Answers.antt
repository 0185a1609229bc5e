use Rattle.std.proofs.Common.{arith}
use Rattle.dns_message.proofs.Writes.{written_on}
use Rattle.dns_message.proofs.reply.write_address.Goals as goal

pub returns-clause-written : goal.returns-clause-written
returns-clause-written c =
    written_on c.args.buffer.now c.write_record_front-at.new.buffer c.write_u32.new.buffer c.args.at c.write_record_front-at.result _ _ c.write_record_front-at.ensures.written c.write_u32.ensures.written
    (omega (arith, c.write_record_front-at.ensures.behind)) (omega (arith, c.requires, c.told-buffer))
