use Rattle.dns_message.proofs.Writes.{part_written}
use Rattle.dns_message.proofs.numbers.write_u128.Goals as goal

pub returns-clause-written : goal.returns-clause-written
returns-clause-written c = part_written c.args.buffer.now c.args.at 512 c.write_u128.new.buf _ c.told-buffer c.requires c.write_u128.ensures
