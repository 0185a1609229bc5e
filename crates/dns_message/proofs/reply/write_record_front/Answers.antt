use Rattle.std.proofs.Common.{arith}
use Rattle.dns_message.proofs.Writes.{written_on}
use Rattle.dns_message.proofs.reply.write_record_front.Goals as goal

pub returns-clause-written : goal.returns-clause-written
returns-clause-written c =
    let two =
    written_on c.args.buffer.now c.write_u16-at.new.buffer c.write_u16-at-2.new.buffer c.args.at c.write_u16-at.result _ _ c.write_u16-at.ensures.written c.write_u16-at-2.ensures.written
    (omega (arith, c.write_u16-at.ensures.behind)) (omega (arith, c.requires, c.told-buffer)) in
    let three =
    written_on c.args.buffer.now c.write_u16-at-2.new.buffer c.write_u16-at-3.new.buffer c.args.at c.write_u16-at-2.result _ _ two c.write_u16-at-3.ensures.written
    (omega (arith, c.write_u16-at.ensures.behind, c.write_u16-at-2.ensures.behind)) (omega (arith, c.requires, c.told-buffer)) in
    let four =
    written_on c.args.buffer.now c.write_u16-at-3.new.buffer c.write_u32-at.new.buffer c.args.at c.write_u16-at-3.result _ _ three c.write_u32-at.ensures.written
    (omega (arith, c.write_u16-at.ensures.behind, c.write_u16-at-2.ensures.behind, c.write_u16-at-3.ensures.behind)) (omega (arith, c.requires, c.told-buffer)) in
    written_on c.args.buffer.now c.write_u32-at.new.buffer c.write_u16.new.buffer c.args.at c.write_u32-at.result _ _ four c.write_u16.ensures.written
    (omega (arith, c.write_u16-at.ensures.behind, c.write_u16-at-2.ensures.behind, c.write_u16-at-3.ensures.behind, c.write_u32-at.ensures.behind)) (omega (arith, c.requires, c.told-buffer))
