use Rattle.std.proofs.Common.{◌+◌, sym, arith}
use Rattle.dns_name.proofs.WalkLaws.{end_at_end, end_at_pointer, end_at_neither, label_ends, name_ends}
use Rattle.dns_name.proofs.skip.name_end.Goals as goal

pub returns-in-End-clause-behind : goal.returns-in-End-clause-behind
returns-in-End-clause-behind c = name_ends c.args.message.now c.args.at c.parts.at (c.parts.at + 1) c.parts.invariant.0 (end_at_end c.args.message.now c.args.at c.parts.at (sym c.in-End.ensures.part))

pub parts-preserved : goal.parts-preserved
parts-preserved c = (label_ends c.args.message.now c.args.at c.parts.at c.in-Label.octets (sym c.in-Label.ensures.part) c.parts.invariant.0, omega (arith, c.in-Label.ensures.whole.0))

pub returns-in-Pointer-clause-behind : goal.returns-in-Pointer-clause-behind
returns-in-Pointer-clause-behind c =
    name_ends c.args.message.now c.args.at c.parts.at (c.parts.at + 2) c.parts.invariant.0 (end_at_pointer c.args.message.now c.args.at c.parts.at c.in-Pointer._target (sym c.in-Pointer.ensures.part))

pub returns-in-Neither-clause-behind : goal.returns-in-Neither-clause-behind
returns-in-Neither-clause-behind c = name_ends c.args.message.now c.args.at c.parts.at c.parts.at c.parts.invariant.0 (end_at_neither c.args.message.now c.args.at c.parts.at c.parts.at (sym c.in-Neither.ensures.part))
