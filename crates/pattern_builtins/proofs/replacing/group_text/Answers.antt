use Rattle.std.proofs.Common.{length, sym}
use Rattle.pattern_builtins.proofs.Texts.{span_within}
use Rattle.pattern_builtins.proofs.replacing.group_text.Goals as goal

pub part-requires : goal.part-requires
part-requires c =
    span_within (length c.args.text.now) c.args.groups.now c.args.number c.in-Some-Some.span c.requires
    (rw c.in-Some-Some.field-0-is at (sym c.in-Some-Some.ensures))
