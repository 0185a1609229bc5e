use Rattle.pattern_builtins.proofs.Splits.{moved_closer, parted_closer, so_far_full, so_far_moved, so_far_parted}
use Rattle.pattern_builtins.proofs.splitting.split_from_front.Goals as goal

pub loop-answer-smaller-then-found-from : goal.loop-answer-smaller-then-found-from
loop-answer-smaller-then-found-from c =
    moved_closer c.args.pattern.now c.args.text.now c.args.limit c.args.fuel.now c.loop-answer.pieces c.loop-answer.from c.loop-answer.place c.loop-answer.fuel
    c.loop-answer.invariant c.match_before_end.new.fuel c.in-Ok-Some.found (rw c.in-Ok-Some.field-0-is at c.in-Ok-Some.ensures)

pub loop-answer-preserved-then-found-from : goal.loop-answer-preserved-then-found-from
loop-answer-preserved-then-found-from c =
    so_far_moved c.args.pattern.now c.args.text.now c.args.limit c.args.fuel.now c.loop-answer.pieces c.loop-answer.from c.loop-answer.place c.loop-answer.fuel
    c.loop-answer.invariant c.match_before_end.new.fuel c.in-Ok-Some.found (rw c.in-Ok-Some.field-0-is at c.in-Ok-Some.ensures)
    c.if-found-from.true

pub returns-then-not-branch : goal.returns-then-not-branch
returns-then-not-branch c =
    so_far_full c.args.pattern.now c.args.text.now c.args.limit c.args.fuel.now c.loop-answer.pieces c.loop-answer.from c.loop-answer.place c.loop-answer.fuel
    c.loop-answer.invariant c.match_before_end.new.fuel c.in-Ok-Some.found (rw c.in-Ok-Some.field-0-is at c.in-Ok-Some.ensures)
    c.if-found-from.false _ c.in_ok-put-in-Ok-Some.field-0 c.in_ok-put-in-Ok-Some.ensures c.if-not-branch.true

pub loop-answer-smaller : goal.loop-answer-smaller
loop-answer-smaller c =
    parted_closer c.args.pattern.now c.args.text.now c.args.limit c.args.fuel.now c.loop-answer.pieces c.loop-answer.from c.loop-answer.place c.loop-answer.fuel
    c.loop-answer.invariant c.match_before_end.new.fuel c.in-Ok-Some.found (rw c.in-Ok-Some.field-0-is at c.in-Ok-Some.ensures)
    c.if-found-from.false

pub loop-answer-preserved : goal.loop-answer-preserved
loop-answer-preserved c =
    so_far_parted c.args.pattern.now c.args.text.now c.args.limit c.args.fuel.now c.loop-answer.pieces c.loop-answer.from c.loop-answer.place c.loop-answer.fuel
    c.loop-answer.invariant c.match_before_end.new.fuel c.in-Ok-Some.found (rw c.in-Ok-Some.field-0-is at c.in-Ok-Some.ensures)
    c.if-found-from.false _ c.in_ok-put-in-Ok-Some.field-0 c.in_ok-put-in-Ok-Some.ensures c.if-not-branch.false
