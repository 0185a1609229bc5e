use Rattle.std.proofs.Common.{subst}
use Rattle.js_regex.proofs.Lists.{first_of_list}
use Rattle.pattern_builtins.proofs.Texts.{Making, long_within, making_goes_on}
use Rattle.pattern_builtins.proofs.replacing.replaced.Goals as goal

pub returns-then-not-branch-2 : goal.returns-then-not-branch-2
returns-then-not-branch-2 c =
    long_within c.args.text.now c.args.by.now c.args.matches.now c.loop-left.all.items c.loop-left.from c.found-item.result _
    (subst (Making c.args.text.now c.args.by.now c.args.matches.now c.loop-left.all.items c.loop-left.from)
    (first_of_list c.loop-left.left.now _ c.found-item.is c.in-len1-up.len_at_least) c.loop-left.invariant)
    c.put.new.all.items c.in_ok-put.field-0 c.in_ok-put.ensures c.if-not-branch.false
    c.expand.new.all.items c.in_ok-expand.field-0 c.in_ok-expand.ensures c.if-not-branch-2.true

pub loop-left-preserved : goal.loop-left-preserved
loop-left-preserved c =
    making_goes_on c.args.text.now c.args.by.now c.args.matches.now c.loop-left.all.items c.loop-left.from c.found-item.result _
    (subst (Making c.args.text.now c.args.by.now c.args.matches.now c.loop-left.all.items c.loop-left.from)
    (first_of_list c.loop-left.left.now _ c.found-item.is c.in-len1-up.len_at_least) c.loop-left.invariant)
    c.put.new.all.items c.in_ok-put.field-0 c.in_ok-put.ensures c.if-not-branch.false
    c.expand.new.all.items c.in_ok-expand.field-0 c.in_ok-expand.ensures c.if-not-branch-2.false
