use Rattle.std.proofs.Common.{◌<◌, drop, length, arith, refl}
use Rattle.heap_steps.proofs.Lists.{list_step, list_rest, list_end}
use Rattle.heap_steps.proofs.Chains.{forgets}
use Rattle.js_natives.proofs.Elements.{element_then, element_stops}
use Rattle.js_natives.proofs.lists.define_elements.Goals as goal

pub returns-in_err-index : goal.returns-in_err-index
returns-in_err-index c = forgets _ _ c.from_residual-in_err-index.ensures.1 refl

pub loop-left-preserved : goal.loop-left-preserved
loop-left-preserved c = λ r h w. c.loop-left.invariant r h (rw (list_step _ _ c.value-item.is c.in-len1-up.len_at_least) (element_then c.args.place c.args.object c.loop-left.index c.value-item.result (drop 1 c.loop-left.left.now) _ _ _ _ c.in_ok-define_element.ensures (rw (c.in_ok-index.ensures, list_rest c.loop-left.left.now) at w)))

pub returns : goal.returns
returns c = c.loop-left.invariant _ _ (rw (let e : length c.loop-left.left.now < 1 = omega arith in list_end _ e) (record { is = λ after fuel beside. refl }))

pub returns-in_err-define_element : goal.returns-in_err-define_element
returns-in_err-define_element c = c.loop-left.invariant _ _ (rw (list_step _ _ c.value-item.is c.in-len1-up.len_at_least) (element_stops c.args.place c.args.object c.loop-left.index c.value-item.result (drop 1 c.loop-left.left.now) _ _ _ _ c.from_residual.ensures.1 c.in_err-define_element.ensures))
