use Rattle.std.proofs.Common.{drop, ◌∙◌, sym}
use Rattle.heap_steps.proofs.Lists.{list_step, list_rest, list_end}
use Rattle.js_entries.proofs.Steps.{place_whole, place_here, place_further}
use Rattle.js_binding.specs.Names.{arguments_name}
use Rattle.js_entries.proofs.arguments.arguments_slot.Goals as goal

pub loop-left-init : goal.loop-left-init
loop-left-init c = place_whole _

pub returns-then-is_arguments : goal.returns-then-is_arguments
returns-then-is_arguments c = let here = rw (list_step _ _ c.name-item.is c.in-len1-up.len_at_least) at c.loop-left.invariant in sym (place_here arguments_name c.name-item.result (drop 1 c.loop-left.left.now) c.loop-left.passed (sym c.is_arguments.ensures ∙ c.if-is_arguments.true)) ∙ here

pub loop-left-preserved : goal.loop-left-preserved
loop-left-preserved c = let here = rw (list_step _ _ c.name-item.is c.in-len1-up.len_at_least) at c.loop-left.invariant in rw (c.in_ok-passed.ensures, list_rest c.loop-left.left.now) (sym (place_further arguments_name c.name-item.result (drop 1 c.loop-left.left.now) c.loop-left.passed (sym c.is_arguments.ensures ∙ c.if-is_arguments.false)) ∙ here)

pub returns : goal.returns
returns c = rw (list_end c.loop-left.left.now c.in_default.len_below) at c.loop-left.invariant
