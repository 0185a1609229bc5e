use Rattle.std.proofs.Common.{sym, ◌∙◌, refl, length}
use Rattle.js_pattern_reader.specs.Classes.{class_item, items_from}
use Rattle.js_pattern_reader.proofs.Items.{fails_too, put_none, items_end, items_refused, items_more}
use Rattle.js_pattern_reader.proofs.classes.items.Goals as goal

pub loop-turns-init : goal.loop-turns-init
loop-turns-init c = rw c.new-items.ensures (put_none (items_from (length c.args.units.now) c.args.units.now))

pub returns-in-Some : goal.returns-in-Some
returns-in-Some c =
    c.loop-turns.invariant
    ∙ items_end c.loop-turns.turns c.loop-turns.items c.loop-turns.rest.now c.loop-turns-test.true _ (sym c.in-Some.ensures)

pub returns-in-Err : goal.returns-in-Err
returns-in-Err c =
    fails_too (class_item c.loop-turns.rest.now) (items_from (length c.args.units.now) c.args.units.now) _
    (λ f e. c.loop-turns.invariant ∙ items_refused c.loop-turns.turns c.loop-turns.items c.loop-turns.rest.now c.loop-turns-test.true (sym c.in-None.ensures) f e)
    c.in-Err.ensures

pub loop-turns-preserved : goal.loop-turns-preserved
loop-turns-preserved c =
    c.loop-turns.invariant
    ∙ items_more c.loop-turns.turns c.loop-turns.items c.loop-turns.rest.now c.loop-turns-test.true (sym c.in-None.ensures) _ _ c.in-Ok.ensures
    ∙ rw c.in_ok-push-in-Ok.ensures.ok refl
