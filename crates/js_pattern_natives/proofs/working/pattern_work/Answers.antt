use Rattle.js_pattern_natives.proofs.States.{on_heap, goes_on, stops_all}
use Rattle.js_pattern_natives.proofs.Works.{works_with, works_without}
use Rattle.js_pattern_natives.proofs.working.pattern_work.Goals as goal

pub returns-in-None : goal.returns-in-None
returns-in-None c = works_without c.args.native c.args.values.now c.args.begin.now c.args.place c.args.state.now _ _ _ _ _
    c.pattern_place.ensures c.in_ok-pattern.ensures c.literal_in.ensures c.in-None.ensures c.without.ensures

pub returns-in_err-test_text-in-Some : goal.returns-in_err-test_text-in-Some
returns-in_err-test_text-in-Some c = works_with c.args.native c.args.values.now c.args.begin.now c.args.place c.args.state.now _ _ _ _ _ _ _ _ _ _ _
    c.pattern_place.ensures c.in_ok-pattern.ensures c.literal_in.ensures c.in-Some.ensures c.in_ok-literal-in-Some.ensures
    c.text_place.ensures c.in_ok-text.ensures c.in_ok-text-2.ensures
    (stops_all _ _ _ _ _ _ c.from_residual-in_err-test_text-in-Some.ensures.1 (on_heap c.args.state.now _ _ (c.in_err-test_text-in-Some.ensures.tests c.args.state.now.heap)))

pub returns : goal.returns
returns c = works_with c.args.native c.args.values.now c.args.begin.now c.args.place c.args.state.now _ _ _ _ _ _ _ _ _ _ _
    c.pattern_place.ensures c.in_ok-pattern.ensures c.literal_in.ensures c.in-Some.ensures c.in_ok-literal-in-Some.ensures
    c.text_place.ensures c.in_ok-text.ensures c.in_ok-text-2.ensures
    (goes_on _ _ _ _ _ _ _ (on_heap c.args.state.now _ _ (c.in_ok-test_text-in-Some.ensures.tests c.args.state.now.heap)) c.with_both.ensures)
