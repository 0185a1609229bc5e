use Rattle.std.proofs.Common.{◌∙◌, refl, ◌<◌, arith}
use Rattle.js_pattern_reader.specs.Spots.{spot_of}
use Rattle.js_pattern_reader.specs.Reading.{inside_of, next_turn, all_rows}
use Rattle.js_pattern_reader.proofs.Items.{fails_too}
use Rattle.js_pattern_reader.proofs.Rows.{rows_end, rows_refused, rows_bar, rows_term, group_none, group_refused, group_more}
use Rattle.js_pattern_reader.proofs.body.Reader.+rows.Goals as goal

pub group-returns-then-room-eq0 : goal.group-returns-then-room-eq0
group-returns-then-room-eq0 t c = group_none c.args.self.count c.args.room c.args.number (spot_of c.args.at) c.if-room-eq0.true

pub group-returns-in-Err : goal.group-returns-in-Err
group-returns-in-Err t c =
    let some : 0 < c.args.room = omega arith in
    group_refused c.args.self.count c.args.room c.args.number (spot_of c.args.at) some _ c.in-Err.ensures

pub group-returns-in-Ok : goal.group-returns-in-Ok
group-returns-in-Ok t c =
    let some : 0 < c.args.room = omega arith in
    rw (group_more c.args.self.count c.args.room c.args.number (spot_of c.args.at) some _ _ c.in-Ok.ensures) c.group_end.ensures

pub rows-returns-in-Err : goal.rows-returns-in-Err
rows-returns-in-Err t c =
    let reader = inside_of c.args.self.count c.args.room in
    fails_too (next_turn c.args.self.count reader (spot_of c.loop-turns.here)) (all_rows c.args.self.count reader (spot_of c.args.at)) _
    (λ f e. c.loop-turns.invariant
    ∙ rows_refused c.args.self.count reader c.loop-turns.turns c.loop-turns.rows c.loop-turns.terms (spot_of c.loop-turns.here) c.loop-turns-test.true f e)
    c.in-Err.ensures

pub rows-returns-in-End : goal.rows-returns-in-End
rows-returns-in-End t c =
    let e = rw c.in-End.is at c.in-Ok.ensures in
    c.loop-turns.invariant
    ∙ rows_end c.args.self.count (inside_of c.args.self.count c.args.room) c.loop-turns.turns c.loop-turns.rows c.loop-turns.terms (spot_of c.loop-turns.here) c.loop-turns-test.true _ e
    ∙ rw (c.tree_of_rows.ensures, c.in_ok-add_row-in-End.ensures) refl

pub rows-loop-turns-preserved-in-Bar : goal.rows-loop-turns-preserved-in-Bar
rows-loop-turns-preserved-in-Bar t c =
    let e = rw c.in-Bar.is at c.in-Ok.ensures in
    c.loop-turns.invariant
    ∙ rows_bar c.args.self.count (inside_of c.args.self.count c.args.room) c.loop-turns.turns c.loop-turns.rows c.loop-turns.terms (spot_of c.loop-turns.here) c.loop-turns-test.true _ e
    ∙ rw (c.in_ok-add_row-in-Bar.ensures, c.new-terms-in-Bar.ensures) refl

pub rows-loop-turns-preserved : goal.rows-loop-turns-preserved
rows-loop-turns-preserved t c =
    let e = rw c.in-Term.is at c.in-Ok.ensures in
    c.loop-turns.invariant
    ∙ rows_term c.args.self.count (inside_of c.args.self.count c.args.room) c.loop-turns.turns c.loop-turns.rows c.loop-turns.terms (spot_of c.loop-turns.here) c.loop-turns-test.true _ _ e
    ∙ rw c.in_ok-push-in-Term.ensures.ok refl
