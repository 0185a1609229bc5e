use Rattle.std.proofs.Common.{◌<◌, ◌≤◌, length, arith}
use Rattle.std.proofs.lemmas.Grind.{common_steps}
use Rattle.std.proofs.lemmas.Result.{err_from_is_err_and}
use Rattle.js_lexer.proofs.LexLoop.{turns, fails, ends_here, is_done}
use Rattle.js_lexer.proofs.lexer.lex.Goals as goal

pub returns-in_err-kind-clause-tokens : goal.returns-in_err-kind-clause-tokens
returns-in_err-kind-clause-tokens c =
    let p = err_from_is_err_and c.from_residual-in_err-kind.result c.from_residual-in_err-kind.ensures.1 in
    let some : 0 < length c.pieces.rest.now = grind (arith, common_steps) in
    rw (p.1, p.2) (fails _ _ _ _ _ c.pieces.invariant c.in_err-kind.field-0.0 some (rw c.as_slice.ensures.value at c.in_err-kind.ensures.gives))

pub pieces-preserved : goal.pieces-preserved
pieces-preserved c =
    let some : 0 < length c.pieces.rest.now = grind (arith, common_steps) in
    turns _ _ _ _ _ c.pieces.invariant c.in_ok-kind.kind c.in_ok-kind.count _ _ _ _ _ some (rw c.as_slice.ensures.value at c.in_ok-kind.ensures.gives) c.in_ok-kind.ensures.within c.split_at.ensures.front c.split_at.ensures.back c.in_ok-after_line.ensures.put c.in_ok-after_line.ensures.ended c.place_after-place.ensures.value c.place_after-place.ensures.line c.place_after-place.ensures.column c.place_after-place.ensures.first

pub returns-clause-tokens : goal.returns-clause-tokens
returns-clause-tokens c =
    let none : length c.pieces.rest.now ≤ 0 = grind (arith, common_steps) in is_done _ _ _ _ _ c.pieces.invariant none

pub returns-clause-end : goal.returns-clause-end
returns-clause-end c =
    let none : length c.pieces.rest.now ≤ 0 = grind (arith, common_steps) in ends_here _ _ _ _ _ c.pieces.invariant none
