use Rattle.std.proofs.Common.{◌∙◌, arith, ◌≡◌, false, sym}
use Rattle.js_pattern.specs.Repeats.{is_none_left}
use Rattle.js_regex.specs.Moves.{Begins}
use Rattle.js_regex.proofs.Lists.{if_ok}
use Rattle.js_regex.proofs.Steps.{must_goes, greedy_goes, lazy_goes}
use Rattle.js_regex.proofs.state.State.repeat.Goals as goal

pub returns-then-bounds-gt0-clause-goes : goal.returns-then-bounds-gt0-clause-goes
returns-then-bounds-gt0-clause-goes c =
    let some : is_none_left c.args.bounds.most ≡ false = sym c.is_spent.ensures ∙ c.if-is_spent.false in
    if_ok c.take.result
    (λ next (h : Begins _ _ _ next) s. h.goes s ∙ must_goes s c.args.body.now c.args.bounds c.args.self.now some c.if-bounds-gt0.true)
    c.take.ensures

pub returns-then-bounds-clause-goes : goal.returns-then-bounds-clause-goes
returns-then-bounds-clause-goes c =
    let some : is_none_left c.args.bounds.most ≡ false = sym c.is_spent.ensures ∙ c.if-is_spent.false in
    if_ok c.take-then-bounds.result
    (λ next (h : Begins _ _ _ next) s. h.goes s ∙ greedy_goes s c.args.body.now c.args.bounds c.args.self.now _ c.in_ok-push.ensures some (omega arith) c.if-bounds.true)
    c.take-then-bounds.ensures

pub returns-clause-goes : goal.returns-clause-goes
returns-clause-goes c = λ s.
    let some : is_none_left c.args.bounds.most ≡ false = sym c.is_spent.ensures ∙ c.if-is_spent.false in
    lazy_goes s c.args.body c.args.bounds c.args.self.now _ c.in_ok-push-2.ensures some (omega arith) c.if-bounds.false
