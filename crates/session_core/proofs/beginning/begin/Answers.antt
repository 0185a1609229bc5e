use Rattle.std.proofs.Common.{◌≡◌, ◌∙◌, ◌∷◌, [], ap, arith, length, length-append, refl}
use Rattle.session_core.proofs.Begins.{begins_more, begins_none}
use Rattle.session_core.proofs.Waits.{noted_more}
use Rattle.session_core.proofs.Drawing.{at_error, gave_more}
use Rattle.session_core.proofs.beginning.begin.Goals as goal

pub loop-run-init : goal.loop-run-init
loop-run-init g c =
    rw (c.new-sessions.ensures.items, c.new-asked.ensures.items)
    record {
      moment = begins_none _ _ _ _;
      ran = omega arith;
      left = let all = ap length c.into_iter-run-iterator.ensures.into_iter_gives.0 in omega arith;
      waits = c.new-waiting.ensures.none;
      filled = c.new-waiting.ensures.filled;
    }

pub loop-run-preserved : goal.loop-run-preserved
loop-run-preserved g c =
    record {
      moment = begins_more _ _ _ _ _ _ _ _ _ _ _ _ _ _ _ _ c.loop-run.invariant.moment c.in_ok-settled.ensures.ok refl refl refl c.in_ok-push.ensures.items c.in_ok-push_asked.ensures;
      ran = let more = length-append c.loop-run.yielded (c.in-Some.run' ∷ []) in omega arith;
      left =
          let more = length-append c.loop-run.yielded (c.in-Some.run' ∷ []) in
          let steps : length c.loop-run.run-iterator.rest.items ≡ length (c.in-Some.run' ∷ c.next.new.self.rest.items) = ap length c.in-Some.ensures.steps.0 in
          omega (arith, c.loop-run.invariant.left);
      waits = noted_more c.loop-run.waiting c.note.new.waiting c.loop-run.sessions.items c.push.new.self.items _ c.len.result c.in_ok-push.ensures.items (c.len.ensures ∙ c.loop-run.sessions.ok.0) c.loop-run.invariant.waits c.in_ok-note.ensures.noted;
      filled = c.in_ok-note.ensures.filled c.loop-run.invariant.filled;
    }

pub returns-in_err-settled-clause-memory : goal.returns-in_err-settled-clause-memory
returns-in_err-settled-clause-memory g c =
    at_error c.from_residual.result (gave_more _ _ _ _ c.loop-run.invariant.moment.drew c.in_err-settled.ensures.memory)

pub returns-in_err-push_asked-clause-memory : goal.returns-in_err-push_asked-clause-memory
returns-in_err-push_asked-clause-memory g c =
    at_error c.from_residual-in_err-push_asked.result (gave_more _ _ _ _ c.loop-run.invariant.moment.drew (_, c.in_ok-settled.ensures.ok.asks.drew))

pub returns-in_err-note-clause-memory : goal.returns-in_err-note-clause-memory
returns-in_err-note-clause-memory g c =
    at_error c.from_residual-in_err-note.result (gave_more _ _ _ _ c.loop-run.invariant.moment.drew (_, c.in_ok-settled.ensures.ok.asks.drew))

pub returns-in_err-push-clause-memory : goal.returns-in_err-push-clause-memory
returns-in_err-push-clause-memory g c =
    at_error c.from_residual-in_err-push.result (gave_more _ _ _ _ c.loop-run.invariant.moment.drew (_, c.in_ok-settled.ensures.ok.asks.drew))

pub returns-in_err-settled-clause-most : goal.returns-in_err-settled-clause-most
returns-in_err-settled-clause-most g c =
    let steps : length c.loop-run.run-iterator.rest.items ≡ length (c.in-Some.run' ∷ c.next.new.self.rest.items) = ap length c.in-Some.ensures.steps.0 in
    omega (arith, c.loop-run.invariant.ran, c.loop-run.invariant.left, c.settle.ensures.ran)

pub returns-in_err-push_asked-clause-most : goal.returns-in_err-push_asked-clause-most
returns-in_err-push_asked-clause-most g c =
    let steps : length c.loop-run.run-iterator.rest.items ≡ length (c.in-Some.run' ∷ c.next.new.self.rest.items) = ap length c.in-Some.ensures.steps.0 in
    omega (arith, c.loop-run.invariant.ran, c.loop-run.invariant.left, c.settle.ensures.ran)

pub returns-in_err-note-clause-most : goal.returns-in_err-note-clause-most
returns-in_err-note-clause-most g c =
    let steps : length c.loop-run.run-iterator.rest.items ≡ length (c.in-Some.run' ∷ c.next.new.self.rest.items) = ap length c.in-Some.ensures.steps.0 in
    omega (arith, c.loop-run.invariant.ran, c.loop-run.invariant.left, c.settle.ensures.ran)

pub returns-in_err-push-clause-most : goal.returns-in_err-push-clause-most
returns-in_err-push-clause-most g c =
    let steps : length c.loop-run.run-iterator.rest.items ≡ length (c.in-Some.run' ∷ c.next.new.self.rest.items) = ap length c.in-Some.ensures.steps.0 in
    omega (arith, c.loop-run.invariant.ran, c.loop-run.invariant.left, c.settle.ensures.ran)

pub returns-clause-kept : goal.returns-clause-kept
returns-clause-kept g c = record { waits = c.loop-run.invariant.waits; filled = c.loop-run.invariant.filled }
