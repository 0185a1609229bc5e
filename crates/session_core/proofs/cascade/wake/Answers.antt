use Rattle.std.proofs.Common.{◌≡◌, ℕ, ◌∙◌, arith}
use Rattle.std.proofs.lemmas.List.{drop_all, drop_more}
use Rattle.session_core.specs.Waiting.{has, waits_in}
use Rattle.session_core.proofs.Cascading.{first_low, pending_all, rerun_begins, rerun_ends, rerun_more, rerun_most}
use Rattle.session_core.proofs.Drawing.{at_error, gave_more}
use Rattle.session_core.proofs.cascade.wake.Goals as goal

pub loop-place-init : goal.loop-place-init
loop-place-init g c =
    let taken : (at : ℕ) → has c.deref-place-items.result.now at ≡ waits_in c.args.roster.now.waiting c.args.name.now at = rw c.deref-place-items.ensures.value c.in_ok-woken.ensures.taken in
    rerun_begins _ _ c.args.name.now c.args.roster.now.all.items c.args.lookups.now c.take.new.self _ c.new-asked.result.items c.args.runs.now c.deref-place-items.result.now c.new-asked.ensures.items
    (pending_all c.args.name.now c.args.roster.now.all.items c.args.roster.now.waiting c.take.new.self c.deref-place-items.result.now c.requires.waits c.requires.filled taken
    (rw c.deref-place-items.ensures.value c.in_ok-woken.ensures.ascending) c.in_ok-woken.ensures.others c.in_ok-woken.ensures.filled)
    (λ at. taken at ∙ c.requires.waits c.args.name.now at)

pub rerun_at-requires : goal.rerun_at-requires
rerun_at-requires g c =
    let r = rw (drop_more c.deref-place-items.result.now c.loop-place.place-index 0 c.loop-place-test.true) at c.loop-place.invariant in
    let low = first_low c.args.name.now c.args.roster.now.all.items _ _ _ _ r.pending in
    omega (arith, c.loop-place.invariant.moment.long)

pub loop-place-preserved : goal.loop-place-preserved
loop-place-preserved g c =
    let r = rw (drop_more c.deref-place-items.result.now c.loop-place.place-index 0 c.loop-place-test.true) at c.loop-place.invariant in
    rerun_more _ _ _ _ _ _ _ _ _ _ _ _ _ _ _ _ _ _ _ _ _ _ r c.in_ok-question.ensures.ok c.in_ok-question.ensures.noted c.in_ok-question.ensures.filled c.in_ok-push_asked.ensures c.in_ok-question.ensures.ran

pub returns-in_err-question-clause-memory : goal.returns-in_err-question-clause-memory
returns-in_err-question-clause-memory g c =
    at_error c.from_residual-in_err-question.result (gave_more _ _ _ _ c.loop-place.invariant.moment.drew c.in_err-question.ensures.memory)

pub returns-in_err-push_asked-clause-memory : goal.returns-in_err-push_asked-clause-memory
returns-in_err-push_asked-clause-memory g c =
    at_error c.from_residual-in_err-push_asked.result (gave_more _ _ _ _ c.loop-place.invariant.moment.drew (_, c.in_ok-question.ensures.ok.ran.asks.drew))

pub returns-in_err-question-clause-most : goal.returns-in_err-question-clause-most
returns-in_err-question-clause-most g c =
    let r = rw (drop_more c.deref-place-items.result.now c.loop-place.place-index 0 c.loop-place-test.true) at c.loop-place.invariant in
    rerun_most _ _ _ _ _ _ _ _ _ _ _ _ _ _ _ _ r c.rerun_at.ensures.ran

pub returns-in_err-push_asked-clause-most : goal.returns-in_err-push_asked-clause-most
returns-in_err-push_asked-clause-most g c =
    let r = rw (drop_more c.deref-place-items.result.now c.loop-place.place-index 0 c.loop-place-test.true) at c.loop-place.invariant in
    rerun_most _ _ _ _ _ _ _ _ _ _ _ _ _ _ _ _ r c.rerun_at.ensures.ran

pub returns-clause-ok : goal.returns-clause-ok
returns-clause-ok g c =
    (rerun_ends _ _ _ _ c.loop-place.roster _ _ _ _ _ _ _ _ (drop_all c.loop-place.place-index c.deref-place-items.result.now c.loop-place-test.false) c.loop-place.invariant).moment

pub returns-clause-kept : goal.returns-clause-kept
returns-clause-kept g c =
    (rerun_ends _ _ _ _ c.loop-place.roster _ _ _ _ _ _ _ _ (drop_all c.loop-place.place-index c.deref-place-items.result.now c.loop-place-test.false) c.loop-place.invariant).kept

pub returns-clause-ran : goal.returns-clause-ran
returns-clause-ran g c =
    (rerun_ends _ _ _ _ c.loop-place.roster _ _ _ _ _ _ _ _ (drop_all c.loop-place.place-index c.deref-place-items.result.now c.loop-place-test.false) c.loop-place.invariant).ran

pub returns-clause-most : goal.returns-clause-most
returns-clause-most g c =
    let ran = (rerun_ends _ _ _ _ c.loop-place.roster _ _ _ _ _ _ _ _ (drop_all c.loop-place.place-index c.deref-place-items.result.now c.loop-place-test.false) c.loop-place.invariant).ran in
    omega arith
