use Rattle.std.proofs.Common.{refl, subst}
use Rattle.poll_log.specs.declared.question.Question.{Question}
use Rattle.poll_log.specs.declared.sending.Sending.{Sending}
use Rattle.poll_log.specs.Questions.{IsQuestion}
use Rattle.poll_log.specs.Sendings.{AreTerms}
use Rattle.pac_plan.specs.Plan.{Outside, around, faulted, unfinished, whole}
use Rattle.pac_plan.specs.Follows.{IsUnlessMemory}
use Rattle.pac_plan.specs.OutputView.{made}
use Rattle.pac_ask.specs.Task.{talk_of}
use Rattle.pac_ask.proofs.Begin.{began}
use Rattle.pac_ask.proofs.Plans.{held_is_told, memory_drawn}
use Rattle.pac_ask.proofs.asking.ask_name.Goals as goal

pub returns-in_default : goal.returns-in_default
returns-in_default g c o =
    memory_drawn c.args.upstream c.args.name (record { waits = c.requires.waits; wait = c.requires.wait; tried = c.requires.tried; tries = c.requires.tries }) c.in_default.ensures.named _ c.id-id.result _ c.id-id.ensures

pub returns-in-Ok-poll : goal.returns-in-Ok-poll
returns-in-Ok-poll g c o =
    let q : Question = record { id = c.id-id.result; name = c.args.name } in
    let old : Outside = around o (g.N.Link.state c.args.link.now) (g.D.Dice.told c.args.dice.now) c.args.runs.now in
    let w : AreTerms c.args.upstream.terms = record { waits = c.requires.waits; wait = c.requires.wait; tried = c.requires.tried; tries = c.requires.tries } in
    let p : IsQuestion q = subst (λ (s : Sending). IsQuestion s.question) c.in-Ok.ensures.sending c.in-Ok.ensures.proper in
    let polled = c.in-Ok-poll.ensures.polled (talk_of c.args.upstream c.args.name) old refl refl refl (began c.args.upstream.terms q _ _ old _ w p c.id-id.ensures c.in-Ok.ensures.one c.in-Ok.ensures.sending) in (
      whole,
      polled.0,
      polled.1,
      subst (λ x. IsUnlessMemory x (made c.told.result)) (held_is_told c.args.upstream.terms c.args.name _ _ _ _ _ polled.0 polled.2) c.told.ensures,
    )

pub returns-in-Err-Link : goal.returns-in-Err-Link
returns-in-Err-Link g c o =
    let q : Question = record { id = c.id-id.result; name = c.args.name } in
    let old : Outside = around o (g.N.Link.state c.args.link.now) (g.D.Dice.told c.args.dice.now) c.args.runs.now in
    let w : AreTerms c.args.upstream.terms = record { waits = c.requires.waits; wait = c.requires.wait; tried = c.requires.tried; tries = c.requires.tries } in
    let p : IsQuestion q = subst (λ (s : Sending). IsQuestion s.question) c.in-Ok.ensures.sending c.in-Ok.ensures.proper in
    let polled = rw c.in-Err-Link.field-0-is at (c.in-Err-Link.ensures.polled (talk_of c.args.upstream c.args.name) old refl refl refl (began c.args.upstream.terms q _ _ old _ w p c.id-id.ensures c.in-Ok.ensures.one c.in-Ok.ensures.sending)) in
    (faulted, polled.0, polled.1, c.line.ensures)

pub returns : goal.returns
returns g c o =
    let q : Question = record { id = c.id-id.result; name = c.args.name } in
    let old : Outside = around o (g.N.Link.state c.args.link.now) (g.D.Dice.told c.args.dice.now) c.args.runs.now in
    let w : AreTerms c.args.upstream.terms = record { waits = c.requires.waits; wait = c.requires.wait; tried = c.requires.tried; tries = c.requires.tries } in
    let p : IsQuestion q = subst (λ (s : Sending). IsQuestion s.question) c.in-Ok.ensures.sending c.in-Ok.ensures.proper in
    let polled = rw c.in-Err-Memory.field-0-is at (c.in-Err-Memory.ensures.polled (talk_of c.args.upstream c.args.name) old refl refl refl (began c.args.upstream.terms q _ _ old _ w p c.id-id.ensures c.in-Ok.ensures.one c.in-Ok.ensures.sending)) in
    (unfinished, polled.0, polled.1, refl)
