use Rattle.std.proofs.Common.{◌≡◌, ℕ, ◌∙◌, ap, arith, map}
use Rattle.std.proofs.lemmas.List.{with_items_is}
use Rattle.session_core.specs.Waiting.{ended_by, has, waits_at}
use Rattle.session_core.proofs.Waits.{ended_here, kept_ended, places_within}
use Rattle.session_core.proofs.beats.end_waiters.Goals as goal

pub end_all-requires : goal.end_all-requires
end_all-requires g c =
    rw (c.deref.ensures.value, c.deref_mut.ensures.value)
    (places_within c.args.name.now c.args.roster.now.all.items c.in_ok-places.places.items (λ at. c.in_ok-places.ensures.taken at ∙ c.requires.waits c.args.name.now at))

pub returns-clause-sessions : goal.returns-clause-sessions
returns-clause-sessions g c =
    let taken : (at : ℕ) → has c.deref.result.now at ≡ waits_at c.args.name.now c.deref_mut.result.now at =
    rw (c.deref.ensures.value, c.deref_mut.ensures.value) (λ at. c.in_ok-places.ensures.taken at ∙ c.requires.waits c.args.name.now at)
    in
    with_items_is c.args.roster.now.all c.end_all.new.sessions (omega arith)
    ∙ ended_here c.args.name.now c.deref_mut.result.now c.end_all.new.sessions c.deref.result.now taken c.end_all.ensures.long c.end_all.ensures.ended
    ∙ ap (map (ended_by c.args.name.now)) c.deref_mut.ensures.value

pub returns-clause-kept : goal.returns-clause-kept
returns-clause-kept g c =
    let taken : (at : ℕ) → has c.deref.result.now at ≡ waits_at c.args.name.now c.deref_mut.result.now at =
    rw (c.deref.ensures.value, c.deref_mut.ensures.value) (λ at. c.in_ok-places.ensures.taken at ∙ c.requires.waits c.args.name.now at)
    in
    kept_ended c.args.name.now c.args.roster.now _ c.requires c.take.ensures.others c.take.ensures.filled
    (with_items_is c.args.roster.now.all c.end_all.new.sessions (omega arith)
    ∙ ended_here c.args.name.now c.deref_mut.result.now c.end_all.new.sessions c.deref.result.now taken c.end_all.ensures.long c.end_all.ensures.ended
    ∙ ap (map (ended_by c.args.name.now)) c.deref_mut.ensures.value)
