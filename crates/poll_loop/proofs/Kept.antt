-- What every talk keeps.
use Rattle.std.proofs.Common.{◌≡◌, inl, inr, ◌≤◌, List, [], ◌∷◌, refl, sym, ◌∙◌, ap, subst, arith}
use Rattle.pac_ports.specs.Link.{LinkState}
use Rattle.pac_ports.specs.declared.link.Move.{Move}
use Rattle.pac_ports.specs.declared.link.Servers.{Servers}
use Rattle.poll_log.specs.declared.terms.Terms.{Terms}
use Rattle.poll_log.specs.Flat.{flat_behind}
use Rattle.poll_log.specs.Turns.{turns_of, with_moves}
use Rattle.poll_log.specs.Beats.{events}
use Rattle.poll_log.specs.Jobs.{IsCut}
use Rattle.poll_log.proofs.BeatLaws.{events-begin}
use Rattle.pac_plan.specs.Plan.{CountsFaults, End, Outside, whole, faulted, unfinished}
use Rattle.poll_loop.specs.Task.{Talk}
use Rattle.poll_loop.specs.Talks.{Ends, Talked, linked, most_events}
use Rattle.poll_loop.specs.Laws.{UnfinishedIsCut}
use Rattle.poll_loop.proofs.Owing.{cut_begin}

linked_faults : (servers : Servers) (log : List Move) (link : LinkState) → (linked servers log link).faults ≡ link.faults
linked_faults servers [] link = refl
linked_faults servers (m ∷ log) link = refl

unfinished_faults : (talk : Talk) (old : Outside) (log : List Move) (new : Outside) → Ends talk old unfinished log new → new.link.faults ≡ old.link.faults
unfinished_faults talk old log new (inl ends) = ap (λ l. l.faults) ends.link ∙ linked_faults talk.servers log old.link
unfinished_faults talk old log new (inr ends) = ap (λ (o : Outside). o.link.faults) ends.same

pub counted : (talk : Talk) (old : Outside) (end : End) (log : List Move) (new : Outside) → Talked talk old end log new → CountsFaults end old.link new.link
counted talk old whole log new t = ap (λ (l : LinkState). l.faults) t.ends.link ∙ linked_faults talk.servers log old.link
counted talk old faulted log new t = (t.ends.link.rose, t.ends.unsure)
counted talk old unfinished log new t = unfinished_faults talk old log new t.ends

-- a log without moves has no event
pub few_none : (terms : Terms) → events (turns_of []) ≤ most_events terms
unfolding with_moves flat_behind
few_none terms = let e = events-begin [] in omega arith

pub not_begun : (talk : Talk) (old : Outside) → Talked talk old unfinished [] old
not_begun talk old =
    record { files = refl; clock = refl; few = few_none talk.task.terms; streams = refl; ends = inr (record { empty = refl; same = refl }) }

-- for a sound talk the log is cut short all the same where memory ran out before anything was done
pub memory_cut : UnfinishedIsCut
unfolding with_moves flat_behind
memory_cut talk old log new sound t = go t.ends
  where
    go : Ends talk old unfinished log new → IsCut talk.task.terms talk.task.jobs (turns_of log)
    go (inl ends) = ends.cut
    go (inr ends) = subst (λ l. IsCut talk.task.terms talk.task.jobs (turns_of l)) (sym ends.empty) (cut_begin talk.task.terms talk.task.jobs sound.terms.waits sound.terms.tried sound.named)
