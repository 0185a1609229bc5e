use Rattle.std.proofs.Common.{◌≡◌, map}
use Rattle.pac_plan.specs.Plan.{Outside}
use Rattle.poll_log.specs.Questions.{outgoing_of}
use Rattle.poll_loop.specs.Steps.{Began}
use Rattle.poll_loop.specs.Task.{Talk}
use Rattle.poll_loop.specs.Turning.{Reached}
use Rattle.poll_loop.proofs.looping.poll.Given as goal

-- so many events came, and the poller kept what it keeps
abbrev pub invariant-loop-turn : goal.invariant-loop-turn
invariant-loop-turn g l =
    record {
      reached :
          (talk : Talk) (old : Outside) → talk.servers ≡ l.fn.upstream.servers → talk.task.terms ≡ l.fn.upstream.terms → old.link ≡ g.N.Link.state l.fn.link
          → Began (g.P.Poller.stands l.fn.poller talk.task) talk.task (map outgoing_of l.fn.first) old (g.D.Dice.told l.fn.dice) l.fn.runs
          → Reached talk (g.P.Poller.stands l.poller talk.task) old l.stream (g.N.Link.state l.link) (g.D.Dice.told l.dice) l.runs l._turn;
      kept : g.P.Poller.kept l.poller ≡ g.P.Poller.kept l.fn.poller;
    }
