-- What sending a row of datagrams does to a link.
use Rattle.std.specs.Prelude.{◌≡◌, ℕ, ◌<◌, false, List, length, map, take, Result, Ok, Err}
use Rattle.pac_ports.specs.Link.{LinkState, LinkFails, has_move, with_moves, with_open}
use Rattle.pac_ports.specs.declared.link.Servers.{Servers}
use Rattle.pac_ports.specs.declared.sink.Failed.{Failed}
use Rattle.poll_log.specs.Turns.{Outgoing}
use Rattle.poll_log.specs.Rounds.{sent_move}

-- the first n of these datagrams were sent, and then the link failed
pub record SendFails (old : LinkState) (sent : List Outgoing) (n : ℕ) (new : LinkState) : Type 0 where
  pub few : n < length sent
  pub link : LinkFails (with_moves (map sent_move (take n sent)) old) new
  pub unsure : has_move (with_moves (map sent_move (take n sent)) old) ≡ false

-- all of these datagrams were sent, or the link failed at one
abbrev pub HasSentAll : LinkState → List Outgoing → Result (Unit {0}) Failed → LinkState → Type 0
HasSentAll old sent (Ok u) new = new ≡ with_moves (map sent_move sent) old
HasSentAll old sent (Err e) new = (n : ℕ) × SendFails old sent n new

-- a link that was opened to two servers and sent these datagrams, or failed in that
abbrev pub HasBegun : LinkState → Servers → List Outgoing → Result (Unit {0}) Failed → LinkState → Type 0
HasBegun old servers sent answer new = HasSentAll (with_open servers old) sent answer new
