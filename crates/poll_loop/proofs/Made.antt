-- The moves that a link made, one after another, and its count of faults of streams.
use Rattle.std.proofs.Common.{◌≡◌, ℕ, List, [], ◌∷◌, ◌++◌, map, Option, Some, None, refl, sym, ◌∙◌, ap, subst}
use Rattle.std.proofs.lemmas.List.{append-nil}
use Rattle.pac_ports.specs.Link.{LinkState, LinkTold, got_move, with_moves as adding}
use Rattle.pac_ports.specs.declared.link.Got.{Got}
use Rattle.pac_ports.specs.declared.link.Got.TheVariants as got
use Rattle.pac_ports.specs.declared.link.Move.{Move}
use Rattle.pac_ports.specs.declared.link.Move.TheVariants as move
use Rattle.poll_log.specs.declared.question.Question.{Question}
use Rattle.poll_log.specs.Turns.{Outgoing}
use Rattle.poll_log.specs.Rounds.{Arrival, Framing, Framed, Failed, Round, Rounds, arrival_move, framing_moves, moves_of, sent_move}
use Rattle.poll_log.specs.Streamed.{frame_of}
use Rattle.dns_stream.specs.Reading.{Reading}
use Rattle.poll_loop.specs.Streams.{Breaks, CountsStreams, Goes, arrival_got, with_stream_faults}
use Rattle.poll_loop.proofs.Logs.{added_more}

-- the link made these moves
pub record Made (ms : List Move) (a b : LinkState) : Type 0 where
  pub link : b ≡ with_stream_faults b.stream_faults (adding ms a)
  pub streams : CountsStreams ms a.stream_faults b.stream_faults

counts_more : (xs ys : List Move) (a b c : ℕ) → CountsStreams xs a b → CountsStreams ys b c → CountsStreams (xs ++ ys) a c
counts_more [] ys a b c f g = subst (λ n. CountsStreams ys n c) f g
counts_more (move.StreamFailed octets ∷ xs) ys a b c f g = (f.0, f.1, counts_more xs ys f.0 b c f.2 g)
counts_more (move.Sent to octets ∷ xs) ys a b c f g = counts_more xs ys a b c f g
counts_more (move.Given octets ∷ xs) ys a b c f g = counts_more xs ys a b c f g
counts_more (move.Tick ∷ xs) ys a b c f g = counts_more xs ys a b c f g
counts_more (move.StreamSent octets ∷ xs) ys a b c f g = counts_more xs ys a b c f g
counts_more (move.Piece octets ∷ xs) ys a b c f g = counts_more xs ys a b c f g
counts_more (move.StreamEnd ∷ xs) ys a b c f g = counts_more xs ys a b c f g

pub made_more : (xs ys : List Move) (a b c : LinkState) → Made xs a b → Made ys b c → Made (xs ++ ys) a c
made_more xs ys a b c p q =
    record {
      link =
          q.link
          ∙ ap (λ (s : LinkState). with_stream_faults c.stream_faults (adding ys s)) p.link
          ∙ ap (with_stream_faults c.stream_faults) (added_more xs ys a);
      streams = counts_more xs ys a.stream_faults b.stream_faults c.stream_faults p.streams q.streams;
    }

pub adding_none : (a : LinkState) → adding [] a ≡ a
adding_none a = go a.told
  where
    go : (t : Option LinkTold) → (let x : LinkState = record a { told = t } in adding [] x ≡ x)
    go None = refl
    go (Some t) = ap (λ (l : List Move). let y : LinkState = record a { told = Some (record t { log = l }) } in y) (append-nil t.log)

pub made_none : (a : LinkState) → Made [] a a
made_none a = record { link = ap (with_stream_faults a.stream_faults) (sym (adding_none a)); streams = refl }

-- moves at which no stream fails
made_plain : (ms : List Move) (a b : LinkState) → CountsStreams ms a.stream_faults a.stream_faults → b ≡ adding ms a → Made ms a b
made_plain ms a b counts e =
    let same : a.stream_faults ≡ b.stream_faults = sym (ap (λ (s : LinkState). s.stream_faults) e) in
    record { link = e ∙ ap (λ n. with_stream_faults n (adding ms a)) same; streams = subst (CountsStreams ms a.stream_faults) same counts }

sent_counts : (sent : List Outgoing) (n : ℕ) → CountsStreams (map sent_move sent) n n
sent_counts [] n = refl
sent_counts (d ∷ sent) n = sent_counts sent n

pub made_sent : (sent : List Outgoing) (a b : LinkState) → b ≡ adding (map sent_move sent) a → Made (map sent_move sent) a b
made_sent sent a b e = made_plain (map sent_move sent) a b (sent_counts sent a.stream_faults) e

pub made_got : (buffer : List ℕ) (g : Got) (a b : LinkState) → b ≡ adding (got_move buffer g ∷ []) a → Made (arrival_move (arrival_got buffer g) ∷ []) a b
made_got buffer (got.Datagram n) a b e = made_plain _ a b refl e
made_got buffer got.Tick a b e = made_plain _ a b refl e
made_got buffer (got.Piece n) a b e = made_plain _ a b refl e
made_got buffer got.StreamEnd a b e = made_plain _ a b refl e

-- a frame went over the stream
pub made_goes : (q : Question) (old new : Reading) (a b : LinkState) → Goes q old new a b → Made (framing_moves (Some (Framed (frame_of q)))) a b
made_goes q old new a b g = made_plain _ a b refl g.sent

-- a link by its parts
rebuilt : (b : LinkState) (t : Option LinkTold) (f : ℕ) (s : Option ℕ) → b.told ≡ t → b.faults ≡ f → b.sure ≡ s → (let x : LinkState = record { told = t; faults = f; stream_faults = b.stream_faults; sure = s } in b ≡ x)
rebuilt b t f s d e g =
    ap (λ t. let x : LinkState = record b { told = t } in x) d
    ∙ ap (λ f. let x : LinkState = record b { told = t; faults = f } in x) e
    ∙ ap (λ s. let x : LinkState = record b { told = t; faults = f; sure = s } in x) g

-- the stream ended at a frame
pub made_breaks : (q : Question) (new : Reading) (a b : LinkState) → Breaks q new a b → Made (framing_moves (Some (Failed (frame_of q)))) a b
made_breaks q new a b g =
    record { link = rebuilt b _ _ _ g.failed.told g.failed.faults g.failed.sure; streams = (b.stream_faults, g.failed.rose, refl) }

-- a whole round
pub made_round : (rounds : Rounds) (arrival : Arrival) (sent : List Outgoing) (framing : Option Framing) (base link mid last now : LinkState) → Made (moves_of rounds) base link → Made (arrival_move arrival ∷ []) link mid → Made (map sent_move sent) mid last → Made (framing_moves framing) last now → Made (moves_of (Round rounds arrival sent framing)) base now
unfolding moves_of
made_round rounds arrival sent framing base link mid last now p q r s =
    made_more (moves_of rounds) (arrival_move arrival ∷ (map sent_move sent ++ framing_moves framing)) base link now p
    (made_more (arrival_move arrival ∷ []) (map sent_move sent ++ framing_moves framing) link mid now q
    (made_more (map sent_move sent) (framing_moves framing) mid last now r s))
