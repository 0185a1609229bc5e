-- Turns, states of links and numbers, one after another.
use Rattle.std.proofs.Common.{◌≡◌, ℕ, ◌+◌, ◌<◌, List, [], ◌∷◌, ◌++◌, map, take, length, get_or, Option, Some, None, refl, sym, ◌∙◌, ap, subst, arith, append_assoc}
use Rattle.std.proofs.lemmas.List.{append-nil, map-append, map_more, take-map}
use Rattle.pac_ports.specs.Dice.{DiceTold}
use Rattle.pac_ports.specs.Link.{LinkState, LinkTold, with_moves as adding, with_open}
use Rattle.pac_ports.specs.declared.link.Move.{Move}
use Rattle.pac_ports.specs.declared.link.Servers.{Servers}
use Rattle.poll_log.specs.Turns.{Outgoing, Turns, Begin, Then, Event, with_sent}
use Rattle.poll_log.specs.Questions.{drawn, firsts, asked_in, new_among, outgoing_of}
use Rattle.poll_log.specs.declared.sending.Sending.{Sending}
use Rattle.poll_log.proofs.TurnLaws.{firsts-then}
use Rattle.poll_log.specs.Rounds.{sent_move}
use Rattle.poll_loop.specs.Numbers.{GaveAll, newly_drawn}
use Rattle.poll_loop.specs.Talks.{linked}

pub sent_none : (h : Turns) → h ≡ with_sent h []
sent_none (Begin sent) = ap Begin (sym (append-nil sent))
sent_none (Then h e sent) = ap (Then h e) (sym (append-nil sent))

-- moves one after another
pub added_more : (xs ys : List Move) (s : LinkState) → adding ys (adding xs s) ≡ adding (xs ++ ys) s
added_more xs ys s = go s.told
  where
    go : (t : Option LinkTold) → (let x : LinkState = record s { told = t } in adding ys (adding xs x) ≡ adding (xs ++ ys) x)
    go None = refl
    go (Some t) = ap (λ (l : List Move). let y : LinkState = record s { told = Some (record t { log = l }) } in y) (append_assoc t.log xs ys)

pub linked_by : (servers : Servers) (ms : List Move) (s : LinkState) → 0 < length ms → adding ms (with_open servers s) ≡ linked servers ms s
linked_by servers [] s low = absurd (omega arith)
linked_by servers (m ∷ ms) s low = refl

pub gave-append : (xs ys : List ℕ) (a b c : Option DiceTold) → GaveAll a xs b → GaveAll b ys c → GaveAll a (xs ++ ys) c
gave-append [] ys a b c f g = subst (λ x. GaveAll x ys c) f g
gave-append (x ∷ xs) ys a b c f g = (f.0, f.1, gave-append xs ys f.0 b c f.2 g)

pub drawn-then : (h : Turns) (e : Event) (sent : List Outgoing) → drawn (Then h e sent) ≡ drawn h ++ newly_drawn h sent
drawn-then h e sent = ap (map (λ q. q.id)) (firsts-then h e sent) ∙ map-append (λ q. q.id) (firsts h) (new_among (firsts h) (asked_in sent))

pub nothing_drawn : (h : Turns) (e : Event) → drawn (Then h e []) ≡ drawn h
unfolding new_among
nothing_drawn h e = drawn-then h e [] ∙ append-nil (drawn h)

-- one sending more is made
pub sent_more : (qs : List Sending) (i : ℕ) (d : Sending) (s : LinkState) → i < length qs → adding (sent_move (outgoing_of (get_or qs i d)) ∷ []) (adding (map sent_move (take i (map outgoing_of qs))) s) ≡ adding (map sent_move (take (i + 1) (map outgoing_of qs))) s
sent_more qs i d s low = added_more (map sent_move (take i (map outgoing_of qs))) (sent_move (outgoing_of (get_or qs i d)) ∷ []) s ∙ ap (λ l. adding l s) one
  where
    one : map sent_move (take i (map outgoing_of qs)) ++ sent_move (outgoing_of (get_or qs i d)) ∷ [] ≡ map sent_move (take (i + 1) (map outgoing_of qs))
    one =
        ap (λ l. map sent_move l ++ sent_move (outgoing_of (get_or qs i d)) ∷ []) (take-map outgoing_of i qs)
        ∙ sym (map-append sent_move (map outgoing_of (take i qs)) (outgoing_of (get_or qs i d) ∷ []))
        ∙ ap (map sent_move) (sym (map_more outgoing_of qs i d low))
        ∙ ap (map sent_move) (sym (take-map outgoing_of (i + 1) qs))
