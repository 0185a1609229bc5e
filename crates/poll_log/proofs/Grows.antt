-- What stays in a longer log.
use Rattle.std.proofs.Common.{◌≡◌, ℕ, ◌+◌, ◌≤◌, Bool, true, false, cond, ◌||◌, ◌&&◌, List, [], ◌∷◌, ◌++◌, Option, Some, None, is_none, refl, sym, ◌∙◌, ap, subst, arith, nat_le}
use Rattle.std.specs.Prelude.{is_some}
use Rattle.std.proofs.lemmas.Bool.Decides.{nat_tests}
use Rattle.pac_names.specs.declared.answer.Answer.{Answer}
use Rattle.pac_names.specs.Names.{Name}
use Rattle.pac_ports.specs.declared.link.Move.{Move}
use Rattle.pac_ports.specs.declared.link.Move.TheVariants as move
use Rattle.poll_log.specs.declared.terms.Terms.{Terms}
use Rattle.poll_log.specs.Flat.{flat, flat_behind, frames_behind, message_behind, unfinished_behind}
use Rattle.poll_log.specs.Turns.{Outgoing, Turns, Begin, Then, Event, Given, Tick, with_sent, with_move, with_moves, turns_of}
use Rattle.poll_log.specs.Beats.{beat_of}
use Rattle.poll_log.specs.Questions.{firsts, was_sent, has_name, asked_in, new_among}
use Rattle.poll_log.specs.Sendings.{limit}
use Rattle.poll_log.specs.Told.{age, is_overdue, accepted, told, or_else, is_dead}
use Rattle.poll_log.specs.Laws.{ToldGrows, ToldWasSent, DeadStays, FinishedStays, UnansweredStays}
use Rattle.poll_log.proofs.Names.{has_name-append, new_among-append, or-first, true_false}
use Rattle.poll_log.proofs.Asking.{asked_in-append}
use Rattle.poll_log.proofs.TurnLaws.{told_stays, told_unsent, told_next, sent_before, age_next, accepted_overdue}

pub with_moves-append : (h : Turns) (ms more : List Move) → with_moves h (ms ++ more) ≡ with_moves (with_moves h ms) more
unfolding with_moves
with_moves-append h [] more = refl
with_moves-append h (m ∷ ms) more = with_moves-append (with_move h m) ms more

flat_behind-append : (rest : List ℕ) (ms more : List Move) → flat_behind rest (ms ++ more) ≡ flat_behind rest ms ++ flat_behind (unfinished_behind rest ms) more
unfolding flat_behind unfinished_behind
flat_behind-append rest [] more = refl
flat_behind-append rest (move.Sent to octets ∷ ms) more = ap (λ l. move.Sent to octets ∷ l) (flat_behind-append rest ms more)
flat_behind-append rest (move.Given octets ∷ ms) more = ap (λ l. move.Given octets ∷ l) (flat_behind-append rest ms more)
flat_behind-append rest (move.Tick ∷ ms) more = ap (λ l. move.Tick ∷ l) (flat_behind-append rest ms more)
flat_behind-append rest (move.StreamSent octets ∷ ms) more = flat_behind-append rest ms more
flat_behind-append rest (move.StreamFailed octets ∷ ms) more = flat_behind-append [] ms more
flat_behind-append rest (move.Piece octets ∷ ms) more = ap (λ l. move.Given (message_behind rest octets) ∷ l) (flat_behind-append (frames_behind rest octets).rest ms more)
flat_behind-append rest (move.StreamEnd ∷ ms) more = ap (λ l. move.Given [] ∷ l) (flat_behind-append [] ms more)

-- the turns of a longer log
pub turns_of-append : (ms more : List Move) → turns_of (ms ++ more) ≡ with_moves (turns_of ms) (flat_behind (unfinished_behind [] ms) more)
turns_of-append ms more =
    ap (with_moves (Begin [])) (flat_behind-append [] ms more)
    ∙ with_moves-append (Begin []) (flat ms) (flat_behind (unfinished_behind [] ms) more)

-- A fact that each move keeps holds in each longer log.
module _ (P : Turns → Type 0) (step : (h : Turns) (m : Move) → P h → P (with_move h m)) where
  along : (h : Turns) (ms : List Move) → P h → P (with_moves h ms)
  unfolding with_moves
  along h [] p = p
  along h (m ∷ ms) p = along (with_move h m) ms (step h m p)

  pub longer : (ms more : List Move) → P (turns_of ms) → P (turns_of (ms ++ more))
  longer ms more p = subst P (sym (turns_of-append ms more)) (along (turns_of ms) (flat_behind (unfinished_behind [] ms) more) p)

-- more sends in the last turn change nothing that is told
told_with_sent : (t : Terms) (h : Turns) (more : List Outgoing) (n : Name) → told t (with_sent h more) n ≡ told t h n
unfolding told
told_with_sent t (Begin sent) more n = refl
told_with_sent t (Then h e sent) more n = refl

told_step : (t : Terms) (n : Name) (x : Answer) (h : Turns) (m : Move) → told t h n ≡ Some x → told t (with_move h m) n ≡ Some x
told_step t n x h (move.Sent to octets) k = told_with_sent t h (record { to = to; octets = octets } ∷ []) n ∙ k
told_step t n x h (move.Given octets) k = told_stays t h (Given octets) [] n x k
told_step t n x h move.Tick k = told_stays t h Tick [] n x k
told_step t n x h (move.StreamSent octets) k = k
told_step t n x h (move.StreamFailed octets) k = k
told_step t n x h (move.Piece octets) k = k
told_step t n x h move.StreamEnd k = k

pub told_grows : ToldGrows
told_grows t ms more n x k = longer (λ h. told t h n ≡ Some x) (told_step t n x) ms more k

pub told_was_sent : ToldWasSent
told_was_sent t h n s = go (was_sent h n) refl
  where
    go : (b : Bool) → was_sent h n ≡ b → b ≡ true
    go true k = refl
    go false k = true_false (sym (sym (ap is_some (told_unsent t h n k)) ∙ s))

-- more sends leave who was sent, and his age
sent_with_sent : (h : Turns) (more : List Outgoing) (n : Name) → was_sent h n ≡ true → was_sent (with_sent h more) n ≡ true
unfolding firsts
sent_with_sent (Begin sent) more n k =
    ap (λ l. has_name n (new_among [] l)) (asked_in-append sent more)
    ∙ ap (has_name n) (new_among-append [] (asked_in sent) (asked_in more))
    ∙ has_name-append n (new_among [] (asked_in sent)) _ ∙ or-first _ _ k
sent_with_sent (Then h e sent) more n k =
    ap (λ l. has_name n (firsts h ++ new_among (firsts h) l)) (asked_in-append sent more)
    ∙ ap (λ l. has_name n (firsts h ++ l)) (new_among-append (firsts h) (asked_in sent) (asked_in more))
    ∙ has_name-append n (firsts h) _
    ∙ ap (λ b. has_name n (firsts h) || b) (has_name-append n (new_among (firsts h) (asked_in sent)) _)
    ∙ go (has_name n (firsts h)) (has_name n (new_among (firsts h) (asked_in sent))) _ (sym (has_name-append n (firsts h) (new_among (firsts h) (asked_in sent))) ∙ k)
  where
    go : (b c d : Bool) → (b || c) ≡ true → (b || (c || d)) ≡ true
    go true c d e = refl
    go false true d e = refl
    go false false d e = true_false (sym e)

age_with_sent : (h : Turns) (more : List Outgoing) (n : Name) → was_sent h n ≡ true → age (with_sent h more) n ≡ age h n
unfolding age
age_with_sent (Begin sent) more n k = refl
age_with_sent (Then h e sent) more n k = ap (λ b. cond b (age h n + beat_of h e) 0) (sent_with_sent (Then h e sent) more n k ∙ sym k)

-- the parts of a dead name
pub record Died (t : Terms) (h : Turns) (n : Name) : Type 0 where
  pub sent : was_sent h n ≡ true
  pub untold : told t h n ≡ None
  pub old : limit t ≤ age h n

died : (t : Terms) (h : Turns) (n : Name) → is_dead t h n ≡ true → Died t h n
unfolding is_dead
died t h n k = go (was_sent h n) refl (told t h n) refl (nat_le (limit t) (age h n)) refl k
  where
    go : (b : Bool) → was_sent h n ≡ b → (r : Option Answer) → told t h n ≡ r → (c : Bool) → nat_le (limit t) (age h n) ≡ c → ((b && is_none r) && c) ≡ true → Died t h n
    go true s None u true o e = record { sent = s; untold = u; old = grind (arith, nat_tests) }
    go true s None u false o e = true_false (sym e)
    go true s (Some x) u c o e = true_false (sym e)
    go false s r u c o e = true_false (sym e)

dead_by : (t : Terms) (h : Turns) (n : Name) → Died t h n → is_dead t h n ≡ true
unfolding is_dead
dead_by t h n d =
    ap (λ b. (b && is_none (told t h n)) && nat_le (limit t) (age h n)) d.sent
    ∙ ap (λ r. is_none r && nat_le (limit t) (age h n)) d.untold
    ∙ old d.old
  where
    old : limit t ≤ age h n → nat_le (limit t) (age h n) ≡ true
    old o = grind (arith, nat_tests)

overdue_by : (t : Terms) (h : Turns) (n : Name) → Died t h n → is_overdue t h n ≡ true
overdue_by t h n d = old d.old
  where
    old : limit t ≤ age h n → nat_le (limit t) (age h n) ≡ true
    old o = grind (arith, nat_tests)

died_then : (t : Terms) (n : Name) (h : Turns) (e : Event) → Died t h n → Died t (Then h e []) n
died_then t n h e d =
    let s = sent_before h e [] n d.sent in
    let a : age (Then h e []) n ≡ age h n + beat_of h e = age_next h e [] n s in
    let o : limit t ≤ age h n = d.old in
    record {
      sent = s;
      untold = told_next t h e [] n ∙ ap (λ r. or_else r (accepted t h e n)) d.untold ∙ accepted_overdue t h e n (overdue_by t h n d);
      old = omega arith;
    }

dead_step : (t : Terms) (n : Name) (h : Turns) (m : Move) → Died t h n → Died t (with_move h m) n
dead_step t n h (move.Sent to octets) d =
    let more : List Outgoing = record { to = to; octets = octets } ∷ [] in
    let a : age (with_sent h more) n ≡ age h n = age_with_sent h more n d.sent in
    let o : limit t ≤ age h n = d.old in
    record {
      sent = sent_with_sent h more n d.sent;
      untold = told_with_sent t h more n ∙ d.untold;
      old = omega arith;
    }
dead_step t n h (move.Given octets) d = died_then t n h (Given octets) d
dead_step t n h move.Tick d = died_then t n h Tick d
dead_step t n h (move.StreamSent octets) d = d
dead_step t n h (move.StreamFailed octets) d = d
dead_step t n h (move.Piece octets) d = d
dead_step t n h move.StreamEnd d = d

pub dead_stays : DeadStays
dead_stays t ms more n k = dead_by t (turns_of (ms ++ more)) n (longer (λ h. Died t h n) (dead_step t n) ms more (died t (turns_of ms) n k))

pub finished_stays : FinishedStays
finished_stays most t ms more job law k = law.done (told t (turns_of (ms ++ more))) (told t (turns_of ms)) (told_grows t ms more) k

pub unanswered_stays : UnansweredStays
unanswered_stays most t ms more job n law u =
    let dead = dead_stays t ms more n u.dead in
    record {
      first = law.waits (told t (turns_of (ms ++ more))) (told t (turns_of ms)) n (told_grows t ms more) u.first (died t (turns_of (ms ++ more)) n dead).untold;
      dead = dead;
    }
