-- A flood of empty datagrams is a beat, which ends a name that is sent once.
use Rattle.std.proofs.Common.{◌≡◌, ℕ, zero, suc, ◌+◌, ◌-◌, ◌/◌, Bool, true, false, cond, ◌&&◌, nat_le, List, [], ◌∷◌, Option, Some, None, is_none, refl, sym, ◌∙◌, ap, subst, arith}
use Rattle.std.specs.Prelude.{replicate}
use Rattle.std.proofs.Math.Bool.{and-false}
use Rattle.pac_ports.specs.declared.link.Move.{Move}
use Rattle.pac_ports.specs.declared.link.Move.TheVariants as move
use Rattle.pac_ports.specs.declared.link.Which.TheVariants.{First}
use Rattle.dns_message.specs.Question.{question_octets}
use Rattle.dns_message.proofs.Replies.{no_header}
use Rattle.poll_log.specs.declared.terms.TheConstants.{FLOOD}
use Rattle.poll_log.specs.Flat.{flat_behind}
use Rattle.poll_log.specs.Turns.{Turns, Begin, Then, Given, turns_of, with_moves}
use Rattle.poll_log.specs.Beats.{beats, floods, ticks, stretches}
use Rattle.poll_log.specs.Questions.{asked_by, before_birth, firsts, new_among, number_in, was_sent}
use Rattle.poll_log.specs.Told.{accepted, accepted_in, age, beats_before_birth, beats_in, is_dead, or_else, reply_to, told}
use Rattle.poll_log.specs.Jobs.{runs_of, told_to}
use Rattle.poll_log.specs.Examples.{asked, example, job, lacking, once_only, to_first}
use Rattle.poll_log.proofs.TurnLaws.{sent_before, told_next}
use Rattle.poll_log.proofs.Births.{age_since_birth}

-- The name was sent in turn 0 and is not told.
record Quiet (h : Turns) : Type 0 where
  pub sent : was_sent h example ≡ true
  pub untold : told once_only h example ≡ None
  pub born : before_birth h example ≡ None
  pub cost : runs_of once_only h job ≡ 1

no_answer : (h : Turns) → accepted once_only h (Given []) example ≡ None
unfolding accepted accepted_in
no_answer h = go _ (number_in (firsts h) example)
  where
    go : (b : Bool) (r : Option ℕ) → cond b (reply_to r [] example) None ≡ None
    go true None = refl
    go true (Some id) = no_header [] example id (omega arith)
    go false r = refl

quiet_next : (h : Turns) → Quiet h → Quiet (Then h (Given []) [])
unfolding before_birth runs_of
quiet_next h q =
    let untold : told once_only (Then h (Given []) []) example ≡ None = told_next once_only h (Given []) [] example ∙ ap (λ r. or_else r (accepted once_only h (Given []) example)) q.untold ∙ no_answer h in
    record {
      sent = sent_before h (Given []) [] example q.sent;
      untold = untold;
      born = ap (λ b. cond b (before_birth h example) (Some h)) q.sent ∙ q.born;
      cost = ap (λ r. runs_of once_only h job + told_to (lacking r) (told once_only (Then h (Given []) []))) q.untold ∙ none untold ∙ q.cost;
    }
  where
    none : told once_only (Then h (Given []) []) example ≡ None → runs_of once_only h job + told_to (Some example) (told once_only (Then h (Given []) [])) ≡ runs_of once_only h job
    none u = rw u (omega arith)

empty : ℕ → List Move
empty n = replicate n (move.Given [])

quiet_many : (n : ℕ) (h : Turns) → Quiet h → Quiet (with_moves h (empty n))
unfolding with_moves empty
quiet_many zero h q = q
quiet_many (suc n) h q = quiet_many n (Then h (Given []) []) (quiet_next h q)

many_stretches : (n g : ℕ) (gs : List ℕ) (h : Turns) → stretches h ≡ g ∷ gs → stretches (with_moves h (empty n)) ≡ (g + n) ∷ gs
unfolding with_moves empty stretches
many_stretches zero g gs h e = e ∙ ap (λ x. x ∷ gs) (let z : g ≡ g + 0 = omega arith in z)
many_stretches (suc n) g gs h e = many_stretches n (g + 1) gs (Then h (Given []) []) (rw e refl) ∙ ap (λ x. x ∷ gs) (let z : g + 1 + n ≡ g + suc n = omega arith in z)

many_ticks : (n : ℕ) (h : Turns) → ticks (with_moves h (empty n)) ≡ ticks h
unfolding with_moves empty ticks
many_ticks zero h = refl
many_ticks (suc n) h = many_ticks n (Then h (Given []) [])

begun : Turns
begun = Begin (to_first ∷ [])

begun_quiet : Quiet begun
unfolding begun firsts new_among asked_by question_octets told before_birth runs_of
begun_quiet = record { sent = refl; untold = refl; born = refl; cost = refl }

-- The question is sent, and so many empty datagrams come.
abbrev pub flood : ℕ → Turns
flood n = turns_of (move.Sent First asked ∷ replicate n (move.Given []))

empty_flat : (n : ℕ) → flat_behind [] (empty n) ≡ empty n
unfolding flat_behind empty
empty_flat zero = refl
empty_flat (suc n) = ap (λ l. move.Given [] ∷ l) (empty_flat n)

flood_begun : (n : ℕ) → flood n ≡ with_moves begun (empty n)
unfolding with_moves flat_behind begun empty
flood_begun n = ap (with_moves begun) (empty_flat n)

flood_quiet : (n : ℕ) → Quiet (flood n)
flood_quiet n = subst Quiet (sym (flood_begun n)) (quiet_many n begun begun_quiet)

begun_stretches : stretches begun ≡ 0 ∷ []
unfolding stretches begun
begun_stretches = refl

begun_ticks : ticks begun ≡ 0
unfolding ticks begun
begun_ticks = refl

flood_beats : (n : ℕ) → beats (flood n) ≡ n / FLOOD
unfolding beats
flood_beats n =
    let s = many_stretches n 0 [] begun begun_stretches in
    let t : ticks (with_moves begun (empty n)) ≡ 0 = many_ticks n begun ∙ begun_ticks in
    ap beats_by (flood_begun n) ∙ ap (λ l. ticks (with_moves begun (empty n)) + floods l) s ∙ omega arith
  where
    beats_by : Turns → ℕ
    beats_by h = ticks h + floods (stretches h)

-- its age is the number of beats
flood_age : (n : ℕ) → age (flood n) example ≡ n / FLOOD
flood_age n =
    let q = flood_quiet n in
    let since = age_since_birth (flood n) example q.sent in
    let born : beats_before_birth (flood n) example ≡ 0 = ap beats_in q.born in
    let b = flood_beats n in
    omega arith

-- 4,096 of them are a beat, and the name is dead; one fewer is none, and it is not
pub flood-dead : is_dead once_only (flood FLOOD) example ≡ true
unfolding is_dead
flood-dead =
    let q = flood_quiet FLOOD in
    ap (λ b. (b && is_none (told once_only (flood FLOOD) example)) && nat_le 1 (age (flood FLOOD) example)) q.sent
    ∙ ap (λ r. is_none r && nat_le 1 (age (flood FLOOD) example)) q.untold
    ∙ ap (nat_le 1) (flood_age FLOOD)

pub flood-alive : is_dead once_only (flood (FLOOD - 1)) example ≡ false
unfolding is_dead
flood-alive =
    ap (λ a. (was_sent (flood (FLOOD - 1)) example && is_none (told once_only (flood (FLOOD - 1)) example)) && nat_le 1 a) (flood_age (FLOOD - 1))
    ∙ and-false (was_sent (flood (FLOOD - 1)) example && is_none (told once_only (flood (FLOOD - 1)) example))

pub flood-runs : runs_of once_only (flood FLOOD) job ≡ 1
flood-runs = (flood_quiet FLOOD).cost
