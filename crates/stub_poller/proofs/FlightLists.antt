-- Lists of questions in flight.
use Rattle.std.proofs.Common.{◌≡◌, ℕ, suc, ◌+◌, ◌<◌, ◌≤◌, Bool, true, false, ◌&&◌, not, List, [], ◌∷◌, map, length, get_or, Option, Some, None, inl, inr, refl, sym, ◌∙◌, ap, arith}
use Rattle.std.specs.List.{All, filter}
use Rattle.std.specs.Prelude.{nat_le, nat_lt}
use Rattle.std.proofs.lemmas.Bool.{ne_eqb, cases_lt, lt-leb, lt-ltb, le-leb, le-ltb, ltb-true, not_from_true, not_from_false}
use Rattle.std.proofs.lemmas.List.{length-map}
use Rattle.std.proofs.lemmas.List.Elements.{All-cons, All-head, All-same, All-tail, All-weaker, filter_passes}
use Rattle.std.proofs.lemmas.List.Filters.{length-filter_both}
use Rattle.pac_names.specs.declared.answer.Answer.{Answer}
use Rattle.pac_names.specs.Names.{Name}
use Rattle.dns_message.specs.Header.{header_of}
use Rattle.dns_message.specs.Numbers.{number_at}
use Rattle.dns_message.specs.Reply.{reply_of}
use Rattle.dns_message.proofs.Replies.{no_header, no_response}
use Rattle.poll_log.specs.declared.flight.Flight.{Flight}
use Rattle.stub_poller.specs.State.{answer_to, answered_by, unanswered_by, named_or, left_unless, is_over, is_young, name_of}

-- a reply carries the number of its question
pub other_number : (datagram : List ℕ) (name : Name) (id : ℕ) → (id ≡ number_at datagram 0 → ⊥) → reply_of datagram id name ≡ None
other_number datagram name id n = no_response datagram name id (header_of datagram) refl (off _ _ _ _ _ _ (ne_eqb (number_at datagram 0) id (λ e. n (sym e))))
  where
    off : (a b c d e f : Bool) → a ≡ false → (((((a && b) && c) && d) && e) && f) ≡ false
    off true b c d e f h = cc
    off false b c d e f h = refl

-- no flight is answered
pub none_answered : (datagram : List ℕ) (flights : List Flight) → All (λ f. answer_to datagram f ≡ None) flights → (answered_by datagram flights ≡ None) × (unanswered_by datagram flights ≡ flights)
none_answered datagram [] h = (refl, refl)
none_answered datagram (f ∷ flights) h =
    let head : answer_to datagram f ≡ None = All-head (λ f. answer_to datagram f ≡ None) f flights h in
    let rest = none_answered datagram flights (All-tail (λ f. answer_to datagram f ≡ None) f flights h) in (
      ap (λ r. named_or f.question.name r (answered_by datagram flights)) head ∙ rest.0,
      ap (λ r. left_unless r f flights (unanswered_by datagram flights)) head ∙ ap (λ l. f ∷ l) rest.1,
    )

-- a datagram without a header is a reply to none
pub short_answered : (datagram : List ℕ) (flights : List Flight) → length datagram < 12 → (answered_by datagram flights ≡ None) × (unanswered_by datagram flights ≡ flights)
short_answered datagram flights short = none_answered datagram flights (λ k d low. no_header datagram (get_or flights k d).question.name (get_or flights k d).question.id short)

-- what stays in flight after a datagram was there before
pub unanswered_few : (datagram : List ℕ) (flights : List Flight) → length (unanswered_by datagram flights) ≤ length flights
unanswered_few datagram [] = omega arith
unanswered_few datagram (f ∷ flights) = go (answer_to datagram f) (unanswered_few datagram flights)
  where
    go : (r : Option Answer) → length (unanswered_by datagram flights) ≤ length flights → length (left_unless r f flights (unanswered_by datagram flights)) ≤ suc (length flights)
    go None ih = omega arith
    go (Some x) ih = omega arith

pub unanswered_all : (P : Flight → Type 0) (datagram : List ℕ) (flights : List Flight) → All P flights → All P (unanswered_by datagram flights)
unanswered_all P datagram [] h = h
unanswered_all P datagram (f ∷ flights) h = go (answer_to datagram f) (unanswered_all P datagram flights (All-tail P f flights h))
  where
    go : (r : Option Answer) → All P (unanswered_by datagram flights) → All P (left_unless r f flights (unanswered_by datagram flights))
    go None ih = All-cons P f (unanswered_by datagram flights) (All-head P f flights h) ih
    go (Some x) ih = All-tail P f flights h

-- what is no answer is none
pub unless_some : {A : Type 0} (r : Option A) → ((x : A) → r ≡ Some x → ⊥) → r ≡ None
unless_some None n = refl
unless_some (Some x) n = absurd (n x refl)

-- a flight is either over or young
pub over_or_young : (limit age : ℕ) → nat_le limit age ≡ not (nat_lt age limit)
over_or_young limit age = elim (cases_lt age limit) [
  | inl low ↦ lt-leb limit age low ∙ sym (not_from_true (nat_lt age limit) (lt-ltb age limit low))
  | inr high ↦ le-leb limit age high ∙ sym (not_from_false (nat_lt age limit) (le-ltb age limit high))
]

pub young_and_over : (limit : ℕ) (flights kept : List Flight) → kept ≡ filter (is_young limit) flights → length (map name_of (filter (is_over limit) flights)) + length kept ≡ length flights
young_and_over limit flights kept e =
    let both = length-filter_both (is_young limit) (is_over limit) (λ f. over_or_young limit f.age) flights in
    omega (arith, length-map (filter (is_over limit) flights) name_of, ap length e)

pub all_young : (limit : ℕ) (flights kept : List Flight) → kept ≡ filter (is_young limit) flights → All (λ f. f.age < limit) kept
all_young limit flights kept e =
    All-same (λ f. f.age < limit) kept (filter (is_young limit) flights) e
    (All-weaker (λ f. is_young limit f ≡ true) (λ f. f.age < limit) (λ f h. ltb-true f.age limit h) (filter (is_young limit) flights) (filter_passes (is_young limit) flights))
