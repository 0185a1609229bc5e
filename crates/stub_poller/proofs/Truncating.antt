-- The question in flight to which a datagram is the truncated response.
use Rattle.std.proofs.Common.{◌≡◌, ℕ, ◌<◌, Bool, true, false, cond, ◌&&◌, List, [], ◌∷◌, length, Some, None, refl, sym, ◌∙◌, ap}
use Rattle.std.specs.Prelude.{is_some, nat_le}
use Rattle.std.proofs.lemmas.Bool.{ne_eqb}
use Rattle.pac_names.specs.Names.{Name}
use Rattle.dns_message.specs.Numbers.{number_at}
use Rattle.dns_message.specs.Question.{question_end}
use Rattle.dns_message.specs.Truncation.{is_truncated}
use Rattle.dns_message.proofs.CutResponses.{without_header}
use Rattle.poll_log.specs.declared.flight.Flight.{Flight}
use Rattle.poll_log.specs.Streamed.{truncated_in}

-- whether a datagram is the truncated response to a question in flight
abbrev pub cuts : List ℕ → Flight → Bool
cuts datagram f = is_truncated datagram f.question.id f.question.name

-- a truncated response carries the number of its question
pub other_cut : (datagram : List ℕ) (name : Name) (id : ℕ) → (id ≡ number_at datagram 0 → ⊥) → is_truncated datagram id name ≡ false
unfolding is_truncated
other_cut datagram name id n =
    off (nat_le 12 (length datagram)) _ _ _ _ _ (is_some (question_end datagram name)) (ne_eqb (number_at datagram 0) id (λ e. n (sym e)))
  where
    off : (w a b c d e f : Bool) → a ≡ false → ((w && ((((a && b) && c) && d) && e)) && f) ≡ false
    off true true b c d e f h = cc
    off true false b c d e f h = refl
    off false a b c d e f h = refl

-- a datagram without a header is one to none
pub short_cut : (datagram : List ℕ) (flights : List Flight) → length datagram < 12 → truncated_in flights datagram ≡ None
short_cut datagram [] h = refl
short_cut datagram (f ∷ flights) h =
    ap (λ b. cond b (Some f.question) (truncated_in flights datagram)) (without_header datagram f.question.name f.question.id h) ∙ short_cut datagram flights h
