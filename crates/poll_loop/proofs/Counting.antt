-- One event more is counted.
use Rattle.std.proofs.Common.{◌≡◌, ℕ, ◌+◌, ◌-◌, ◌<◌, ◌≤◌, ◌%◌, true, false, List, sym, ◌∙◌, ap, arith, ◌==◌}
use Rattle.std.proofs.lemmas.Bool.Decides.{nat_tests}
use Rattle.poll_log.specs.declared.terms.TheConstants.{FLOOD}
use Rattle.poll_log.specs.Turns.{Outgoing, Turns, Then, Given, Tick}
use Rattle.poll_log.specs.Beats.{is_beat, last_stretch}
use Rattle.poll_log.proofs.BeatLaws.{given_is_beat, last_stretch-given, last_stretch-tick, tick_is_beat}
use Rattle.poll_loop.specs.Counting.{HasCounted}

more_left : (l n : ℕ) → n ≡ l % FLOOD → n < FLOOD - 1 → n + 1 ≡ (l + 1) % FLOOD
more_left l n e low = omega arith

none_left : (l n : ℕ) → n ≡ l % FLOOD → FLOOD - 1 ≤ n → 0 ≡ (l + 1) % FLOOD
none_left l n e high = omega arith

-- a datagram that is no beat
module _ (h : Turns) (d : List ℕ) (n : ℕ) (here : HasCounted n h) where
  pub no_beat : n < FLOOD - 1 → false ≡ is_beat h (Given d)
  no_beat low = (let e : false ≡ (last_stretch h % FLOOD + 1 == FLOOD) = grind (arith, nat_tests) in e) ∙ sym (given_is_beat h d)

  pub one_counted : n < FLOOD - 1 → (sent : List Outgoing) → HasCounted (n + 1) (Then h (Given d) sent)
  one_counted low sent = more_left (last_stretch h) n here low ∙ ap (λ x. x % FLOOD) (sym (last_stretch-given h d sent))

  -- and one that is
  pub flood_beat : FLOOD - 1 ≤ n → true ≡ is_beat h (Given d)
  flood_beat high = (let e : true ≡ (last_stretch h % FLOOD + 1 == FLOOD) = grind (arith, nat_tests) in e) ∙ sym (given_is_beat h d)

  pub flood_counted : FLOOD - 1 ≤ n → (sent : List Outgoing) → HasCounted 0 (Then h (Given d) sent)
  flood_counted high sent = none_left (last_stretch h) n here high ∙ ap (λ x. x % FLOOD) (sym (last_stretch-given h d sent))

pub tick_beat : (h : Turns) → true ≡ is_beat h Tick
tick_beat h = sym (tick_is_beat h)

pub tick_counted : (h : Turns) (sent : List Outgoing) → HasCounted 0 (Then h Tick sent)
tick_counted h sent = ap (λ x. x % FLOOD) (sym (last_stretch-tick h sent))
