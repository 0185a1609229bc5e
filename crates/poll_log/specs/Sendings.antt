-- When the sendings of a question fall due, and which server each goes to: at 0, 1, 3, 7 waits and so on, to the two
-- servers in turn. This rule is this project's own.
use Rattle.std.specs.Prelude.{ℕ, zero, suc, ◌+◌, ◌-◌, ◌*◌, ◌%◌, ◌^◌, ◌<◌, ◌≤◌, ◌==◌, nat_le, if◌then◌else◌, Option, Some, None}
use Rattle.pac_ports.specs.declared.link.Which.{Which}
use Rattle.pac_ports.specs.declared.link.Which.TheVariants.{First, Second}
use Rattle.poll_log.specs.declared.terms.Terms.{Terms}
use Rattle.poll_log.specs.declared.terms.TheConstants.{MOST_TRIES, MOST_WAIT}

-- waits and tries of 1 to their most
pub record AreTerms (terms : Terms) : Type 0 where
  pub waits : 0 < terms.wait
  pub wait : terms.wait ≤ MOST_WAIT
  pub tried : 0 < terms.tries
  pub tries : terms.tries ≤ MOST_TRIES

-- the age at which the sending of this number falls due; the first one has the number 0
abbrev pub sending_age : ℕ → ℕ → ℕ
sending_age wait number = wait * (2 ^ number - 1)

-- the age from which on no reply is taken: that of one sending more
abbrev pub limit : Terms → ℕ
limit terms = sending_age terms.wait terms.tries

-- the number of the sending that falls due at this age, of the first so many behind the first one
abbrev pub sending_among : ℕ → ℕ → ℕ → Option ℕ
sending_among wait zero age = None
sending_among wait (suc m) age = if sending_age wait (m + 1) == age then Some (m + 1) else sending_among wait m age

abbrev pub sending_at : Terms → ℕ → Option ℕ
sending_at terms age = sending_among terms.wait (terms.tries - 1) age

-- how many of the first so many sendings behind the first one have fallen due by this age
abbrev pub fallen_due : ℕ → ℕ → ℕ → ℕ
fallen_due wait zero age = 0
fallen_due wait (suc m) age = fallen_due wait m age + (if nat_le (sending_age wait (m + 1)) age then 1 else 0)

-- the first server, then the second one, and so on in turn
abbrev pub server_of : ℕ → Which
server_of number = if number % 2 == 0 then First else Second
