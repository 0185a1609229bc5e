-- The days are those of the calendar, one behind another.
use Rattle.std.proofs.Common.{◌≡◌, ℕ, zero, suc, ◌+◌, ◌<◌, ◌≤◌, Bool, nat_lt, cond, ℤ, pos, ◌+ℤ◌, refl, sym, subst, ap, arith, ⊎_elim}
use Rattle.std.proofs.lemmas.Bool.{cases_Bool}
use Rattle.std.proofs.lemmas.Bool.Decides.{nat_tests}
use Rattle.jiff_core.specs.Calendar.{IsCivilDate, days_in_month, days_from_civil}
use Rattle.jiff_core.proofs.SignedLemmas.{signed_arith}
use Rattle.jiff_core.proofs.CalendarLemmas.{days_in_month_bounds, day_count-epoch, days_from_civil-day_count}
use Rattle.jiff_core.proofs.DateLemmas.{days_from_civil-day, days_from_civil-next_month, days_from_civil-next_year, days_from_civil-max}
use Rattle.pac_clocks.specs.Clocks.{Day, next_day, day_after}

-- the day is one of the calendar, and so many behind 31 December 1969
pub record IsDayAfter (n : ℕ) (d : Day) : Type 0 where
  pub civil : IsCivilDate d.year d.month d.day
  pub number : days_from_civil d.year d.month d.day +ℤ pos 1 ≡ pos n

in_month : (n : ℕ) (d : Day) → IsDayAfter n d → d.day < days_in_month d.year d.month → IsDayAfter (suc n) (record { year = d.year; month = d.month; day = d.day + 1 })
in_month n d is more = record {
  civil = (is.civil.0, is.civil.1, (omega arith, omega arith));
  number = omega (arith, signed_arith, days_from_civil-day d.year d.month (d.day + 1) d.day (omega arith) is.civil.2.0, is.number);
}

new_month : (n : ℕ) (d : Day) → IsDayAfter n d → days_in_month d.year d.month ≤ d.day → d.month < 12 → IsDayAfter (suc n) (record { year = d.year; month = d.month + 1; day = 1 })
new_month n d is last more = record {
  civil = (is.civil.0, (omega arith, omega arith), (omega arith, omega (arith, days_in_month_bounds d.year (d.month + 1))));
  number = omega (arith, signed_arith, days_from_civil-next_month d.year d.month d.day is.civil.1.0 (omega arith), is.number);
}

-- the last day of 9999 is 2,932,897 days behind
before_the_last : (n : ℕ) (year : ℤ) → IsDayAfter n (record { year = year; month = 12; day = 31 }) → n ≤ 2932896 → year ≡ pos 9999 → ⊥
before_the_last n year is few last =
    let there = subst (λ (y : ℤ). days_from_civil y 12 31 +ℤ pos 1 ≡ pos n) last is.number in
    omega (arith, signed_arith, there, days_from_civil-max)

new_year : (n : ℕ) (year : ℤ) → IsDayAfter n (record { year = year; month = 12; day = 31 }) → n ≤ 2932896 → IsDayAfter (suc n) (record { year = year +ℤ pos 1; month = 1; day = 1 })
new_year n year is few = record {
  civil = (grind (arith, signed_arith, is.civil.0, before_the_last n year is few), (omega arith, omega arith), (omega arith, omega (arith, days_in_month_bounds (year +ℤ pos 1) 1)));
  number = omega (arith, signed_arith, days_from_civil-next_year year (year +ℤ pos 1) (omega (arith, signed_arith, is.civil.0)) refl, is.number);
}

-- December has 31 days
december : (n : ℕ) (d : Day) → IsDayAfter n d → days_in_month d.year d.month ≤ d.day → 12 ≤ d.month → n ≤ 2932896 → IsDayAfter (suc n) (record { year = d.year +ℤ pos 1; month = 1; day = 1 })
december n d is last late few =
    let month : d.month ≡ 12 = omega (arith, is.civil.1) in
    let length : days_in_month d.year d.month ≡ 31 = ap (days_in_month d.year) month in
    let day : d.day ≡ 31 = omega (arith, is.civil.2, length) in
    let there : IsDayAfter n (record { year = d.year; month = 12; day = 31 }) =
    subst (λ (m : ℕ). IsDayAfter n (record { year = d.year; month = m; day = 31 })) month
    (subst (λ (k : ℕ). IsDayAfter n (record { year = d.year; month = d.month; day = k })) day
    (record { civil = is.civil; number = is.number })) in
    new_year n d.year there few

month_over : (n : ℕ) (d : Day) → IsDayAfter n d → days_in_month d.year d.month ≤ d.day → n ≤ 2932896
    → IsDayAfter (suc n) (cond (nat_lt d.month 12) (record { year = d.year; month = d.month + 1; day = 1 }) (record { year = d.year +ℤ pos 1; month = 1; day = 1 }))
month_over n d is last few =
    let P : Bool → Type 0 = λ b. IsDayAfter (suc n) (cond b (record { year = d.year; month = d.month + 1; day = 1 }) (record { year = d.year +ℤ pos 1; month = 1; day = 1 })) in
    ⊎_elim
    (λ yes. subst P (sym yes) (new_month n d is last (grind (arith, nat_tests, yes))))
    (λ no. subst P (sym no) (december n d is last (grind (arith, nat_tests, no)) few))
    (cases_Bool (nat_lt d.month 12))

day_over : (n : ℕ) (d : Day) → IsDayAfter n d → n ≤ 2932896 → IsDayAfter (suc n) (next_day d)
day_over n d is few =
    let later : Day = cond (nat_lt d.month 12) (record { year = d.year; month = d.month + 1; day = 1 }) (record { year = d.year +ℤ pos 1; month = 1; day = 1 }) in
    let P : Bool → Type 0 = λ b. IsDayAfter (suc n) (cond b (record { year = d.year; month = d.month; day = d.day + 1 }) later) in
    ⊎_elim
    (λ yes. subst P (sym yes) (in_month n d is (grind (arith, nat_tests, yes))))
    (λ no. subst P (sym no) (month_over n d is (grind (arith, nat_tests, no)) few))
    (cases_Bool (nat_lt d.day (days_in_month d.year d.month)))

-- 1 January 1970 is day 0
last_of_1969 : IsDayAfter 0 (record { year = pos 1969; month = 12; day = 31 })
last_of_1969 = record {
  civil = ((omega (arith, signed_arith), omega (arith, signed_arith)), (omega arith, omega arith), (omega arith, omega arith));
  number = omega (arith, signed_arith, days_from_civil-next_year (pos 1969) (pos 1970) (omega (arith, signed_arith)) refl, days_from_civil-day_count (pos 1970) 1 1, day_count-epoch);
}

pub day_is : (n : ℕ) → n ≤ 2932897 → IsDayAfter n (day_after n)
unfolding day_after
day_is zero few = last_of_1969
day_is (suc n) few = day_over n (day_after n) (day_is n (omega arith)) (omega arith)
