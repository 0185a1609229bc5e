-- The place after the units of a line.
use Rattle.std.proofs.Common.{◌≡◌, ◌+◌, ◌&&◌, Bool, true, false, cond, ℕ, suc, List, [], ◌∷◌, drop, refl, sym, ap, ◌∙◌, arith}
use Rattle.std.specs.Prelude.{nat_eq}
use Rattle.std.specs.List.{prefix_len}
use Rattle.utf16_text.specs.Letters.{is_break_unit}
use Rattle.js_tree.specs.declared.place.Place.{Place}
use Rattle.js_grammar.specs.Units.{begins_with, place_after}
use Rattle.js_grammar.specs.Tokens.{is_inline}
use Rattle.js_lexer.proofs.Runs.{failing_unit, run_ends, run_more}

abbrev pub moved : Place → ℕ → Place
moved place n = record { line = place.line; column = place.column + n }

-- how many units there are up to the line's end
abbrev pub plain : List ℕ → ℕ
plain units = prefix_len is_inline units

unmoved : (place : Place) → place ≡ moved place 0
unmoved place =
    let same : place.column ≡ place.column + 0 = omega arith in
    ap (λ (column : ℕ). record { line = place.line; column = column }) same

-- up to the line's end each unit is a column
goes_along : (units : List ℕ) (place : Place) → place_after place units ≡ place_after (moved place (plain units)) (drop (plain units) units)
goes_along [] place = unmoved place
goes_along (u ∷ us) place = by_unit (goes_along us (moved place 1)) (is_break_unit u) refl
  where
    to : ℕ → Place
    to n = place_after (moved place n) (drop n (u ∷ us))

    by_unit : place_after (moved place 1) us ≡ place_after (moved (moved place 1) (plain us)) (drop (plain us) us) → (b : Bool) → is_break_unit u ≡ b → place_after place (u ∷ us) ≡ to (plain (u ∷ us))
    by_unit next true is = ap (λ q. place_after q (u ∷ us)) (unmoved place) ∙ sym (ap to (run_ends is_inline u us (rw is refl)))
    by_unit next false is =
        let step : place_after place (u ∷ us) ≡ place_after (moved place 1) us = rw (is, failing_unit is_break_unit u 13 refl is) refl in
        let column : place.column + 1 + plain us ≡ place.column + suc (plain us) = omega arith in
        step
        ∙ next
        ∙ ap (λ (c : ℕ). place_after (record { line = place.line; column = c }) (drop (plain us) us)) column
        ∙ sym (ap to (run_more is_inline u us (rw is refl)))

stops : (units : List ℕ) (end : ℕ) (others : List ℕ) → drop (plain units) units ≡ end ∷ others → is_break_unit end ≡ true
stops [] end others is = cc
stops (u ∷ us) end others is = by_unit (stops us end others) (is_break_unit u) refl
  where
    by_unit : (drop (plain us) us ≡ end ∷ others → is_break_unit end ≡ true) → (b : Bool) → is_break_unit u ≡ b → is_break_unit end ≡ true
    by_unit next true h =
        let same : u ∷ us ≡ end ∷ others = ap (λ n. drop n (u ∷ us)) (sym (run_ends is_inline u us (rw h refl))) ∙ is in
        cc
    by_unit next false h = next (ap (λ n. drop n (u ∷ us)) (sym (run_more is_inline u us (rw h refl))) ∙ is)

pub is_last : (units : List ℕ) (place : Place) → drop (plain units) units ≡ [] → place_after place units ≡ moved place (plain units)
is_last units place none = goes_along units place ∙ ap (λ us. place_after (moved place (plain units)) us) none

module _ (units : List ℕ) (place : Place) (end : ℕ) (others : List ℕ) (is : drop (plain units) units ≡ end ∷ others) where
  at_end : place_after place units ≡ cond (nat_eq end 13 && begins_with 10 others) (place_after (moved place (plain units)) others) (place_after (record { line = place.line + 1; column = 1 }) others)
  at_end =
      goes_along units place
      ∙ ap (λ us. place_after (moved place (plain units)) us) is
      ∙ rw (stops units end others is) refl

  -- a CR before an LF is no end of its own
  pub waits : (nat_eq end 13 && begins_with 10 others) ≡ true → place_after place units ≡ place_after (moved place (plain units)) others
  waits test = at_end ∙ rw test refl

  pub ends_line : (nat_eq end 13 && begins_with 10 others) ≡ false → place_after place units ≡ place_after (record { line = place.line + 1; column = 1 }) others
  ends_line test = at_end ∙ rw test refl
