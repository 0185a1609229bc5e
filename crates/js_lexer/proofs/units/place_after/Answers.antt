use Rattle.std.proofs.Common.{◌≡◌, ◌+◌, ◌≤◌, ◌-◌, ◌∷◌, ◌&&◌, [], true, false, List, ℕ, length, take, drop, length-drop, slice_index_or, sym, ap, ◌∙◌, arith}
use Rattle.std.specs.Prelude.{nat_eq}
use Rattle.std.proofs.lemmas.Bool.{ne_eqb}
use Rattle.std.proofs.lemmas.List.{nil_from_length, take_all}
use Rattle.std.proofs.Math.Bool.{and-false}
use Rattle.js_grammar.specs.Units.{begins_with}
use Rattle.js_lexer.proofs.Lines.{plain, is_last, waits, ends_line}
use Rattle.js_lexer.proofs.units.place_after.Goals as goal
use Rattle.js_lexer.proofs.units.place_after.Goals.{then-end-ne-CARRIAGE_RETURN-via-then-end-ne-CARRIAGE_RETURN, then-end-ne-CARRIAGE_RETURN-via-else-end-ne-CARRIAGE_RETURN+then-not-begins_with}

parted : (units : List ℕ) → 1 ≤ length units → units ≡ slice_index_or units 0 0 ∷ take (length units - 1) (drop 1 units)
parted [] some = absurd (omega arith)
parted (u ∷ us) some = ap (λ xs. u ∷ xs) (sym (take_all (length (u ∷ us) - 1) us (omega arith)))

fewer : (rest : List ℕ) (n : ℕ) (behind : List ℕ) → behind ≡ drop n rest → 1 ≤ length behind → length (take (length behind - 1) (drop 1 behind)) + 1 + n ≤ length rest
fewer rest n behind is some =
    let short : length behind ≤ length rest - n = omega (arith, ap length is, length-drop n rest) in
    let more : length behind ≡ length (take (length behind - 1) (drop 1 behind)) + 1 = omega (arith, ap length (parted behind some)) in
    omega (arith, some)

pub returns-in_default-clause-value : goal.returns-in_default-clause-value
returns-in_default-clause-value c =
    let none = sym c.behind.ensures ∙ nil_from_length c.behind.result.now (omega (arith, c.in_default.len_below)) in
    rw c.inline_length-count.ensures.value (sym (is_last c.loop-line.rest.now (record { line = c.loop-line.line; column = c.loop-line.column }) (rw (← c.inline_length-count.ensures.value) none)) ∙ c.loop-line.invariant.same)

pub loop-line-preserved-then-end-ne-CARRIAGE_RETURN : goal.loop-line-preserved-then-end-ne-CARRIAGE_RETURN
loop-line-preserved-then-end-ne-CARRIAGE_RETURN c =
    let rest = c.loop-line.rest.now in
    let behind = c.behind.result.now in
    let end = slice_index_or behind 0 0 in
    let others = take (length behind - 1) (drop 1 behind) in
    let front : drop (plain rest) rest ≡ end ∷ others = ap (λ n. drop n rest) (sym c.inline_length-count.ensures.value) ∙ sym c.behind.ensures ∙ parted behind c.in-len1-up.len_at_least in
    let once : (nat_eq end 13 && begins_with 10 others) ≡ false = elim c.then-end-ne-CARRIAGE_RETURN.branch [
      | then-end-ne-CARRIAGE_RETURN-via-then-end-ne-CARRIAGE_RETURN w ↦ ap (λ b. b && begins_with 10 others) (ne_eqb end 13 w.if-end-ne-CARRIAGE_RETURN.true)
      | then-end-ne-CARRIAGE_RETURN-via-else-end-ne-CARRIAGE_RETURN+then-not-begins_with w ↦
          ap (λ b. nat_eq end 13 && b) (sym w.begins_with.ensures ∙ w.if-not-begins_with.true) ∙ and-false (nat_eq end 13)
    ] in
    let fits = fewer rest c.inline_length-count.result behind c.behind.ensures c.in-len1-up.len_at_least in
    record {
      line = omega (arith, fits, c.loop-line.invariant.line);
      column = omega (arith, fits, c.loop-line.invariant.column, c.loop-line.invariant.first);
      first = omega arith;
      same = sym (ends_line rest (record { line = c.loop-line.line; column = c.loop-line.column }) end others front once) ∙ c.loop-line.invariant.same;
    }

pub loop-line-preserved : goal.loop-line-preserved
loop-line-preserved c =
    let rest = c.loop-line.rest.now in
    let behind = c.behind.result.now in
    let end = slice_index_or behind 0 0 in
    let others = take (length behind - 1) (drop 1 behind) in
    let front : drop (plain rest) rest ≡ end ∷ others = ap (λ n. drop n rest) (sym c.inline_length-count.ensures.value) ∙ sym c.behind.ensures ∙ parted behind c.in-len1-up.len_at_least in
    let both : (nat_eq end 13 && begins_with 10 others) ≡ true = ap (λ u. nat_eq u 13 && begins_with 10 others) c.if-end-ne-CARRIAGE_RETURN.false ∙ sym c.begins_with.ensures ∙ c.if-not-begins_with.false in
    let fits = fewer rest c.inline_length-count.result behind c.behind.ensures c.in-len1-up.len_at_least in
    record {
      line = omega (arith, fits, c.loop-line.invariant.line);
      column = omega (arith, fits, c.loop-line.invariant.column);
      first = omega (arith, c.loop-line.invariant.first);
      same = rw c.inline_length-count.ensures.value (sym (waits rest (record { line = c.loop-line.line; column = c.loop-line.column }) end others front both) ∙ c.loop-line.invariant.same);
    }
