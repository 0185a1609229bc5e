-- A text as a loop reads it.
use Rattle.std.proofs.Common.{◌≡◌, ℕ, suc, ◌+◌, ◌-◌, ◌<◌, ◌≤◌, List, [], ◌∷◌, ◌++◌, length, drop, length-drop, true, false, Option, option_to_list, nat_eq, Result, Ok, Err, refl, sym, ap, ◌∙◌, append_assoc, zero-add, arith}
use Rattle.std.proofs.lemmas.List.{append-nil}
use Rattle.std.specs.Prelude.{Bool, Some, not, ◌&&◌, take, cond}
use Rattle.std.specs.List.{prefix_len}
use Rattle.js_lexer.specs.Texts.{is_plain}
use Rattle.utf16_text.specs.Letters.{is_break_unit}
use Rattle.js_tree.specs.declared.refusal.ReadKind.{ReadKind}
use Rattle.js_tree.specs.declared.refusal.ReadKind.TheVariants.{BadToken}
use Rattle.js_grammar.specs.Reading.{◌>>=◌}
use Rattle.js_grammar.specs.Literals.{character_at, in_front, text_from, text_at}

-- What is read before the rest, and what the rest gives, is the whole. fuel: above the number of characters still to
-- come.
pub record TextSoFar (quote : ℕ) (text : List ℕ) (n : ℕ) (rest units : List ℕ) : Type 0 where
  pub fuel : ℕ
  pub enough : length rest < fuel
  pub within : n + length rest ≡ length units
  pub so_far : (text_from fuel quote rest >>= in_front text n) ≡ text_at quote units

nothing_in_front : (r : Result (List ℕ × ℕ) ReadKind) → (r >>= in_front [] 0) ≡ r
nothing_in_front (Ok x) = λ i. Ok (x.0, zero-add x.1 i)
nothing_in_front (Err e) = refl

pub begins : (quote : ℕ) (units : List ℕ) → TextSoFar quote [] 0 units units
begins quote units = record {
  fuel = suc (length units);
  enough = omega arith;
  within = omega arith;
  so_far = nothing_in_front (text_at quote units);
}

in_front-in_front : (a b : List ℕ) (m n : ℕ) (r : Result (List ℕ × ℕ) ReadKind) → ((r >>= in_front b n) >>= in_front a m) ≡ (r >>= in_front (a ++ b) (m + n))
in_front-in_front a b m n (Ok x) =
    let sum : m + (n + x.1) ≡ m + n + x.1 = omega arith in
    λ i. Ok (sym (append_assoc a b x.0) i, sum i)
in_front-in_front a b m n (Err e) = refl

one_character : (quote n u k : ℕ) (us : List ℕ) (o : Option ℕ) → nat_eq u quote ≡ false → is_break_unit u ≡ false → character_at u us ≡ Ok (o, k)
    → text_from (suc n) quote (u ∷ us) ≡ (text_from n quote (drop k (u ∷ us)) >>= in_front (option_to_list o) k)
unfolding text_from
one_character quote n u k us o open_still inline is = rw (open_still, inline, is) refl

without_end : (n quote : ℕ) (us : List ℕ) → length us ≡ 0 → text_from (suc n) quote us ≡ Err BadToken
unfolding text_from
without_end n quote [] h = refl
without_end n quote (u ∷ us) h = absurd (omega arith)

module _ (quote : ℕ) (text : List ℕ) (n : ℕ) (rest units : List ℕ) (s : TextSoFar quote text n rest units) where
  one_more : s.fuel ≡ suc (s.fuel - 1)
  one_more = omega (arith, s.enough)

  whole : (text_from (suc (s.fuel - 1)) quote rest >>= in_front text n) ≡ text_at quote units
  whole = ap (λ f. text_from f quote rest >>= in_front text n) (sym one_more) ∙ s.so_far

  pub goes_on : (u k : ℕ) (us : List ℕ) (o : Option ℕ) (text' : List ℕ) → rest ≡ u ∷ us → nat_eq u quote ≡ false → is_break_unit u ≡ false
      → character_at u us ≡ Ok (o, k) → 0 < k → k ≤ length us + 1 → text' ≡ text ++ option_to_list o → TextSoFar quote text' (n + k) (drop k rest) units
  goes_on u k us o text' front open_still inline is positive short put =
      let long : length rest ≡ length us + 1 = rw front (omega arith) in
      let left : length (drop k rest) ≡ length rest - k = length-drop k rest in
      let step : text_from (suc (s.fuel - 1)) quote rest ≡ (text_from (s.fuel - 1) quote (drop k rest) >>= in_front (option_to_list o) k) = rw front (one_character quote (s.fuel - 1) u k us o open_still inline is) in
      rw put (record {
        fuel = s.fuel - 1;
        enough = omega (arith, s.enough);
        within = omega (arith, s.within);
        so_far = sym (in_front-in_front text (option_to_list o) n k (text_from (s.fuel - 1) quote (drop k rest))) ∙ ap (λ r. r >>= in_front text n) (sym step) ∙ whole;
      })

  pub ends : (u : ℕ) (us : List ℕ) → rest ≡ u ∷ us → nat_eq u quote ≡ true → text_at quote units ≡ Ok (text, n + 1)
  unfolding text_from
  ends u us front closed =
      let closing : (text_from (suc (s.fuel - 1)) quote rest >>= in_front text n) ≡ Ok (text ++ [], n + 1) = rw (front, closed) refl in
      sym whole ∙ closing ∙ ap (λ (xs : List ℕ). Ok (xs, n + 1)) (append-nil text)

  pub has_no_end : length rest ≡ 0 → text_at quote units ≡ Err BadToken
  has_no_end none = sym whole ∙ ap (λ r. r >>= in_front text n) (without_end (s.fuel - 1) quote rest none)

  pub is_broken : (u : ℕ) (us : List ℕ) → rest ≡ u ∷ us → nat_eq u quote ≡ false → is_break_unit u ≡ true → text_at quote units ≡ Err BadToken
  unfolding text_from
  is_broken u us front open_still broken =
      let closing : (text_from (suc (s.fuel - 1)) quote rest >>= in_front text n) ≡ Err BadToken = rw (front, open_still, broken) refl in
      sym whole ∙ closing

  pub fails : (u : ℕ) (us : List ℕ) (kind : ReadKind) → rest ≡ u ∷ us → nat_eq u quote ≡ false → is_break_unit u ≡ false → character_at u us ≡ Err kind → text_at quote units ≡ Err kind
  unfolding text_from
  fails u us kind front open_still inline is =
      let closing : (text_from (suc (s.fuel - 1)) quote rest >>= in_front text n) ≡ Err kind = rw (front, open_still, inline, is) refl in
      sym whole ∙ closing

-- ---- units that stand for themselves, one after another

three_false : (a b c : Bool) → (not a && not b && not c) ≡ true → (a ≡ false) × (b ≡ false) × (c ≡ false)
three_false true b c h = cc
three_false false true c h = cc
three_false false false true h = cc
three_false false false false h = (refl, refl, refl)

module _ (quote : ℕ) (units : List ℕ) where
  -- what was read up to some units, and then so many of them that stand for themselves
  abbrev Past : List ℕ → ℕ → List ℕ → ℕ → Type 0
  Past text n rest k = TextSoFar quote (text ++ take k rest) (n + k) (drop k rest) units

  one_plain : (u : ℕ) (us text : List ℕ) (n : ℕ) → is_plain quote u ≡ true → TextSoFar quote text n (u ∷ us) units → TextSoFar quote (text ++ u ∷ []) (n + 1) us units
  one_plain u us text n plain s =
      let three = three_false (nat_eq u quote) (nat_eq u 92) (is_break_unit u) plain in
      let itself : character_at u us ≡ Ok (Some u, 1) = rw three.1 refl in
      goes_on quote text n (u ∷ us) units s u 1 us (Some u) (text ++ u ∷ []) refl three.0 three.2 itself (omega arith) (omega arith) refl

  first_plain : (u : ℕ) (us text : List ℕ) (n : ℕ) (b : Bool) → is_plain quote u ≡ b → TextSoFar quote text n (u ∷ us) units
      → ((text' : List ℕ) (n' : ℕ) → TextSoFar quote text' n' us units → Past text' n' us (prefix_len (is_plain quote) us))
      → Past text n (u ∷ us) (cond b (1 + prefix_len (is_plain quote) us) 0)
  first_plain u us text n true plain s others =
      let k = prefix_len (is_plain quote) us in
      let next : 1 + k ≡ suc k = omega arith in
      let sum : n + 1 + k ≡ n + suc k = omega arith in
      rw next (rw (sum, append_assoc text (u ∷ []) (take k us)) at (others (text ++ u ∷ []) (n + 1) (one_plain u us text n plain s)))
  first_plain u us text n false plain s others =
      let same : n + 0 ≡ n = omega arith in
      rw (append-nil text, same) s

  pub goes_past : (rest text : List ℕ) (n : ℕ) → TextSoFar quote text n rest units → Past text n rest (prefix_len (is_plain quote) rest)
  goes_past [] text n s =
      let same : n + 0 ≡ n = omega arith in
      rw (append-nil text, same) s
  goes_past (u ∷ us) text n s = first_plain u us text n (is_plain quote u) refl s (λ text' n' s'. goes_past us text' n' s')

  -- the same of a loop that puts them at the end at once
  pub put_at_once : (rest text : List ℕ) (n k : ℕ) (front back text' : List ℕ) → TextSoFar quote text n rest units → k ≡ prefix_len (is_plain quote) rest
      → front ≡ take k rest → back ≡ drop k rest → length front ≡ k → text' ≡ text ++ front → TextSoFar quote text' (n + length front) back units
  put_at_once rest text n k front back text' s is taken left long put =
      rw (put, long, left, taken, is) (goes_past rest text n s)
