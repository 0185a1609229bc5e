-- Four digits of a group, one after the other.
use Rattle.std.proofs.Common.{◌≡◌, ℕ, ◌+◌, ◌*◌, Bool, true, false, cond, ◌&&◌, List, [], ◌∷◌, length, get_or, Option, Some, None, refl, sym, ◌∙◌, ap, arith}
use Rattle.utf16_text.specs.Digits.{is_hexadecimal, digit_of}
use Rattle.pac_ext.specs.Groups.{group_in}

-- what `digit` gives
abbrev digit_in : ℕ → Option ℕ
digit_in u = cond (is_hexadecimal u) (Some (digit_of u)) None

record IsDigit (u value : ℕ) : Type 0 where
  hexadecimal : is_hexadecimal u ≡ true
  is : value ≡ digit_of u

found : (u value : ℕ) → Some value ≡ digit_in u → IsDigit u value
found u value h = go (is_hexadecimal u) refl h where
  go : (t : Bool) → is_hexadecimal u ≡ t → Some value ≡ cond t (Some (digit_of u)) None → IsDigit u value
  go true e h = record { hexadecimal = e; is = cc }
  go false e h = cc

missing : (u : ℕ) → None ≡ digit_in u → is_hexadecimal u ≡ false
missing u h = go (is_hexadecimal u) refl h where
  go : (t : Bool) → is_hexadecimal u ≡ t → None ≡ cond t (Some (digit_of u)) None → is_hexadecimal u ≡ false
  go true e h = cc
  go false e h = e

-- the group of four digits, by whether each is one
abbrev by-tests : (a b c d : ℕ) → Bool → Bool → Bool → Bool → Option ℕ
by-tests a b c d p q r s = cond (p && (q && (r && (s && true)))) (Some ((((0 * 16 + digit_of a) * 16 + digit_of b) * 16 + digit_of c) * 16 + digit_of d)) None

module _ (a b c d : ℕ) where
  abbrev digits : List ℕ
  digits = a ∷ b ∷ c ∷ d ∷ []

  shown : group_in digits ≡ by-tests a b c d (is_hexadecimal a) (is_hexadecimal b) (is_hexadecimal c) (is_hexadecimal d)
  shown = refl

  pub no-first : None ≡ digit_in a → None ≡ group_in digits
  no-first h = sym (shown ∙ ap (λ p. by-tests a b c d p (is_hexadecimal b) (is_hexadecimal c) (is_hexadecimal d)) (missing a h))

  pub no-second : (first : ℕ) → Some first ≡ digit_in a → None ≡ digit_in b → None ≡ group_in digits
  no-second first h k =
      sym (shown ∙ ap (λ p. by-tests a b c d p (is_hexadecimal b) (is_hexadecimal c) (is_hexadecimal d)) (found a first h).hexadecimal
      ∙ ap (λ q. by-tests a b c d true q (is_hexadecimal c) (is_hexadecimal d)) (missing b k))

  pub no-third : (first second : ℕ) → Some first ≡ digit_in a → Some second ≡ digit_in b → None ≡ digit_in c → None ≡ group_in digits
  no-third first second h k l =
      sym (shown ∙ ap (λ p. by-tests a b c d p (is_hexadecimal b) (is_hexadecimal c) (is_hexadecimal d)) (found a first h).hexadecimal
      ∙ ap (λ q. by-tests a b c d true q (is_hexadecimal c) (is_hexadecimal d)) (found b second k).hexadecimal
      ∙ ap (λ r. by-tests a b c d true true r (is_hexadecimal d)) (missing c l))

  pub no-fourth : (first second third : ℕ) → Some first ≡ digit_in a → Some second ≡ digit_in b → Some third ≡ digit_in c → None ≡ digit_in d → None ≡ group_in digits
  no-fourth first second third h k l m =
      sym (shown ∙ ap (λ p. by-tests a b c d p (is_hexadecimal b) (is_hexadecimal c) (is_hexadecimal d)) (found a first h).hexadecimal
      ∙ ap (λ q. by-tests a b c d true q (is_hexadecimal c) (is_hexadecimal d)) (found b second k).hexadecimal
      ∙ ap (λ r. by-tests a b c d true true r (is_hexadecimal d)) (found c third l).hexadecimal
      ∙ ap (λ s. by-tests a b c d true true true s) (missing d m))

  pub all-four : (first second third fourth : ℕ) → Some first ≡ digit_in a → Some second ≡ digit_in b → Some third ≡ digit_in c → Some fourth ≡ digit_in d
      → Some (((first * 16 + second) * 16 + third) * 16 + fourth) ≡ group_in digits
  all-four first second third fourth h k l m =
      let one = found a first h in
      let two = found b second k in
      let three = found c third l in
      let four = found d fourth m in
      let value : ((first * 16 + second) * 16 + third) * 16 + fourth ≡ (((0 * 16 + digit_of a) * 16 + digit_of b) * 16 + digit_of c) * 16 + digit_of d =
      omega (arith, one.is, two.is, three.is, four.is) in
      sym (shown ∙ ap (λ p. by-tests a b c d p (is_hexadecimal b) (is_hexadecimal c) (is_hexadecimal d)) one.hexadecimal
      ∙ ap (λ q. by-tests a b c d true q (is_hexadecimal c) (is_hexadecimal d)) two.hexadecimal
      ∙ ap (λ r. by-tests a b c d true true r (is_hexadecimal d)) three.hexadecimal
      ∙ ap (λ s. by-tests a b c d true true true s) four.hexadecimal ∙ ap Some (sym value))

-- four units are a list of four
pub four-units : (units : List ℕ) → length units ≡ 4 → units ≡ get_or units 0 0 ∷ get_or units 1 0 ∷ get_or units 2 0 ∷ get_or units 3 0 ∷ []
four-units (a ∷ b ∷ c ∷ d ∷ []) h = refl
four-units _ h = absurd (omega arith)
