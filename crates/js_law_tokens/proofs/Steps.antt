-- What each step of reading takes: signs, reserved words and names.
use Rattle.std.proofs.Common.{◌≡◌, ℕ, ◌<◌, List, [], ◌∷◌, length, Some, Bool, true, false, refl, sym, ap, ◌∙◌, arith}
use Rattle.std.specs.Prelude.{nat_eq, find, ◌&&◌, if◌then◌else◌}
use Rattle.std.proofs.lemmas.Bool.Decides.{nat_tests}
use Rattle.js_tree.specs.declared.token.Token.{Token}
use Rattle.js_tree.specs.declared.token.TokenKind.{TokenKind}
use Rattle.js_tree.specs.declared.token.TokenKind.TheVariants as token
use Rattle.js_tree.specs.declared.sign.Sign.{Sign}
use Rattle.js_tree.specs.declared.keyword.Keyword.{Keyword}
use Rattle.js_grammar.specs.Words.{same, keyword_spelling, keywords, keyword_of}
use Rattle.js_grammar.specs.Readers.{rest_of, sign_of, next_sign, keyword_in, next_keyword}
use Rattle.js_grammar.specs.Printing.{printed, sign_token, keyword_token}
use Rattle.js_law_tokens.specs.BareTokens.{bare_kind}
use Rattle.js_law_tokens.proofs.Keeping.{Keeps, done, kept, left_out}

-- ---- words that are reserved

same_text : (v w : List ℕ) → same v w ≡ true → v ≡ w
same_text [] [] h = refl
same_text [] (x ∷ xs) h = cc
same_text (x ∷ xs) [] h = cc
same_text (x ∷ xs) (y ∷ ys) h = by_test (nat_eq x y) refl h (λ more. same_text xs ys more)
  where
    by_test : (b : Bool) → nat_eq x y ≡ b → (b && same xs ys) ≡ true → (same xs ys ≡ true → xs ≡ ys) → x ∷ xs ≡ y ∷ ys
    by_test true e g next =
        let first : x ≡ y = grind (arith, nat_tests) in
        let others : xs ≡ ys = next g in
        cc
    by_test false e g next = cc

found_passes : {A : Type 0} (p : A → Bool) (xs : List A) (x : A) → find p xs ≡ Some x → p x ≡ true
found_passes p [] x h = cc
found_passes p (y ∷ ys) x h = by_test (p y) refl h (λ more. found_passes p ys x more)
  where
    by_test : (b : Bool) → p y ≡ b → (if b then Some y else find p ys) ≡ Some x → (find p ys ≡ Some x → p x ≡ true) → p x ≡ true
    by_test true e g next = let first : y ≡ x = cc in ap p (sym first) ∙ e
    by_test false e g next = next g

pub keyword_spelled : (w : List ℕ) (k : Keyword) → keyword_of w ≡ Some k → w ≡ keyword_spelling k
keyword_spelled w k h = same_text w (keyword_spelling k) (found_passes (λ j. same w (keyword_spelling j)) keywords k h)

-- ---- the token that comes next

sign_kind : (k : TokenKind) (s : Sign) → sign_of k ≡ Some s → k ≡ token.Sign s
sign_kind (token.Sign x) s h = cc
sign_kind (token.Word x) s h = cc
sign_kind (token.Text x) s h = cc
sign_kind (token.Pattern l) s h = cc
sign_kind (token.Number x) s h = cc

keyword_kind : (k : TokenKind) (w : Keyword) → keyword_in k ≡ Some w → k ≡ token.Word (keyword_spelling w)
keyword_kind (token.Sign x) w h = cc
keyword_kind (token.Word x) w h = ap token.Word (keyword_spelled x w h)
keyword_kind (token.Text x) w h = cc
keyword_kind (token.Pattern l) w h = cc
keyword_kind (token.Number x) w h = cc

-- a token of this kind is read, and printed again
pub taken : (k : TokenKind) (t : Token) (ts : List Token) → t.kind ≡ k → Keeps (printed k ∷ []) (t ∷ ts) ts
taken k t ts e = kept k t [] ts ts e (done ts)

pub skipped : (k : TokenKind) (t : Token) (ts : List Token) → t.kind ≡ k → bare_kind k ≡ [] → Keeps [] (t ∷ ts) ts
skipped k t ts e f = left_out t [] ts ts (ap bare_kind e ∙ f) (done ts)

pub sign_taken : (ts : List Token) (s : Sign) → next_sign ts ≡ Some s → Keeps (sign_token s ∷ []) ts (rest_of ts)
sign_taken [] s h = cc
sign_taken (t ∷ ts) s h = taken (token.Sign s) t ts (sign_kind t.kind s h)

pub sign_skipped : (ts : List Token) (s : Sign) → bare_kind (token.Sign s) ≡ [] → next_sign ts ≡ Some s → Keeps [] ts (rest_of ts)
sign_skipped [] s e h = cc
sign_skipped (t ∷ ts) s e h = skipped (token.Sign s) t ts (sign_kind t.kind s h) e

pub keyword_taken : (ts : List Token) (k : Keyword) → next_keyword ts ≡ Some k → Keeps (keyword_token k ∷ []) ts (rest_of ts)
keyword_taken [] k h = cc
keyword_taken (t ∷ ts) k h = taken (token.Word (keyword_spelling k)) t ts (keyword_kind t.kind k h)

pub keyword_shortens : (ts : List Token) (k : Keyword) → next_keyword ts ≡ Some k → length (rest_of ts) < length ts
keyword_shortens [] k h = cc
keyword_shortens (t ∷ ts) k h = omega arith
