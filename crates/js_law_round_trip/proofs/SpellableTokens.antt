-- Where the tokens of a script can be spelt, those that it is printed as can be too.
use Rattle.std.proofs.Common.{◌≡◌, ℕ, suc, ◌^◌, ◌<◌, List, [], ◌∷◌, Some, true, refl, subst, arith}
use Rattle.std.specs.Prelude.{ℤ, pos, negsuc, nat_le}
use Rattle.std.specs.List.{list_all}
use Rattle.std.specs.Str.{IsAscii}
use Rattle.std.specs.Fmt.{signed_decimal}
use Rattle.std.proofs.lemmas.Bool.Decides.{nat_tests}
use Rattle.std.proofs.lemmas.Fmt.{IsAscii-signed}
use Rattle.js_tree.specs.declared.token.TokenKind.{TokenKind}
use Rattle.js_tree.specs.declared.token.TokenKind.TheVariants as token
use Rattle.js_grammar.specs.Units.{is_word_part, first_passes, is_word_start}
use Rattle.js_grammar.specs.Expressions.{name_in}
use Rattle.js_law_spelling.proofs.Units.{both, both_second, all_weaker}
use Rattle.utf16_text.specs.Units.{is_unit}
use Rattle.js_law_spelling.specs.Spellable.{is_literal, is_spellable}
use Rattle.js_law_tokens.specs.Laws.{HoldsOfPrinted}
use Rattle.js_law_tokens.proofs.KeptTokens.{holds_of_printed}

-- ---- units of names

part_unit : (u : ℕ) → is_word_part u ≡ true → is_unit u ≡ true
part_unit u h = grind (arith, nat_tests)

ascii_unit : (u : ℕ) → u < 128 → is_unit u ≡ true
ascii_unit u h = grind (arith, nat_tests)

ascii_units : (us : List ℕ) → IsAscii us → list_all is_unit us ≡ true
ascii_units [] h = refl
ascii_units (u ∷ us) h = both _ _ (ascii_unit u (h 0)) (ascii_units us (λ i. h (suc i)))

literal_small : (n : ℕ) → nat_le n 9007199254740991 ≡ true → n < 2 ^ 63
literal_small n h = grind (arith, nat_tests)

literal_units : (n : ℤ) → is_literal n ≡ true → list_all is_unit (signed_decimal n) ≡ true
literal_units (pos n) h = ascii_units (signed_decimal (pos n)) (IsAscii-signed (pos n) (literal_small n h))
literal_units (negsuc n) h = cc

-- ---- names

-- a name can be spelt as a text
name_spellable : (k : TokenKind) (x : List ℕ) → name_in k ≡ Some x → is_spellable k ≡ true → is_spellable (token.Text x) ≡ true
name_spellable (token.Word w) x e h = let same : w ≡ x = cc in subst (λ (us : List ℕ). list_all is_unit us ≡ true) same (all_weaker is_word_part is_unit part_unit w (both_second (first_passes is_word_start w) _ h))
name_spellable (token.Text w) x e h = let same : w ≡ x = cc in subst (λ (us : List ℕ). list_all is_unit us ≡ true) same h
name_spellable (token.Number n) x e h = let same : signed_decimal n ≡ x = cc in subst (λ (us : List ℕ). list_all is_unit us ≡ true) same (literal_units n h)
name_spellable (token.Pattern l) x e h = cc
name_spellable (token.Sign s) x e h = cc

pub printed_spellable : HoldsOfPrinted (λ k. is_spellable k ≡ true)
printed_spellable = holds_of_printed (λ k. is_spellable k ≡ true) (record { sign = λ s. refl; name = name_spellable })
