-- Each token's spelling is read as that token, and what a spelling is made of.
use Rattle.std.proofs.Common.{◌≡◌, ◌⊎◌, ⊎_elim, ℕ, pos, negsuc, ◌<◌, List, [], ◌∷◌, ◌++◌, length, Some, Ok, Bool, true, false, decimal, refl, arith}
use Rattle.std.specs.List.{list_all}
use Rattle.utf16_text.specs.Letters.{is_space_unit}
use Rattle.js_tree.specs.declared.token.TokenKind.{TokenKind}
use Rattle.js_tree.specs.declared.token.TokenKind.TheVariants as token
use Rattle.utf16_text.specs.Digits.{is_digit}
use Rattle.js_grammar.specs.Units.{first_passes, has_break, is_word_start, is_word_part}
use Rattle.js_grammar.specs.Signs.{sign_spelling}
use Rattle.js_grammar.specs.Spelling.{spelling}
use Rattle.js_grammar.specs.Tokens.{piece_at}
use Rattle.js_law_spelling.specs.Spellable.{is_spellable}
use Rattle.js_law_spelling.specs.Laws.{SpellingsAreRead}
use Rattle.js_law_spelling.proofs.Units.{both_first, both_second, is_shown, is_printed, shown_printed, start_shown, part_shown, digit_shown, shown_no_space, printed_unbroken, all_weaker}
use Rattle.js_law_spelling.proofs.Words.{word_spelling, word_reads}
use Rattle.js_law_spelling.proofs.Numbers.{EndsNumber, number_reads, number_digits, number_begins}
use Rattle.js_law_spelling.proofs.Texts.{text_reads, text_printed}
use Rattle.js_law_spelling.proofs.Patterns.{pattern_reads, pattern_printed}
use Rattle.js_law_spelling.proofs.Signs.{sign_at_space, sign_at_feed, sign_begins, sign_printed}

-- ---- reading

-- the units behind a spelling
abbrev IsGap : ℕ → Type 0
IsGap gap = (gap ≡ 32) ⊎ (gap ≡ 10)

at_gap : (P : ℕ → Type 0) (gap : ℕ) → IsGap gap → P 32 → P 10 → P gap
at_gap P gap g space feed = ⊎_elim (λ e. rw e space) (λ e. rw e feed) g

ends_word : (gap : ℕ) → IsGap gap → is_word_part gap ≡ false
ends_word gap g = at_gap (λ u. is_word_part u ≡ false) gap g refl refl

ends_number : (gap : ℕ) → IsGap gap → EndsNumber gap
ends_number gap g = at_gap EndsNumber gap g (record { no_digit = refl; no_letter = refl; no_fraction = refl }) (record { no_digit = refl; no_letter = refl; no_fraction = refl })

pub each_is_read : SpellingsAreRead
each_is_read dividing (token.Word w) gap rest spellable value g =
    let parts : list_all is_word_part w ≡ true = both_second _ _ spellable in
    rw (word_spelling w parts) (word_reads dividing w gap rest (both_first _ _ spellable) parts (ends_word gap g))
each_is_read dividing (token.Number (pos n)) gap rest spellable value g = number_reads dividing n gap rest spellable (ends_number gap g)
each_is_read dividing (token.Number (negsuc n)) gap rest spellable value g = cc
each_is_read dividing (token.Text x) gap rest spellable value g = text_reads dividing x gap rest spellable
each_is_read dividing (token.Pattern l) gap rest spellable value g = pattern_reads dividing l gap rest spellable (value.1 refl) (ends_word gap g)
each_is_read dividing (token.Sign s) gap rest spellable value g =
    at_gap (λ u. piece_at dividing (sign_spelling s ++ u ∷ rest) ≡ Ok (Some (token.Sign s), length (sign_spelling s))) gap g (sign_at_space dividing s rest value.0) (sign_at_feed dividing s rest value.0)

-- ---- what a spelling is made of

shown_first : (test : ℕ → Bool) (us : List ℕ) → ((u : ℕ) → test u ≡ true → is_shown u ≡ true) → first_passes test us ≡ true → first_passes is_shown us ≡ true
shown_first test [] shown h = h
shown_first test (u ∷ us) shown h = shown u h

-- its first unit is shown, so it is no white space
pub spelling_begins : (k : TokenKind) → is_spellable k ≡ true → first_passes is_shown (spelling k) ≡ true
spelling_begins (token.Word w) spellable =
    let parts : list_all is_word_part w ≡ true = both_second _ _ spellable in
    rw (word_spelling w parts) (shown_first is_word_start w start_shown (both_first _ _ spellable))
spelling_begins (token.Number (pos n)) spellable = shown_first is_digit (decimal n) digit_shown (number_begins n spellable)
spelling_begins (token.Number (negsuc n)) spellable = cc
spelling_begins (token.Text x) spellable = refl
spelling_begins (token.Pattern l) spellable = refl
spelling_begins (token.Sign s) spellable = sign_begins s

-- each of its units is printed ASCII
pub spelling_printed : (k : TokenKind) → is_spellable k ≡ true → list_all is_printed (spelling k) ≡ true
spelling_printed (token.Word w) spellable =
    let parts : list_all is_word_part w ≡ true = both_second _ _ spellable in
    rw (word_spelling w parts) (all_weaker is_word_part is_printed (λ u h. shown_printed u (part_shown u h)) w parts)
spelling_printed (token.Number (pos n)) spellable = all_weaker is_digit is_printed (λ u h. shown_printed u (digit_shown u h)) (decimal n) (number_digits n spellable)
spelling_printed (token.Number (negsuc n)) spellable = cc
spelling_printed (token.Text x) spellable = text_printed x spellable
spelling_printed (token.Pattern l) spellable = pattern_printed l spellable
spelling_printed (token.Sign s) spellable = sign_printed s

-- it holds no line break
pub spelling_unbroken : (k : TokenKind) → is_spellable k ≡ true → has_break (spelling k) ≡ false
spelling_unbroken k spellable = printed_unbroken (spelling k) (spelling_printed k spellable)

-- a first unit that is no white space, and the units behind it
abbrev pub BeginsShown : List ℕ → Type 0
BeginsShown us = (u : ℕ) × (others : List ℕ) × (us ≡ u ∷ others) × (is_space_unit u ≡ false)

begins_shown : (us : List ℕ) → first_passes is_shown us ≡ true → BeginsShown us
begins_shown [] h = cc
begins_shown (u ∷ us) h = (u, us, refl, shown_no_space u h)

-- it is not empty, and begins with no white space
pub spelling_first : (k : TokenKind) → is_spellable k ≡ true → BeginsShown (spelling k)
spelling_first k spellable = begins_shown (spelling k) (spelling_begins k spellable)

some_units : (us : List ℕ) → first_passes is_shown us ≡ true → 0 < length us
some_units [] h = cc
some_units (u ∷ us) h = omega arith

pub spelling_some : (k : TokenKind) → is_spellable k ≡ true → 0 < length (spelling k)
spelling_some k spellable = some_units (spelling k) (spelling_begins k spellable)
