-- Worked examples of tokens that a text can spell, by computation alone.
use Rattle.std.specs.Prelude.{◌≡◌, pos, negsuc, [], ◌∷◌, ◌++◌, Some, Ok, true, false, codes, refl}
use Rattle.std.specs.Fmt.{digits}
use Rattle.js_tree.specs.declared.token.TokenKind.TheVariants.{Word, Number, Text, Pattern}
use Rattle.js_grammar.specs.Spelling.{spelling}
use Rattle.js_grammar.specs.Literals.{text_from}
use Rattle.js_grammar.specs.Tokens.{piece_at}
use Rattle.js_law_spelling.specs.Spellable.{is_body, is_spellable}

-- no word begins with a digit, and no word is empty
pub word_from_digit : is_spellable (Word (codes "1x")) ≡ false
word_from_digit = refl

pub empty_word : is_spellable (Word []) ≡ false
empty_word = refl

-- `-1` is a sign and a number
pub below_zero : is_spellable (Number (negsuc 0)) ≡ false
below_zero = refl

-- no text has a unit above 65,535
pub wide_unit : is_spellable (Text (65536 ∷ [])) ≡ false
wide_unit = refl

-- `/a/b/` ends at its second slash, and `//` is a comment
pub slash_in_body : is_spellable (Pattern (record { body = codes "a/b"; flags = [] })) ≡ false
slash_in_body = refl

pub empty_body : is_body [] ≡ false
empty_body = refl

-- a slash in a class or behind a `\` ends nothing
pub slash_in_class : is_body (codes "[/]\\/") ≡ true
slash_in_class = refl

-- a quote, a line feed and `é` have an escape
pub escaped_text : spelling (Text (34 ∷ 10 ∷ 233 ∷ [])) ≡ 34 ∷ codes "\\\"\\u000a\\u00e9\""
escaped_text = refl

-- and are read back
pub text_back : piece_at false (spelling (Text (34 ∷ 10 ∷ 233 ∷ [])) ++ 32 ∷ []) ≡ Ok (Some (Text (34 ∷ 10 ∷ 233 ∷ [])), 16)
unfolding piece_at text_from
text_back = refl

pub number_back : piece_at false (spelling (Number (pos 10)) ++ 10 ∷ []) ≡ Ok (Some (Number (pos 10)), 2)
unfolding piece_at digits
number_back = refl
