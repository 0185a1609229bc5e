-- Worked examples of the definitions, each by computation alone.
use Rattle.std.specs.Prelude.{◌≡◌, ℕ, pos, List, [], ◌∷◌, ◌++◌, codes, true, false, Ok, Err, refl}
use Rattle.js_tree.specs.declared.place.Place.{Place}
use Rattle.js_tree.specs.declared.token.Token.{Token}
use Rattle.js_tree.specs.declared.token.TokenKind.{TokenKind}
use Rattle.js_tree.specs.declared.token.TokenKind.TheVariants.{Word, Number, Text, Pattern, Sign}
use Rattle.js_tree.specs.declared.sign.Sign.TheVariants as sign
use Rattle.js_tree.specs.declared.refusal.ReadKind.TheVariants.{BadToken, FractionLiteral, Unsupported}
use Rattle.js_grammar.specs.Literals.{text_from}
use Rattle.js_grammar.specs.Patterns.{literal_of, pattern_at}
use Rattle.js_grammar.specs.Tokens.{piece_at, tokens_from, tokens_of}

abbrev pub at : ℕ → ℕ → Place
at line column = record { line = line; column = column }

abbrev pub token : TokenKind → Place → Token
token kind place = record { kind = kind; place = place; after_line = false }

abbrev pub token_on_new_line : TokenKind → Place → Token
token_on_new_line kind place = record { kind = kind; place = place; after_line = true }

-- the longest sign is taken, and behind `++` a slash divides
pub increment_then_division : tokens_of (codes "a++/b")
    ≡ Ok (token (Word (codes "a")) (at 1 1) ∷ token (Sign sign.PlusPlus) (at 1 2) ∷ token (Sign sign.Slash) (at 1 4) ∷ token (Word (codes "b")) (at 1 5) ∷ [])
unfolding tokens_from piece_at text_from
increment_then_division = refl

-- behind a reserved word a slash begins a pattern literal, but not behind `.`
abbrev pub pattern : List ℕ → List ℕ → TokenKind
pattern body flags = Pattern (record { body = body; flags = flags })

pub slash_after_return : tokens_of (codes "return /a/g;")
    ≡ Ok (token (Word (codes "return")) (at 1 1) ∷ token (pattern (codes "a") (codes "g")) (at 1 8) ∷ token (Sign sign.Semicolon) (at 1 12) ∷ [])
unfolding tokens_from piece_at pattern_at literal_of
slash_after_return = refl

pub slash_after_member : tokens_of (codes "a.return/2")
    ≡ Ok (token (Word (codes "a")) (at 1 1) ∷ token (Sign sign.Dot) (at 1 2) ∷ token (Word (codes "return")) (at 1 3) ∷ token (Sign sign.Slash) (at 1 9) ∷ token (Number (pos 2)) (at 1 10) ∷ [])
unfolding tokens_from piece_at text_from
slash_after_member = refl

-- CR LF (13, 10) is one break
pub one_break : tokens_of (97 ∷ 13 ∷ 10 ∷ 98 ∷ []) ≡ Ok (token (Word (codes "a")) (at 1 1) ∷ token_on_new_line (Word (codes "b")) (at 2 1) ∷ [])
unfolding tokens_from piece_at text_from
one_break = refl

-- a comment that holds a line's end counts as one
pub break_in_comment : tokens_of (codes "a/*" ++ 10 ∷ codes "*/b") ≡ Ok (token (Word (codes "a")) (at 1 1) ∷ token_on_new_line (Word (codes "b")) (at 2 3) ∷ [])
unfolding tokens_from piece_at text_from
break_in_comment = refl

pub octal_number : tokens_of (codes "x = 08") ≡ Err (Unsupported, at 1 5)
unfolding tokens_from piece_at text_from
octal_number = refl

pub fraction : tokens_of (codes "var x = 1.5;") ≡ Err (FractionLiteral, at 1 9)
unfolding tokens_from piece_at text_from
fraction = refl

pub too_large : tokens_of (codes "9007199254740992") ≡ Err (BadToken, at 1 1)
unfolding tokens_from piece_at text_from
too_large = refl

-- `"a\x41\u0042\n"` is `aAB` and a line feed
pub escapes : tokens_of (34 ∷ codes "a\\x41\\u0042\\n" ++ 34 ∷ []) ≡ Ok (token (Text (97 ∷ 65 ∷ 66 ∷ 10 ∷ [])) (at 1 1) ∷ [])
unfolding tokens_from piece_at text_from
escapes = refl

-- a text that has no end is refused where it begins
pub no_end : tokens_of (codes "var x = " ++ 34 ∷ codes "a;") ≡ Err (BadToken, at 1 9)
unfolding tokens_from piece_at text_from
no_end = refl

-- ---- pattern literals

-- a slash in a class or behind a `\` ends no body
pub slash_in_class : tokens_of (codes "/[/]/") ≡ Ok (token (pattern (codes "[/]") []) (at 1 1) ∷ [])
unfolding tokens_from piece_at pattern_at literal_of
slash_in_class = refl

pub slash_escaped : tokens_of (codes "/\\//i") ≡ Ok (token (pattern (codes "\\/") (codes "i")) (at 1 1) ∷ [])
unfolding tokens_from piece_at pattern_at literal_of
slash_escaped = refl

-- behind a name a slash divides
pub two_divisions : tokens_of (codes "a / b / c")
    ≡ Ok (token (Word (codes "a")) (at 1 1) ∷ token (Sign sign.Slash) (at 1 3) ∷ token (Word (codes "b")) (at 1 5) ∷ token (Sign sign.Slash) (at 1 7) ∷ token (Word (codes "c")) (at 1 9) ∷ [])
unfolding tokens_from piece_at
two_divisions = refl

-- behind a literal a slash begins another one
pub slash_behind_literal : tokens_of (codes "/a/ / 2") ≡ Err (BadToken, at 1 5)
unfolding tokens_from piece_at pattern_at literal_of
slash_behind_literal = refl

pub in_brackets : tokens_of (codes "(/a/)")
    ≡ Ok (token (Sign sign.LeftParenthesis) (at 1 1) ∷ token (pattern (codes "a") []) (at 1 2) ∷ token (Sign sign.RightParenthesis) (at 1 5) ∷ [])
unfolding tokens_from piece_at pattern_at literal_of
in_brackets = refl

-- `é` (233) is kept by its number, with or without a `\` before it
pub kept_by_number : tokens_of (codes "/" ++ 233 ∷ codes "/") ≡ Ok (token (pattern (codes "\\u00e9") []) (at 1 1) ∷ [])
unfolding tokens_from piece_at pattern_at literal_of
kept_by_number = refl

pub escape_is_kept_by_number : tokens_of (codes "/\\" ++ 233 ∷ codes "/") ≡ Ok (token (pattern (codes "\\u00e9") []) (at 1 1) ∷ [])
unfolding tokens_from piece_at pattern_at literal_of
escape_is_kept_by_number = refl

-- it has an end on its line, which is looked for before its body is read
pub literal_without_end : tokens_of (codes "x = /(?=a)") ≡ Err (BadToken, at 1 5)
unfolding tokens_from piece_at pattern_at literal_of
literal_without_end = refl

pub line_in_literal : tokens_of (codes "/a\\" ++ 10 ∷ codes "/") ≡ Err (BadToken, at 1 1)
unfolding tokens_from piece_at pattern_at literal_of
line_in_literal = refl

-- refused where the pattern is
pub look_ahead : tokens_of (codes "var x = /(?=a)/;") ≡ Err (Unsupported, at 1 9)
unfolding tokens_from piece_at pattern_at literal_of
look_ahead = refl

pub range_backwards : tokens_of (codes "/[b-a]/") ≡ Err (BadToken, at 1 1)
unfolding tokens_from piece_at pattern_at literal_of
range_backwards = refl

pub flag_twice : tokens_of (codes "/a/gg") ≡ Err (BadToken, at 1 1)
unfolding tokens_from piece_at pattern_at literal_of
flag_twice = refl
