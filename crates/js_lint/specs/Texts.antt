-- Texts that can't be meant: patterns, nets, and schemes of URLs.
use Rattle.std.specs.Prelude.{ℕ, Bool, true, false, ◌&&◌, ◌||◌, ◌==◌, not, List, [], ◌∷◌, codes, bytes_eq, drop, take, is_none, Option, Some, None, if◌then◌else◌}
use Rattle.std.specs.List.{list_any, list_all, prefix_len}
use Rattle.utf16_text.specs.Letters.{is_between}
use Rattle.utf16_text.specs.Digits.{is_digit}
use Rattle.pac_names.specs.Quads.{quad_of}
use Rattle.js_lint.specs.declared.advice.Advice.{Advice}
use Rattle.js_lint.specs.declared.advice.Advice.TheVariants as advice

-- ---- patterns (LANGUAGE.md, "Functions of the proxy format"): `*` and `?` alone are special

-- `(`, `|` and `[`, which are special in regular expressions
abbrev pub is_choice_sign : ℕ → Bool
is_choice_sign u = u == 40 || (u == 124 || u == 91)

abbrev pub pattern_advice : List ℕ → Option Advice
pattern_advice t = if list_any is_choice_sign t then Some advice.Pattern else None

-- ---- nets: address and mask are dotted quads

abbrev pub quad_advice : List ℕ → Option Advice
quad_advice t = if is_none (quad_of t) then Some advice.Quad else None

-- ---- prefixes: an address, `/` and a length

abbrev pub is_slash : ℕ → Bool
is_slash u = u == 47

-- A text without a `/` has no length, so it is no prefix.
abbrev pub prefix_advice : List ℕ → Option Advice
prefix_advice t = if not (list_any is_slash t) then Some advice.Prefix else None

-- ---- what is handed to a function: by its name and the number of the argument, counted from 0

abbrev pub handed_advice : List ℕ → ℕ → List ℕ → Option Advice
handed_advice f n t =
    if bytes_eq f (codes "shExpMatch") && n == 1 then pattern_advice t
    else if bytes_eq f (codes "isInNet") && (n == 1 || n == 2) then quad_advice t
    else if bytes_eq f (codes "isInNetEx") && n == 1 then prefix_advice t
    else None

-- ---- schemes (RFC 3986, section 3.1): a letter, and then letters, digits, `+`, `-` and `.`

abbrev pub is_letter : ℕ → Bool
is_letter u = is_between 65 90 u || is_between 97 122 u

abbrev pub is_scheme_unit : ℕ → Bool
is_scheme_unit u = is_letter u || (is_digit u || (u == 43 || (u == 45 || u == 46)))

abbrev pub is_scheme : List ℕ → Bool
is_scheme [] = false
is_scheme (u ∷ us) = is_letter u && list_all is_scheme_unit us

-- those of the URLs that scripts are asked about: what browsers hand to one, in the spelling of the URL Standard
abbrev pub is_asked : List ℕ → Bool
is_asked s =
    bytes_eq s (codes "http") || (bytes_eq s (codes "https") || (bytes_eq s (codes "ws") || (bytes_eq s (codes "wss") || bytes_eq s (codes "ftp"))))

-- how many units stand before the first `:`
abbrev pub scheme_length : List ℕ → ℕ
scheme_length t = prefix_len (λ u. not (u == 58)) t

-- nothing, `/` or `*`: so goes a text on that tests the front of a URL
abbrev pub goes_on : List ℕ → Bool
goes_on [] = true
goes_on (u ∷ us) = u == 47 || u == 42

-- whether `:` stands there, and the test of a front goes on behind it
abbrev pub tests_front : List ℕ → Bool
tests_front [] = false
tests_front (u ∷ us) = u == 58 && goes_on us

-- whether a text tests a URL for a scheme that no URL has
abbrev pub is_unasked : List ℕ → Bool
is_unasked t =
    let n = scheme_length t in
    tests_front (drop n t) && (is_scheme (take n t) && not (is_asked (take n t)))

-- what stands beside the name `url`
abbrev pub beside_advice : List ℕ → List ℕ → Option Advice
beside_advice x t = if bytes_eq x (codes "url") && is_unasked t then Some advice.Scheme else None
