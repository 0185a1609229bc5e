-- Worked examples of the definitions, each by computation alone.
use Rattle.std.specs.Prelude.{◌≡◌, ℕ, [], ◌∷◌, ◌++◌, codes, refl}
use Rattle.std.specs.Fmt.{digits}
use Rattle.js_tree.specs.declared.place.Place.{Place}
use Rattle.js_tree.specs.declared.refusal.ReadKind.TheVariants as kind
use Rattle.js_forms.specs.declared.forms.TheConstants.{OTHERWISE, ENDED}
use Rattle.js_forms.specs.Places.{first_place, units_before}
use Rattle.js_forms.specs.Pieces.{first_piece, last_piece}
use Rattle.js_forms.specs.Forms.{forms, advice_on, refusal_line}

abbrev at : ℕ → ℕ → Place
at line column = record { line = line; column = column }

-- `a`, carriage return, line feed, `b`: the second line begins behind both
pub behind_both : units_before (at 2 1) first_place (97 ∷ 13 ∷ 10 ∷ 98 ∷ []) ≡ 3
behind_both = refl

-- a line feed and a carriage return end a line each
pub two_lines : units_before (at 3 1) first_place (97 ∷ 10 ∷ 13 ∷ 98 ∷ []) ≡ 3
two_lines = refl

pub a_word : first_piece (codes "let2 = 1") ≡ codes "let2"
a_word = refl

pub a_digit : first_piece (codes "08") ≡ codes "0"
a_digit = refl

pub a_word_behind : last_piece (codes "var x; catch") ≡ codes "catch"
a_word_behind = refl

pub a_sign_behind : last_piece (codes "x =") ≡ codes "="
a_sign_behind = refl

-- `let x;` is refused at `x`; a name that ends so is no `let`
pub let_declares : advice_on kind.Unexpected (at 1 5) (codes "let x;") ≡ codes "there is no let; write var"
unfolding forms
let_declares = refl

pub no_let : advice_on kind.Unexpected (at 1 8) (codes "outlet x;") ≡ OTHERWISE.now
unfolding forms
no_let = refl

-- `f(x => 1);` is refused at `>`
pub arrow : advice_on kind.Unexpected (at 1 6) (codes "f(x => 1);") ≡ codes "there are no arrow functions; write function (x) { return ..; }"
unfolding forms
arrow = refl

pub constant : advice_on kind.Unsupported (at 2 2) (10 ∷ codes " const x = 1;") ≡ codes "there is no const; write var"
unfolding forms
constant = refl

-- a regular expression that isn't read is refused at its slash
pub look_ahead : advice_on kind.Unsupported (at 1 9) (codes "var x = /(?=a)/;") ≡ codes "a regular expression has no look-ahead here, no \\c, no octal escape, no letter behind \\ that means nothing, at most 20 groups, and counts to 1000; write it with other parts"
unfolding forms
look_ahead = refl

-- what is no other form that is left out is a label
pub label : advice_on kind.Unsupported (at 1 1) (codes "hosts: f();") ≡ codes "there are no labels; write the inner loop as a function, and return"
unfolding forms
label = refl

pub bracket : advice_on kind.Unexpected (at 1 4) (codes "f((") ≡ ENDED.now
unfolding forms
bracket = refl

pub fraction_line : refusal_line (kind.FractionLiteral, at 1 5) (codes "x = 1.5;")
    ≡ codes "1:5: FractionLiteral: numbers are whole; write a smaller unit, as minutes in place of hours" ++ 10 ∷ []
unfolding forms digits
fraction_line = refl
