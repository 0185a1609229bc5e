-- Each sign's spelling is read as that sign.
use Rattle.std.proofs.Common.{◌≡◌, ℕ, List, ◌∷◌, ◌++◌, length, Some, Ok, Bool, true, refl}
use Rattle.std.specs.List.{list_all}
use Rattle.js_tree.specs.declared.sign.Sign.{Sign}
use Rattle.js_tree.specs.declared.sign.Sign.TheVariants as sign
use Rattle.js_tree.specs.declared.token.TokenKind.TheVariants as token
use Rattle.js_grammar.specs.Units.{first_passes}
use Rattle.js_grammar.specs.Signs.{sign_spelling}
use Rattle.js_grammar.specs.Tokens.{piece_at}
use Rattle.js_law_spelling.specs.Laws.{needs_value}
use Rattle.js_law_spelling.proofs.Units.{is_shown, is_printed}

-- what reading gives at a sign with this unit behind it
abbrev ReadsSign : ℕ → Bool → Sign → List ℕ → Type 0
ReadsSign gap dividing s rest = piece_at dividing (sign_spelling s ++ gap ∷ rest) ≡ Ok (Some (token.Sign s), length (sign_spelling s))

pub sign_at_space : (dividing : Bool) (s : Sign) (rest : List ℕ) → (needs_value (token.Sign s) ≡ true → dividing ≡ true) → ReadsSign 32 dividing s rest
unfolding piece_at
sign_at_space dividing sign.Slash rest h = rw (h refl) refl
sign_at_space dividing sign.SlashAssign rest h = rw (h refl) refl
sign_at_space dividing _ rest h = refl

pub sign_at_feed : (dividing : Bool) (s : Sign) (rest : List ℕ) → (needs_value (token.Sign s) ≡ true → dividing ≡ true) → ReadsSign 10 dividing s rest
unfolding piece_at
sign_at_feed dividing sign.Slash rest h = rw (h refl) refl
sign_at_feed dividing sign.SlashAssign rest h = rw (h refl) refl
sign_at_feed dividing _ rest h = refl

pub sign_begins : (s : Sign) → first_passes is_shown (sign_spelling s) ≡ true
sign_begins sign.Dot = refl
sign_begins _ = refl

pub sign_printed : (s : Sign) → list_all is_printed (sign_spelling s) ≡ true
sign_printed sign.Dot = refl
sign_printed _ = refl
