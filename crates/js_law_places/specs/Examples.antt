-- Worked examples of placeless tokens, by computation alone.
use Rattle.std.specs.Prelude.{◌≡◌, [], ◌∷◌, codes, refl}
use Rattle.js_tree.specs.declared.token.TokenKind.TheVariants.{Word}
use Rattle.js_grammar.specs.TokenExamples.{at, token, token_on_new_line}
use Rattle.js_grammar.specs.Printing.{nowhere}
use Rattle.js_law_places.specs.Placeless.{placeless}

-- `a` and `b` on the next line: a line's end is no place, and stays
pub two_lines : placeless (token (Word (codes "a")) (at 1 1) ∷ token_on_new_line (Word (codes "b")) (at 2 1) ∷ [])
    ≡ token (Word (codes "a")) nowhere ∷ token_on_new_line (Word (codes "b")) nowhere ∷ []
two_lines = refl
