-- The signs (ECMA-262 5.1, section 7.7).
use Rattle.std.specs.Prelude.{ℕ, List, [], ◌∷◌, Option, codes, nat_eq, length, find}
use Rattle.std.specs.Option.{option_map}
use Rattle.std.specs.List.{starts_with}
use Rattle.js_tree.specs.declared.sign.Sign.{Sign}
use Rattle.js_tree.specs.declared.sign.Sign.TheVariants as sign

abbrev pub sign_spelling : Sign → List ℕ
sign_spelling sign.LeftBrace = codes "{"
sign_spelling sign.RightBrace = codes "}"
sign_spelling sign.LeftParenthesis = codes "("
sign_spelling sign.RightParenthesis = codes ")"
sign_spelling sign.LeftBracket = codes "["
sign_spelling sign.RightBracket = codes "]"
sign_spelling sign.Dot = codes "."
sign_spelling sign.Semicolon = codes ";"
sign_spelling sign.Comma = codes ","
sign_spelling sign.Less = codes "<"
sign_spelling sign.Greater = codes ">"
sign_spelling sign.LessEqual = codes "<="
sign_spelling sign.GreaterEqual = codes ">="
sign_spelling sign.Equal = codes "=="
sign_spelling sign.NotEqual = codes "!="
sign_spelling sign.StrictEqual = codes "==="
sign_spelling sign.StrictNotEqual = codes "!=="
sign_spelling sign.Plus = codes "+"
sign_spelling sign.Minus = codes "-"
sign_spelling sign.Star = codes "*"
sign_spelling sign.Slash = codes "/"
sign_spelling sign.Percent = codes "%"
sign_spelling sign.PlusPlus = codes "++"
sign_spelling sign.MinusMinus = codes "--"
sign_spelling sign.ShiftLeft = codes "<<"
sign_spelling sign.ShiftRight = codes ">>"
sign_spelling sign.UnsignedShiftRight = codes ">>>"
sign_spelling sign.Ampersand = codes "&"
sign_spelling sign.Bar = codes "|"
sign_spelling sign.Caret = codes "^"
sign_spelling sign.Exclamation = codes "!"
sign_spelling sign.Tilde = codes "~"
sign_spelling sign.AndAnd = codes "&&"
sign_spelling sign.OrOr = codes "||"
sign_spelling sign.Question = codes "?"
sign_spelling sign.Colon = codes ":"
sign_spelling sign.Assign = codes "="
sign_spelling sign.PlusAssign = codes "+="
sign_spelling sign.MinusAssign = codes "-="
sign_spelling sign.StarAssign = codes "*="
sign_spelling sign.SlashAssign = codes "/="
sign_spelling sign.PercentAssign = codes "%="
sign_spelling sign.ShiftLeftAssign = codes "<<="
sign_spelling sign.ShiftRightAssign = codes ">>="
sign_spelling sign.UnsignedShiftRightAssign = codes ">>>="
sign_spelling sign.AmpersandAssign = codes "&="
sign_spelling sign.BarAssign = codes "|="
sign_spelling sign.CaretAssign = codes "^="

-- the longer ones first
abbrev pub signs : List Sign
signs =
    sign.UnsignedShiftRightAssign ∷ sign.StrictEqual ∷ sign.StrictNotEqual ∷ sign.UnsignedShiftRight ∷
    sign.ShiftLeftAssign ∷ sign.ShiftRightAssign ∷ sign.LessEqual ∷ sign.GreaterEqual ∷ sign.Equal ∷
    sign.NotEqual ∷ sign.PlusPlus ∷ sign.MinusMinus ∷ sign.ShiftLeft ∷ sign.ShiftRight ∷ sign.AndAnd ∷
    sign.OrOr ∷ sign.PlusAssign ∷ sign.MinusAssign ∷ sign.StarAssign ∷ sign.SlashAssign ∷ sign.PercentAssign ∷
    sign.AmpersandAssign ∷ sign.BarAssign ∷ sign.CaretAssign ∷ sign.LeftBrace ∷ sign.RightBrace ∷
    sign.LeftParenthesis ∷ sign.RightParenthesis ∷ sign.LeftBracket ∷ sign.RightBracket ∷ sign.Dot ∷
    sign.Semicolon ∷ sign.Comma ∷ sign.Less ∷ sign.Greater ∷ sign.Plus ∷ sign.Minus ∷ sign.Star ∷ sign.Slash ∷
    sign.Percent ∷ sign.Ampersand ∷ sign.Bar ∷ sign.Caret ∷ sign.Exclamation ∷ sign.Tilde ∷ sign.Question ∷
    sign.Colon ∷ sign.Assign ∷ []

-- the longest sign at the front, and how many units it has
abbrev pub sign_at : List ℕ → Option (Sign × ℕ)
sign_at us = option_map (λ s. (s, length (sign_spelling s))) (find (λ s. starts_with nat_eq us (sign_spelling s)) signs)
