-- Words and the reserved ones among them (ECMA-262 5.1, sections 7.6 and 7.6.1).
use Rattle.std.specs.Prelude.{ℕ, List, [], ◌∷◌, Option, Bool, codes, nat_eq, find}
use Rattle.std.specs.Cmp.Lexicographic.{pointwise}
use Rattle.js_tree.specs.declared.keyword.Keyword.{Keyword}
use Rattle.js_tree.specs.declared.keyword.Keyword.TheVariants as word

-- whether two texts are unit for unit the same
abbrev pub same : List ℕ → List ℕ → Bool
same = pointwise nat_eq

abbrev pub keyword_spelling : Keyword → List ℕ
keyword_spelling word.Break = codes "break"
keyword_spelling word.Case = codes "case"
keyword_spelling word.Catch = codes "catch"
keyword_spelling word.Class = codes "class"
keyword_spelling word.Const = codes "const"
keyword_spelling word.Continue = codes "continue"
keyword_spelling word.Debugger = codes "debugger"
keyword_spelling word.Default = codes "default"
keyword_spelling word.Delete = codes "delete"
keyword_spelling word.Do = codes "do"
keyword_spelling word.Else = codes "else"
keyword_spelling word.Enum = codes "enum"
keyword_spelling word.Export = codes "export"
keyword_spelling word.Extends = codes "extends"
keyword_spelling word.False = codes "false"
keyword_spelling word.Finally = codes "finally"
keyword_spelling word.For = codes "for"
keyword_spelling word.Function = codes "function"
keyword_spelling word.If = codes "if"
keyword_spelling word.Import = codes "import"
keyword_spelling word.In = codes "in"
keyword_spelling word.InstanceOf = codes "instanceof"
keyword_spelling word.New = codes "new"
keyword_spelling word.Null = codes "null"
keyword_spelling word.Return = codes "return"
keyword_spelling word.Super = codes "super"
keyword_spelling word.Switch = codes "switch"
keyword_spelling word.This = codes "this"
keyword_spelling word.Throw = codes "throw"
keyword_spelling word.True = codes "true"
keyword_spelling word.Try = codes "try"
keyword_spelling word.TypeOf = codes "typeof"
keyword_spelling word.Var = codes "var"
keyword_spelling word.Void = codes "void"
keyword_spelling word.While = codes "while"
keyword_spelling word.With = codes "with"

abbrev pub keywords : List Keyword
keywords =
    word.Break ∷ word.Case ∷ word.Catch ∷ word.Class ∷ word.Const ∷ word.Continue ∷ word.Debugger ∷
    word.Default ∷ word.Delete ∷ word.Do ∷ word.Else ∷ word.Enum ∷ word.Export ∷ word.Extends ∷ word.False ∷
    word.Finally ∷ word.For ∷ word.Function ∷ word.If ∷ word.Import ∷ word.In ∷ word.InstanceOf ∷ word.New ∷
    word.Null ∷ word.Return ∷ word.Super ∷ word.Switch ∷ word.This ∷ word.Throw ∷ word.True ∷ word.Try ∷
    word.TypeOf ∷ word.Var ∷ word.Void ∷ word.While ∷ word.With ∷ []

-- the reserved word that a word is, or none
abbrev pub keyword_of : List ℕ → Option Keyword
keyword_of w = find (λ k. same w (keyword_spelling k)) keywords
