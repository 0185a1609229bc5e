-- Tokens written one part after another, and the spelling of reserved words.
use Rattle.std.proofs.Common.{false, ◌≡◌, ℕ, List, [], ◌∷◌, ◌++◌, refl}
use Rattle.js_tree.specs.declared.token.Token.{Token}
use Rattle.utf16_text.specs.Escape.{escaped}
use Rattle.js_tree.specs.declared.keyword.Keyword.{Keyword}
use Rattle.js_tree.specs.declared.keyword.Keyword.TheVariants as word
use Rattle.js_grammar.specs.Words.{keyword_spelling}
use Rattle.js_grammar.specs.Spelling.{spelling}
use Rattle.js_printer.specs.Written.{written}

-- one part after another
pub written_append : (out : List ℕ) (xs ys : List Token) → written out (xs ++ ys) ≡ written (written out xs) ys
unfolding written
written_append out [] ys = refl
written_append out (x ∷ xs) ys = written_append (out ++ (spelling x.kind ++ 32 ∷ [])) xs ys

-- a reserved word is its own escape
pub keyword_escaped : (k : Keyword) → escaped false (keyword_spelling k) ≡ keyword_spelling k
keyword_escaped word.Break = refl
keyword_escaped word.Case = refl
keyword_escaped word.Catch = refl
keyword_escaped word.Class = refl
keyword_escaped word.Const = refl
keyword_escaped word.Continue = refl
keyword_escaped word.Debugger = refl
keyword_escaped word.Default = refl
keyword_escaped word.Delete = refl
keyword_escaped word.Do = refl
keyword_escaped word.Else = refl
keyword_escaped word.Enum = refl
keyword_escaped word.Export = refl
keyword_escaped word.Extends = refl
keyword_escaped word.False = refl
keyword_escaped word.Finally = refl
keyword_escaped word.For = refl
keyword_escaped word.Function = refl
keyword_escaped word.If = refl
keyword_escaped word.Import = refl
keyword_escaped word.In = refl
keyword_escaped word.InstanceOf = refl
keyword_escaped word.New = refl
keyword_escaped word.Null = refl
keyword_escaped word.Return = refl
keyword_escaped word.Super = refl
keyword_escaped word.Switch = refl
keyword_escaped word.This = refl
keyword_escaped word.Throw = refl
keyword_escaped word.True = refl
keyword_escaped word.Try = refl
keyword_escaped word.TypeOf = refl
keyword_escaped word.Var = refl
keyword_escaped word.Void = refl
keyword_escaped word.While = refl
keyword_escaped word.With = refl
