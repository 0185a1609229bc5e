-- What a call that reads tokens returned: what its reader gives, with the tokens behind it, unless memory ran out.
use Rattle.std.specs.Prelude.{◌≡◌, List, ◌++◌, Result, Ok, Err}
use denote.Ref.{Bor}
use Rattle.js_tree.specs.declared.token.Token.{Token}
use Rattle.js_tree.specs.declared.refusal.ReadAnswer.{ReadAnswer}
use Rattle.js_grammar.specs.Reading.{Refusal, ◌>>=◌, Fails}

abbrev pub Reads : {A : Type 0} → Result (A × List Token) Refusal → Result (A × Bor (List Token)) ReadAnswer → Type 0
Reads read (Ok x) = read ≡ Ok (x.0, x.1.now)
Reads read (Err e) = Fails e read

-- what was read before, and what is still read
abbrev pub with_front : {A : Type 0} → List A → Result (List A × List Token) Refusal → Result (List A × List Token) Refusal
with_front front read = read >>= λ x. Ok (front ++ x.0, x.1)
