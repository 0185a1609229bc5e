-- What reading gives: a value and the units behind it, or the first refusal.
use Rattle.std.specs.Prelude.{◌≡◌, ℕ, List, Option, Some, None, Result, Ok, Err}
use denote.Ref.{Bor}
use Rattle.js_pattern_reader.specs.declared.answer.PatternAnswer.{PatternAnswer}
use Rattle.js_pattern_reader.specs.declared.answer.PatternAnswer.TheVariants as answer

-- a reader of units
abbrev pub Read : Type 0 → Type 0
Read A = List ℕ → Result (A × List ℕ) PatternAnswer

abbrev pub bad : {A : Type 0} → Result A PatternAnswer
bad = Err answer.Bad

abbrev pub unsupported : {A : Type 0} → Result A PatternAnswer
unsupported = Err answer.Unsupported

-- one step after another, up to the first that is refused
infixl 10 ◌>>=◌
abbrev pub ◌>>=◌ : {A B E : Type 0} → Result A E → (A → Result B E) → Result B E
(Ok x) >>= f = f x
(Err e) >>= f = Err e

-- an answer is what reading gives, unless memory ran out
abbrev pub Fails : {Y : Type 0} → PatternAnswer → Result Y PatternAnswer → Type 0
Fails answer.Memory read = Unit {0}
Fails answer.Bad read = read ≡ Err answer.Bad
Fails answer.Unsupported read = read ≡ Err answer.Unsupported

-- what a call returned, seen by view, is what reading gives, unless memory ran out
abbrev pub Gives : {X Y : Type 0} → (X → Y) → Result X PatternAnswer → Result Y PatternAnswer → Type 0
Gives view (Ok x) read = read ≡ Ok (view x)
Gives view (Err e) read = Fails e read

abbrev pub Reads : {A : Type 0} → Result (A × List ℕ) PatternAnswer → Result (A × Bor (List ℕ)) PatternAnswer → Type 0
Reads read r = Gives (λ x. (x.0, x.1.now)) r read

-- a value and the units behind it, where there are such
abbrev pub seen : {A : Type 0} → Option (A × Bor (List ℕ)) → Option (A × List ℕ)
seen None = None
seen (Some x) = Some (x.0, x.1.now)

abbrev pub seen_units : Option (Bor (List ℕ)) → Option (List ℕ)
seen_units None = None
seen_units (Some x) = Some x.now
