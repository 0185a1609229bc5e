-- What reading gives: a value, or the first refusal with its place.
use Rattle.std.specs.Prelude.{◌≡◌, Result, Ok, Err}
use Rattle.js_tree.specs.declared.place.Place.{Place}
use Rattle.js_tree.specs.declared.refusal.ReadKind.{ReadKind}
use Rattle.js_tree.specs.declared.refusal.ReadAnswer.{ReadAnswer}
use Rattle.js_tree.specs.declared.refusal.ReadAnswer.TheVariants as answers

-- what is wrong, and where
abbrev pub Refusal : Type 0
Refusal = ReadKind × Place

-- one step after another, up to the first that is refused
infixl 10 ◌>>=◌
abbrev pub ◌>>=◌ : {A B E : Type 0} → Result A E → (A → Result B E) → Result B E
(Ok x) >>= f = f x
(Err e) >>= f = Err e

-- An answer is what reading gives, unless memory ran out.
abbrev pub Fails : {Y : Type 0} → ReadAnswer → Result Y Refusal → Type 0
Fails answers.Memory read = Unit {0}
Fails (answers.Refused kind place) read = read ≡ Err (kind, place)

-- What a call returned, seen by view, is what reading gives, unless memory ran out.
abbrev pub Gives : {X Y : Type 0} → (X → Y) → Result X ReadAnswer → Result Y Refusal → Type 0
Gives view (Ok x) read = read ≡ Ok (view x)
Gives view (Err e) read = Fails e read
