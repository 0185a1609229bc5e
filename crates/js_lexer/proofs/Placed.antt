-- Refusals that are given a place.
use Rattle.std.proofs.Common.{◌≡◌, Result, Ok, Err, refl}
use Rattle.js_tree.specs.declared.place.Place.{Place}
use Rattle.js_tree.specs.declared.refusal.ReadKind.{ReadKind}
use Rattle.js_tree.specs.declared.refusal.ReadAnswer.{ReadAnswer}
use Rattle.js_tree.specs.declared.refusal.ReadAnswer.TheVariants as answers
use Rattle.js_grammar.specs.Reading.{Fails}
use Rattle.js_grammar.specs.Tokens.{at_place}

pub at_place-ok : {A : Type 0} (place : Place) (r : Result A ReadKind) (x : A) → at_place place r ≡ Ok x → r ≡ Ok x
at_place-ok place (Ok y) x h = cc
at_place-ok place (Err kind) x h = cc

-- what fails with each kind of a part fails where the part does
pub fails_with : {A B : Type 0} (e : ReadAnswer) (place : Place) (part : Result A ReadKind) (whole : Result B ReadKind)
    → ((kind : ReadKind) → part ≡ Err kind → whole ≡ Err kind) → Fails e (at_place place part) → Fails e (at_place place whole)
fails_with answers.Memory place part whole along h = tt
fails_with (answers.Refused kind at) place (Ok x) whole along h = cc
fails_with (answers.Refused kind at) place (Err k) whole along h = rw (along k refl) (cc)
