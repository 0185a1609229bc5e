-- The place of the unit behind one is where `place_after` goes on from (ECMA-262 5.1, section 7.3).
use Rattle.std.proofs.Common.{◌≡◌, ℕ, ◌+◌, List, ◌∷◌, refl, ap, ◌∙◌}
use Rattle.std.specs.Prelude.{Bool, true, false, ◌&&◌, nat_eq, if◌then◌else◌}
use Rattle.utf16_text.specs.Letters.{is_break_unit}
use Rattle.js_tree.specs.declared.place.Place.{Place}
use Rattle.js_grammar.specs.Units.{place_after}
use Rattle.js_forms.specs.Places.{begins_line_feed, next_place}

of_choice : {A B : Type 0} (f : A → B) (b : Bool) (x y : A) → (if b then f x else f y) ≡ f (if b then x else y)
of_choice f true x y = refl
of_choice f false x y = refl

pub counted_on : (p : Place) (u : ℕ) (us : List ℕ) → place_after p (u ∷ us) ≡ place_after (next_place p u us) us
counted_on p u us =
    let after : Place → Place = λ q. place_after q us in
    let both : Bool = nat_eq u 13 && begins_line_feed us in
    let new_line : Place = record { line = p.line + 1; column = 1 } in
    let same_line : Place = record { line = p.line; column = p.column + 1 } in
    ap (λ (q : Place). if both then after p else q) (of_choice after (is_break_unit u) new_line same_line)
    ∙ of_choice after both p (if is_break_unit u then new_line else same_line)
