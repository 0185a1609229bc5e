-- Worked examples of look-ups and writes, each by computation.
use Rattle.std.specs.Prelude.{◌≡◌, pos, [], ◌∷◌, Some, None, codes, refl}
use Rattle.heap_values.specs.declared.value.Value.TheVariants.{Number}
use Rattle.js_law_names.specs.LookUps.{Environment, no_scope, a_scope, own_scope, look_up}
use Rattle.js_law_names.specs.Writes.{holder, written}

-- a scope with `x` and `y`, and one around it with `y` and `z`
abbrev two_scopes : Environment
two_scopes =
    a_scope (record { 0 = 2 }) ((codes "x", Number (pos 1)) ∷ (codes "y", Number (pos 2)) ∷ [])
    (a_scope (record { 0 = 1 }) ((codes "y", Number (pos 3)) ∷ (codes "z", Number (pos 4)) ∷ []) no_scope)

-- the inner one counts
pub shadowed : look_up (codes "y") two_scopes ≡ Some (Number (pos 2))
shadowed = refl

pub further_out : look_up (codes "z") two_scopes ≡ Some (Number (pos 4))
further_out = refl

-- the name is the global object's, or stands for nothing
pub nowhere : look_up (codes "w") two_scopes ≡ None
nowhere = refl

-- a write to `z` goes to the scope around, and one to `y` to the inner one
pub holds_z : holder (codes "z") two_scopes ≡ Some (record { 0 = 1 })
holds_z = refl

pub writes_y : written (record { 0 = 2 }) (codes "y") (Number (pos 9)) two_scopes ≡
    a_scope (record { 0 = 2 }) ((codes "x", Number (pos 1)) ∷ (codes "y", Number (pos 9)) ∷ [])
    (a_scope (record { 0 = 1 }) ((codes "y", Number (pos 3)) ∷ (codes "z", Number (pos 4)) ∷ []) no_scope)
writes_y = refl

-- the own name of a function expression hides what is further out, and keeps its value
abbrev own_name : Environment
own_name = own_scope (record { 0 = 3 }) (codes "z", Number (pos 5)) two_scopes

pub own_found : look_up (codes "z") own_name ≡ Some (Number (pos 5))
own_found = refl

pub own_holds : holder (codes "z") own_name ≡ Some (record { 0 = 3 })
own_holds = refl

pub own_stays : written (record { 0 = 3 }) (codes "z") (Number (pos 9)) own_name ≡ own_name
own_stays = refl
