-- The objects that the table gives: that names differ, how many objects there are, and that each prototype is older.
use Rattle.std.proofs.Common.{◌≡◌, ℕ, ◌<◌, ◌≤◌, ◌+◌, ◌-◌, zero, suc, Bool, true, get_or, List, [], ◌∷◌, ◌++◌, Option, Some, None, IfSome, is_none, slice_get, length, length-append, append_assoc, map, refl, ap, sym, subst, ◌∙◌, arith}
use Rattle.std.specs.List.{list_all}
use Rattle.std.proofs.lemmas.Bool.{and_parts}
use Rattle.std.proofs.lemmas.Bool.Decides.{nat_tests}
use Rattle.std.proofs.lemmas.List.{append-nil, length-map, map-append}
use Rattle.heap_values.specs.declared.ids.ObjectId.{ObjectId}
use Rattle.heap_values.specs.declared.property.Property.{Property}
use Rattle.heap_values.specs.Views.{ObjectView}
use Rattle.heap_elements.specs.Properties.{property_at}
use Rattle.heap_elements.specs.Places.{NamesDiffer}
use Rattle.heap_objects.specs.TableRows.{Row, entries_of}
use Rattle.object_heap.specs.Fresh.{TableObject, object_of, native_object, natives_from, names_differ, is_below, are_ordered, roots, prototypes, constructors, filled_objects, built_in_objects}
use Rattle.object_heap.specs.declared.table.TheConstants.{FIRST_NATIVE, NATIVES, OBJECTS_MORE}
use Rattle.object_heap.specs.Heap.{prototype_in, PrototypesAreOlder}
use Rattle.object_heap.proofs.OlderLemmas.{older-append}

-- what all elements pass, each does
pub all_at : {X : Type 0} (p : X → Bool) (xs : List X) (i : ℕ) (d : X) → i < length xs → list_all p xs ≡ true → p (get_or xs i d) ≡ true
all_at p [] i d below all = absurd (omega arith)
all_at p (x ∷ xs) zero d below all = (and_parts _ _ all).0
all_at p (x ∷ xs) (suc i) d below all = all_at p xs i d (omega arith) (and_parts _ _ all).1

none_from : (o : Option Property) → is_none o ≡ true → o ≡ None
none_from None h = refl
none_from (Some p) h = absurd (cc)

pub NamesDiffer-rows : (rows : List Row) → names_differ rows ≡ true → NamesDiffer (entries_of rows)
NamesDiffer-rows [] h = tt
NamesDiffer-rows (row ∷ rows) h = (none_from (property_at (entries_of rows) row.0) (and_parts _ _ h).0, NamesDiffer-rows rows (and_parts _ _ h).1)

pub length-natives_from : (number count : ℕ) → length (natives_from number count) ≡ count
length-natives_from number zero = refl
length-natives_from number (suc count) = ap (λ n. suc n) (length-natives_from (number + 1) count)

-- the first of some natives
pub natives_from-first : (from to : ℕ) → from < to → natives_from from (to - from) ≡ native_object from ∷ natives_from (from + 1) (to - (from + 1))
natives_from-first from to below =
    let count : to - from ≡ suc (to - (from + 1)) = omega arith in
    ap (natives_from from) count

is_below-true : (p : Option ObjectId) (at : ℕ) → is_below p at ≡ true → IfSome p (λ q. q.0 < at)
is_below-true None at h = tt
is_below-true (Some p) at h = grind (arith, nat_tests)

older_from : (first : ℕ) (objects : List TableObject) → are_ordered first objects ≡ true → (at : ℕ)
    → IfSome (prototype_in (slice_get (map object_of objects) at)) (λ p. p.0 < first + at)
older_from first [] ordered at = tt
older_from first (object ∷ objects) ordered zero =
    let place : first ≡ first + 0 = omega arith in
    subst (λ (n : ℕ). IfSome object.0.prototype (λ p. p.0 < n)) place (is_below-true object.0.prototype first (and_parts _ _ ordered).0)
older_from first (object ∷ objects) ordered (suc at) =
    let place : suc first + at ≡ first + suc at = omega arith in
    subst (λ (n : ℕ). IfSome (prototype_in (slice_get (map object_of objects) at)) (λ p. p.0 < n)) place (older_from (suc first) objects (and_parts _ _ ordered).1 at)

-- objects in order
pub older-objects : (objects : List TableObject) → are_ordered 0 objects ≡ true → PrototypesAreOlder (map object_of objects)
older-objects objects ordered at =
    let place : 0 + at ≡ at = omega arith in
    subst (λ (n : ℕ). IfSome (prototype_in (slice_get (map object_of objects) at)) (λ p. p.0 < n)) place (older_from 0 objects ordered at)

-- natives behind objects of which Function.prototype is one
pub older-natives : (number count : ℕ) (objects : List ObjectView) → 1 < length objects → PrototypesAreOlder objects → PrototypesAreOlder (objects ++ natives_from number count)
older-natives number zero objects many older = subst PrototypesAreOlder (sym (append-nil objects)) older
older-natives number (suc count) objects many older =
    let native = native_object number in
    let more : 1 < length (objects ++ native ∷ []) = omega (arith, length-append objects (native ∷ [])) in
    subst PrototypesAreOlder (append_assoc objects (native ∷ []) (natives_from (number + 1) count))
    (older-natives (number + 1) count (objects ++ native ∷ []) more (older-append objects native many older))

-- the whole table
abbrev pub table : List TableObject
table = (roots ++ prototypes) ++ constructors

pub objects_of-parts : (map object_of roots ++ map object_of prototypes) ++ map object_of constructors ≡ map object_of table
objects_of-parts =
    sym (map-append object_of (roots ++ prototypes) constructors ∙ ap (λ os. os ++ map object_of constructors) (map-append object_of roots prototypes))

pub filled_from-table : filled_objects table ≡ map object_of table ++ natives_from FIRST_NATIVE (NATIVES - FIRST_NATIVE)
unfolding filled_objects
filled_from-table = refl

pub built_in-table : filled_objects table ≡ built_in_objects
unfolding built_in_objects roots prototypes constructors
built_in-table = refl

table-ordered : are_ordered 0 table ≡ true
unfolding roots prototypes constructors
table-ordered = refl

-- the first native without a name stands behind it
length-table : length table ≡ FIRST_NATIVE + OBJECTS_MORE
unfolding roots prototypes constructors
length-table = refl

-- the objects that the table gives
pub older-table : PrototypesAreOlder (map object_of table ++ natives_from FIRST_NATIVE (NATIVES - FIRST_NATIVE))
older-table =
    let many : 1 < length (map object_of table) = omega (arith, length-map table object_of, length-table) in
    older-natives FIRST_NATIVE (NATIVES - FIRST_NATIVE) (map object_of table) many (older-objects table table-ordered)

pub few-objects : length (map object_of table ++ natives_from FIRST_NATIVE (NATIVES - FIRST_NATIVE)) ≤ 1000
few-objects =
    omega (
      arith,
      length-append (map object_of table) (natives_from FIRST_NATIVE (NATIVES - FIRST_NATIVE)),
      length-map table object_of,
      length-table,
      length-natives_from FIRST_NATIVE (NATIVES - FIRST_NATIVE),
    )
