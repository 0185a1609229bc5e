-- What the tables of findings say of the names of the built-in objects, and what these themselves say.
use Rattle.std.specs.Prelude.{◌≡◌, ℕ, Bool, true, false, ◌&&◌, ◌||◌, not, bytes_eq, List, [], ◌∷◌, ◌++◌, codes, flat_map, map, is_some, slice_get, unwrap_or, option_map}
use Rattle.std.specs.List.{filter, list_all, list_any}
use Rattle.heap_objects.specs.TableRows.{Row}
use Rattle.heap_objects.specs.declared.table_row.Entry.{Entry}
use Rattle.heap_objects.specs.declared.table_row.Entry.TheVariants.{LeftOut}
use Rattle.object_heap.specs.Fresh.{TableObject, roots, prototypes, constructors}
use Rattle.js_lint.specs.Tables.{globals, members, object_members, standing_among, advice_among, missing_by}

abbrev pub is_left_out : Entry → Bool
is_left_out LeftOut = true
is_left_out e = false

-- whether both hold, or neither
abbrev pub are_same : Bool → Bool → Bool
are_same true b = b
are_same false b = not b

-- the properties of the object in a place of a part of the table
abbrev pub rows_at : List TableObject → ℕ → List Row
rows_at objects n = unwrap_or (option_map (λ (object : TableObject). object.1) (slice_get objects n)) []

-- ---- global names: those of the global object and of Object.prototype, which it inherits

abbrev pub is_told_global : Row → Bool
is_told_global row =
    let standing = standing_among globals row.0 in
    is_some standing && are_same (is_some (missing_by standing)) (is_left_out row.1)

abbrev pub GlobalsAgree : Type 0
GlobalsAgree = list_all is_told_global (rows_at roots 2 ++ rows_at roots 0) ≡ true

-- ---- properties that objects inherit: those of Object.prototype, and of the prototypes of arrays, texts, numbers,
-- truths, errors and patterns

abbrev pub is_told_member : Row → Bool
is_told_member row = are_same (is_some (missing_by (standing_among members row.0))) (is_left_out row.1)

abbrev pub member_rows : List Row
member_rows = rows_at roots 0 ++ flat_map (λ (object : TableObject). object.1) prototypes

-- all but one: what is left out of the prototype of patterns under a name that every object has
abbrev pub MembersAgree : Type 0
MembersAgree = map (λ (row : Row). row.0) (filter (λ (row : Row). not (is_told_member row)) member_rows) ≡ codes "constructor" ∷ []

-- ---- properties that functions inherit from Function.prototype

abbrev pub is_named : List ℕ → Row → Bool
is_named x row = bytes_eq x row.0

-- every object has a property of this name
abbrev pub is_common : Row → Bool
is_common row = list_any (is_named row.0) (rows_at roots 0)

abbrev pub FunctionsAgree : Type 0
FunctionsAgree = list_all (λ (row : Row). is_common row || is_told_member row) (rows_at roots 1) ≡ true

-- ---- properties of `Math` and of the constructors, by the names of these

abbrev pub is_told_property : List ℕ → Row → Bool
is_told_property object row = are_same (is_some (advice_among object_members object row.0)) (is_left_out row.1)

abbrev pub are_told : List (List ℕ) → List TableObject → Bool
are_told [] objects = true
are_told (x ∷ xs) [] = false
are_told (x ∷ xs) (object ∷ objects) = list_all (is_told_property x) object.1 && are_told xs objects

abbrev pub ObjectsAgree : Type 0
ObjectsAgree =
    are_told (codes "Math" ∷ codes "Object" ∷ codes "Array" ∷ codes "String" ∷ codes "Number" ∷ codes "Boolean" ∷ codes "Error" ∷ codes "TypeError" ∷ codes "RangeError" ∷ codes "ReferenceError" ∷ []) constructors ≡ true
