-- The heap in which a run begins: the built-in objects (ECMA-262 5.1, section 15) and one scope without names.
use Rattle.std.specs.Prelude.{ℕ, zero, suc, ◌+◌, ◌-◌, Bool, List, [], ◌∷◌, ◌++◌, Option, Some, None, is_none, true, ◌&&◌, map, nat_lt}
use Rattle.std.specs.Borrow.{Bor}
use Rattle.heap_values.specs.declared.built_in.BuiltIn.{BuiltIn}
use Rattle.heap_values.specs.declared.built_in.BuiltIn.TheVariants as built_in
use Rattle.heap_values.specs.declared.ids.Kind.TheVariants as kind
use Rattle.heap_values.specs.declared.ids.ObjectId.{ObjectId}
use Rattle.heap_values.specs.Views.{ObjectView, HeapView}
use Rattle.heap_objects.specs.Object.{empty_object, built_in_object}
use Rattle.heap_elements.specs.Properties.{property_at}
use Rattle.heap_objects.specs.Scope.{fresh_scope}
use Rattle.heap_objects.specs.TableRows.{Row, row_read, entries_of}
use Rattle.heap_objects.specs.declared.table_row.Entry.{Entry}
use Rattle.object_heap.specs.declared.table.Blank.{Blank}
use Rattle.object_heap.specs.declared.table.TheConstants.{FUNCTION_PROTOTYPE, FIRST_NATIVE, NATIVES, ROOTS, PROTOTYPES, CONSTRUCTORS}

-- the number of a built-in object, in the order of creation
abbrev pub built_in_number : BuiltIn → ℕ
built_in_number built_in.ObjectPrototype = 0
built_in_number built_in.FunctionPrototype = 1
built_in_number built_in.Global = 2
built_in_number built_in.ArrayPrototype = 3
built_in_number built_in.TextPrototype = 4
built_in_number built_in.NumberPrototype = 5
built_in_number built_in.BooleanPrototype = 6
built_in_number built_in.ErrorPrototype = 7
built_in_number built_in.TypeErrorPrototype = 8
built_in_number built_in.RangeErrorPrototype = 9
built_in_number built_in.ReferenceErrorPrototype = 10
built_in_number built_in.PatternPrototype = 11

-- a row of the table as the constant shows it
abbrev pub RowShown : Type 0
RowShown = record { now : List ℕ } × Entry × record { now : List ℕ } × Bool

abbrev pub row_shown : RowShown → Row
row_shown row = (row.0.now, row.1, row.2.now, row.3)

-- a built-in object that rows can name, with its rows
abbrev pub TableObject : Type 0
TableObject = Blank × List Row

-- one as code reads it, and as the constant shows it
abbrev pub object_read : (Blank × Bor (List (Bor (List ℕ) × Entry × Bor (List ℕ) × Bool))) → TableObject
object_read object = (object.0, map row_read object.1.now)

abbrev pub object_shown : (Blank × record { now : List RowShown }) → TableObject
object_shown object = (object.0, map row_shown object.1.now)

-- the object, with the properties of its rows
abbrev pub object_of : TableObject → ObjectView
object_of object = built_in_object object.0.kind object.0.prototype object.1

-- the native of this number, whose prototype is Function.prototype
abbrev pub native_object : ℕ → ObjectView
native_object number = empty_object (kind.Native number) (Some FUNCTION_PROTOTYPE)

-- so many natives, from this number on
abbrev pub natives_from : ℕ → ℕ → List ObjectView
natives_from number zero = []
natives_from number (suc count) = native_object number ∷ natives_from (number + 1) count

-- no name of the rows comes twice
abbrev pub names_differ : List Row → Bool
names_differ [] = true
names_differ (row ∷ rows) = is_none (property_at (entries_of rows) row.0) && names_differ rows

abbrev pub is_below : Option ObjectId → ℕ → Bool
is_below None at = true
is_below (Some p) at = nat_lt p.0 at

-- each prototype stands before its object; the first of these is at this place
abbrev pub are_ordered : ℕ → List TableObject → Bool
are_ordered at [] = true
are_ordered at (object ∷ objects) = is_below object.0.prototype at && are_ordered (suc at) objects

-- the objects of the table, and behind them the other natives
unfoldable pub filled_objects : List TableObject → List ObjectView
filled_objects objects = map object_of objects ++ natives_from FIRST_NATIVE (NATIVES - FIRST_NATIVE)

-- the built-in objects
unfoldable pub built_in_objects : List ObjectView
built_in_objects = filled_objects ((map object_shown ROOTS.now ++ map object_shown PROTOTYPES.now) ++ map object_shown CONSTRUCTORS.now)

-- the parts of the table
unfoldable pub roots : List TableObject
roots = map object_shown ROOTS.now

unfoldable pub prototypes : List TableObject
prototypes = map object_shown PROTOTYPES.now

unfoldable pub constructors : List TableObject
constructors = map object_shown CONSTRUCTORS.now

-- no cell and no text is counted in it
abbrev pub fresh_heap : HeapView
fresh_heap = record { objects = built_in_objects; scopes = fresh_scope 0 None ∷ []; literals = []; cells = 0; units = 0 }
