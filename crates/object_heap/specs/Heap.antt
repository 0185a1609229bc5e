-- The heap of a run: what each call makes of it (ECMA-262 5.1, sections 8.12 and 10.2), and what it refuses.
use Rattle.std.specs.Prelude.{ℕ, ◌+◌, ◌-◌, ◌<◌, pos, codes, List, [], ◌∷◌, ◌++◌, reverse, Option, Some, None, IfSome, Bool, true, false, ◌==◌, if◌then◌else◌, slice_get, slice_set, length, nat_eq, nat_lt, nat_le, Result, Ok, Err}
use Rattle.std.specs.List.{list_any}
use Rattle.js_pattern_reader.specs.Literal.{Literal, is_global, ignores_case, is_multiline}
use Rattle.heap_values.specs.declared.answer.HeapAnswer.{HeapAnswer}
use Rattle.heap_values.specs.declared.answer.HeapAnswer.TheVariants as answer
use Rattle.heap_values.specs.declared.found.Found.{Found}
use Rattle.heap_values.specs.declared.found.Found.TheVariants as found
use Rattle.heap_values.specs.declared.ids.Kind.{Kind}
use Rattle.heap_values.specs.declared.ids.Kind.TheVariants.{Plain, Pattern}
use Rattle.heap_values.specs.declared.ids.ObjectId.{ObjectId}
use Rattle.heap_values.specs.declared.ids.ScopeId.{ScopeId}
use Rattle.heap_values.specs.declared.property.Property.{Property}
use Rattle.heap_values.specs.declared.value.Value.{Value}
use Rattle.heap_values.specs.declared.value.Value.TheVariants.{Undefined, Number, Text, Bool as Truth}
use Rattle.heap_values.specs.Views.{ObjectView, ScopeView, HeapView}
use Rattle.heap_objects.specs.Keys.{with_names}
use Rattle.heap_objects.specs.declared.marks.Marks.{Marks}
use Rattle.heap_objects.specs.Object.{empty_object, own_found, own_marks, is_length, grown_length_of, put_cost_of, object_with, value_property, can_delete, object_without, object_cut}
use Rattle.heap_elements.specs.Properties.{property_at, listed_names_of}
use Rattle.heap_objects.specs.Scope.{fresh_scope, slot_in, scope_with}
use Rattle.utf16_text.specs.declared.limits.TheConstants.{LONGEST_TEXT}
use Rattle.object_heap.specs.declared.limits.TheConstants.{LONGEST_ARRAY, MOST_CELLS, MOST_TEXT}

-- the object of this number, where there is one
abbrev pub object_at : HeapView → ObjectId → Option ObjectView
object_at h object = slice_get h.objects object.0

abbrev pub scope_at : HeapView → ScopeId → Option ScopeView
scope_at h scope = slice_get h.scopes scope.0

-- ---- what an object is

abbrev pub kind_in : Option ObjectView → Kind
kind_in None = Plain
kind_in (Some o) = o.kind

abbrev pub prototype_in : Option ObjectView → Option ObjectId
prototype_in None = None
prototype_in (Some o) = o.prototype

abbrev pub length_of : Option ObjectView → ℕ
length_of None = 0
length_of (Some o) = o.length

-- ---- the prototypes (8.6.2)

-- each prototype is older than its object
abbrev pub PrototypesAreOlder : List ObjectView → Type 0
PrototypesAreOlder objects = (at : ℕ) → IfSome (prototype_in (slice_get objects at)) (λ p. p.0 < at)

-- an object and its prototypes, nearest first, among objects that are given from the newest to the oldest: where the
-- newest of them is the one that is looked for, it is followed by its prototype, which is looked for among the older ones
abbrev pub line_among : List ObjectView → Option ObjectId → List ObjectId
line_among [] id = []
line_among (o ∷ older) None = []
line_among (o ∷ older) (Some id) = if nat_eq id.0 (length older) then id ∷ line_among older o.prototype else line_among older (Some id)

-- an object and its prototypes, nearest first. Each prototype is older than its object, so all of them stand there
abbrev pub line_of : HeapView → Option ObjectId → List ObjectId
line_of h id = line_among (reverse h.objects) id

-- whether the prototype is among the prototypes of an object (15.3.5.3)
abbrev pub inherits_from : HeapView → ObjectId → ObjectId → Bool
inherits_from h object prototype = list_any (λ p. p.0 == prototype.0) (line_of h (prototype_in (object_at h object)))

-- ---- looking up (8.12.2)

abbrev pub is_absent : Found → Bool
is_absent found.Absent = true
is_absent _ = false

-- what is found, or else what the rest of the walk finds
abbrev pub or_found : Found → Found → Found
or_found found.Absent rest = rest
or_found f rest = f

abbrev pub own_found_in : Option ObjectView → List ℕ → Found
own_found_in None name = found.Absent
own_found_in (Some o) name = own_found o name

abbrev pub own_marks_in : Option ObjectView → List ℕ → Option Marks
own_marks_in None name = None
own_marks_in (Some o) name = own_marks o name

-- what the first of these objects that has the name has under it
abbrev pub found_among : HeapView → List ObjectId → List ℕ → Found
found_among h [] name = found.Absent
found_among h (id ∷ ids) name = or_found (own_found_in (object_at h id) name) (found_among h ids name)

-- what the object, or else the nearest of its prototypes that has the name, has under it
abbrev pub found_of : HeapView → ObjectId → List ℕ → Found
found_of h object name = found_among h (line_of h (Some object)) name

-- ---- making

-- the prototype, where it is older than the object of this number
abbrev pub older_of : Option ObjectId → ℕ → Option ObjectId
older_of None at = None
older_of (Some p) at = if nat_lt p.0 at then Some p else None

-- a new object, and the heap with it
abbrev pub made_of : HeapView → Kind → Option ObjectId → Result (ObjectId × HeapView) HeapAnswer
made_of h kind prototype = if nat_le MOST_CELLS h.cells then Err answer.HeapFull
    else Ok (record { 0 = length h.objects }, record h { objects = h.objects ++ empty_object kind (older_of prototype (length h.objects)) ∷ []; cells = h.cells + 1 })

-- the object with a property that is neither listed nor deletable
abbrev pub with_hidden : List ℕ → Value → ObjectView → ObjectView
with_hidden name v o = object_with o name (value_property v false false)

-- an object for the pattern of this number, with what it says of its literal (15.10.7.1 to 15.10.7.4)
abbrev pub pattern_object : ℕ → Literal → Option ObjectId → ObjectView
pattern_object number l prototype =
    with_hidden (codes "multiline") (Truth (is_multiline l))
    (with_hidden (codes "ignoreCase") (Truth (ignores_case l))
    (with_hidden (codes "global") (Truth (is_global l))
    (with_hidden (codes "source") (Text l.body) (empty_object (Pattern number) prototype))))

-- a new object for a pattern literal, in one cell, and the heap with it
abbrev pub pattern_made_of : HeapView → Literal → Option ObjectId → Result (ObjectId × HeapView) HeapAnswer
pattern_made_of h l prototype = if nat_le MOST_CELLS h.cells then Err answer.HeapFull
    else Ok (
      record { 0 = length h.objects },
      record h {
        objects = h.objects ++ pattern_object (length h.literals) l (older_of prototype (length h.objects)) ∷ [];
        literals = h.literals ++ l ∷ [];
        cells = h.cells + 1;
      },
    )

-- the literal of an object of this kind, where it is a pattern's
abbrev pub literal_of : HeapView → Kind → Option Literal
literal_of h (Pattern number) = slice_get h.literals number
literal_of h _ = None

-- the literal of a pattern
abbrev pub literal_at : HeapView → ObjectId → Option Literal
literal_at h object = literal_of h (kind_in (object_at h object))

-- a new scope, each slot undefined, and the heap with it
abbrev pub scope_made_of : HeapView → ℕ → Option ScopeId → Result (ScopeId × HeapView) HeapAnswer
scope_made_of h size parent = if nat_lt MOST_CELLS (h.cells + (size + 1)) then Err answer.HeapFull
    else Ok (record { 0 = length h.scopes }, record h { scopes = h.scopes ++ fresh_scope size parent ∷ []; cells = h.cells + (size + 1) })

-- ---- writing (8.12.5, 8.12.9 and 15.4.5.1)

-- the heap with this object in its place, and so many cells more
abbrev pub heap_with : HeapView → ℕ → ObjectView → ℕ → HeapView
heap_with h at o cost = record h { objects = slice_set h.objects at o; cells = h.cells + cost }

-- a length for an array, where the value is a whole number from 0
abbrev pub length_stored : HeapView → ℕ → ObjectView → Value → Result HeapView HeapAnswer
length_stored h at o (Number (pos n)) = if nat_lt LONGEST_ARRAY n then Err answer.ArrayTooLong
    else if nat_lt MOST_CELLS (h.cells + (n - o.length)) then Err answer.HeapFull
    else Ok (heap_with h at (object_cut o n) (n - o.length))
length_stored h at o _ = Err answer.BadLength

-- so many cells after others, for an object of this length
abbrev pub limited_cost : ℕ → ℕ → ℕ → Result ℕ HeapAnswer
limited_cost cells size cost = if nat_lt LONGEST_ARRAY size then Err answer.ArrayTooLong
    else if nat_lt MOST_CELLS (cells + cost) then Err answer.HeapFull
    else Ok cost

-- the cells that a property takes under a name that is not the length of an array, after so many cells
abbrev pub property_cost : ℕ → ObjectView → List ℕ → Result ℕ HeapAnswer
property_cost cells o name = limited_cost cells (grown_length_of o name) (put_cost_of o name)

-- the heap with the object at this cost, where it isn't refused
abbrev pub stored_at : HeapView → ℕ → ObjectView → Result ℕ HeapAnswer → Result HeapView HeapAnswer
stored_at h at o (Ok cost) = Ok (heap_with h at o cost)
stored_at h at o (Err e) = Err e

abbrev pub stored_in : HeapView → ℕ → Option ObjectView → List ℕ → Value → (Option Property → Property) → Result HeapView HeapAnswer
stored_in h at None name v new = Ok h
stored_in h at (Some o) name v new = if is_length o.kind name then length_stored h at o v
    else stored_at h at (object_with o name (new (property_at o.properties name))) (property_cost h.cells o name)

-- a value stored under a name of the object, where `new` gives the new property from the old one
abbrev pub stored : HeapView → ObjectId → List ℕ → Value → (Option Property → Property) → Result HeapView HeapAnswer
stored h object name v new = stored_in h object.0 (object_at h object) name v new

-- ---- deleting (8.12.7)

abbrev pub deleted_in : HeapView → ℕ → Option ObjectView → List ℕ → Bool × HeapView
deleted_in h id None name = (true, h)
deleted_in h id (Some o) name = (can_delete o name, record h { objects = slice_set h.objects id (object_without o name) })

-- whether nothing is left under the name, and the heap after that
abbrev pub deleted_of : HeapView → ObjectId → List ℕ → Bool × HeapView
deleted_of h object name = deleted_in h object.0 (object_at h object) name

-- ---- the names that `for`-`in` lists (12.6.4)

abbrev pub own_keys_in : Option ObjectView → List (List ℕ)
own_keys_in None = []
own_keys_in (Some o) = listed_names_of o.properties

-- behind `names`, those of these objects, one after the other, that are not there yet
abbrev pub keys_among : HeapView → List ObjectId → List (List ℕ) → List (List ℕ)
keys_among h [] names = names
keys_among h (id ∷ ids) names = keys_among h ids (with_names names (own_keys_in (object_at h id)))

-- those of the object, then those of its prototypes
abbrev pub keys_of : HeapView → ObjectId → List (List ℕ)
keys_of h object = keys_among h (line_of h (Some object)) []

-- ---- scopes

abbrev pub parent_in : Option ScopeView → Option ScopeId
parent_in None = None
parent_in (Some s) = s.parent

abbrev pub slot_at : Option ScopeView → ℕ → Value
slot_at None slot = Undefined
slot_at (Some s) slot = slot_in s slot

abbrev pub slot_of : HeapView → ScopeId → ℕ → Value
slot_of h scope slot = slot_at (scope_at h scope) slot

abbrev pub slot_written_in : HeapView → ℕ → Option ScopeView → ℕ → Value → HeapView
slot_written_in h id None slot v = h
slot_written_in h id (Some s) slot v = record h { scopes = slice_set h.scopes id (scope_with s slot v) }

abbrev pub slot_written_of : HeapView → ScopeId → ℕ → Value → HeapView
slot_written_of h scope slot v = slot_written_in h scope.0 (scope_at h scope) slot v

-- ---- texts made

abbrev pub text_spent_of : HeapView → ℕ → Result HeapView HeapAnswer
text_spent_of h units = if nat_lt LONGEST_TEXT units then Err answer.StringTooLong
    else if nat_lt MOST_TEXT (h.units + units) then Err answer.TextSpent
    else Ok (record h { units = h.units + units })
