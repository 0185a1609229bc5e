-- What one object has and does (ECMA-262 5.1, sections 8.12 and 15.4.5).
use Rattle.std.specs.Prelude.{ℕ, ◌+◌, ◌-◌, zero, suc, max, pos, is_some, List, [], ◌∷◌, Option, Some, None, Bool, true, false, not, ◌&&◌, if◌then◌else◌, fold, codes}
use Rattle.std.specs.Fmt.{decimal}
use Rattle.std.specs.Str.{bytes_eq}
use Rattle.heap_values.specs.declared.property.Content.{Content}
use Rattle.heap_values.specs.declared.property.Content.TheVariants as content
use Rattle.heap_values.specs.declared.found.Found.{Found}
use Rattle.heap_values.specs.declared.found.Found.TheVariants as found
use Rattle.heap_values.specs.declared.ids.Kind.{Kind}
use Rattle.heap_values.specs.declared.ids.Kind.TheVariants.{Array}
use Rattle.heap_values.specs.declared.ids.ObjectId.{ObjectId}
use Rattle.heap_values.specs.declared.property.Property.{Property}
use Rattle.heap_values.specs.declared.value.Value.{Value}
use Rattle.heap_values.specs.declared.value.Value.TheVariants.{Number}
use Rattle.heap_values.specs.Views.{ObjectView}
use Rattle.heap_elements.specs.Names.{array_index}
use Rattle.heap_objects.specs.declared.marks.Marks.{Marks}
use Rattle.heap_elements.specs.Properties.{property_at, with_property, without_property}
use Rattle.heap_objects.specs.TableRows.{Row, entries_of}

-- an object without properties
abbrev pub empty_object : Kind → Option ObjectId → ObjectView
empty_object kind prototype = record { kind = kind; properties = []; prototype = prototype; length = 0 }

-- a built-in object with the properties of these rows
abbrev pub built_in_object : Kind → Option ObjectId → List Row → ObjectView
built_in_object kind prototype rows = record { kind = kind; properties = entries_of rows; prototype = prototype; length = 0 }

-- whether the name is the length of such an object: that of an array is no property of its list
abbrev pub is_length : Kind → List ℕ → Bool
is_length Array name = bytes_eq name (codes "length")
is_length _ name = false

abbrev pub found_content : Content → Found
found_content (content.Value v) = found.Value v
found_content (content.LeftOut t) = found.LeftOut t

abbrev pub found_property : Option Property → Found
found_property None = found.Absent
found_property (Some p) = found_content p.content

-- what the object itself has under a name (8.12.1)
abbrev pub own_found : ObjectView → List ℕ → Found
own_found o name = if is_length o.kind name then found.Value (Number (pos o.length)) else found_property (property_at o.properties name)

abbrev pub marks_of : Property → Marks
marks_of p = record { listed = p.listed; deletable = p.deletable }

abbrev pub marks_if : Option Property → Option Marks
marks_if None = None
marks_if (Some p) = Some (marks_of p)

-- the marks of the property of this name in the object's list (8.6.1)
abbrev pub own_marks : ObjectView → List ℕ → Option Marks
own_marks o name = marks_if (property_at o.properties name)

abbrev pub raised : ℕ → Option ℕ → ℕ
raised n None = n
raised n (Some i) = max n (i + 1)

abbrev pub length_in : Kind → ℕ → List ℕ → ℕ
length_in Array n name = raised n (array_index name)
length_in _ n name = n

-- the length that the object has once something stands under the name: that of an array is above each index (15.4.5.1)
abbrev pub grown_length_of : ObjectView → List ℕ → ℕ
grown_length_of o name = length_in o.kind o.length name

-- the cells that a write takes: each step of the length, and a property that is new
abbrev pub put_cost_of : ObjectView → List ℕ → ℕ
put_cost_of o name = (grown_length_of o name - o.length) + (if is_some (property_at o.properties name) then 0 else 1)

-- the property after a write: a new one is listed and can be deleted, an old one keeps its marks (8.12.5)
abbrev pub property_after : Value → Option Property → Property
property_after v None = record { content = content.Value v; listed = true; deletable = true }
property_after v (Some p) = record p { content = content.Value v }

-- a property with these marks
abbrev pub value_property : Value → Bool → Bool → Property
value_property v listed deletable = record { content = content.Value v; listed = listed; deletable = deletable }

-- the property after a write, by the marks of the old one
abbrev pub written : Value → Option Marks → Property
written v None = value_property v true true
written v (Some marks) = value_property v marks.listed marks.deletable

-- the object with this property under a name that is not the length of an array
abbrev pub object_with : ObjectView → List ℕ → Property → ObjectView
object_with o name p = record o { properties = with_property o.properties name p; length = grown_length_of o name }

-- the object after a write under such a name
abbrev pub object_after : ObjectView → List ℕ → Value → ObjectView
object_after o name v = object_with o name (property_after v (property_at o.properties name))

abbrev pub is_deletable : Option Property → Bool
is_deletable None = true
is_deletable (Some p) = p.deletable

abbrev pub is_fixed : Option Marks → Bool
is_fixed None = false
is_fixed (Some marks) = not marks.deletable

-- nothing is there under the name that can't be deleted (8.12.7)
abbrev pub can_delete : ObjectView → List ℕ → Bool
can_delete o name = not (is_length o.kind name) && is_deletable (property_at o.properties name)

abbrev pub object_without : ObjectView → List ℕ → ObjectView
object_without o name = if can_delete o name then record o { properties = without_property o.properties name } else o

-- so many indexes, from `from` on, as names
abbrev pub index_names : ℕ → ℕ → List (List ℕ)
index_names from zero = []
index_names from (suc count) = decimal from ∷ index_names (from + 1) count

-- the array with this length: where it falls, the elements from there on are deleted (15.4.5.1, step 3.l)
abbrev pub object_cut : ObjectView → ℕ → ObjectView
object_cut o size = record o { properties = fold without_property o.properties (index_names size (o.length - size)); length = size }
