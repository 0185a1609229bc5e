-- Properties of the global object that give way to a function.
use Rattle.std.proofs.Common.{◌≡◌, ℕ, List, Bool, true, false, Option, None, Some, refl, ap, sym, ◌∙◌, if◌then◌else◌}
use Rattle.std.specs.Prelude.{◌||◌, codes, pos}
use Rattle.heap_values.specs.declared.found.Found.{Found}
use Rattle.heap_values.specs.declared.found.Found.TheVariants as found
use Rattle.heap_values.specs.declared.ids.Kind.{Kind}
use Rattle.heap_values.specs.declared.ids.Kind.TheVariants as kind
use Rattle.heap_values.specs.declared.property.Content.{Content}
use Rattle.heap_values.specs.declared.property.Content.TheVariants as content
use Rattle.heap_values.specs.declared.property.Property.{Property}
use Rattle.heap_values.specs.declared.value.Value.{Value}
use Rattle.heap_values.specs.declared.value.Value.TheVariants as value
use Rattle.heap_values.specs.Views.{ObjectView}
use Rattle.heap_objects.specs.declared.marks.Marks.{Marks}
use Rattle.heap_objects.specs.Object.{found_content, found_property, is_length, marks_if}
use Rattle.heap_elements.specs.Properties.{property_at}
use Rattle.object_heap.specs.Heap.{kind_in, own_found_in, own_marks_in}
use Rattle.js_evaluation.specs.State.{define, throw_type_error}
use Rattle.js_evaluation.specs.Entries as entry
use Rattle.js_evaluation.specs.Entries.{own_property}
use Rattle.js_evaluation.specs.Parts.{outside}
use Rattle.js_evaluation.specs.Objects.{global_id}
use Rattle.js_entries.specs.Globals.{gives_way_in, is_left_out_in}

-- whether what is found is a mark of a property that is left out
abbrev pub is_mark : Found → Bool
is_mark (found.Value v) = false
is_mark found.Absent = false
is_mark (found.LeftOut t) = true

not_length : (k : Kind) (name : List ℕ) → (k ≡ kind.Array → ⊥) → is_length k name ≡ false
not_length kind.Plain name n = refl
not_length kind.Array name n = absurd (n refl)
not_length (kind.Function f scope) name n = refl
not_length (kind.Native m) name n = refl
not_length kind.Error name n = refl
not_length (kind.Pattern m) name n = refl

by_none : (q : Option Property) → None ≡ marks_if q → true ≡ gives_way_in q
by_none None e = refl
by_none (Some p) e = cc

by_deletable : (q : Option Property) (marks : Marks) → Some marks ≡ marks_if q → marks.deletable ≡ true → true ≡ gives_way_in q
by_deletable None marks e d = cc
by_deletable (Some p) marks e d =
    let same : marks ≡ record { listed = p.listed; deletable = p.deletable } = cc in
    sym (ap (λ (b : Bool). b || p.listed || entry.is_left_out p.content) (sym (ap (λ (m : Marks). m.deletable) same) ∙ d))

-- of one that can't be deleted
by_listed : (q : Option Property) (marks : Marks) → Some marks ≡ marks_if q → marks.deletable ≡ false → marks.listed ≡ true → true ≡ gives_way_in q
by_listed None marks e d l = cc
by_listed (Some p) marks e d l =
    let same : marks ≡ record { listed = p.listed; deletable = p.deletable } = cc in
    sym (ap (λ (b : Bool). b || p.listed || entry.is_left_out p.content) (sym (ap (λ (m : Marks). m.deletable) same) ∙ d)
    ∙ ap (λ (b : Bool). b || entry.is_left_out p.content) (sym (ap (λ (m : Marks). m.listed) same) ∙ l))

by_content : (q : Option Property) (marks : Marks) → Some marks ≡ marks_if q → marks.deletable ≡ false → marks.listed ≡ false → is_left_out_in q ≡ gives_way_in q
by_content None marks e d l = cc
by_content (Some p) marks e d l =
    let same : marks ≡ record { listed = p.listed; deletable = p.deletable } = cc in
    sym (ap (λ (b : Bool). b || p.listed || entry.is_left_out p.content) (sym (ap (λ (m : Marks). m.deletable) same) ∙ d)
    ∙ ap (λ (b : Bool). b || entry.is_left_out p.content) (sym (ap (λ (m : Marks). m.listed) same) ∙ l))

pub gives_none : (o : Option ObjectView) (name : List ℕ) → None ≡ own_marks_in o name → true ≡ gives_way_in (own_property o name)
gives_none None name e = refl
gives_none (Some o) name e = by_none (property_at o.properties name) e

pub gives_deletable : (o : Option ObjectView) (name : List ℕ) (marks : Marks) → Some marks ≡ own_marks_in o name → marks.deletable ≡ true
    → true ≡ gives_way_in (own_property o name)
gives_deletable None name marks e d = cc
gives_deletable (Some o) name marks e d = by_deletable (property_at o.properties name) marks e d

pub gives_listed : (o : Option ObjectView) (name : List ℕ) (marks : Marks) → Some marks ≡ own_marks_in o name → marks.deletable ≡ false → marks.listed ≡ true
    → true ≡ gives_way_in (own_property o name)
gives_listed None name marks e d l = cc
gives_listed (Some o) name marks e d l = by_listed (property_at o.properties name) marks e d l

pub gives_content : (o : Option ObjectView) (name : List ℕ) (marks : Marks) → Some marks ≡ own_marks_in o name → marks.deletable ≡ false → marks.listed ≡ false
    → is_left_out_in (own_property o name) ≡ gives_way_in (own_property o name)
gives_content None name marks e d l = cc
gives_content (Some o) name marks e d l = by_content (property_at o.properties name) marks e d l

-- ---- what is left out

mark_of : (c : Content) → is_mark (found_content c) ≡ entry.is_left_out c
mark_of (content.Value v) = refl
mark_of (content.LeftOut t) = refl

mark_in : (q : Option Property) → is_mark (found_property q) ≡ is_left_out_in q
mark_in None = refl
mark_in (Some p) = mark_of p.content

found_plain : (o : Option ObjectView) (name : List ℕ) → (kind_in o ≡ kind.Array → ⊥) → own_found_in o name ≡ found_property (own_property o name)
found_plain None name n = refl
found_plain (Some o) name n =
    ap (λ (b : Bool). if b then found.Value (value.Number (pos o.length)) else found_property (property_at o.properties name)) (not_length o.kind name n)

pub left_out_by : (o : Option ObjectView) (name : List ℕ) (f : Found) → (kind_in o ≡ kind.Array → ⊥) → f ≡ own_found_in o name
    → is_mark f ≡ is_left_out_in (own_property o name)
left_out_by o name f n e = ap is_mark (e ∙ found_plain o name n) ∙ mark_in (own_property o name)

-- ---- a function in the place of a property

pub over_way : (q : Option Property) (name : List ℕ) (f : Value) → gives_way_in q ≡ true
    → entry.declared_over q name f outside ≡ define global_id name f true false outside
over_way None name f e = refl
over_way (Some p) name f e =
    ap (λ (b : Bool). if b then define global_id name f true false outside else throw_type_error (codes "not an object") outside) e

pub over_none : (q : Option Property) (name : List ℕ) (f : Value) → gives_way_in q ≡ false
    → entry.declared_over q name f outside ≡ throw_type_error (codes "not an object") outside
over_none None name f e = cc
over_none (Some p) name f e =
    ap (λ (b : Bool). if b then define global_id name f true false outside else throw_type_error (codes "not an object") outside) e
