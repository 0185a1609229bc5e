-- Rows of a table as slots, of which those that are marked are gaps.
use Rattle.std.proofs.Common.{◌≡◌, ℕ, ◌+◌, ◌<◌, zero, suc, List, [], ◌∷◌, ◌++◌, Bool, true, false, cond, Option, Some, None, slice_get, length, set, take, drop, map, replicate, refl, sym, ap, ◌∙◌, add-one, arith}
use Rattle.std.specs.Map.{values_of}
use Rattle.std.specs.Str.{bytes_eq}
use Rattle.std.specs.Borrow.{Bor}
use Rattle.std.specs.Global.{Box}
use Rattle.std.specs.Option.{option_map}
use Rattle.heap_values.specs.declared.property.Property.{Property}
use Rattle.heap_elements.specs.Properties.{property_at, with_properties, indexed_into, other_names, listed_names_of}
use Rattle.heap_objects.specs.Slots.{standing, place_in}
use Rattle.heap_objects.specs.declared.table_row.Entry.{Entry}
use Rattle.heap_objects.specs.TableRows.{Row, row_entry, row_property, row_read, slot_of, slots_of, TableView, has_name, is_gone}
use Rattle.heap_objects.specs.Layers.{layers}
use Rattle.heap_objects.proofs.PlaceLemmas.{Slots, next, none_behind, place_past, apart_from_first, found_at}

abbrev RowRead : Type 0
RowRead = Bor (List ℕ) × Entry × Bor (List ℕ) × Bool

-- without a mark all are there
pub all_there : (n : ℕ) (rows : List Row) → standing (slots_of rows (replicate n false)) ≡ map row_entry rows
all_there n [] = refl
all_there zero (row ∷ rows) = ap (λ es. row_entry row ∷ es) (all_there zero rows)
all_there (suc n) (row ∷ rows) = ap (λ es. row_entry row ∷ es) (all_there n rows)

pub length-slots_of : (rows : List Row) (gone : List Bool) → length (slots_of rows gone) ≡ length rows
length-slots_of [] gone = refl
length-slots_of (row ∷ rows) [] = ap (λ n. suc n) (length-slots_of rows [])
length-slots_of (row ∷ rows) (true ∷ gone) = ap (λ n. suc n) (length-slots_of rows gone)
length-slots_of (row ∷ rows) (false ∷ gone) = ap (λ n. suc n) (length-slots_of rows gone)

-- the slot of a row that is not marked, and of one that is
pub slot_there : (rows : List RowRead) (gone : List Bool) (at : ℕ) → at < length rows → is_gone gone at ≡ false
    → slice_get (slots_of (map row_read rows) gone) at ≡ Some (slot_of (slice_get rows at))
slot_there [] gone at below there = absurd (omega arith)
slot_there (row ∷ rows) [] zero below there = refl
slot_there (row ∷ rows) (true ∷ gone) zero below there = absurd (cc)
slot_there (row ∷ rows) (false ∷ gone) zero below there = refl
slot_there (row ∷ rows) [] (suc at) below there = slot_there rows [] at (omega arith) there
slot_there (row ∷ rows) (true ∷ gone) (suc at) below there = slot_there rows gone at (omega arith) there
slot_there (row ∷ rows) (false ∷ gone) (suc at) below there = slot_there rows gone at (omega arith) there

pub slot_gone : (rows : List Row) (gone : List Bool) (at : ℕ) → at < length rows → is_gone gone at ≡ true → slice_get (slots_of rows gone) at ≡ Some None
slot_gone [] gone at below marked = absurd (omega arith)
slot_gone (row ∷ rows) [] zero below marked = absurd (cc)
slot_gone (row ∷ rows) (true ∷ gone) zero below marked = refl
slot_gone (row ∷ rows) (false ∷ gone) zero below marked = absurd (cc)
slot_gone (row ∷ rows) [] (suc at) below marked = absurd (cc)
slot_gone (row ∷ rows) (true ∷ gone) (suc at) below marked = slot_gone rows gone at (omega arith) marked
slot_gone (row ∷ rows) (false ∷ gone) (suc at) below marked = slot_gone rows gone at (omega arith) marked

-- a row that is marked becomes a gap
pub slots_of-marked : (rows : List Row) (gone : List Bool) (at : ℕ) → at < length gone → slots_of rows (set gone at true) ≡ set (slots_of rows gone) at None
slots_of-marked [] gone at there = refl
slots_of-marked (row ∷ rows) [] at there = absurd (omega arith)
slots_of-marked (row ∷ rows) (true ∷ gone) zero there = refl
slots_of-marked (row ∷ rows) (false ∷ gone) zero there = refl
slots_of-marked (row ∷ rows) (true ∷ gone) (suc at) there = ap (λ ss. None ∷ ss) (slots_of-marked rows gone at (omega arith))
slots_of-marked (row ∷ rows) (false ∷ gone) (suc at) there = ap (λ ss. Some (row_entry row) ∷ ss) (slots_of-marked rows gone at (omega arith))

-- no row is listed
indexed_into-rows : (es : List (ℕ × List ℕ)) (rows : List Row) (gone : List Bool) (own : List (List ℕ × Property))
    → indexed_into es (standing (slots_of rows gone) ++ own) ≡ indexed_into es own
indexed_into-rows es [] gone own = refl
indexed_into-rows es (row ∷ rows) [] own = indexed_into-rows es rows [] own
indexed_into-rows es (row ∷ rows) (true ∷ gone) own = indexed_into-rows es rows gone own
indexed_into-rows es (row ∷ rows) (false ∷ gone) own = indexed_into-rows es rows gone own

other_names-rows : (rows : List Row) (gone : List Bool) (own : List (List ℕ × Property)) → other_names (standing (slots_of rows gone) ++ own) ≡ other_names own
other_names-rows [] gone own = refl
other_names-rows (row ∷ rows) [] own = other_names-rows rows [] own
other_names-rows (row ∷ rows) (true ∷ gone) own = other_names-rows rows gone own
other_names-rows (row ∷ rows) (false ∷ gone) own = other_names-rows rows gone own

listed_names_of-rows : (rows : List Row) (gone : List Bool) (own : List (List ℕ × Property)) → listed_names_of (standing (slots_of rows gone) ++ own) ≡ listed_names_of own
listed_names_of-rows rows gone own =
    ap (λ es. values_of es ++ other_names (standing (slots_of rows gone) ++ own)) (indexed_into-rows [] rows gone own)
    ∙ ap (λ names. values_of (indexed_into [] own) ++ names) (other_names-rows rows gone own)

-- a slot that has not the name leaves it without a place
not_placed_next : (ss : Slots) (i : ℕ) (n : List ℕ) → option_map (λ s. has_name s n) (slice_get ss i) ≡ Some false → place_in (take i ss) n ≡ None → place_in (take (suc i) ss) n ≡ None
not_placed_next [] i n other none = refl
not_placed_next (None ∷ ss) zero n other none = refl
not_placed_next (Some e ∷ ss) zero n other none = let apart : bytes_eq n e.0 ≡ false = cc in ap (λ b. cond b (Some 0) None) apart
not_placed_next (None ∷ ss) (suc i) n other none = ap next (not_placed_next ss i n other (none_behind (place_in (take i ss) n) none))
not_placed_next (Some e ∷ ss) (suc i) n other none =
    let apart = apart_from_first e (take i ss) n none in
    ap (λ b. cond b (Some 0) (next (place_in (take (suc i) ss) n))) apart
    ∙ ap next (not_placed_next ss i n other (none_behind (place_in (take i ss) n) (place_past e (take i ss) n None apart none)))

pub not_placed : (ss : Slots) (i : ℕ) (n : List ℕ) → option_map (λ s. has_name s n) (slice_get ss i) ≡ Some false → place_in (take i ss) n ≡ None → place_in (take (i + 1) ss) n ≡ None
not_placed ss i n other none = ap (λ k. place_in (take k ss) n) (add-one i) ∙ not_placed_next ss i n other none

-- the first slot that has the name is its place
pub placed : (ss : Slots) (i : ℕ) (n : List ℕ) → option_map (λ s. has_name s n) (slice_get ss i) ≡ Some true → place_in (take i ss) n ≡ None → place_in ss n ≡ Some i
placed [] i n has none = absurd (cc)
placed (None ∷ ss) zero n has none = absurd (cc)
placed (Some e ∷ ss) zero n has none = let same : bytes_eq n e.0 ≡ true = cc in ap (λ b. cond b (Some 0) (next (place_in ss n))) same
placed (None ∷ ss) (suc i) n has none = ap next (placed ss i n has (none_behind (place_in (take i ss) n) none))
placed (Some e ∷ ss) (suc i) n has none =
    let apart = apart_from_first e (take i ss) n none in
    ap (λ b. cond b (Some 0) (next (place_in ss n))) apart
    ∙ ap next (placed ss i n has (none_behind (place_in (take i ss) n) (place_past e (take i ss) n None apart none)))

-- what stands from a place on
pub drop_next : (ss : Slots) (i : ℕ) (s : Option (List ℕ × Property)) → slice_get ss i ≡ Some s → drop i ss ≡ s ∷ drop (i + 1) ss
drop_next [] i s is = absurd (cc)
drop_next (x ∷ ss) zero s is = ap (λ y. y ∷ ss) (let this : x ≡ s = cc in this)
drop_next (x ∷ ss) (suc i) s is =
    drop_next ss i s is ∙ ap (λ k. s ∷ drop k ss) (add-one i) ∙ sym (ap (λ k. s ∷ drop k (x ∷ ss)) (add-one (suc i)))

-- one slot more is added
pub added_next : (ps : List (List ℕ × Property)) (ss : Slots) (i : ℕ) (s : Option (List ℕ × Property)) → slice_get ss i ≡ Some s
    → with_properties (with_properties ps (standing (s ∷ []))) (standing (drop (i + 1) ss)) ≡ with_properties ps (standing (drop i ss))
added_next ps ss i None is = ap (λ rest. with_properties ps (standing rest)) (sym (drop_next ss i None is))
added_next ps ss i (Some e) is = ap (λ rest. with_properties ps (standing rest)) (sym (drop_next ss i (Some e) is))

-- the slot at the place of a name has its property
pub slot_found : (ss : Slots) (i : ℕ) (n : List ℕ) (s : Option (List ℕ × Property)) → slice_get ss i ≡ Some s → place_in ss n ≡ Some i
    → option_map (λ e. e.1) s ≡ property_at (standing ss) n
slot_found ss i n s is place =
    let found = found_at ss n i place in
    let this : s ≡ Some (n, found.property) = (let e = sym is ∙ found.stands in cc) in
    ap (option_map (λ e. e.1)) this ∙ sym found.named

pub slot_property : (row : Option RowRead) → option_map (λ e. e.1) (slot_of row) ≡ option_map (λ r. row_property (row_read r)) row
slot_property None = refl
slot_property (Some row) = refl

pub listed_names_of-layers : (table : Option (Box TableView)) (own : List (List ℕ × Property)) → listed_names_of (layers table own) ≡ listed_names_of own
listed_names_of-layers None own = refl
listed_names_of-layers (Some table) own = listed_names_of-rows table.value.rows table.value.gone own
