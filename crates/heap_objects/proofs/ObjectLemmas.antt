-- What an object has under an index.
use Rattle.std.proofs.Common.{◌≡◌, ℕ, ◌+◌, ◌-◌, ◌<◌, ◌≤◌, suc, List, ◌∷◌, false, cond, refl, sym, ap, subst, ◌∙◌, arith, ⊎_elim}
use Rattle.std.specs.Prelude.{pos, max, codes}
use Rattle.std.specs.Fmt.{decimal}
use Rattle.std.specs.Str.{bytes_eq}
use Rattle.std.specs.Str.Parse.{AllDigits}
use Rattle.std.proofs.lemmas.Bool.{cases_Bool}
use Rattle.std.proofs.lemmas.Fmt.{decimal_is_IsNumeral}
use Rattle.heap_values.specs.declared.found.Found.TheVariants as found
use Rattle.heap_values.specs.declared.ids.Kind.{Kind}
use Rattle.heap_values.specs.declared.ids.Kind.TheVariants.{Array}
use Rattle.heap_values.specs.declared.value.Value.TheVariants.{Number}
use Rattle.heap_values.specs.Views.{ObjectView}
use Rattle.heap_elements.specs.Properties.{property_at}
use Rattle.heap_elements.proofs.IndexLemmas.{array_index-decimal, no_array_index}
use Rattle.heap_elements.proofs.RowLemmas.{same_name}
use Rattle.heap_objects.specs.Object.{index_names, is_length, found_property, own_found, raised, length_in, grown_length_of}

pub index_names-first : (from to : ℕ) → from < to → index_names from (to - from) ≡ decimal from ∷ index_names (from + 1) (to - (from + 1))
index_names-first from to below =
    let count : to - from ≡ suc (to - (from + 1)) = omega arith in
    ap (index_names from) count

-- no numeral is the name of a length
all_digits : (us : List ℕ) → AllDigits 10 us → bytes_eq us (codes "length") ≡ false
all_digits us digits = ⊎_elim
    (λ same. absurd (let length_digits = subst (AllDigits 10) (same_name us (codes "length") same) digits in omega (arith, length_digits.0)))
    (λ apart. apart)
    (cases_Bool (bytes_eq us (codes "length")))

pub is_length-index : (kind : Kind) (n : ℕ) → n < 4294967296 → is_length kind (decimal n) ≡ false
is_length-index Array n small = all_digits (decimal n) (decimal_is_IsNumeral n (omega arith)).0.1
is_length-index _ n small = refl

-- an object finds a property under an index as under a name
pub index_found : (o : ObjectView) (n : ℕ) → n < 4294967296 → found_property (property_at o.properties (decimal n)) ≡ own_found o (decimal n)
index_found o n small = sym (ap (λ b. cond b (found.Value (Number (pos o.length))) (found_property (property_at o.properties (decimal n)))) (is_length-index o.kind n small))

-- the length of an array grows with its indexes
pub grown_length-index : (o : ObjectView) (n : ℕ) → o.kind ≡ Array → n < 4294967295 → max o.length (n + 1) ≡ grown_length_of o (decimal n)
grown_length-index o n is small = ap (raised o.length) (sym (array_index-decimal n small)) ∙ ap (λ kind. length_in kind o.length (decimal n)) (sym is)

pub grown_length-no_index : (o : ObjectView) (n : ℕ) → o.kind ≡ Array → 4294967295 ≤ n → n < 4294967296 → o.length ≡ grown_length_of o (decimal n)
grown_length-no_index o n is large small = ap (raised o.length) (sym (no_array_index n large small)) ∙ ap (λ kind. length_in kind o.length (decimal n)) (sym is)
