-- Which properties ignore writes, by the kind of their object.
use Rattle.std.proofs.Common.{◌≡◌, ℕ, List, Bool, false, not, ◌&&◌, Option, Some, None, codes, ap, sym, ◌∙◌, refl}
use Rattle.std.specs.Str.{bytes_eq}
use Rattle.heap_values.specs.declared.ids.Kind.{Kind}
use Rattle.heap_values.specs.declared.ids.Kind.TheVariants as kind
use Rattle.heap_values.specs.declared.property.Property.{Property}
use Rattle.heap_values.specs.Views.{ObjectView}
use Rattle.heap_objects.specs.Object.{is_deletable, is_length, marks_if}
use Rattle.heap_elements.specs.Properties.{property_at}
use Rattle.object_heap.specs.Heap.{kind_in, own_marks_in}
use Rattle.js_evaluation.specs.Objects.{is_fixed_in, is_fixed_of, tells_literal}
use Rattle.heap_steps.specs.Works.{is_kept}

kept : (p : Option Property) → is_kept (marks_if p) ≡ not (is_deletable p)
kept None = refl
kept (Some p) = refl

-- by what an object is
abbrev pub fixed_by : Kind → Option ObjectView → List ℕ → Bool
fixed_by (kind.Function f scope) o name = bytes_eq name (codes "length")
fixed_by (kind.Native n) o name = bytes_eq name (codes "prototype") && is_kept (own_marks_in o name)
fixed_by (kind.Pattern n) o name = tells_literal name
fixed_by k o name = false

module _ (o : ObjectView) (name : List ℕ) where
  fixed_of : (k : Kind) → o.kind ≡ k → fixed_by k (Some o) name ≡ is_fixed_of o name k
  fixed_of kind.Plain e = refl
  fixed_of kind.Array e = refl
  fixed_of (kind.Function f scope) e = refl
  fixed_of (kind.Native n) e =
      ap (λ b. bytes_eq name (codes "prototype") && b) (kept (property_at o.properties name))
      ∙ ap (λ k. bytes_eq name (codes "prototype") && not (not (is_length k name) && is_deletable (property_at o.properties name))) (sym e)
  fixed_of kind.Error e = refl
  fixed_of (kind.Pattern n) e = refl

pub fixed : (o : Option ObjectView) (name : List ℕ) → fixed_by (kind_in o) o name ≡ is_fixed_in o name
fixed None name = refl
fixed (Some o) name = fixed_of o name o.kind refl
