-- The elements of an array become texts one by one, and are joined (ECMA-262 5.1, section 15.4.4.5).
use Rattle.std.proofs.Common.{◌≡◌, ℕ, suc, ◌-◌, ◌+◌, List, [], ◌∷◌, ◌++◌, length, Bool, true, if◌then◌else◌, Ok, Err, Result, refl, ap, sym, subst, false, ◌⊎◌, inl, inr}
use Rattle.std.specs.Prelude.{nat_lt}
use Rattle.std.specs.Fmt.{decimal}
use Rattle.std.specs.Result.{IsErrAnd}
use Rattle.js_tree.specs.declared.place.Place.{Place}
use Rattle.heap_values.specs.declared.answer.HeapAnswer.TheVariants as answer
use Rattle.heap_values.specs.declared.ids.ObjectId.{ObjectId}
use Rattle.heap_values.specs.declared.value.Value.{Value}
use Rattle.heap_values.specs.declared.value.Value.TheVariants as value
use Rattle.heap_values.specs.Views.{HeapView}
use Rattle.object_heap.specs.Heap.{object_at, length_of}
use Rattle.array_builtins.specs.declared.joining.JoinAnswer.{JoinAnswer}
use Rattle.array_builtins.specs.declared.joining.JoinAnswer.TheVariants as join
use Rattle.array_builtins.specs.Joining.{made_text}
use Rattle.js_convert.specs.Texts.{text_of}
use Rattle.run_trees.specs.Runs.{pure, onward, ◌>>=◌}
use Rattle.js_evaluation.specs.declared.fault.FaultCode.TheVariants as code
use Rattle.js_evaluation.specs.State.{Does, changed}
use Rattle.js_evaluation.specs.Handed.{gives_text}
use Rattle.js_evaluation.specs.Objects.{get}
use Rattle.js_evaluation.specs.Conversions.{primitive_by, text_methods}
use Rattle.js_evaluation.specs.Natives.{element_text}
use Rattle.js_frames.specs.declared.wanted.Wanted.TheVariants as wanted
use Rattle.js_evaluation.specs.Parts.{calls}
use Rattle.js_frames.specs.RestOf.{rest_of}
use Rattle.heap_steps.specs.declared.halt.Halt.{Halt}
use Rattle.heap_steps.specs.declared.halt.Halt.TheVariants as halt
use Rattle.heap_steps.specs.Works.{Works}
use Rattle.js_machine.specs.declared.machine.Machine.{Machine}
use Rattle.js_machine.specs.declared.now.Now.{Now}
use Rattle.js_machine.specs.Moves.{Leads, Moves, at, functions_of, run_state, inner}
use Rattle.js_machine.proofs.Steps.{with_heap, works_then, works_stops}
use Rattle.js_native_calls.specs.Calls.{converted, join_refusal, joined_from, joined_value, plain_text}
use Rattle.js_native_calls.proofs.Grouping.{grouped}
use Rattle.js_native_calls.proofs.Steps.{moves_as}
use Rattle.js_native_calls.proofs.Objects.{text_of_element}
use Rattle.utf16_text.specs.declared.limits.TheConstants.{LONGEST_TEXT}
use Rattle.object_heap.specs.declared.limits.TheConstants.{MOST_TEXT}

-- a text that is too long ends the run
too_long : (m : Machine) (text : List ℕ) (place : Place) → nat_lt LONGEST_TEXT (length text) ≡ true → Moves (gives_text text place) m (Err (halt.Fault code.StringTooLong place)) m
too_long m text place long =
    record {
      goes = λ last. ap (λ (b : Bool). changed place (if b then Err answer.StringTooLong
          else if nat_lt MOST_TEXT (m.state.heap.units + length text) then Err answer.TextSpent
          else Ok (record m.state.heap { units = m.state.heap.units + length text }))
          (onward (λ _. pure (value.Text text)) (rest_of (functions_of m) last m.frames).given) (run_state m.state)) long;
      light = tt;
    }

made : (b : Bool) (us text : List ℕ) → (if b then Err join.TooLong else Ok us) ≡ Ok text → text ≡ us
made true us text e = cc
made false us text e = cc

is_long : (b : Bool) (us : List ℕ) (a : JoinAnswer) → (if b then Err join.TooLong else Ok us) ≡ Err a → b ≡ true
is_long true us a e = refl
is_long false us a e = cc

-- the text that joining makes is the joined one
pub joined_text : (us text : List ℕ) → made_text us ≡ Ok text → text ≡ us
joined_text us text e = made (nat_lt LONGEST_TEXT (length us)) us text e

-- a refusal to join ends the run, but for want of memory
pub join_refused : (m : Machine) (us : List ℕ) (place : Place) (a : JoinAnswer) → ((a ≡ join.Memory) ⊎ (made_text us ≡ Err a))
    → Moves (gives_text us place) m (Err (join_refusal a place)) m
join_refused m us place join.Memory c = record { goes = λ last. tt; light = tt }
join_refused m us place join.TooLong (inl e) = cc
join_refused m us place join.TooLong (inr e) = too_long m us place (is_long (nat_lt LONGEST_TEXT (length us)) us join.TooLong e)

-- all elements of an array
pub all_elements : (m : Machine) (array : ObjectId) (separator : List ℕ) (place : Place) (r : Result Now Halt) (m' : Machine)
    → Moves (at m joined_from (length_of (object_at m.state.heap array)) (length_of (object_at m.state.heap array)) array [] separator place) m r m'
    → Moves (at m joined_value (value.Object array) separator place) m r m'
all_elements m array separator place r m' k = moves_as (at m joined_value (value.Object array) separator place) m
    (at m joined_from (length_of (object_at m.state.heap array)) (length_of (object_at m.state.heap array)) array [] separator place) r m' (λ after. refl) k

module _ (m : Machine) (count : ℕ) (array : ObjectId) (texts : List (List ℕ)) (separator : List ℕ) (place : Place) (left : ℕ) (r : Result Now Halt) where
  -- none is left
  pub no_element : (m' : Machine) → left ≡ 0 → Moves (at m joined_from 0 count array texts separator place) m r m' → Moves (at m joined_from left count array texts separator place) m r m'
  no_element m' e k = subst (λ (l : ℕ). Moves (at m joined_from l count array texts separator place) m r m') (sym e) k

  module _ (less : ℕ) (some : left ≡ suc less) (h : HeapView) where
    abbrev behind : List ℕ → Does Value
    behind t = at m joined_from less count array (texts ++ t ∷ []) separator place

    abbrev taken : Value → Does Value
    taken v = element_text (calls (inner m)) v place >>= behind

    one_left : (m' : Machine) → Moves (get (value.Object array) (decimal (count - left)) place >>= taken) m r m' → Moves (at m joined_from left count array texts separator place) m r m'
    one_left m' k =
        subst (λ (l : ℕ). Moves (at m joined_from l count array texts separator place) m r m') (sym some)
        (subst (λ (l : ℕ). Moves (get (value.Object array) (decimal (count - l)) place >>= taken) m r m') some k)

    -- the next can't be read
    pub element_stops : (e : Halt) → IsErrAnd r (λ x. x ≡ e) → Works (get (value.Object array) (decimal (count - left)) place) m.state.heap (Err e) h
        → Moves (at m joined_from left count array texts separator place) m r (with_heap m h)
    element_stops e i w = one_left (with_heap m h) (works_stops (get (value.Object array) (decimal (count - left)) place) taken m h r e i w)

    module _ (m' : Machine) (v : Value) (got : Works (get (value.Object array) (decimal (count - left)) place) m.state.heap (Ok v) h) where
      read : Moves (taken v) (with_heap m h) r m' → Moves (at m joined_from left count array texts separator place) m r m'
      read k = one_left m' (works_then (get (value.Object array) (decimal (count - left)) place) taken m h v got k)

      -- the next is no object
      pub plain_element : (now_texts : List (List ℕ)) → ((id : ObjectId) → v ≡ value.Object id → ⊥) → now_texts ≡ texts ++ plain_text v ∷ []
          → Moves (at m joined_from less count array now_texts separator place) (with_heap m h) r m' → Moves (at m joined_from left count array texts separator place) m r m'
      plain_element now_texts n pushed k =
          read (subst (λ (p : Does (List ℕ)). Moves (p >>= behind) (with_heap m h) r m') (sym (text_of_element (calls (inner m)) v place n))
          (subst (λ (ts : List (List ℕ)). Moves (at m joined_from less count array ts separator place) (with_heap m h) r m') pushed k))

      -- the next is an object that is asked
      pub asked_element : (id : ObjectId) → v ≡ value.Object id
          → Leads (at m converted text_methods id place (wanted.Element less count array texts separator place)) (with_heap m h) r m'
          → Moves (at m joined_from left count array texts separator place) m r m'
      asked_element id e k =
          read (subst (λ (w : Value). Moves (taken w) (with_heap m h) r m') (sym e)
          (grouped (primitive_by (calls (inner m)) text_methods id place) (λ p. pure (text_of p)) behind (with_heap m h) r m' k))
