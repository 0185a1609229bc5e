-- Suffixes, one after another (ECMA-262 5.1, section 11.2).
use Rattle.std.proofs.Common.{◌≡◌, ℕ, ◌+◌, List, [], ◌∷◌, true, false, Some, None, Ok, Err, Result, refl, ap, sym, ◌∙◌, subst}
use Rattle.std.specs.Result.{IsErrAnd}
use Rattle.js_tree.specs.declared.place.Place.{Place}
use Rattle.js_tree.specs.declared.expression.Suffix.{Suffix}
use Rattle.js_tree.specs.declared.expression.SuffixNode.{SuffixNode}
use Rattle.js_tree.specs.declared.expression.SuffixNode.TheVariants as node
use Rattle.js_tree.specs.Tree.{ExpressionTree, FunctionTree, SuffixTree, Suffixes, a_member, an_index, no_suffix, a_suffix}
use Rattle.js_tree.specs.View.{suffix_of, suffixes_of}
use Rattle.heap_values.specs.declared.ids.ObjectId.{ObjectId}
use Rattle.heap_values.specs.declared.value.Value.{Value}
use Rattle.heap_values.specs.declared.value.Value.TheVariants as value
use Rattle.heap_values.specs.Views.{HeapView}
use Rattle.run_trees.specs.Runs.{◌>>=◌}
use Rattle.js_evaluation.specs.declared.fault.FaultCode.TheVariants as code
use Rattle.js_evaluation.specs.State.{Does, charge}
use Rattle.js_convert.specs.Texts.{text_of}
use Rattle.js_evaluation.specs.Objects.{Context, get, test_base}
use Rattle.js_evaluation.specs.Conversions as convert
use Rattle.js_frames.specs.declared.expression_frame.Aim.{Aim}
use Rattle.js_frames.specs.declared.expression_frame.Aim.TheVariants as aim
use Rattle.js_frames.specs.Parts.{context_of}
use Rattle.js_frames.specs.Rests.{DoesEither, giving, referring, ◌>=>◌}
use Rattle.js_frames.specs.RestOf.{suffixes_by}
use Rattle.js_evaluation.specs.Expressions as rule
use Rattle.js_evaluation.specs.Parts.{Within, calls, suffix_place}
use Rattle.js_evaluation.specs.Scoping.{by_slots}
use Rattle.heap_steps.specs.declared.halt.Halt.{Halt}
use Rattle.heap_steps.specs.declared.halt.Halt.TheVariants as halt
use Rattle.heap_steps.specs.Works.{Works}
use Rattle.js_machine.specs.declared.machine.Machine.{Machine}
use Rattle.js_machine.specs.declared.now.Now.{Now}
use Rattle.js_machine.specs.Moves.{Leads, Refers, at, functions_of, inner, visited}
use Rattle.js_machine.specs.Leaves.{Reaches}
use Rattle.js_machine.proofs.Steps.{with_heap, works_either, either_stops}
use Rattle.js_machine.proofs.Acting.{reached_either, reached_short, reached_none}
use Rattle.js_expressions.specs.Suffixes.{is_last, member}
use Rattle.js_native_calls.proofs.Objects.{is_primitive}
use Rattle.js_native_calls.proofs.Steps.{with_fuel, charged_either, spent_either}

module _ (functions : List FunctionTree) (go : Within) (cx : Context) where
  -- a suffix, and then those behind it
  abbrev pub and_then : Aim → Value → Value → SuffixTree → List Suffix → DoesEither
  and_then purpose this v s ss = rule.suffix_at by_slots functions go cx this v s >=> (λ x. suffixes_by functions go cx purpose x.0 x.1 (suffixes_of ss))

  -- what comes behind the charge
  abbrev behind : Aim → Value → Value → SuffixTree → Suffixes → DoesEither
  behind aim.Value this v s ss = giving (rule.suffix_at by_slots functions go cx this v s >>= (λ x. rule.suffixes_from by_slots functions go cx x.0 x.1 ss))
  behind aim.Target this v s no_suffix = referring (rule.referred_at by_slots functions go cx v s)
  behind aim.Target this v s (a_suffix t ss) =
      referring (rule.suffix_at by_slots functions go cx this v s >>= (λ x. rule.target_suffixes by_slots functions go cx x.0 x.1 (a_suffix t ss)))

  by_charge : (purpose : Aim) (this v : Value) (s : SuffixTree) (ss : Suffixes)
      → suffixes_by functions go cx purpose this v (a_suffix s ss) ≡ (charge (suffix_place s) >=> (λ _. behind purpose this v s ss))
  by_charge aim.Value this v s ss = refl
  by_charge aim.Target this v s no_suffix = refl
  by_charge aim.Target this v s (a_suffix t ss) = refl

  place_of : (p : Place) (n : SuffixNode) → suffix_place (suffix_of p n) ≡ p
  place_of p (node.Member x) = refl
  place_of p (node.Index e) = refl
  place_of p (node.Call es) = refl

  pub charged_suffix : (purpose : Aim) (this v : Value) (p : Place) (n : SuffixNode) (ss : Suffixes)
      → suffixes_by functions go cx purpose this v (a_suffix (suffix_of p n) ss) ≡ (charge p >=> (λ _. behind purpose this v (suffix_of p n) ss))
  charged_suffix purpose this v p n ss = by_charge purpose this v (suffix_of p n) ss ∙ ap (λ (q : Place). charge q >=> (λ _. behind purpose this v (suffix_of p n) ss)) (place_of p n)

  behind_last : (purpose : Aim) (this v : Value) (s : SuffixTree) (ss : List Suffix) → is_last purpose ss ≡ true
      → behind purpose this v s (suffixes_of ss) ≡ referring (rule.referred_at by_slots functions go cx v s)
  behind_last aim.Value this v s ss h = cc
  behind_last aim.Target this v s [] h = refl
  behind_last aim.Target this v s (t ∷ ts) h = cc

  behind_next : (purpose : Aim) (this v : Value) (s : SuffixTree) (ss : List Suffix) → is_last purpose ss ≡ false
      → behind purpose this v s (suffixes_of ss) ≡ and_then purpose this v s ss
  behind_next aim.Value this v s ss h = refl
  behind_next aim.Target this v s [] h = cc
  behind_next aim.Target this v s (t ∷ ts) h = refl

module _ (m : Machine) (purpose : Aim) (this v : Value) where
  module _ (p : Place) (n : SuffixNode) (ss : List Suffix) where
    -- no fuel is left
    pub spent_suffix : (r : Result Now Halt) (e : Halt) (m' : Machine) → IsErrAnd r (λ x. x ≡ e) → (e ≡ halt.Fault code.FuelSpent p) × (m.state.fuel ≡ 0)
        → Leads (at m suffixes_by purpose this v (a_suffix (suffix_of p n) (suffixes_of ss))) m r m'
    spent_suffix r e m' i h = subst (λ (q : DoesEither). Leads q m r m') (sym (charged_suffix (functions_of m) (inner m) (context_of m.context) purpose this v p n (suffixes_of ss))) (spent_either _ m p r e m' i h)

    module _ (less : ℕ) (taken : less + 1 ≡ m.state.fuel) (r : Result Now Halt) (m' : Machine) where
      pub last_charged : is_last purpose ss ≡ true → Refers (at m (rule.referred_at by_slots) v (suffix_of p n)) (with_fuel m less) r m'
          → Leads (at m suffixes_by purpose this v (a_suffix (suffix_of p n) (suffixes_of ss))) m r m'
      last_charged h k = subst (λ (q : DoesEither). Leads q m r m') (sym (charged_suffix (functions_of m) (inner m) (context_of m.context) purpose this v p n (suffixes_of ss)))
          (charged_either _ m p less taken r m' (subst (λ (q : DoesEither). Leads q (with_fuel m less) r m') (sym (behind_last (functions_of m) (inner m) (context_of m.context) purpose this v (suffix_of p n) ss h)) k))

      pub next_charged : is_last purpose ss ≡ false → Leads (at m and_then purpose this v (suffix_of p n) ss) (with_fuel m less) r m'
          → Leads (at m suffixes_by purpose this v (a_suffix (suffix_of p n) (suffixes_of ss))) m r m'
      next_charged h k = subst (λ (q : DoesEither). Leads q m r m') (sym (charged_suffix (functions_of m) (inner m) (context_of m.context) purpose this v p n (suffixes_of ss)))
          (charged_either _ m p less taken r m' (subst (λ (q : DoesEither). Leads q (with_fuel m less) r m') (sym (behind_next (functions_of m) (inner m) (context_of m.context) purpose this v (suffix_of p n) ss h)) k))

  module _ (p : Place) (name : List ℕ) (ss : List Suffix) (h : HeapView) where
    -- a member, and then the suffixes behind it
    pub member_then : (w : Value) (r : Result Now Halt) (m' : Machine) → Works (member v name p) m.state.heap (Ok w) h
        → Leads (at m suffixes_by purpose v w (suffixes_of ss)) (with_heap m h) r m' → Leads (at m and_then purpose this v (a_member p name) ss) m r m'
    member_then w r m' g k = works_either (member v name p) (λ x. at m suffixes_by purpose v x (suffixes_of ss)) m h w g k

    pub member_stops : (r : Result Now Halt) (e : Halt) → IsErrAnd r (λ x. x ≡ e) → Works (member v name p) m.state.heap (Err e) h
        → Leads (at m and_then purpose this v (a_member p name) ss) m r (with_heap m h)
    member_stops r e i g = either_stops (member v name p) (λ x. at m suffixes_by purpose v x (suffixes_of ss)) m h r e i g

-- ---- an index, and then the suffixes behind it

module _ (m m₁ : Machine) (purpose : Aim) (this v : Value) (p : Place) (e : ExpressionTree) (ss : List Suffix) (r : Result Now Halt) where
  -- what is done with an index that has a value
  abbrev with_index : List FunctionTree → Within → Context → Value → DoesEither
  with_index functions go cx k = test_base v p >=> (λ _. convert.to_primitive (calls go) convert.text_methods k p
      >=> (λ key. get v (text_of key) p >=> (λ w. suffixes_by functions go cx purpose v w (suffixes_of ss))))

  pub index_then : (k : Value) (m' : Machine) → Reaches (visited m e) m (Ok (Some k)) m₁ → Leads (at m₁ with_index k) m₁ r m' → Leads (at m and_then purpose this v (an_index p e) ss) m r m'
  index_then k m' reaches goes = reached_either (visited m e) with_index m m₁ k r m' reaches goes

  pub index_stops : (h : Halt) → IsErrAnd r (λ x. x ≡ h) → Reaches (visited m e) m (Err h) m₁ → Leads (at m and_then purpose this v (an_index p e) ss) m r m₁
  index_stops h i reaches = reached_short (visited m e) with_index m m₁ r h i reaches

  pub index_visited : (m' : Machine) → Reaches (visited m e) m (Ok None) m₁ → Leads (at m₁ and_then purpose this v (an_index p e) ss) m₁ r m' → Leads (at m and_then purpose this v (an_index p e) ss) m r m'
  index_visited m' reaches goes = reached_none (visited m e) (λ functions go cx. and_then functions go cx purpose this v (an_index p e) ss) m m₁ r m' reaches goes

  -- a primitive value is the key
  module _ (k : Value) (primitive : (id : ObjectId) → k ≡ value.Object id → ⊥) (reaches : Reaches (visited m e) m (Ok (Some k)) m₁) (h : HeapView) where
    by_key : (m' : Machine) → Leads (member v (text_of k) p >=> (λ w. at m₁ suffixes_by purpose v w (suffixes_of ss))) m₁ r m' → Leads (at m and_then purpose this v (an_index p e) ss) m r m'
    by_key m' goes = index_then k m' reaches (subst (λ (q : Does Value). Leads (test_base v p >=> (λ _. q >=> (λ key. get v (text_of key) p >=> (λ w. at m₁ suffixes_by purpose v w (suffixes_of ss))))) m₁ r m')
        (sym (is_primitive (calls (inner m₁)) convert.text_methods k p primitive)) goes)

    pub element_then : (w : Value) (m' : Machine) → Works (member v (text_of k) p) m₁.state.heap (Ok w) h
        → Leads (at m₁ suffixes_by purpose v w (suffixes_of ss)) (with_heap m₁ h) r m' → Leads (at m and_then purpose this v (an_index p e) ss) m r m'
    element_then w m' works goes = by_key m' (works_either (member v (text_of k) p) (λ x. at m₁ suffixes_by purpose v x (suffixes_of ss)) m₁ h w works goes)

    pub element_stops : (x : Halt) → IsErrAnd r (λ y. y ≡ x) → Works (member v (text_of k) p) m₁.state.heap (Err x) h → Leads (at m and_then purpose this v (an_index p e) ss) m r (with_heap m₁ h)
    element_stops x i works = by_key (with_heap m₁ h) (either_stops (member v (text_of k) p) (λ w. at m₁ suffixes_by purpose v w (suffixes_of ss)) m₁ h r x i works)
