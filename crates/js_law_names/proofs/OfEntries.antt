-- Entries, where the parts that they enter agree.
use Rattle.std.proofs.Common.{◌≡◌, refl, sym, ap, ap₂, subst, map, ◌++◌, ◌||◌, length, ℕ, pos, List, [], ◌∷◌, Bool, true, false, Option, Some, None}
use Rattle.std.specs.Prelude.{option_map, slice_get, codes}
use Rattle.js_tree.specs.declared.place.Place.{Place}
use Rattle.js_tree.specs.declared.bound.BoundName.{BoundName}
use Rattle.js_tree.specs.Tree.{FunctionTree, a_function, StatementTree, Block, DeclareNumbered, Statements, no_statement, a_statement}
use Rattle.js_binding.specs.Names.{arguments_name, declared_function, functions_of, variables_of_all}
use Rattle.js_binding.specs.Scopes.{Scope, named, place_of}
use Rattle.js_binding.specs.Source.{unbound}
use Rattle.heap_values.specs.declared.found.Found.{Found}
use Rattle.heap_values.specs.declared.found.Found.TheVariants as found
use Rattle.heap_values.specs.declared.ids.Kind.{Kind}
use Rattle.heap_values.specs.declared.ids.Kind.TheVariants as kind
use Rattle.heap_values.specs.declared.ids.ObjectId.{ObjectId}
use Rattle.heap_values.specs.declared.ids.ScopeId.{ScopeId}
use Rattle.heap_values.specs.declared.property.Property.{Property}
use Rattle.heap_values.specs.declared.built_in.BuiltIn.TheVariants as built_in
use Rattle.heap_values.specs.declared.value.Value.{Value}
use Rattle.heap_values.specs.declared.value.Value.TheVariants as value
use Rattle.object_heap.specs.Heap.{object_at, kind_in, found_of}
use Rattle.js_evaluation.specs.State.{RunState, built_in_object, global_object}
use Rattle.js_evaluation.specs.Objects.{Context, global_id}
use Rattle.js_evaluation.specs.Scoping.{by_names, by_slots}
use Rattle.js_evaluation.specs.Parts.{call_part, Within, calls}
use Rattle.js_evaluation.specs.NativeTable.{native_of}
use Rattle.js_evaluation.specs.Entries as def
use Rattle.js_law_right.specs.EachIn.{EachInStatements}
use Rattle.js_law_right.specs.Right.{Setting, NamesRight, right, CallRight, FunctionRight}
use Rattle.js_law_right.specs.Unbound.{function_unbound, statement_unbound, statements_unbound}
use Rattle.js_law_names.proofs.Worlds.{Shape}
use Rattle.js_law_names.proofs.Agreeing.{Agrees, along, gives, sees, ◌onto◌, ◌then◌, either, returns}
use Rattle.js_law_names.proofs.OfState.{make-agrees, define-agrees, write_slot-agrees, throw_type_error-agrees}
use Rattle.js_law_names.proofs.OfObjects.{get-agrees, elements_from-agrees}
use Rattle.js_law_names.proofs.OfConversions.{CallsAgree}
use Rattle.js_law_names.proofs.OfNatives.{native_outcome-agrees}
use Rattle.js_law_names.proofs.OfNames.{in_new_scope, writes_name}
use Rattle.js_law_names.proofs.OfParts.{bare, WithinAgrees}
use Rattle.js_law_names.proofs.OfExpressions.{get_map, closes_numbered}
use Rattle.js_law_names.proofs.OfStatements.{statements_from-agrees}
use Rattle.js_law_names.proofs.OfVariables.{variables_of_all-bare}

-- ---- what a body declares

declared_bare : (s : StatementTree) → declared_function (statement_unbound s) ≡ declared_function s
declared_bare (Block p ss) = refl
declared_bare s = refl

functions_bare : (ss : Statements) → functions_of (statements_unbound ss) ≡ functions_of ss
functions_bare no_statement = refl
functions_bare (a_statement s ss) = ap₂ ◌++◌ (declared_bare s) (functions_bare ss)

names_bare : (xs : List BoundName) → map (λ (x : BoundName). x.name) (map unbound xs) ≡ map (λ (x : BoundName). x.name) xs
names_bare [] = refl
names_bare (x ∷ xs) = ap (λ ys. x.name ∷ ys) (names_bare xs)

own_arguments_bare : (xs : List BoundName) (ss : Statements)
    → def.has_own_arguments (map unbound xs) (statements_unbound ss) ≡ def.has_own_arguments xs ss
own_arguments_bare xs ss = ap₂ (λ ys zs. def.has_name arguments_name ys || def.has_name arguments_name zs) (names_bare xs) (functions_bare ss)

-- a function of this kind stands in scopes that its setting has around it
abbrev KindRight : (ℕ → Setting) → RunState → Kind → Type 0
KindRight setting z k = (n : ℕ) (i : ScopeId) → k ≡ kind.Function n i → Shape z.names z.heap.scopes i (setting n).around

-- ---- what enters no part

module _ {setting : ℕ → Setting} where
  arguments_object-agrees : {z : RunState} (p : Place) (vs : List Value)
      → Agrees setting z (def.arguments_object p vs) (def.arguments_object p vs)
  arguments_object-agrees p vs =
      make-agrees kind.Plain (Some (built_in_object built_in.ObjectPrototype)) p (λ n i e. cc) onto (λ object.
      define-agrees object (codes "length") (value.Number (pos (length vs))) false true p
      then (elements_from-agrees p object 0 vs then gives (value.Object object)))

  arguments_at-agrees : {z : RunState} (scope : ScopeId) (p : Place) (vs : List Value) (slot : Option ℕ)
      → Agrees setting z (def.arguments_at scope p vs slot) (def.arguments_at scope p vs slot)
  arguments_at-agrees scope p vs None = gives tt
  arguments_at-agrees scope p vs (Some slot) = arguments_object-agrees p vs onto (λ object. write_slot-agrees scope slot object)

  arguments_if-agrees : {z : RunState} (b : Bool) (scope : ScopeId) (p : Place) (names : List (List ℕ)) (vs : List Value)
      → Agrees setting z (def.arguments_if b scope p names vs) (def.arguments_if b scope p names vs)
  arguments_if-agrees true scope p names vs = gives tt
  arguments_if-agrees false scope p names vs = arguments_at-agrees scope p vs (place_of arguments_name names)

  declared_over-agrees : {z : RunState} (old : Option Property) (name : List ℕ) (f : Value) (p : Place)
      → Agrees setting z (def.declared_over old name f p) (def.declared_over old name f p)
  declared_over-agrees None name f p = define-agrees global_id name f true false p
  declared_over-agrees (Some old) name f p =
      either (def.gives_way old) (define-agrees global_id name f true false p) (throw_type_error-agrees (codes "not an object") p)

  declare_function-agrees : {z : RunState} (name : List ℕ) (f : Value) (p : Place)
      → Agrees setting z (def.declare_function name f p) (def.declare_function name f p)
  declare_function-agrees name f p =
      sees (λ u l _f. declared_over-agrees (def.own_property (object_at u.heap global_id) name) name f p) (λ u. refl)

  declared_unless-agrees : {z : RunState} (f : Found) (name : List ℕ) (p : Place)
      → Agrees setting z (def.declared_unless f name p) (def.declared_unless f name p)
  declared_unless-agrees found.Absent name p = define-agrees global_id name value.Undefined true false p
  declared_unless-agrees f name p = gives tt

  global_variables-agrees : {z : RunState} (p : Place) (names : List (List ℕ))
      → Agrees setting z (def.global_variables p names) (def.global_variables p names)
  global_variables-agrees p [] = gives tt
  global_variables-agrees p (name ∷ names) =
      sees (λ u l _f. declared_unless-agrees (found_of u.heap global_id name) name p) (λ u. refl) then global_variables-agrees p names

-- ---- the names of a function's scope, and of a script

module _ {setting : ℕ → Setting} (functions : List FunctionTree) (z : RunState) (cx : Context) (xs : List Scope) (shape : Shape z.names z.heap.scopes cx.scope xs) where
  parameters_from-agrees : (p : Place) (ps : List BoundName) (vs : List Value) → NamesRight xs ps
      → Agrees setting z (def.parameters_from by_names cx p (map unbound ps) vs) (def.parameters_from by_slots cx p ps vs)
  parameters_from-agrees p [] vs r = gives tt
  parameters_from-agrees p (x ∷ ps) [] r = writes_name cx xs x p shape r.0 value.Undefined then parameters_from-agrees p ps [] r.1
  parameters_from-agrees p (x ∷ ps) (v ∷ vs) r = writes_name cx xs x p shape r.0 v then parameters_from-agrees p ps vs r.1

  function_object-agrees : (p : Place) (n : ℕ) → (setting n).around ≡ xs
      → Agrees setting z (def.function_object (bare functions) n cx.scope p) (def.function_object functions n cx.scope p)
  function_object-agrees p n r = closes_numbered functions z n cx.scope p (subst (Shape z.names z.heap.scopes cx.scope) (sym r) shape)

  functions_from-agrees : (p : Place) (ss : Statements) → EachInStatements (right setting) xs ss
      → Agrees setting z (def.functions_from by_names (bare functions) cx p (statements_unbound ss))
      (def.functions_from by_slots functions cx p ss)
  functions_from-agrees p no_statement r = gives tt
  functions_from-agrees p (a_statement (DeclareNumbered q x n) ss) r =
      function_object-agrees p n r.0.1 onto (λ f. writes_name cx xs x p shape r.0.0 f) then functions_from-agrees p ss r.1
  functions_from-agrees p (a_statement s ss) r = functions_from-agrees p ss r.1

  global_functions-agrees : (p : Place) (ss : Statements) → EachInStatements (right setting) xs ss
      → Agrees setting z (def.global_functions (bare functions) cx p (statements_unbound ss))
      (def.global_functions functions cx p ss)
  global_functions-agrees p no_statement r = gives tt
  global_functions-agrees p (a_statement (DeclareNumbered q x n) ss) r =
      function_object-agrees p n r.0.1 onto (λ f. declare_function-agrees x.name f p) then global_functions-agrees p ss r.1
  global_functions-agrees p (a_statement s ss) r = global_functions-agrees p ss r.1

module _ {setting : ℕ → Setting} (functions : List FunctionTree)
    (stand : (n : ℕ) (f : FunctionTree) → slice_get functions n ≡ Some f → FunctionRight setting (setting n).around f)
    (go go' : Within) (agrees : WithinAgrees setting go go') where
  calls_agree : CallsAgree setting (calls go) (calls go')
  calls_agree z f this vs p = agrees.value z (call_part f this vs p) tt

  -- ---- a function

  entered_same : {z : RunState} (around : ScopeId) (xs : List Scope) (own : Option BoundName) (parameters : List BoundName)
      (names : List (List ℕ)) (ss : Statements) (this : Value) (vs : List Value) (p : Place)
      → Shape z.names z.heap.scopes around xs → CallRight setting xs parameters names ss
      → Agrees setting z (def.entered_with by_names (bare functions) go names around this vs p (function_unbound (a_function own parameters names ss)))
      (def.entered_with by_slots functions go' names around this vs p (a_function own parameters names ss))
  entered_same around xs own parameters names ss this vs p shape r = in_new_scope (named names) around xs p shape (λ u i l inner.
      let cx : Context = record { scope = i; this = this } in
      parameters_from-agrees functions u cx (named names ∷ xs) inner p parameters vs r.parameters_are
      then functions_from-agrees functions u cx (named names ∷ xs) inner p ss r.body_is
      then along (λ b. def.arguments_if b i p names vs) (sym (own_arguments_bare parameters ss))
      (arguments_if-agrees (def.has_own_arguments parameters ss) i p names vs)
      then returns value.Undefined (statements_from-agrees functions go go' agrees u cx (named names ∷ xs) inner ss r.body_is))

  entered-agrees : {z : RunState} (around : ScopeId) (xs : List Scope) (this : Value) (vs : List Value) (p : Place) (o : Option FunctionTree)
      → Shape z.names z.heap.scopes around xs → ((f : FunctionTree) → o ≡ Some f → FunctionRight setting xs f)
      → Agrees setting z (def.entered by_names (bare functions) go around this vs p (option_map function_unbound o))
      (def.entered by_slots functions go' around this vs p o)
  entered-agrees around xs this vs p None shape r = gives value.Undefined
  entered-agrees around xs this vs p (Some (a_function own parameters names ss)) shape r =
      let f = a_function own parameters names ss in
      let q = r f refl in
      along (λ all. def.entered_with by_names (bare functions) go all around this vs p (function_unbound f)) q.names_are
      (entered_same around xs own parameters names ss this vs p shape q)

  enters : {z : RunState} (n : ℕ) (around : ScopeId) (this : Value) (vs : List Value) (p : Place)
      → Shape z.names z.heap.scopes around (setting n).around
      → Agrees setting z (def.entered by_names (bare functions) go around this vs p (slice_get (bare functions) n))
      (def.entered by_slots functions go' around this vs p (slice_get functions n))
  enters n around this vs p shape =
      along (λ o. def.entered by_names (bare functions) go around this vs p o) (sym (get_map functions n))
      (entered-agrees around (setting n).around this vs p (slice_get functions n) shape (stand n))

  -- ---- a call

  called_by-agrees : {z : RunState} (k : Kind) (this : Value) (vs : List Value) (p : Place) → KindRight setting z k
      → Agrees setting z (def.called_by by_names (bare functions) go k this vs p)
      (def.called_by by_slots functions go' k this vs p)
  called_by-agrees (kind.Function n around) this vs p h = enters n around this vs p (h n around refl)
  called_by-agrees (kind.Native n) this vs p h = native_outcome-agrees (calls go) (calls go') calls_agree (native_of n) this vs p
  called_by-agrees k this vs p h = gives value.Undefined

  pub call_node-agrees : {z : RunState} (f : ObjectId) (this : Value) (vs : List Value) (p : Place)
      → Agrees setting z (def.call_node by_names (bare functions) go f this vs p)
      (def.call_node by_slots functions go' f this vs p)
  unfolding def.call_node
  call_node-agrees f this vs p = sees (λ u l fine. called_by-agrees (kind_in (object_at u.heap f)) this vs p (λ n i e. fine.closures f.0 n i e)) (λ u. refl)

  -- ---- `new`

  constructed_by-agrees : {z : RunState} (k : Kind) (f : ObjectId) (vs : List Value) (p : Place) → KindRight setting z k
      → Agrees setting z (def.constructed_by by_names (bare functions) go k f vs p)
      (def.constructed_by by_slots functions go' k f vs p)
  constructed_by-agrees (kind.Function n around) f vs p h =
      get-agrees (value.Object f) (codes "prototype") p onto (λ prototype.
      make-agrees kind.Plain (Some (def.made_from prototype)) p (λ m i e. cc) onto (λ made.
      enters n around (value.Object made) vs p (h n around refl) onto (λ v. gives (def.object_or (value.Object made) v))))
  constructed_by-agrees (kind.Native n) f vs p h = native_outcome-agrees (calls go) (calls go') calls_agree (native_of n) value.Undefined vs p
  constructed_by-agrees k f vs p h = gives value.Undefined

  pub construct_node-agrees : {z : RunState} (f : ObjectId) (vs : List Value) (p : Place)
      → Agrees setting z (def.construct_node by_names (bare functions) go f vs p)
      (def.construct_node by_slots functions go' f vs p)
  unfolding def.construct_node
  construct_node-agrees f vs p = sees (λ u l fine. constructed_by-agrees (kind_in (object_at u.heap f)) f vs p (λ n i e. fine.closures f.0 n i e)) (λ u. refl)

  -- ---- the load of a script

  pub load_node-agrees : (z : RunState) (outer : ScopeId) (ss : Statements) (p : Place)
      → Shape z.names z.heap.scopes outer [] → EachInStatements (right setting) [] ss
      → Agrees setting z (def.load_node by_names (bare functions) go outer (statements_unbound ss) p)
      (def.load_node by_slots functions go' outer ss p)
  unfolding def.load_node
  load_node-agrees z outer ss p shape r =
      let cx : Context = record { scope = outer; this = global_object } in
      global_functions-agrees functions z cx [] shape p ss r
      then along (λ ys. def.global_variables p ys) (sym (variables_of_all-bare ss)) (global_variables-agrees p (variables_of_all ss))
      then statements_from-agrees functions go go' agrees z cx [] shape ss r
