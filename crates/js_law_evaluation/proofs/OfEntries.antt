-- Entries have one end and ask for lookup names alone, where the words of scopes and the parts within do.
use Rattle.std.proofs.Common.{refl, ℕ, pos, List, [], ◌∷◌, Bool, true, false, Option, Some, None}
use Rattle.std.specs.Prelude.{length, slice_get, codes}
use Rattle.js_tree.specs.declared.place.Place.{Place}
use Rattle.js_tree.specs.declared.bound.BoundName.{BoundName}
use Rattle.js_tree.specs.Tree.{FunctionTree, a_function, DeclareNumbered, Statements, no_statement, a_statement}
use Rattle.js_binding.specs.Names.{arguments_name, variables_of_all}
use Rattle.js_binding.specs.Scopes.{place_of, named}
use Rattle.heap_values.specs.declared.found.Found.{Found}
use Rattle.heap_values.specs.declared.found.Found.TheVariants as found
use Rattle.heap_values.specs.declared.ids.Kind.{Kind}
use Rattle.heap_values.specs.declared.ids.Kind.TheVariants as kind
use Rattle.heap_values.specs.declared.ids.ObjectId.{ObjectId}
use Rattle.heap_values.specs.declared.ids.ScopeId.{ScopeId}
use Rattle.heap_values.specs.declared.property.Property.{Property}
use Rattle.heap_values.specs.declared.built_in.BuiltIn.TheVariants as built_in
use Rattle.heap_values.specs.declared.value.Value.{Value}
use Rattle.heap_values.specs.declared.value.Value.TheVariants as value
use Rattle.object_heap.specs.Heap.{object_at, kind_in, found_of}
use Rattle.js_evaluation.specs.State.{built_in_object, global_object}
use Rattle.js_evaluation.specs.Objects.{Context, arity_of, global_id}
use Rattle.js_evaluation.specs.NativeTable.{native_of}
use Rattle.js_evaluation.specs.Scoping.{Scoping}
use Rattle.js_evaluation.specs.Parts.{call_part, Within, calls}
use Rattle.js_evaluation.specs.Statements.{statements_from}
use Rattle.js_evaluation.specs.Entries as def
use Rattle.js_law_evaluation.proofs.OfState.{Ends, gives, reads, ◌onto◌, ◌then◌, either, returns, make-ends, define-ends, write_slot-ends, throw_type_error-ends}
use Rattle.js_law_evaluation.proofs.OfObjects.{get-ends, elements_from-ends, closure-ends}
use Rattle.js_law_evaluation.proofs.OfScoping.{WordsEnd}
use Rattle.js_law_evaluation.proofs.OfParts.{WithinEnds}
use Rattle.js_law_evaluation.proofs.OfConversions.{CallsEnd}
use Rattle.js_law_evaluation.proofs.OfNatives.{native_outcome-ends}
use Rattle.js_law_evaluation.proofs.OfStatements.{statements_from-ends}

-- ---- the names of a function's scope

function_object-ends : (functions : List FunctionTree) (n : ℕ) (scope : ScopeId) (p : Place)
    → Ends (def.function_object functions n scope p)
function_object-ends functions n scope p = closure-ends n (arity_of (slice_get functions n)) scope p

parameters_from-ends : {scoping : Scoping} → WordsEnd scoping → (cx : Context) (p : Place) (xs : List BoundName) (vs : List Value)
    → Ends (def.parameters_from scoping cx p xs vs)
parameters_from-ends words cx p [] vs = gives tt
parameters_from-ends words cx p (x ∷ xs) [] =
    words.write_name cx x value.Undefined p then parameters_from-ends words cx p xs []
parameters_from-ends words cx p (x ∷ xs) (v ∷ vs) = words.write_name cx x v p then parameters_from-ends words cx p xs vs

functions_from-ends : {scoping : Scoping} → WordsEnd scoping → (functions : List FunctionTree) (cx : Context) (p : Place) (ss : Statements)
    → Ends (def.functions_from scoping functions cx p ss)
functions_from-ends words functions cx p no_statement = gives tt
functions_from-ends words functions cx p (a_statement (DeclareNumbered q x n) ss) =
    function_object-ends functions n cx.scope p onto (λ f. words.write_name cx x f p)
    then functions_from-ends words functions cx p ss
functions_from-ends words functions cx p (a_statement s ss) = functions_from-ends words functions cx p ss

arguments_object-ends : (p : Place) (vs : List Value) → Ends (def.arguments_object p vs)
arguments_object-ends p vs =
    make-ends kind.Plain (Some (built_in_object built_in.ObjectPrototype)) p onto (λ object.
    define-ends object (codes "length") (value.Number (pos (length vs))) false true p
    then (elements_from-ends p object 0 vs then gives (value.Object object)))

arguments_at-ends : (scope : ScopeId) (p : Place) (vs : List Value) (slot : Option ℕ) → Ends (def.arguments_at scope p vs slot)
arguments_at-ends scope p vs None = gives tt
arguments_at-ends scope p vs (Some slot) = arguments_object-ends p vs onto (λ object. write_slot-ends scope slot object)

arguments_if-ends : (b : Bool) (scope : ScopeId) (p : Place) (names : List (List ℕ)) (vs : List Value)
    → Ends (def.arguments_if b scope p names vs)
arguments_if-ends true scope p names vs = gives tt
arguments_if-ends false scope p names vs = arguments_at-ends scope p vs (place_of arguments_name names)

-- ---- the names of a script

declared_over-ends : (old : Option Property) (name : List ℕ) (f : Value) (p : Place) → Ends (def.declared_over old name f p)
declared_over-ends None name f p = define-ends global_id name f true false p
declared_over-ends (Some old) name f p = either (def.gives_way old)
    (define-ends global_id name f true false p) (throw_type_error-ends (codes "not an object") p)

declare_function-ends : (name : List ℕ) (f : Value) (p : Place) → Ends (def.declare_function name f p)
declare_function-ends name f p = reads (λ m s. refl) (λ s. declared_over-ends (def.own_property (object_at s.heap global_id) name) name f p)

global_functions-ends : (functions : List FunctionTree) (cx : Context) (p : Place) (ss : Statements)
    → Ends (def.global_functions functions cx p ss)
global_functions-ends functions cx p no_statement = gives tt
global_functions-ends functions cx p (a_statement (DeclareNumbered q x n) ss) =
    function_object-ends functions n cx.scope p onto (λ f. declare_function-ends x.name f p)
    then global_functions-ends functions cx p ss
global_functions-ends functions cx p (a_statement s ss) = global_functions-ends functions cx p ss

declared_unless-ends : (f : Found) (name : List ℕ) (p : Place) → Ends (def.declared_unless f name p)
declared_unless-ends found.Absent name p = define-ends global_id name value.Undefined true false p
declared_unless-ends f name p = gives tt

global_variables-ends : (p : Place) (names : List (List ℕ)) → Ends (def.global_variables p names)
global_variables-ends p [] = gives tt
global_variables-ends p (name ∷ names) =
    reads (λ m s. refl) (λ s. declared_unless-ends (found_of s.heap global_id name) name p) then global_variables-ends p names

module _ {scoping : Scoping} (words : WordsEnd scoping) (functions : List FunctionTree)
    {go : Within} (ends : WithinEnds go) where
  -- ---- the parts within

  calls-end : CallsEnd (calls go)
  calls-end f this vs p = ends.value (call_part f this vs p)

  body-ends : (cx : Context) (ss : Statements) → Ends (statements_from scoping functions go cx ss)
  body-ends cx ss = statements_from-ends words functions ends cx ss

  -- ---- a function

  entered_in-ends : (scope : ScopeId) (this : Value) (vs : List Value) (p : Place) (parameters : List BoundName)
      (names : List (List ℕ)) (ss : Statements)
      → Ends (def.entered_in scoping functions go scope this vs p parameters names ss)
  entered_in-ends scope this vs p parameters names ss =
      let cx : Context = record { scope = scope; this = this } in
      parameters_from-ends words cx p parameters vs then functions_from-ends words functions cx p ss
      then arguments_if-ends (def.has_own_arguments parameters ss) scope p names vs
      then returns value.Undefined (statements_from scoping functions go cx ss) (body-ends cx ss)

  entered_with-ends : (names : List (List ℕ)) (around : ScopeId) (this : Value) (vs : List Value) (p : Place) (f : FunctionTree)
      → Ends (def.entered_with scoping functions go names around this vs p f)
  entered_with-ends names around this vs p (a_function own parameters given ss) =
      words.make_scope (named names) around p onto (λ scope. entered_in-ends scope this vs p parameters names ss)

  entered-ends : (around : ScopeId) (this : Value) (vs : List Value) (p : Place) (f : Option FunctionTree)
      → Ends (def.entered scoping functions go around this vs p f)
  entered-ends around this vs p None = gives value.Undefined
  entered-ends around this vs p (Some f) = entered_with-ends (scoping.names_within f) around this vs p f

  -- ---- a call

  called_by-ends : (k : Kind) (this : Value) (vs : List Value) (p : Place)
      → Ends (def.called_by scoping functions go k this vs p)
  called_by-ends (kind.Function n around) this vs p = entered-ends around this vs p (slice_get functions n)
  called_by-ends (kind.Native n) this vs p = native_outcome-ends (calls go) calls-end (native_of n) this vs p
  called_by-ends k this vs p = gives value.Undefined

  pub call_node-ends : (f : ObjectId) (this : Value) (vs : List Value) (p : Place)
      → Ends (def.call_node scoping functions go f this vs p)
  unfolding def.call_node
  call_node-ends f this vs p = reads (λ m s. refl) (λ s. called_by-ends (kind_in (object_at s.heap f)) this vs p)

  -- ---- `new`

  constructed_by-ends : (k : Kind) (f : ObjectId) (vs : List Value) (p : Place)
      → Ends (def.constructed_by scoping functions go k f vs p)
  constructed_by-ends (kind.Function n around) f vs p =
      get-ends (value.Object f) (codes "prototype") p onto (λ prototype.
      make-ends kind.Plain (Some (def.made_from prototype)) p onto (λ made.
      entered-ends around (value.Object made) vs p (slice_get functions n)
      onto (λ v. gives (def.object_or (value.Object made) v))))
  constructed_by-ends (kind.Native n) f vs p = native_outcome-ends (calls go) calls-end (native_of n) value.Undefined vs p
  constructed_by-ends k f vs p = gives value.Undefined

  pub construct_node-ends : (f : ObjectId) (vs : List Value) (p : Place)
      → Ends (def.construct_node scoping functions go f vs p)
  unfolding def.construct_node
  construct_node-ends f vs p = reads (λ m s. refl) (λ s. constructed_by-ends (kind_in (object_at s.heap f)) f vs p)

  -- ---- the load of a script

  pub load_node-ends : (outer : ScopeId) (ss : Statements) (p : Place)
      → Ends (def.load_node scoping functions go outer ss p)
  unfolding def.load_node
  load_node-ends outer ss p =
      let cx : Context = record { scope = outer; this = global_object } in
      global_functions-ends functions cx p ss then global_variables-ends p (variables_of_all ss) then body-ends cx ss
