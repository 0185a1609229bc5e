-- Entries: the call of a function, of a native, `new`, and the load of a script (ECMA-262 5.1, sections 10.4, 10.5,
-- 13.2 and 14). Each rule is what comes behind the charge for the entry. What is no function, and a number that no
-- function has, come up in no run.
use Rattle.std.specs.Prelude.{ℕ, pos, List, [], ◌∷◌, length, map, Bool, true, false, ◌||◌, if◌then◌else◌, Option, Some, None, slice_get, codes}
use Rattle.std.specs.List.{list_any}
use Rattle.std.specs.Str.{bytes_eq}
use Rattle.js_tree.specs.declared.place.Place.{Place}
use Rattle.js_tree.specs.declared.bound.BoundName.{BoundName}
use Rattle.js_tree.specs.Tree.{FunctionTree, a_function, DeclareNumbered, Statements, no_statement, a_statement}
use Rattle.js_binding.specs.Names.{arguments_name, functions_of, variables_of_all}
use Rattle.js_binding.specs.Scopes.{place_of, named}
use Rattle.heap_values.specs.declared.found.Found.{Found}
use Rattle.heap_values.specs.declared.found.Found.TheVariants as found
use Rattle.heap_values.specs.declared.ids.Kind.{Kind}
use Rattle.heap_values.specs.declared.ids.Kind.TheVariants as kind
use Rattle.heap_values.specs.declared.ids.ObjectId.{ObjectId}
use Rattle.heap_values.specs.declared.ids.ScopeId.{ScopeId}
use Rattle.heap_values.specs.declared.property.Content.{Content}
use Rattle.heap_values.specs.declared.property.Content.TheVariants as content
use Rattle.heap_values.specs.declared.property.Property.{Property}
use Rattle.heap_values.specs.declared.built_in.BuiltIn.TheVariants as built_in
use Rattle.heap_values.specs.declared.value.Value.{Value}
use Rattle.heap_values.specs.declared.value.Value.TheVariants as value
use Rattle.heap_values.specs.Views.{ObjectView}
use Rattle.heap_elements.specs.Properties.{property_at}
use Rattle.object_heap.specs.Heap.{object_at, kind_in, found_of}
use Rattle.js_convert.specs.Operators.{is_object}
use Rattle.run_trees.specs.Runs.{pure, reading, ◌>>=◌, ◌>>◌, returning}
use Rattle.js_evaluation.specs.State.{Does, make, define, write_slot, built_in_object, global_object, throw_type_error}
use Rattle.js_evaluation.specs.Objects.{Context, get, closure, arity_of, global_id, elements_from}
use Rattle.js_evaluation.specs.NativeTable.{native_of}
use Rattle.js_evaluation.specs.Natives.{native_outcome}
use Rattle.js_evaluation.specs.Scoping.{Scoping}
use Rattle.js_evaluation.specs.Parts.{Within, calls}
use Rattle.js_evaluation.specs.Statements.{statements_from}

-- ---- the names of a function's scope (10.5)

abbrev pub function_object : List FunctionTree → ℕ → ScopeId → Place → Does Value
function_object functions n scope p = closure n (arity_of (slice_get functions n)) scope p

-- each parameter has its argument, or undefined; of two of one name the later one counts
abbrev pub parameters_from : Scoping → Context → Place → List BoundName → List Value → Does (Unit {0})
parameters_from scoping cx p [] vs = pure tt
parameters_from scoping cx p (x ∷ xs) [] = scoping.write_name cx x value.Undefined p >> parameters_from scoping cx p xs []
parameters_from scoping cx p (x ∷ xs) (v ∷ vs) = scoping.write_name cx x v p >> parameters_from scoping cx p xs vs

-- the functions that a body declares, in their order; each is made anew
abbrev pub functions_from : Scoping → List FunctionTree → Context → Place → Statements → Does (Unit {0})
functions_from scoping functions cx p no_statement = pure tt
functions_from scoping functions cx p (a_statement (DeclareNumbered q x n) ss) =
    function_object functions n cx.scope p >>= (λ f. scoping.write_name cx x f p) >> functions_from scoping functions cx p ss
functions_from scoping functions cx p (a_statement s ss) = functions_from scoping functions cx p ss

-- the object of the arguments (10.6; profile: it has no `callee`, and isn't linked to the parameters)
abbrev pub arguments_object : Place → List Value → Does Value
arguments_object p vs = do
  object ← make kind.Plain (Some (built_in_object built_in.ObjectPrototype)) p
  _length ← define object (codes "length") (value.Number (pos (length vs))) false true p
  _elements ← elements_from p object 0 vs
  pure (value.Object object)

abbrev pub has_name : List ℕ → List (List ℕ) → Bool
has_name x names = list_any (bytes_eq x) names

-- a parameter or a function of that name stands in the place of the object (10.5, steps 6 and 7)
abbrev pub has_own_arguments : List BoundName → Statements → Bool
has_own_arguments parameters body = has_name arguments_name (map (λ x. x.name) parameters) || has_name arguments_name (functions_of body)

abbrev pub arguments_at : ScopeId → Place → List Value → Option ℕ → Does (Unit {0})
arguments_at scope p vs None = pure tt
arguments_at scope p vs (Some slot) = arguments_object p vs >>= (λ object. write_slot scope slot object)

abbrev pub arguments_if : Bool → ScopeId → Place → List (List ℕ) → List Value → Does (Unit {0})
arguments_if true scope p names vs = pure tt
arguments_if false scope p names vs = arguments_at scope p vs (place_of arguments_name names)

-- ---- what `new` makes (13.2.2)

-- the prototype of what a function constructs
abbrev pub made_from : Value → ObjectId
made_from (value.Object id) = id
made_from v = built_in_object built_in.ObjectPrototype

-- an object that the function returns stands in the place of the one that was made
abbrev pub object_or : Value → Value → Value
object_or made v = if is_object v then v else made

-- ---- the names of a script (10.5)

abbrev pub is_left_out : Content → Bool
is_left_out (content.LeftOut t) = true
is_left_out (content.Value v) = false

-- whether a global property that was there gives way to a function (10.5, step 5.e): one that is [[Configurable]], a
-- listed one, which is [[Writable]] too, and one that is left out (profile)
abbrev pub gives_way : Property → Bool
gives_way old = old.deletable || old.listed || is_left_out old.content

-- the function is listed and can't be deleted; a property that doesn't give way refuses it
abbrev pub declared_over : Option Property → List ℕ → Value → Place → Does (Unit {0})
declared_over None name f p = define global_id name f true false p
declared_over (Some old) name f p =
    if gives_way old then define global_id name f true false p else throw_type_error (codes "not an object") p

abbrev pub own_property : Option ObjectView → List ℕ → Option Property
own_property None name = None
own_property (Some o) name = property_at o.properties name

abbrev pub declare_function : List ℕ → Value → Place → Does (Unit {0})
declare_function name f p = reading (λ s. declared_over (own_property (object_at s.heap global_id) name) name f p)

abbrev pub global_functions : List FunctionTree → Context → Place → Statements → Does (Unit {0})
global_functions functions cx p no_statement = pure tt
global_functions functions cx p (a_statement (DeclareNumbered q x n) ss) =
    function_object functions n cx.scope p >>= (λ f. declare_function x.name f p) >> global_functions functions cx p ss
global_functions functions cx p (a_statement s ss) = global_functions functions cx p ss

-- a variable is a property of the global object, unless it has one of that name, by itself or by its prototype
-- (10.5, step 8; HasBinding, 10.2.1.2.1)
abbrev pub declared_unless : Found → List ℕ → Place → Does (Unit {0})
declared_unless found.Absent name p = define global_id name value.Undefined true false p
declared_unless f name p = pure tt

abbrev pub global_variables : Place → List (List ℕ) → Does (Unit {0})
global_variables p [] = pure tt
global_variables p (name ∷ names) = reading (λ s. declared_unless (found_of s.heap global_id name) name p) >> global_variables p names

-- scoping: how the run has its scopes; functions: those of the script; go: what evaluation makes of the parts within
module _ (scoping : Scoping) (functions : List FunctionTree) (go : Within) where
  -- ---- a function (13.2.1)

  -- its scope, in which its variables stand undefined; the parameters, the functions, the object of the arguments,
  -- which can be seen only where the body mentions it; and then its body
  abbrev pub entered_in : ScopeId → Value → List Value → Place → List BoundName → List (List ℕ) → Statements → Does Value
  entered_in scope this vs p parameters names ss =
      let cx : Context = record { scope = scope; this = this } in
      parameters_from scoping cx p parameters vs >> functions_from scoping functions cx p ss
      >> arguments_if (has_own_arguments parameters ss) scope p names vs
      >> returning value.Undefined (statements_from scoping functions go cx ss)

  abbrev pub entered_with : List (List ℕ) → ScopeId → Value → List Value → Place → FunctionTree → Does Value
  entered_with names around this vs p (a_function own parameters given ss) =
      scoping.make_scope (named names) around p >>= (λ scope. entered_in scope this vs p parameters names ss)

  abbrev pub entered : ScopeId → Value → List Value → Place → Option FunctionTree → Does Value
  entered around this vs p None = pure value.Undefined
  entered around this vs p (Some f) = entered_with (scoping.names_within f) around this vs p f

  -- ---- a call (11.2.3)

  abbrev pub called_by : Kind → Value → List Value → Place → Does Value
  called_by (kind.Function n around) this vs p = entered around this vs p (slice_get functions n)
  called_by (kind.Native n) this vs p = native_outcome (calls go) (native_of n) this vs p
  called_by k this vs p = pure value.Undefined

  unfoldable pub call_node : ObjectId → Value → List Value → Place → Does Value
  call_node f this vs p = reading (λ s. called_by (kind_in (object_at s.heap f)) this vs p)

  -- ---- `new` (13.2.2)

  abbrev pub constructed_by : Kind → ObjectId → List Value → Place → Does Value
  constructed_by (kind.Function n around) f vs p = do
    prototype ← get (value.Object f) (codes "prototype") p
    made ← make kind.Plain (Some (made_from prototype)) p
    v ← entered around (value.Object made) vs p (slice_get functions n)
    pure (object_or (value.Object made) v)
  constructed_by (kind.Native n) f vs p = native_outcome (calls go) (native_of n) value.Undefined vs p
  constructed_by k f vs p = pure value.Undefined

  unfoldable pub construct_node : ObjectId → List Value → Place → Does Value
  construct_node f vs p = reading (λ s. constructed_by (kind_in (object_at s.heap f)) f vs p)

  -- ---- the load of a script (10.5, 14)

  unfoldable pub load_node : ScopeId → Statements → Place → Does Value
  load_node outer ss p =
      let cx : Context = record { scope = outer; this = global_object } in
      global_functions functions cx p ss >> global_variables p (variables_of_all ss) >> statements_from scoping functions go cx ss
