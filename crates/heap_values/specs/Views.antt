-- What contracts see a heap as (ECMA-262 5.1, sections 8.6 and 10.2): its objects and scopes in the order of creation,
-- and what the run has made in it so far.
use Rattle.std.specs.Prelude.{ℕ, List, Option}
use Rattle.js_pattern_reader.specs.Literal.{Literal}
use Rattle.heap_values.specs.declared.ids.Kind.{Kind}
use Rattle.heap_values.specs.declared.ids.ObjectId.{ObjectId}
use Rattle.heap_values.specs.declared.ids.ScopeId.{ScopeId}
use Rattle.heap_values.specs.declared.property.Property.{Property}
use Rattle.heap_values.specs.declared.value.Value.{Value}

-- an object: what it is, its properties by name in the order of creation, its prototype, and the length that an array
-- has
pub record ObjectView : Type 0 where
  pub kind : Kind
  pub properties : List (List ℕ × Property)
  pub prototype : Option ObjectId
  pub length : ℕ

-- a scope: the values of its names by slot, and the scope around it
pub record ScopeView : Type 0 where
  pub slots : List Value
  pub parent : Option ScopeId

-- a heap, with the literals of its patterns by their numbers; cells and units count what this run has made
pub record HeapView : Type 0 where
  pub objects : List ObjectView
  pub scopes : List ScopeView
  pub literals : List Literal
  pub cells : ℕ
  pub units : ℕ
