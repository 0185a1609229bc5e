-- What evaluation opens: the parts of a script that are evaluated one within the other, with the place of each; and
-- what they refer to.
use Rattle.std.specs.Prelude.{ℕ, List}
use Rattle.js_tree.specs.declared.place.Place.{Place}
use Rattle.js_tree.specs.declared.bound.BoundName.{BoundName}
use Rattle.js_tree.specs.Tree.{ExpressionTree, Number, Characters, Pattern, True, False, Null, This, Name, Array, Object, Function, Numbered, Suffixed, New, Update, Unary, Chain, Conditional, Assign, Comma, SuffixTree, a_member, an_index, a_call, StatementTree, Block, Empty, Evaluate, Debugger, Var, If, DoWhile, While, For, ForIn, Continue, Break, Return, Throw, Switch, Try, Declare, DeclareNumbered, Statements}
use Rattle.heap_values.specs.declared.ids.ObjectId.{ObjectId}
use Rattle.heap_values.specs.declared.ids.ScopeId.{ScopeId}
use Rattle.heap_values.specs.declared.value.Value.{Value}
use Rattle.js_evaluation.specs.State.{Does}
use Rattle.js_evaluation.specs.Objects.{Context}
use Rattle.js_evaluation.specs.Conversions.{Call}

-- What is evaluated to a value: an expression; a statement; a call, by its function, `this`, arguments and place; a
-- construction; the load of a script. An expression that is evaluated up to its reference is open as well.
pub data Part : Type 0 where
  expression_part : Context → ExpressionTree → Part
  statement_part : Context → StatementTree → Part
  call_part : ObjectId → Value → List Value → Place → Part
  construct_part : ObjectId → List Value → Place → Part
  load_part : ScopeId → Statements → Part

-- What an expression refers to, so that it can be read, written and deleted (8.7): a name, or a base and the name of its
-- property; with the place where it is read. The base of a name is looked up at each use (ByNames says why it is the
-- same).
pub data Reference : Type 0 where
  to_name : Place → BoundName → Reference
  to_property : Place → Value → List ℕ → Reference

-- ---- the parts within

-- evaluation of them, with room for one part less: of a part up to its value, and of an expression up to its reference
pub record Within : Type 0 where
  pub value : Part → Does Value
  pub reference : Context → ExpressionTree → Does Reference

module _ (go : Within) where
  -- an expression up to its value
  abbrev pub visit : Context → ExpressionTree → Does Value
  visit cx e = go.value (expression_part cx e)

  -- an expression up to what it refers to
  abbrev pub refer : Context → ExpressionTree → Does Reference
  refer cx e = go.reference cx e

  abbrev pub execute : Context → StatementTree → Does Value
  execute cx s = go.value (statement_part cx s)

  abbrev pub calls : Call
  calls f this vs p = go.value (call_part f this vs p)

  abbrev pub construct : ObjectId → List Value → Place → Does Value
  construct f vs p = go.value (construct_part f vs p)

-- ---- places

abbrev pub expression_place : ExpressionTree → Place
expression_place (Number p n) = p
expression_place (Characters p x) = p
expression_place (Pattern p l) = p
expression_place (True p) = p
expression_place (False p) = p
expression_place (Null p) = p
expression_place (This p) = p
expression_place (Name p x) = p
expression_place (Array p all) = p
expression_place (Object p all) = p
expression_place (Function p f) = p
expression_place (Numbered p n) = p
expression_place (Suffixed p e all) = p
expression_place (New p e all) = p
expression_place (Update p f o e) = p
expression_place (Unary p o e) = p
expression_place (Chain p e all) = p
expression_place (Conditional p e a b) = p
expression_place (Assign p e o v) = p
expression_place (Comma p all) = p

abbrev pub suffix_place : SuffixTree → Place
suffix_place (a_member p x) = p
suffix_place (an_index p e) = p
suffix_place (a_call p es) = p

abbrev pub statement_place : StatementTree → Place
statement_place (Block p ss) = p
statement_place (Empty p) = p
statement_place (Evaluate p e) = p
statement_place (Debugger p) = p
statement_place (Var p ds) = p
statement_place (If p bs o) = p
statement_place (DoWhile p s e) = p
statement_place (While p e s) = p
statement_place (For p a e d s) = p
statement_place (ForIn p t e s) = p
statement_place (Continue p) = p
statement_place (Break p) = p
statement_place (Return p o) = p
statement_place (Throw p e) = p
statement_place (Switch p e cs) = p
statement_place (Try p s c o) = p
statement_place (Declare p x f) = p
statement_place (DeclareNumbered p x n) = p

-- what arises outside every node has this place
abbrev pub outside : Place
outside = record { line = 0; column = 0 }

abbrev pub part_place : Part → Place
part_place (expression_part cx e) = expression_place e
part_place (statement_part cx s) = statement_place s
part_place (call_part f this vs p) = p
part_place (construct_part f vs p) = p
part_place (load_part outer ss) = outside
