-- A part in a box is seen as the part.
use Rattle.std.proofs.Common.{◌≡◌, Option, Some, None, refl}
use Rattle.std.specs.Prelude.{Box}
use Rattle.std.specs.declared.alloc.Global.{Global}
use Rattle.js_tree.specs.declared.statement.Catch.{Catch}
use Rattle.js_tree.specs.declared.statement.ForStart.{ForStart}
use Rattle.js_tree.specs.Tree.{ExpressionTree, StatementTree, optional_of}
use Rattle.js_tree.specs.View.{optional_box, optional_statement, optional_start, optional_catch}
use Rattle.js_tree.specs.Parts.{statement_or_none, start_or_none, catch_or_none, unboxed}

pub expression_box : (o : Option (Box ExpressionTree Global)) → optional_box o ≡ optional_of (unboxed o)
expression_box None = refl
expression_box (Some b) = refl

pub statement_box : (o : Option (Box StatementTree Global)) → optional_statement o ≡ statement_or_none (unboxed o)
statement_box None = refl
statement_box (Some b) = refl

pub start_box : (o : Option (Box ForStart Global)) → optional_start o ≡ start_or_none (unboxed o)
start_box None = refl
start_box (Some b) = refl

pub catch_box : (o : Option (Box Catch Global)) → optional_catch o ≡ catch_or_none (unboxed o)
catch_box None = refl
catch_box (Some b) = refl
