-- What the functions read that a reader of nested parts has.
use Rattle.std.specs.Prelude.{ℕ, List, Result}
use Rattle.std.specs.Fn.{Shared}
use Rattle.std.specs.declared.alloc.Global.{Global}
use denote.Ref.{Bor}
use Rattle.js_tree.specs.declared.place.Place.{Place}
use Rattle.js_tree.specs.declared.token.Token.{Token}
use Rattle.js_tree.specs.declared.refusal.ReadAnswer.{ReadAnswer}
use Rattle.js_tree.specs.Tree.{ExpressionTree, StatementTree}
use Rattle.js_grammar.specs.Readers.{Reader}
use Rattle.js_grammar.specs.Expressions.{Deeper}
use Rattle.js_grammar.specs.Statements.{deeper}
use Rattle.js_reading.specs.Reads.{Reads}
use Rattle.js_parser.specs.declared.nested.ExpressionPart.{ExpressionPart}
use Rattle.js_parser.specs.declared.nested.ExpressionPart.TheVariants.{Value, Operand, Callee}
use Rattle.js_parser.specs.declared.nested.StatementPart.{StatementPart}
use Rattle.js_parser.specs.declared.nested.StatementPart.TheVariants.{Statement, Block}
use Rattle.js_parser.specs.declared.reader.PartReader.{PartReader}

-- a part that counts as nested
abbrev pub expression_part : Deeper → ExpressionPart → Reader ExpressionTree
expression_part d (Value form) = d.value form
expression_part d Operand = d.operand
expression_part d Callee = d.callee

abbrev pub statement_part : Deeper → StatementPart → Reader StatementTree
statement_part d (Statement around) = d.statement around
statement_part d (Block around) = d.block around

-- Each part may be asked for with this room, and is read as reader says.
pub record ReadsParts {F P X : Type 0} (f : Shared F (Global × (Place × (ℕ × (P × (Bor (List Token) × Unit {0}))))) (Result (X × Bor (List Token)) ReadAnswer)) (read : F) (alloc : Global) (end : Place) (room : ℕ) (reader : P → Reader X) : Type 0 where
  pub callable : (part : P) (tokens : Bor (List Token)) → f.pre read (alloc, (end, (room, (part, (tokens, tt)))))
  pub reads : (part : P) (tokens : Bor (List Token)) (given : Result (X × Bor (List Token)) ReadAnswer) → f.post read (alloc, (end, (room, (part, (tokens, tt))))) given → Reads (reader part tokens.now) given

-- Both functions of a reader read nested parts with the room that it has.
pub record ReadsNested {E S : Type 0} (e : Shared E (Global × (Place × (ℕ × (ExpressionPart × (Bor (List Token) × Unit {0}))))) (Result (ExpressionTree × Bor (List Token)) ReadAnswer)) (s : Shared S (Global × (Place × (ℕ × (StatementPart × (Bor (List Token) × Unit {0}))))) (Result (StatementTree × Bor (List Token)) ReadAnswer)) (reader : PartReader E S) : Type 0 where
  pub expressions : ReadsParts e reader.expressions reader.alloc reader.end reader.room (expression_part (deeper reader.end reader.room))
  pub statements : ReadsParts s reader.statements reader.alloc reader.end reader.room (statement_part (deeper reader.end reader.room))
