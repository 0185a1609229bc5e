-- Binary operators as they are read: rows of them stay open while their operands are read.
use Rattle.std.specs.Prelude.{◌≡◌, ℕ, zero, suc, ◌+◌, ◌-◌, ◌*◌, ◌<◌, List, [], ◌∷◌, ◌++◌, length, Option, Some, None, Result, Ok, Err, nat_eq, nat_le, nat_lt, ◌&&◌, if◌then◌else◌}
use Rattle.js_tree.specs.declared.operators.BinaryOp.{BinaryOp}
use Rattle.js_tree.specs.declared.place.Place.{Place}
use Rattle.js_tree.specs.declared.token.Token.{Token}
use Rattle.js_tree.specs.declared.refusal.ReadAnswer.{ReadAnswer}
use Rattle.js_tree.specs.Tree.{ExpressionTree}
use Rattle.js_grammar.specs.declared.form.Form.{Form}
use Rattle.js_grammar.specs.Operators.{at_level, level_of, next_binary}
use Rattle.js_grammar.specs.Reading.{Refusal, ◌>>=◌, Fails}
use Rattle.js_grammar.specs.Readers.{Reader, place_at, row, row_of}
use Rattle.js_grammar.specs.Expressions.{Deeper, an_operand, chained, level, unary}
use Rattle.js_expression_parser.specs.declared.operators.OpenRow.{OpenRow}
use Rattle.js_expression_parser.specs.declared.operators.Next.{Next}
use Rattle.js_expression_parser.specs.declared.operators.Next.TheVariants as next
use Rattle.js_expression_parser.specs.declared.operators.Reading.{Reading}

-- an operator of these levels
abbrev pub between : ℕ → ℕ → Option BinaryOp → Option BinaryOp
between from bound None = None
between from bound (Some op) = if nat_le from (level_of op) && nat_lt (level_of op) bound then Some op else None

-- the next operator of a row, where it may take one more
abbrev pub next_in : Form → OpenRow → List Token → Option BinaryOp
next_in form o ts = if nat_eq o.turns 0 then None else at_level (level_of o.op) (next_binary form ts)

-- a row with one operand more, that of its last operator
abbrev pub with_operand : OpenRow → ExpressionTree → OpenRow
with_operand o v = record o { operands = o.operands ++ record { place = o.op_place; op = o.op; value = v } ∷ [] }

-- a row that is opened behind a value, at its first operator
abbrev pub opened : Place → Reading → BinaryOp → OpenRow
opened end r op = record { bound = r.bound; place = r.place; first = r.value; operands = []; op = op; op_place = place_at end r.rest.now; turns = length r.rest.now }

-- the operand that begins here is read, and no operator behind it
abbrev pub Begins : Place → Deeper → ℕ → List Token → Result Reading ReadAnswer → Type 0
Begins end d bound ts (Ok r) = (unary end d ts ≡ Ok (r.value, r.rest.now)) × (r ≡ record r { place = place_at end ts; level = 0; bound = bound })
Begins end d bound ts (Err e) = Fails e (unary end d ts)

module _ (end : Place) (d : Deeper) (form : Form) where
  -- the operators of so many levels, from this one on, behind a value that begins at this place
  unfoldable pub levels_from : ℕ → ℕ → Place → ExpressionTree → Reader ExpressionTree
  levels_from zero k p v ts = Ok (v, ts)
  levels_from (suc more) k p v ts = do
    others ← row (an_operand end form k (level end d form k)) ts
    levels_from more (suc k) p (chained p v others.0) others.1

  -- the operators that a row still takes
  abbrev pub row_from : OpenRow → Reader ExpressionTree
  row_from o ts = do
    others ← row_of (an_operand end form (level_of o.op) (level end d form (level_of o.op))) o.turns ts
    Ok (chained o.place o.first (o.operands ++ others.0), others.1)

  -- a row whose last operand has this value, and then the levels above it
  abbrev pub closes : OpenRow → ExpressionTree → Reader ExpressionTree
  closes o v ts = do
    one ← row_from (with_operand o v) ts
    levels_from (o.bound - suc (level_of o.op)) (suc (level_of o.op)) o.place one.0 one.1

  -- an open row at the operand that it waits for
  abbrev pub operand_in : OpenRow → Reader ExpressionTree
  operand_in o ts = do
    value ← level end d form (level_of o.op) ts
    closes o value.0 value.1

  -- what open rows, the outermost first, make of what is read within them
  abbrev pub within : List OpenRow → Result (ExpressionTree × List Token) Refusal → Result (ExpressionTree × List Token) Refusal
  within [] read = read
  within (o ∷ os) read = do
    value ← within os read
    closes o value.0 value.1

  -- what is read behind a value
  abbrev pub behind : Reading → Result (ExpressionTree × List Token) Refusal
  behind r = levels_from (r.bound - r.level) r.level r.place r.value r.rest.now

  -- what is read goes on so within rows
  abbrev pub Continues : Result (ExpressionTree × List Token) Refusal → Next → List OpenRow → Type 0
  Continues read (next.Operand o ts) rows = read ≡ within rows (operand_in o ts.now)
  Continues read (next.Value r) rows = read ≡ within rows (behind r)
  Continues read (next.Whole v ts) rows = ⊥

  -- the same, or it is at its end
  abbrev pub Goes : Result (ExpressionTree × List Token) Refusal → Next → List OpenRow → Type 0
  Goes read (next.Whole v ts) rows = read ≡ Ok (v, ts.now)
  Goes read step rows = Continues read step rows

-- ---- how much is still to be read at most; no slice is as long as limit

abbrev pub limit : ℕ
limit = 18446744073709551617

unfoldable pub whole : ℕ → ℕ
whole zero = 0
whole (suc l) = whole l + (1 + limit * (2 + whole l))

abbrev pub row_cost : OpenRow → ℕ
row_cost o = o.turns * (2 + whole (level_of o.op)) + 1 + (whole o.bound - whole (suc (level_of o.op)))

abbrev pub rows_cost : List OpenRow → ℕ
rows_cost [] = 0
rows_cost (o ∷ os) = row_cost o + rows_cost os

abbrev pub cost : List OpenRow → Reading → ℕ
cost rows r = rows_cost rows + (whole r.bound - whole r.level)

-- each step leaves less to be read
abbrev pub Costs : ℕ → Next → List OpenRow → Type 0
Costs most (next.Operand o ts) rows = rows_cost rows + row_cost o + whole (level_of o.op) < most
Costs most (next.Value r) rows = cost rows r < most
Costs most (next.Whole v ts) rows = Unit {0}
