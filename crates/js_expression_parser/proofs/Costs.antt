-- Each step leaves less to be read.
use Rattle.std.proofs.Common.{◌≡◌, ℕ, zero, suc, ◌+◌, ◌-◌, ◌*◌, ◌<◌, ◌≤◌, List, [], ◌∷◌, ◌++◌, Result, Ok, Err, refl, ap, ◌∙◌, arith, suc-mul}
use Rattle.std.specs.Prelude.{IfOk}
use Rattle.std.proofs.lemmas.Nat.{row_fits}
use Rattle.utf16_text.specs.declared.memory.Memory.{Memory}
use Rattle.js_grammar.specs.Operators.{level_of}
use Rattle.js_expression_parser.specs.declared.operators.OpenRow.{OpenRow}
use Rattle.js_expression_parser.specs.declared.operators.Next.{Next}
use Rattle.js_expression_parser.specs.declared.operators.Next.TheVariants as nexts
use Rattle.js_expression_parser.specs.declared.operators.Reading.{Reading}
use Rattle.js_expression_parser.specs.Operators.{Costs, cost, limit, row_cost, rows_cost, whole}

grows : (l : ℕ) → whole l ≤ whole (suc l)
unfolding whole
grows l = omega arith

up_by : (more l : ℕ) → whole l ≤ whole (l + more)
up_by zero l = let same : l + zero ≡ l = omega arith in rw same (omega arith)
up_by (suc more) l =
    let next : l + suc more ≡ suc (l + more) = omega arith in
    rw next (omega (up_by more l, grows (l + more), arith))

pub rises : (l m : ℕ) → l ≤ m → whole l ≤ whole m
rises l m le =
    let same : l + (m - l) ≡ m = omega (arith, le) in
    omega (arith, up_by (m - l) l, ap whole same)

pub rows_cost_last : (rows : List OpenRow) (o : OpenRow) → rows_cost (rows ++ o ∷ []) ≡ rows_cost rows + row_cost o
rows_cost_last [] o = omega arith
rows_cost_last (p ∷ ps) o = omega (arith, rows_cost_last ps o)

-- opening a row of this level
pub opening : (from level bound turns : ℕ) → from ≤ level → level < bound → turns < limit
    → turns * (2 + whole level) + 1 + (whole bound - whole (suc level)) + whole level < whole bound - whole from
unfolding whole
opening from level bound turns low high few =
    let product : turns * (2 + whole level) + (2 + whole level) ≤ limit * (2 + whole level) = row_fits turns (2 + whole level) limit (2 + whole level) few (omega arith) in
    let step : whole (suc level) ≡ whole level + (1 + limit * (2 + whole level)) = refl in
    let under : whole from ≤ whole level = rises from level low in
    let over : whole (suc level) ≤ whole bound = rises (suc level) bound (omega (arith, high)) in
    sums (turns * (2 + whole level)) (limit * (2 + whole level)) (whole level) (whole (suc level)) (whole bound) (whole from) product step under over
  where
    sums : (a b l s t f : ℕ) → a + (2 + l) ≤ b → s ≡ l + (1 + b) → f ≤ l → s ≤ t → a + 1 + (t - s) + l < t - f
    sums a b l s t f product step under over = omega (arith, product, step, under, over)

-- a row goes on
pub going : (level turns left more : ℕ) → turns ≡ suc left → left * (2 + whole level) + 1 + more + whole level < turns * (2 + whole level) + 1 + more
going level turns left more is =
    let product : turns * (2 + whole level) ≡ left * (2 + whole level) + (2 + whole level) = ap (λ n. n * (2 + whole level)) is ∙ suc-mul left (2 + whole level) in
    sums (turns * (2 + whole level)) (left * (2 + whole level)) (whole level) product
  where
    sums : (a b l : ℕ) → a ≡ b + (2 + l) → b + 1 + more + l < a + 1 + more
    sums a b l product = omega (arith, product)

-- a row that was the innermost one
pub carried : (rows : List OpenRow) (o : OpenRow) (r : Reading) (all : List OpenRow) → all ≡ rows ++ o ∷ [] → (n : Result Next Memory)
    → IfOk n (λ next. Costs (row_cost o) next []) → IfOk n (λ next. Costs (cost all r) next rows)
carried rows o r all is (Ok (nexts.Operand p ts)) h = rw is (omega (arith, h, rows_cost_last rows o))
carried rows o r all is (Ok (nexts.Value v)) h = rw is (omega (arith, h, rows_cost_last rows o))
carried rows o r all is (Ok (nexts.Whole v ts)) h = tt
carried rows o r all is (Err e) h = tt

-- an operand is read
pub entered : (rows : List OpenRow) (o : OpenRow) (r : Reading) (all : List OpenRow) (most : ℕ) → all ≡ rows ++ o ∷ [] → r.level ≡ 0 → r.bound ≡ level_of o.op
    → rows_cost rows + row_cost o + whole (level_of o.op) < most → cost all r < most
entered rows o r all most is level bound less = rw (is, level, bound) (omega (arith, less, rows_cost_last rows o))
