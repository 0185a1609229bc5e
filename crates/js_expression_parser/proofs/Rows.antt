-- Operators that are read one behind another come to what the levels give.
use Rattle.std.proofs.Common.{◌≡◌, ℕ, zero, suc, ◌+◌, ◌-◌, ◌<◌, ◌≤◌, List, [], ◌∷◌, ◌++◌, length, Bool, true, false, ◌&&◌, if◌then◌else◌, Option, Some, None, Result, Ok, Err, refl, sym, ap, subst, ◌∙◌, append_assoc, append-nil, arith}
use Rattle.std.specs.Prelude.{IfOk, nat_eq, nat_le, nat_lt}
use Rattle.utf16_text.specs.declared.memory.Memory.{Memory}
use Rattle.js_tree.specs.declared.operators.BinaryOp.{BinaryOp}
use Rattle.js_tree.specs.declared.place.Place.{Place}
use Rattle.js_tree.specs.declared.token.Token.{Token}
use Rattle.js_tree.specs.declared.refusal.ReadAnswer.{ReadAnswer}
use Rattle.js_tree.specs.declared.refusal.ReadAnswer.TheVariants as answers
use Rattle.js_tree.specs.declared.expression.Operand.{Operand}
use Rattle.js_tree.specs.Tree.{ExpressionTree}
use Rattle.js_grammar.specs.declared.form.Form.{Form}
use Rattle.js_grammar.specs.declared.turn.Turn.{Turn}
use Rattle.js_grammar.specs.declared.turn.Turn.TheVariants.{More}
use Rattle.js_grammar.specs.Operators.{at_level, level_of, next_binary}
use Rattle.js_grammar.specs.Reading.{Fails, Refusal, ◌>>=◌}
use Rattle.js_grammar.specs.Readers.{Reader, place_at, rest_of, row, row_of, turned}
use Rattle.js_grammar.specs.Expressions.{Deeper, an_operand, chain, chained, level, unary}
use Rattle.js_expression_parser.specs.declared.operators.OpenRow.{OpenRow}
use Rattle.js_expression_parser.specs.declared.operators.Reading.{Reading}
use Rattle.std.proofs.lemmas.Grind.{common_steps}
use Rattle.js_expression_parser.specs.declared.operators.Next.{Next}
use Rattle.js_expression_parser.specs.declared.operators.Next.TheVariants as nexts
use Rattle.js_expression_parser.specs.Operators.{Begins, Continues, Goes, behind, between, closes, levels_from, next_in, operand_in, opened, with_operand, within}

bind_assoc : {A B C : Type 0} (r : Result A Refusal) (f : A → Result B Refusal) (g : B → Result C Refusal) → ((r >>= f) >>= g) ≡ (r >>= (λ x. f x >>= g))
bind_assoc (Ok x) f g = refl
bind_assoc (Err e) f g = refl

-- the same is done with each value
bind_same : {A B : Type 0} (r : Result A Refusal) (f g : A → Result B Refusal) → ((x : A) → f x ≡ g x) → (r >>= f) ≡ (r >>= g)
bind_same (Ok x) f g same = same x
bind_same (Err e) f g same = refl

-- operands with one ahead of them
abbrev with_first : Operand → Result (List Operand × List Token) Refusal → Result (List Operand × List Token) Refusal
with_first x r = r >>= λ xs. Ok (x ∷ xs.0, xs.1)

-- a value with these operands and those that are read behind it
abbrev with_operands : Place → ExpressionTree → List Operand → Result (List Operand × List Token) Refusal → Result (ExpressionTree × List Token) Refusal
with_operands p e front r = r >>= λ others. Ok (chained p e (front ++ others.0), others.1)

-- ---- turns of a row

module _ {A : Type 0} (turn : Reader (Turn A)) where
  no_turn : (ts : List Token) → row_of turn 0 ts ≡ Ok ([], ts)
  unfolding row_of
  no_turn ts = refl

  one_turn : (n : ℕ) (ts : List Token) → row_of turn (suc n) ts ≡ (turn ts >>= (λ one. turned one.0 one.1 (row_of turn n one.1)))
  unfolding row_of
  one_turn n ts = refl

module _ (end : Place) (form : Form) (k : ℕ) (next : Reader ExpressionTree) where
  -- no operator of the level stands here
  ends_here : (n : ℕ) (ts : List Token) → at_level k (next_binary form ts) ≡ None → row_of (an_operand end form k next) n ts ≡ Ok ([], ts)
  unfolding row_of an_operand
  ends_here zero ts none = refl
  ends_here (suc n) ts none = rw none refl

  -- an operator of the level stands here
  goes_on_here : (n : ℕ) (ts : List Token) (op : BinaryOp) → at_level k (next_binary form ts) ≡ Some op
      → row_of (an_operand end form k next) (suc n) ts
      ≡ (next (rest_of ts) >>= (λ v. with_first (record { place = place_at end ts; op = op; value = v.0 }) (row_of (an_operand end form k next) n v.1)))
  unfolding row_of an_operand
  goes_on_here n ts op some = rw some (by_value (next (rest_of ts)))
    where
      read : ExpressionTree × List Token → Result (Turn Operand × List Token) Refusal
      read v = Ok (More (record { place = place_at end ts; op = op; value = v.0 }), v.1)

      by_value : (r : Result (ExpressionTree × List Token) Refusal)
          → ((r >>= read) >>= (λ one. turned one.0 one.1 (row_of (an_operand end form k next) n one.1)))
          ≡ (r >>= (λ v. with_first (record { place = place_at end ts; op = op; value = v.0 }) (row_of (an_operand end form k next) n v.1)))
      by_value (Ok v) = refl
      by_value (Err e) = refl

pub one_longer : (ts : List Token) → length ts ≤ suc (length (rest_of ts))
one_longer [] = omega arith
one_longer (t ∷ ts) = omega arith

-- ---- an operator among levels

at_no_level : (l k b : ℕ) → k < b → (nat_le k l && nat_lt l b) ≡ false → nat_eq l k ≡ false
at_no_level l k b some none = grind (arith, common_steps)

above_too : (l k b : ℕ) → (nat_le k l && nat_lt l b) ≡ false → (nat_le (suc k) l && nat_lt l b) ≡ false
above_too l k b none = grind (arith, common_steps)

among : (l k b : ℕ) → (nat_le k l && nat_lt l b) ≡ true → (k ≤ l) × (l < b)
among l k b both = (grind (arith, common_steps), grind (arith, common_steps))

chosen_none : {A : Type 0} (b : Bool) (x : A) → (if b then Some x else None) ≡ None → b ≡ false
chosen_none true x e = cc
chosen_none false x e = refl

chosen_some : {A : Type 0} (b : Bool) (x y : A) → (if b then Some x else None) ≡ Some y → (b ≡ true) × (x ≡ y)
chosen_some true x y e = (refl, cc)
chosen_some false x y e = cc

not_here : (k b : ℕ) (o : Option BinaryOp) → k < b → between k b o ≡ None → at_level k o ≡ None
not_here k b None some none = refl
not_here k b (Some op) some none = rw (at_no_level (level_of op) k b some (chosen_none (nat_le k (level_of op) && nat_lt (level_of op) b) op none)) refl

none_above : (k b : ℕ) (o : Option BinaryOp) → between k b o ≡ None → between (suc k) b o ≡ None
none_above k b None none = refl
none_above k b (Some op) none = rw (above_too (level_of op) k b (chosen_none (nat_le k (level_of op) && nat_lt (level_of op) b) op none)) refl

pub is_among : (k b : ℕ) (o : Option BinaryOp) (op : BinaryOp) → between k b o ≡ Some op → (o ≡ Some op) × ((k ≤ level_of op) × (level_of op < b))
is_among k b None op some = cc
is_among k b (Some p) op some =
    let h = chosen_some (nat_le k (level_of p) && nat_lt (level_of p) b) p op some in
    let l = among (level_of p) k b h.0 in
    (ap Some h.1, subst (λ q. (k ≤ level_of q) × (level_of q < b)) h.1 l)

at_other_level : (k : ℕ) (op : BinaryOp) → k < level_of op → at_level k (Some op) ≡ None
at_other_level k op less = let no : nat_eq (level_of op) k ≡ false = grind (arith, common_steps, less) in rw no refl

at_own_level : (op : BinaryOp) → at_level (level_of op) (Some op) ≡ Some op
at_own_level op = let yes : nat_eq (level_of op) (level_of op) ≡ true = grind (arith, common_steps) in rw yes refl

pub is_at_level : (k : ℕ) (o : Option BinaryOp) (op : BinaryOp) → at_level k o ≡ Some op → level_of op ≡ k
is_at_level k None op some = cc
is_at_level k (Some p) op some =
    let h = chosen_some (nat_eq (level_of p) k) p op some in
    let same : level_of p ≡ k = grind (arith, common_steps, h.0) in
    ap level_of (sym h.1) ∙ same

some_left : (form : Form) (o : OpenRow) (ts : List Token) → 0 < o.turns → next_in form o ts ≡ at_level (level_of o.op) (next_binary form ts)
some_left form o ts some = let no : nat_eq o.turns 0 ≡ false = grind (arith, common_steps, some) in rw no refl

pub takes_more : (form : Form) (o : OpenRow) (ts : List Token) (op : BinaryOp) → next_in form o ts ≡ Some op → (at_level (level_of o.op) (next_binary form ts) ≡ Some op) × (0 < o.turns)
takes_more form o ts op some = by_turns o.turns refl
  where
    by_turns : (n : ℕ) → o.turns ≡ n → (at_level (level_of o.op) (next_binary form ts) ≡ Some op) × (0 < o.turns)
    by_turns zero is = let no : next_in form o ts ≡ None = rw is refl in cc
    by_turns (suc n) is = (sym (some_left form o ts (omega (arith, is))) ∙ some, omega (arith, is))

module _ (end : Place) (d : Deeper) (form : Form) where
  -- ---- levels one behind another

  abbrev same : ExpressionTree × List Token → Result (ExpressionTree × List Token) Refusal
  same x = Ok (x.0, x.1)

  same_read : (r : Result (ExpressionTree × List Token) Refusal) → r ≡ (r >>= same)
  same_read (Ok x) = refl
  same_read (Err e) = refl

  -- the next level, and those above it
  up_one : (g k : ℕ) (ts : List Token) → (level end d form (suc k) ts >>= (λ x. levels_from end d form g (suc k) (place_at end ts) x.0 x.1))
      ≡ (level end d form k ts >>= (λ x. levels_from end d form (suc g) k (place_at end ts) x.0 x.1))
  unfolding level chain levels_from
  up_one g k ts = by_first (level end d form k ts)
    where
      turn : Reader (Turn Operand)
      turn = an_operand end form k (level end d form k)

      above : ExpressionTree → List Token → Result (ExpressionTree × List Token) Refusal
      above v rest = levels_from end d form g (suc k) (place_at end ts) v rest

      by_others : (v : ExpressionTree) (r : Result (List Operand × List Token) Refusal)
          → (with_operands (place_at end ts) v [] r >>= (λ y. above y.0 y.1)) ≡ (r >>= (λ others. above (chained (place_at end ts) v others.0) others.1))
      by_others v (Ok others) = refl
      by_others v (Err e) = refl

      by_first : (r : Result (ExpressionTree × List Token) Refusal)
          → ((r >>= (λ first. with_operands (place_at end ts) first.0 [] (row turn first.1))) >>= (λ y. above y.0 y.1))
          ≡ (r >>= (λ x. row turn x.1 >>= (λ others. above (chained (place_at end ts) x.0 others.0) others.1)))
      by_first (Ok x) = by_others x.0 (row turn x.1)
      by_first (Err e) = refl

  up : (g k n : ℕ) → n ≡ k + g → (ts : List Token) → level end d form n ts ≡ (level end d form k ts >>= (λ x. levels_from end d form g k (place_at end ts) x.0 x.1))
  unfolding levels_from
  up zero k n is ts =
      let here : n ≡ k = omega (arith, is) in
      ap (λ m. level end d form m ts) here ∙ same_read (level end d form k ts)
  up (suc g) k n is ts = up g (suc k) n (omega (arith, is)) ts ∙ up_one g k ts

  -- an operand, and the levels behind it
  pub from_operand : (n : ℕ) (ts : List Token) → level end d form n ts ≡ (unary end d ts >>= (λ x. levels_from end d form n 0 (place_at end ts) x.0 x.1))
  unfolding level
  from_operand n ts = up n 0 n (omega arith) ts

  -- no operator of these levels stands here
  skip : (g k b : ℕ) → b ≡ k + g → (p : Place) (v : ExpressionTree) (ts : List Token) → between k b (next_binary form ts) ≡ None → levels_from end d form g k p v ts ≡ Ok (v, ts)
  unfolding levels_from
  skip zero k b is p v ts none = refl
  skip (suc g) k b is p v ts none =
      rw (ends_here end form k (level end d form k) (suc (length ts)) ts (not_here k b (next_binary form ts) (omega (arith, is)) none))
      (skip g (suc k) b (omega (arith, is)) p v ts (none_above k b (next_binary form ts) none))

  -- the levels below that of an operator are passed
  reach : (j k m n g : ℕ) → m ≡ k + j → n ≡ j + g → (p : Place) (v : ExpressionTree) (ts : List Token) (op : BinaryOp) → next_binary form ts ≡ Some op → m ≡ level_of op
      → levels_from end d form n k p v ts ≡ levels_from end d form g m p v ts
  unfolding levels_from
  reach zero k m n g at left p v ts op some here =
      let same : k ≡ m = omega (arith, at) in
      let as_many : n ≡ g = omega (arith, left) in
      ap (λ q. levels_from end d form q k p v ts) as_many ∙ ap (λ q. levels_from end d form g q p v ts) same
  reach (suc j) k m n g at left p v ts op some here =
      let more : n ≡ suc (j + g) = omega (arith, left) in
      ap (λ q. levels_from end d form q k p v ts) more
      ∙ rw (ends_here end form k (level end d form k) (suc (length ts)) ts (ap (at_level k) some ∙ at_other_level k op (omega (arith, at, here))))
      (reach j (suc k) m (j + g) g (omega (arith, at)) refl p v ts op some here)

  -- ---- what becomes of an open row

  pub opens : (r : Reading) (op : BinaryOp) → between r.level r.bound (next_binary form r.rest.now) ≡ Some op
      → behind end d form r ≡ operand_in end d form (opened end r op) (rest_of r.rest.now)
  unfolding levels_from
  opens r op some =
      let h = is_among r.level r.bound (next_binary form r.rest.now) op some in
      reach (level_of op - r.level) r.level (level_of op) (r.bound - r.level) (suc (r.bound - suc (level_of op))) (omega (arith, h.1.0)) (omega (arith, h.1.0, h.1.1)) r.place r.value r.rest.now op h.0 refl
      ∙ rw (goes_on_here end form (level_of op) (level end d form (level_of op)) (length r.rest.now) r.rest.now op (ap (at_level (level_of op)) h.0 ∙ at_own_level op))
      (by_value (level end d form (level_of op) (rest_of r.rest.now)))
    where
      turn : Reader (Turn Operand)
      turn = an_operand end form (level_of op) (level end d form (level_of op))

      it : ExpressionTree → Operand
      it v = record { place = place_at end r.rest.now; op = op; value = v }

      above : ExpressionTree → List Token → Result (ExpressionTree × List Token) Refusal
      above v ts = levels_from end d form (r.bound - suc (level_of op)) (suc (level_of op)) r.place v ts

      by_others : (v : ExpressionTree) (o : Result (List Operand × List Token) Refusal)
          → (with_first (it v) o >>= (λ others. above (chained r.place r.value others.0) others.1)) ≡ (with_operands r.place r.value (it v ∷ []) o >>= (λ one. above one.0 one.1))
      by_others v (Ok others) = refl
      by_others v (Err e) = refl

      by_value : (w : Result (ExpressionTree × List Token) Refusal)
          → ((w >>= (λ v. with_first (it v.0) (row_of turn (length r.rest.now) v.1))) >>= (λ others. above (chained r.place r.value others.0) others.1))
          ≡ (w >>= (λ v. with_operands r.place r.value (it v.0 ∷ []) (row_of turn (length r.rest.now) v.1) >>= (λ one. above one.0 one.1)))
      by_value (Ok v) = by_others v.0 (row_of turn (length r.rest.now) v.1)
      by_value (Err e) = refl

  -- the next operator of its level stands behind its operand
  pub goes_on : (o : OpenRow) (w : ExpressionTree) (ts : List Token) (op : BinaryOp) → next_in form o ts ≡ Some op
      → closes end d form o w ts ≡ operand_in end d form (record (with_operand o w) { op = op; op_place = place_at end ts; turns = o.turns - 1 }) (rest_of ts)
  goes_on o w ts op some =
      let h = takes_more form o ts op some in
      let same = is_at_level (level_of o.op) (next_binary form ts) op h.0 in
      let more : o.turns ≡ suc (o.turns - 1) = omega (arith, h.1) in
      ap (λ n. with_operands o.place o.first done (row_of turn n ts) >>= (λ one. above one.0 one.1)) more
      ∙ rw (goes_on_here end form (level_of o.op) (level end d form (level_of o.op)) (o.turns - 1) ts op h.0) (by_value (level end d form (level_of o.op) (rest_of ts)))
      ∙ sym (ap again same)
    where
      done : List Operand
      done = o.operands ++ record { place = o.op_place; op = o.op; value = w } ∷ []

      turn : Reader (Turn Operand)
      turn = an_operand end form (level_of o.op) (level end d form (level_of o.op))

      it : ExpressionTree → Operand
      it v = record { place = place_at end ts; op = op; value = v }

      above : ExpressionTree → List Token → Result (ExpressionTree × List Token) Refusal
      above v rest = levels_from end d form (o.bound - suc (level_of o.op)) (suc (level_of o.op)) o.place v rest

      -- the operand behind it, where its level is k
      again : ℕ → Result (ExpressionTree × List Token) Refusal
      again k = level end d form k (rest_of ts) >>= (λ v. with_operands o.place o.first (done ++ it v.0 ∷ []) (row_of (an_operand end form k (level end d form k)) (o.turns - 1) v.1) >>= (λ one. levels_from end d form (o.bound - suc k) (suc k) o.place one.0 one.1))

      by_others : (v : ExpressionTree) (r : Result (List Operand × List Token) Refusal)
          → (with_operands o.place o.first done (with_first (it v) r) >>= (λ one. above one.0 one.1)) ≡ (with_operands o.place o.first (done ++ it v ∷ []) r >>= (λ one. above one.0 one.1))
      by_others v (Ok others) = ap (λ all. above (chained o.place o.first all) others.1) (sym (append_assoc done (it v ∷ []) others.0))
      by_others v (Err e) = refl

      by_value : (r : Result (ExpressionTree × List Token) Refusal)
          → (with_operands o.place o.first done (r >>= (λ v. with_first (it v.0) (row_of turn (o.turns - 1) v.1))) >>= (λ one. above one.0 one.1))
          ≡ (r >>= (λ v. with_operands o.place o.first (done ++ it v.0 ∷ []) (row_of turn (o.turns - 1) v.1) >>= (λ one. above one.0 one.1)))
      by_value (Ok v) = by_others v.0 (row_of turn (o.turns - 1) v.1)
      by_value (Err e) = refl

  -- none stands there, or it takes no more
  pub ends : (o : OpenRow) (w : ExpressionTree) (ts : List Token) → next_in form o ts ≡ None
      → closes end d form o w ts ≡ levels_from end d form (o.bound - suc (level_of o.op)) (suc (level_of o.op)) o.place (chained o.place o.first (with_operand o w).operands) ts
  ends o w ts none =
      ap (λ r. with_operands o.place o.first done r >>= (λ one. above one.0 one.1)) (by_turns o.turns refl)
      ∙ ap (λ all. above (chained o.place o.first all) ts) (append-nil done)
    where
      done : List Operand
      done = o.operands ++ record { place = o.op_place; op = o.op; value = w } ∷ []

      above : ExpressionTree → List Token → Result (ExpressionTree × List Token) Refusal
      above v rest = levels_from end d form (o.bound - suc (level_of o.op)) (suc (level_of o.op)) o.place v rest

      by_turns : (n : ℕ) → o.turns ≡ n → row_of (an_operand end form (level_of o.op) (level end d form (level_of o.op))) o.turns ts ≡ Ok ([], ts)
      by_turns zero is = ap (λ n. row_of (an_operand end form (level_of o.op) (level end d form (level_of o.op))) n ts) is ∙ no_turn (an_operand end form (level_of o.op) (level end d form (level_of o.op))) ts
      by_turns (suc n) is =
          let here : at_level (level_of o.op) (next_binary form ts) ≡ None = sym (some_left form o ts (omega (arith, is))) ∙ none in
          ends_here end form (level_of o.op) (level end d form (level_of o.op)) o.turns ts here

  -- no operator stands here that is to be read
  pub nothing_left : (k b : ℕ) (p : Place) (v : ExpressionTree) (ts : List Token) → between k b (next_binary form ts) ≡ None → levels_from end d form (b - k) k p v ts ≡ Ok (v, ts)
  unfolding levels_from
  nothing_left k b p v ts none = by_gap (b - k) refl
    where
      by_gap : (g : ℕ) → b - k ≡ g → levels_from end d form g k p v ts ≡ Ok (v, ts)
      by_gap zero is = refl
      by_gap (suc g) is = skip (suc g) k b (omega (arith, is)) p v ts none

  pub no_operator : (r : Reading) → next_binary form r.rest.now ≡ None → behind end d form r ≡ Ok (r.value, r.rest.now)
  no_operator r none = nothing_left r.level r.bound r.place r.value r.rest.now (ap (between r.level r.bound) none)

  -- ---- what is read within rows

  pub within_last : (rows : List OpenRow) (o : OpenRow) (read : Result (ExpressionTree × List Token) Refusal)
      → within end d form (rows ++ o ∷ []) read ≡ within end d form rows (read >>= (λ value. closes end d form o value.0 value.1))
  within_last [] o read = refl
  within_last (p ∷ ps) o read = ap (λ r. r >>= (λ value. closes end d form p value.0 value.1)) (within_last ps o read)

  pub within_fails : (rows : List OpenRow) (e : Refusal) → within end d form rows (Err e) ≡ Err e
  within_fails [] e = refl
  within_fails (o ∷ os) e = ap (λ r. r >>= (λ value. closes end d form o value.0 value.1)) (within_fails os e)

  -- ---- an operand

  pub begins : (bound : ℕ) (ts : List Token) (r : Reading) → Begins end d bound ts (Ok r) → level end d form bound ts ≡ behind end d form r
  begins bound ts r h =
      let all : bound ≡ bound - 0 = omega arith in
      from_operand bound ts
      ∙ ap (λ read. read >>= (λ x. levels_from end d form bound 0 (place_at end ts) x.0 x.1)) h.0
      ∙ ap (λ n. levels_from end d form n 0 (place_at end ts) r.value r.rest.now) all
      ∙ sym (ap (behind end d form) h.1)

  pub enters : (rows : List OpenRow) (o : OpenRow) (ts : List Token) (r : Reading) → Begins end d (level_of o.op) ts (Ok r)
      → within end d form rows (operand_in end d form o ts) ≡ within end d form (rows ++ o ∷ []) (behind end d form r)
  enters rows o ts r h =
      ap (λ read. within end d form rows (read >>= (λ value. closes end d form o value.0 value.1))) (begins (level_of o.op) ts r h)
      ∙ sym (within_last rows o (behind end d form r))

  level_fails : (e : Refusal) (bound : ℕ) (ts : List Token) → unary end d ts ≡ Err e → level end d form bound ts ≡ Err e
  level_fails e bound ts h = from_operand bound ts ∙ ap (λ read. read >>= (λ x. levels_from end d form bound 0 (place_at end ts) x.0 x.1)) h

  pub first_fails : (e : ReadAnswer) (bound : ℕ) (ts : List Token) → Begins end d bound ts (Err e) → Fails e (level end d form bound ts)
  first_fails answers.Memory bound ts h = tt
  first_fails (answers.Refused kind place) bound ts h = level_fails (kind, place) bound ts h

  pub operand_fails : (e : ReadAnswer) (rows : List OpenRow) (o : OpenRow) (ts : List Token) → Begins end d (level_of o.op) ts (Err e) → Fails e (within end d form rows (operand_in end d form o ts))
  operand_fails answers.Memory rows o ts h = tt
  operand_fails (answers.Refused kind place) rows o ts h =
      ap (λ read. within end d form rows (read >>= (λ value. closes end d form o value.0 value.1))) (level_fails (kind, place) (level_of o.op) ts h)
      ∙ within_fails rows (kind, place)

  -- ---- a row that was the innermost one

  pub carried : (rows : List OpenRow) (read whole : Result (ExpressionTree × List Token) Refusal) → whole ≡ within end d form rows read → (r : Result Next Memory)
      → IfOk r (λ next. Continues end d form read next []) → IfOk r (λ next. Goes end d form whole next rows)
  carried rows read whole is (Ok (nexts.Operand o ts)) h = is ∙ ap (within end d form rows) h
  carried rows read whole is (Ok (nexts.Value v)) h = is ∙ ap (within end d form rows) h
  carried rows read whole is (Ok (nexts.Whole v ts)) h = absurd h
  carried rows read whole is (Err e) h = tt
