-- The groups of what is read are counted, and numbered in order.
use Rattle.std.proofs.Common.{◌≡◌, ℕ, zero, suc, ◌+◌, Bool, true, false, List, [], ◌∷◌, map, length, Option, Some, None, Result, Ok, Err, refl, sym, subst, arith}
use Rattle.std.specs.Prelude.{IfOk, if◌then◌else◌, nat_eq, nat_lt}
use Rattle.js_pattern.specs.Tree.{Tree, group, trees_of}
use Rattle.js_pattern.specs.Groups.{groups_of, groups_of_all, IsNumbered, AreNumbered}
use Rattle.js_pattern_reader.specs.declared.answer.PatternAnswer.{PatternAnswer}
use Rattle.js_pattern_reader.specs.declared.escapes.ClassAtom.{ClassAtom}
use Rattle.js_pattern_reader.specs.declared.escapes.ClassAtom.TheVariants as atom
use Rattle.js_pattern_reader.specs.declared.escapes.Escape.{Escape}
use Rattle.js_pattern_reader.specs.declared.escapes.Escape.TheVariants as escape
use Rattle.js_pattern_reader.specs.declared.counts.Counts.{Counts}
use Rattle.js_pattern_reader.specs.declared.limits.TheConstants.{MOST_GROUPS, MOST_NESTED}
use Rattle.js_pattern_reader.specs.declared.pieces.Piece.{Piece}
use Rattle.js_pattern_reader.specs.declared.pieces.Piece.TheVariants as piece
use Rattle.js_pattern_reader.specs.declared.body.Turn.{Turn}
use Rattle.js_pattern_reader.specs.declared.body.Turn.TheVariants as turn
use Rattle.js_pattern_reader.specs.Answers.{◌>>=◌}
use Rattle.js_pattern_reader.specs.Escapes.{escape_at}
use Rattle.js_pattern_reader.specs.Classes.{class_of}
use Rattle.js_pattern_reader.specs.Counts.{behind, quantifier}
use Rattle.js_pattern_reader.specs.Groups.{groups_in}
use Rattle.js_pattern_reader.specs.Pieces.{Spot, spot, ReadAt, atom_tree, escape_piece, escaped_piece, no_capture, capture, open_piece, class_piece, stands_alone, piece_by, next_piece}
use Rattle.js_pattern_reader.specs.Reading.{repeated, quantified, term, group_body, turn_by, next_turn, Rows, row_of, tree_of_rows, rows_by, rows_from, all_rows, inside_of, whole_by, body_of}
use Rattle.js_pattern_reader.specs.Laws.{BodiesAreNumbered}

-- ---- what is read, where it is read

if_holds : {A : Type 0} (P : A → Type 0) (t : Bool) (r s : Result A PatternAnswer) → IfOk r P → IfOk s P → IfOk (if t then r else s) P
if_holds P true r s h l = h
if_holds P false r s h l = l

then_holds : {A B : Type 0} (P : A → Type 0) (Q : B → Type 0) (r : Result A PatternAnswer) (f : A → Result B PatternAnswer)
    → IfOk r P → ((x : A) → P x → IfOk (f x) Q) → IfOk (r >>= f) Q
then_holds P Q (Ok x) f h g = g x h
then_holds P Q (Err e) f h g = tt

after_any : {A B : Type 0} (Q : B → Type 0) (r : Result A PatternAnswer) (f : A → Result B PatternAnswer)
    → ((x : A) → IfOk (f x) Q) → IfOk (r >>= f) Q
after_any Q (Ok x) f g = g x
after_any Q (Err e) f g = tt

-- ---- from one number up to another

record Spans (n m : ℕ) (x : Tree) : Type 0 where
  numbered : IsNumbered n x
  count : n + groups_of x ≡ m

record SpansAll (n m : ℕ) (xs : List Tree) : Type 0 where
  numbered : AreNumbered n (trees_of xs)
  count : n + groups_of_all (trees_of xs) ≡ m

abbrev PieceSpans : ℕ → Piece → ℕ → Type 0
PieceSpans n piece.End m = m ≡ n
PieceSpans n piece.Bar m = m ≡ n
PieceSpans n (piece.Assertion a) m = m ≡ n
PieceSpans n (piece.Atom x) m = Spans n m x
PieceSpans n (piece.Open None) m = m ≡ n
PieceSpans n (piece.Open (Some k)) m = (k ≡ n) × (m ≡ n + 1)

abbrev TurnSpans : ℕ → Turn → ℕ → Type 0
TurnSpans n turn.End m = m ≡ n
TurnSpans n turn.Bar m = m ≡ n
TurnSpans n (turn.Term x) m = Spans n m x

abbrev PieceFits : ℕ → Piece × Spot → Type 0
PieceFits n p = PieceSpans n p.0 p.1.groups

abbrev TurnFits : ℕ → Turn × Spot → Type 0
TurnFits n t = TurnSpans n t.0 t.1.groups

abbrev TreeFits : ℕ → Tree × Spot → Type 0
TreeFits n x = Spans n x.1.groups x.0

-- ---- pieces

no_more : (n : ℕ) → n + 0 ≡ n
no_more n = omega arith

atom_spans : (n : ℕ) (a : ClassAtom) → Spans n n (atom_tree a)
atom_spans n (atom.Unit u) = record { numbered = tt; count = no_more n }
atom_spans n (atom.Set s) = record { numbered = tt; count = no_more n }

escape_spans : (n : ℕ) (e : Escape) → PieceSpans n (escape_piece e) n
escape_spans n (escape.Atom a) = atom_spans n a
escape_spans n (escape.Assertion a) = refl
escape_spans n (escape.Reference k) = record { numbered = tt; count = no_more n }

escaped_fits : (count n : ℕ) (us : List ℕ) → IfOk (escaped_piece count n us) (PieceFits n)
escaped_fits count n [] = tt
escaped_fits count n (u ∷ us) = after_any (PieceFits n) (escape_at count u us) _ (λ x. escape_spans n x.0)

class_fits : (n : ℕ) (us : List ℕ) → IfOk (class_piece n us) (PieceFits n)
class_fits n us = after_any (PieceFits n) (class_of us) _ (λ x. record { numbered = tt; count = no_more n })

no_capture_fits : (n : ℕ) (us : List ℕ) → IfOk (no_capture n us) (PieceFits n)
no_capture_fits n [] = tt
no_capture_fits n (u ∷ us) =
    if_holds (PieceFits n) (nat_eq u 58) _ _ refl
    (if_holds (PieceFits n) (nat_eq u 61) _ _ tt
    (if_holds (PieceFits n) (nat_eq u 33) _ _ tt tt))

capture_fits : (n : ℕ) (us : List ℕ) → IfOk (capture n us) (PieceFits n)
capture_fits n us = if_holds (PieceFits n) (nat_lt n MOST_GROUPS) _ _ (refl, refl) tt

open_fits : (n : ℕ) (us : List ℕ) → IfOk (open_piece n us) (PieceFits n)
open_fits n [] = capture_fits n []
open_fits n (u ∷ us) = if_holds (PieceFits n) (nat_eq u 63) _ _ (no_capture_fits n us) (capture_fits n (u ∷ us))

piece_by_fits : (count n u : ℕ) (us : List ℕ) → IfOk (piece_by count n u us) (PieceFits n)
piece_by_fits count n u us =
    if_holds (PieceFits n) (nat_eq u 41) _ _ refl
    (if_holds (PieceFits n) (nat_eq u 124) _ _ refl
    (if_holds (PieceFits n) (nat_eq u 94) _ _ refl
    (if_holds (PieceFits n) (nat_eq u 36) _ _ refl
    (if_holds (PieceFits n) (nat_eq u 46) _ _ (record { numbered = tt; count = no_more n })
    (if_holds (PieceFits n) (nat_eq u 91) _ _ (class_fits n us)
    (if_holds (PieceFits n) (nat_eq u 40) _ _ (open_fits n us)
    (if_holds (PieceFits n) (nat_eq u 92) _ _ (escaped_fits count n us)
    (if_holds (PieceFits n) (stands_alone u) _ _ (record { numbered = tt; count = no_more n }) tt))))))))

piece_fits : (count : ℕ) (us : List ℕ) (n : ℕ) → IfOk (next_piece count us n) (PieceFits n)
piece_fits count [] n = refl
piece_fits count (u ∷ us) n = piece_by_fits count n u us

-- ---- terms

repeated_fits : (x : Tree) (from to : ℕ) (q : Option Counts) (us : List ℕ) → Spans from to x → TreeFits from (repeated x from to q us)
repeated_fits x from to None us h = h
repeated_fits x from to (Some c) us h = record { numbered = (refl, sym h.count, h.numbered); count = h.count }

term_fits : (x : Tree) (from : ℕ) (c : Spot) → Spans from c.groups x → IfOk (term x from c) (TurnFits from)
term_fits x from c h =
    then_holds (TreeFits from) (TurnFits from) (quantified x from c) _
    (after_any (TreeFits from) (quantifier c.rest) _ (λ q. repeated_fits x from c.groups q.0 q.1 h))
    (λ q l. l)

spans_from : (x : Tree) (k n m : ℕ) → k ≡ n → Spans k m x → Spans n m x
spans_from x k n m e h = let P : ℕ → Type 0 = λ j. Spans j m x in subst P e h

group_spans : (number : Option ℕ) (n k m : ℕ) (x : Tree) → PieceSpans n (piece.Open number) k → Spans k m x → Spans n m (group number x)
group_spans None n k m x e h = let l = spans_from x k n m e h in record { numbered = l.numbered; count = l.count }
group_spans (Some j) n k m x e h =
    let l = spans_from x k (n + 1) m (e.1) h in
    let all = l.count in
    record { numbered = (e.0, l.numbered); count = omega (arith, all) }

-- what reads inside of a group
abbrev Numbers : ReadAt Tree → Type 0
Numbers inside = (c : Spot) → IfOk (inside c) (TreeFits c.groups)

module _ (inside : ReadAt Tree) (numbers : Numbers inside) where
  body_fits : (number : Option ℕ) (n : ℕ) (c : Spot) → PieceSpans n (piece.Open number) c.groups → IfOk (group_body inside number c) (TreeFits n)
  body_fits number n c e =
      then_holds (TreeFits c.groups) (TreeFits n) (inside c) _ (numbers c)
      (λ x h. after_any (TreeFits n) (behind 41 (x.1.rest)) _ (λ us. group_spans number n c.groups (x.1.groups) (x.0) e h))

  turn_fits : (n : ℕ) (p : Piece) (c : Spot) → PieceSpans n p c.groups → IfOk (turn_by inside n p c) (TurnFits n)
  turn_fits n piece.End c h = h
  turn_fits n piece.Bar c h = h
  turn_fits n (piece.Assertion a) c h = let all : n + 0 ≡ c.groups = omega (arith, h) in record { numbered = tt; count = all }
  turn_fits n (piece.Atom x) c h = term_fits x n c h
  turn_fits n (piece.Open number) c h =
      then_holds (TreeFits n) (TurnFits n) (group_body inside number c) _ (body_fits number n c h) (λ x l. term_fits (x.0) n (x.1) l)

  next_fits : (count : ℕ) (c : Spot) → IfOk (next_turn count inside c) (TurnFits c.groups)
  next_fits count c =
      then_holds (PieceFits c.groups) (TurnFits c.groups) (next_piece count c.rest c.groups) _ (piece_fits count c.rest c.groups)
      (λ p h. turn_fits c.groups (p.0) (p.1) h)

-- ---- rows

are_from : (k n : ℕ) (xs : List Tree) → k ≡ n → AreNumbered k (trees_of xs) → AreNumbered n (trees_of xs)
are_from k n xs e h = let P : ℕ → Type 0 = λ j. AreNumbered j (trees_of xs) in subst P e h

abbrev trees_in : Rows → List Tree
trees_in r = row_of r.first ∷ map row_of r.others

abbrev RowsFit : ℕ → Rows × Spot → Type 0
RowsFit n r = SpansAll n r.1.groups (trees_in r.0)

-- one more in front
row_before : (xs : List Tree) (n k m : ℕ) → k ≡ n → SpansAll k m xs → SpansAll n m (row_of [] ∷ xs)
row_before xs n k m e h =
    let all = h.count in
    record { numbered = (tt, are_from k (n + 0) xs (omega (arith, e)) h.numbered); count = omega (arith, e, all) }

term_before : (x : Tree) (terms xs : List Tree) (n k m : ℕ) → Spans n k x → SpansAll k m (row_of terms ∷ xs) → SpansAll n m (row_of (x ∷ terms) ∷ xs)
term_before x terms xs n k m h l =
    let here = h.count in
    let all = l.count in
    record {
      numbered = (
        (h.numbered, are_from k (n + groups_of x) terms (sym here) ((l.numbered).0)),
        are_from (k + groups_of_all (trees_of terms)) (n + (groups_of x + groups_of_all (trees_of terms))) xs (omega (arith, here)) ((l.numbered).1),
      );
      count = omega (arith, here, all);
    }

rows_span : (xs : List Tree) (n m : ℕ) → SpansAll n m xs → Spans n m (tree_of_rows xs)
rows_span [] n m h = record { numbered = h.numbered; count = h.count }
rows_span (x ∷ []) n m h = let all = h.count in record { numbered = (h.numbered).0; count = omega (arith, all) }
rows_span (x ∷ y ∷ xs) n m h = record { numbered = h.numbered; count = h.count }

rows_by_fit : (more : ReadAt Rows) → ((d : Spot) → IfOk (more d) (RowsFit d.groups)) → (n : ℕ) (t : Turn) (d : Spot)
    → TurnSpans n t d.groups → IfOk (rows_by t more d) (RowsFit n)
rows_by_fit more fit n turn.End d e = record { numbered = (tt, tt); count = omega (arith, e) }
rows_by_fit more fit n turn.Bar d e =
    then_holds (RowsFit d.groups) (RowsFit n) (more d) _ (fit d) (λ r h. row_before (trees_in (r.0)) n d.groups (r.1.groups) e h)
rows_by_fit more fit n (turn.Term x) d h =
    then_holds (RowsFit d.groups) (RowsFit n) (more d) _ (fit d) (λ r l. term_before x (r.0.first) (map row_of (r.0.others)) n d.groups (r.1.groups) h l)

module _ (count : ℕ) (inside : ReadAt Tree) (numbers : Numbers inside) where
  rows_fit : (turns : ℕ) (c : Spot) → IfOk (rows_from count inside turns c) (RowsFit c.groups)
  rows_fit zero c = tt
  rows_fit (suc turns) c =
      then_holds (TurnFits c.groups) (RowsFit c.groups) (next_turn count inside c) _ (next_fits inside numbers count c)
      (λ t h. rows_by_fit (rows_from count inside turns) (rows_fit turns) c.groups (t.0) (t.1) h)

  all_fit : Numbers (all_rows count inside)
  all_fit c =
      then_holds (RowsFit c.groups) (TreeFits c.groups) (rows_from count inside (length c.rest + 1) c) _ (rows_fit (length c.rest + 1) c)
      (λ r h. rows_span (trees_in (r.0)) c.groups (r.1.groups) h)

inside_numbers : (count room : ℕ) → Numbers (inside_of count room)
unfolding inside_of
inside_numbers count zero c = tt
inside_numbers count (suc room) c = all_fit count (inside_of count room) (inside_numbers count room) c

-- ---- the whole

abbrev IsBody : Tree × ℕ → Type 0
IsBody b = (b.1 ≡ groups_of b.0) × IsNumbered 0 (b.0)

whole_is_body : (x : Tree) (n : ℕ) (us : List ℕ) → Spans 0 n x → IfOk (whole_by x n us) IsBody
whole_is_body x n [] h = let all = h.count in (omega (arith, all), h.numbered)
whole_is_body x n (u ∷ us) h = tt

body_is_body : (us : List ℕ) → IfOk (body_of us) IsBody
body_is_body us =
    let count = groups_in us in
    then_holds (TreeFits 0) IsBody (all_rows count (inside_of count MOST_NESTED) (spot us 0)) _
    (all_fit count (inside_of count MOST_NESTED) (inside_numbers count MOST_NESTED) (spot us 0))
    (λ x h. whole_is_body (x.0) (x.1.groups) (x.1.rest) h)

pub bodies_are_numbered : BodiesAreNumbered
bodies_are_numbered us x groups e = let P : Result (Tree × ℕ) PatternAnswer → Type 0 = λ r. IfOk r IsBody in subst P e (body_is_body us)
