-- Each reference of a body that is read names one of the groups that were counted.
use Rattle.std.proofs.Common.{◌≡◌, ℕ, zero, suc, ◌+◌, ◌-◌, ◌<◌, ◌≤◌, Bool, true, false, List, [], ◌∷◌, map, length, Option, Some, None, Result, Ok, Err, refl, sym, subst, arith}
use Rattle.std.specs.Prelude.{nat_eq, nat_lt, nat_le, ◌&&◌}
use Rattle.std.proofs.lemmas.Bool.{leb-true}
use Rattle.utf16_text.specs.Letters.{is_between}
use Rattle.js_pattern.specs.Tree.{Tree, trees_of}
use Rattle.js_pattern_reader.specs.declared.answer.PatternAnswer.{PatternAnswer}
use Rattle.js_pattern_reader.specs.declared.escapes.ClassAtom.{ClassAtom}
use Rattle.js_pattern_reader.specs.declared.escapes.ClassAtom.TheVariants as atom
use Rattle.js_pattern_reader.specs.declared.escapes.Escape.{Escape}
use Rattle.js_pattern_reader.specs.declared.escapes.Escape.TheVariants as escape
use Rattle.js_pattern_reader.specs.declared.counts.Counts.{Counts}
use Rattle.js_pattern_reader.specs.declared.limits.TheConstants.{MOST_GROUPS, MOST_NESTED}
use Rattle.js_pattern_reader.specs.declared.pieces.Piece.{Piece}
use Rattle.js_pattern_reader.specs.declared.pieces.Piece.TheVariants as piece
use Rattle.js_pattern_reader.specs.declared.body.Turn.{Turn}
use Rattle.js_pattern_reader.specs.declared.body.Turn.TheVariants as turn
use Rattle.js_pattern_reader.specs.Answers.{◌>>=◌}
use Rattle.js_pattern_reader.specs.Escapes.{atom_at, escape_at}
use Rattle.js_pattern_reader.specs.Classes.{class_of}
use Rattle.js_pattern_reader.specs.Counts.{behind, quantifier}
use Rattle.js_pattern_reader.specs.Groups.{groups_in}
use Rattle.js_pattern_reader.specs.Pieces.{Spot, spot, ReadAt, atom_tree, escape_piece, escaped_piece, no_capture, capture, open_piece, stands_alone, piece_by, next_piece}
use Rattle.js_pattern_reader.specs.Reading.{repeated, term, group_body, turn_by, next_turn, Rows, row_of, tree_of_rows, rows_by, rows_from, all_rows, inside_of, whole_by}
use Rattle.js_law_pattern.specs.Laws.{RefersWithin, ReferWithin, ReferencesNameGroups}
use Rattle.js_law_pattern.proofs.Counted.{if_any, groups_are_counted}

-- ---- what is read, where it is read

abbrev Holds : {A : Type 0} → (A → Type 0) → Result A PatternAnswer → Type 0
Holds P (Ok x) = P x
Holds P (Err e) = Unit {0}

then_holds : {A B : Type 0} (P : A → Type 0) (Q : B → Type 0) (r : Result A PatternAnswer) (f : A → Result B PatternAnswer)
    → Holds P r → ((x : A) → P x → Holds Q (f x)) → Holds Q (r >>= f)
then_holds P Q (Ok x) f h g = g x h
then_holds P Q (Err e) f h g = tt

after_any : {A B : Type 0} (Q : B → Type 0) (r : Result A PatternAnswer) (f : A → Result B PatternAnswer)
    → ((x : A) → Holds Q (f x)) → Holds Q (r >>= f)
after_any Q (Ok x) f g = g x
after_any Q (Err e) f g = tt

both : (a b : Bool) → (a && b) ≡ true → a ≡ true
both true b h = refl
both false b h = h

module _ (count : ℕ) where
  -- ---- pieces

  abbrev of_escape : Escape → Type 0
  of_escape (escape.Reference n) = n < count
  of_escape _ = Unit {0}

  abbrev of_piece : Piece → Type 0
  of_piece (piece.Atom x) = RefersWithin count x
  of_piece _ = Unit {0}

  abbrev of_turn : Turn → Type 0
  of_turn (turn.Term x) = RefersWithin count x
  of_turn _ = Unit {0}

  abbrev EscapeRefers : Escape × List ℕ → Type 0
  EscapeRefers x = of_escape (x.0)

  abbrev PieceRefers : Piece × Spot → Type 0
  PieceRefers x = of_piece (x.0)

  abbrev TurnRefers : Turn × Spot → Type 0
  TurnRefers x = of_turn (x.0)

  abbrev TreeRefers : Tree × Spot → Type 0
  TreeRefers x = RefersWithin count (x.0)

  escape_refers : (u : ℕ) (us : List ℕ) → Holds EscapeRefers (escape_at count u us)
  escape_refers u us =
      if_any (Holds EscapeRefers) (nat_eq u 98) _ _ (λ _. tt)
      (λ _. if_any (Holds EscapeRefers) (nat_eq u 66) _ _ (λ _. tt)
      (λ _. if_any (Holds EscapeRefers) (is_between 49 57 u) _ _
      (λ h. if_any (Holds EscapeRefers) (nat_le (u - 48) count) _ _
      (λ l. let low : 49 ≤ u = leb-true 49 u (both (nat_le 49 u) (nat_le u 57) h) in
      let high : u - 48 ≤ count = leb-true (u - 48) count l in
      let below : u - 49 < count = omega (arith, low, high) in below)
      (λ _. tt))
      (λ _. after_any EscapeRefers (atom_at u us) _ (λ x. tt))))

  atom_refers : (a : ClassAtom) → RefersWithin count (atom_tree a)
  atom_refers (atom.Unit u) = tt
  atom_refers (atom.Set s) = tt

  escaped_by : (e : Escape) (us : List ℕ) (n : ℕ) → EscapeRefers (e, us) → PieceRefers (escape_piece e, spot us n)
  escaped_by (escape.Atom a) us n h = atom_refers a
  escaped_by (escape.Assertion a) us n h = tt
  escaped_by (escape.Reference k) us n h = h

  escaped_refers : (n : ℕ) (us : List ℕ) → Holds PieceRefers (escaped_piece count n us)
  escaped_refers n [] = tt
  escaped_refers n (u ∷ us) = then_holds EscapeRefers PieceRefers (escape_at count u us) _ (escape_refers u us) (λ x h. escaped_by (x.0) (x.1) n h)

  no_capture_refers : (n : ℕ) (us : List ℕ) → Holds PieceRefers (no_capture n us)
  no_capture_refers n [] = tt
  no_capture_refers n (u ∷ us) =
      if_any (Holds PieceRefers) (nat_eq u 58) _ _ (λ _. tt)
      (λ _. if_any (Holds PieceRefers) (nat_eq u 61) _ _ (λ _. tt)
      (λ _. if_any (Holds PieceRefers) (nat_eq u 33) _ _ (λ _. tt) (λ _. tt)))

  capture_refers : (n : ℕ) (us : List ℕ) → Holds PieceRefers (capture n us)
  capture_refers n us = if_any (Holds PieceRefers) (nat_lt n MOST_GROUPS) _ _ (λ _. tt) (λ _. tt)

  open_refers : (n : ℕ) (us : List ℕ) → Holds PieceRefers (open_piece n us)
  open_refers n [] = capture_refers n []
  open_refers n (u ∷ us) = if_any (Holds PieceRefers) (nat_eq u 63) _ _ (λ _. no_capture_refers n us) (λ _. capture_refers n (u ∷ us))

  piece_refers : (n u : ℕ) (us : List ℕ) → Holds PieceRefers (piece_by count n u us)
  piece_refers n u us =
      if_any (Holds PieceRefers) (nat_eq u 41) _ _ (λ _. tt)
      (λ _. if_any (Holds PieceRefers) (nat_eq u 124) _ _ (λ _. tt)
      (λ _. if_any (Holds PieceRefers) (nat_eq u 94) _ _ (λ _. tt)
      (λ _. if_any (Holds PieceRefers) (nat_eq u 36) _ _ (λ _. tt)
      (λ _. if_any (Holds PieceRefers) (nat_eq u 46) _ _ (λ _. tt)
      (λ _. if_any (Holds PieceRefers) (nat_eq u 91) _ _ (λ _. after_any PieceRefers (class_of us) _ (λ x. tt))
      (λ _. if_any (Holds PieceRefers) (nat_eq u 40) _ _ (λ _. open_refers n us)
      (λ _. if_any (Holds PieceRefers) (nat_eq u 92) _ _ (λ _. escaped_refers n us)
      (λ _. if_any (Holds PieceRefers) (stands_alone u) _ _ (λ _. tt) (λ _. tt)))))))))

  next_piece_refers : (us : List ℕ) (n : ℕ) → Holds PieceRefers (next_piece count us n)
  next_piece_refers [] n = tt
  next_piece_refers (u ∷ us) n = piece_refers n u us

  -- ---- terms

  repeated_refers : (x : Tree) (from to : ℕ) (q : Option Counts) (us : List ℕ) → RefersWithin count x → TreeRefers (repeated x from to q us)
  repeated_refers x from to None us h = h
  repeated_refers x from to (Some c) us h = h

  term_refers : (x : Tree) (from : ℕ) (c : Spot) → RefersWithin count x → Holds TurnRefers (term x from c)
  term_refers x from c h =
      then_holds TreeRefers TurnRefers (quantifier c.rest >>= λ q. Ok (repeated x from c.groups (q.0) (q.1))) _
      (after_any TreeRefers (quantifier c.rest) _ (λ q. repeated_refers x from c.groups (q.0) (q.1) h)) (λ x l. l)

  -- what reads inside of a group
  abbrev InsideRefers : ReadAt Tree → Type 0
  InsideRefers inside = (c : Spot) → Holds TreeRefers (inside c)

  module _ (inside : ReadAt Tree) (refers : InsideRefers inside) where
    group_refers : (number : Option ℕ) (c : Spot) → Holds TreeRefers (group_body inside number c)
    group_refers number c = then_holds TreeRefers TreeRefers (inside c) _ (refers c) (λ x h. after_any TreeRefers (behind 41 (x.1.rest)) _ (λ us. h))

    turn_refers : (from : ℕ) (p : Piece) (c : Spot) → PieceRefers (p, c) → Holds TurnRefers (turn_by inside from p c)
    turn_refers from piece.End c h = tt
    turn_refers from piece.Bar c h = tt
    turn_refers from (piece.Assertion a) c h = tt
    turn_refers from (piece.Atom x) c h = term_refers x from c h
    turn_refers from (piece.Open number) c h = then_holds TreeRefers TurnRefers (group_body inside number c) _ (group_refers number c) (λ x l. term_refers (x.0) from (x.1) l)

    next_refers : (c : Spot) → Holds TurnRefers (next_turn count inside c)
    next_refers c =
        then_holds PieceRefers TurnRefers (next_piece count c.rest c.groups) _ (next_piece_refers c.rest c.groups) (λ p h. turn_refers c.groups (p.0) (p.1) h)

  -- ---- rows

  abbrev trees_in : Rows → List Tree
  trees_in r = row_of r.first ∷ map row_of r.others

  abbrev RowsRefer : Rows × Spot → Type 0
  RowsRefer r = ReferWithin count (trees_of (trees_in r.0))

  rows_refer : (xs : List Tree) → ReferWithin count (trees_of xs) → RefersWithin count (tree_of_rows xs)
  rows_refer [] h = h
  rows_refer (x ∷ []) h = h.0
  rows_refer (x ∷ y ∷ xs) h = h

  rows_by_refer : (more : ReadAt Rows) → ((d : Spot) → Holds RowsRefer (more d)) → (t : Turn) (c : Spot) → TurnRefers (t, c) → Holds RowsRefer (rows_by t more c)
  rows_by_refer more next turn.End c e = (tt, tt)
  rows_by_refer more next turn.Bar c e = then_holds RowsRefer RowsRefer (more c) _ (next c) (λ r h. (tt, h))
  rows_by_refer more next (turn.Term x) c e = then_holds RowsRefer RowsRefer (more c) _ (next c) (λ r h. ((e, h.0), h.1))

  module _ (inside : ReadAt Tree) (refers : InsideRefers inside) where
    rows_from_refer : (turns : ℕ) (c : Spot) → Holds RowsRefer (rows_from count inside turns c)
    rows_from_refer zero c = tt
    rows_from_refer (suc turns) c =
        then_holds TurnRefers RowsRefer (next_turn count inside c) _ (next_refers inside refers c)
        (λ t e. rows_by_refer (rows_from count inside turns) (rows_from_refer turns) (t.0) (t.1) e)

    all_refer : InsideRefers (all_rows count inside)
    all_refer c =
        then_holds RowsRefer TreeRefers (rows_from count inside (length c.rest + 1) c) _ (rows_from_refer (length c.rest + 1) c)
        (λ r h. rows_refer (trees_in (r.0)) h)

  inside_refers : (room : ℕ) → InsideRefers (inside_of count room)
  unfolding inside_of
  inside_refers zero c = tt
  inside_refers (suc room) c = all_refer (inside_of count room) (inside_refers room) c

  -- ---- the whole

  abbrev BodyRefers : Tree × ℕ → Type 0
  BodyRefers b = RefersWithin count (b.0)

  whole_refers : (x : Tree) (groups : ℕ) (us : List ℕ) → RefersWithin count x → Holds BodyRefers (whole_by x groups us)
  whole_refers x groups [] h = h
  whole_refers x groups (u ∷ us) h = tt

  body_refers : (us : List ℕ) → Holds BodyRefers (all_rows count (inside_of count MOST_NESTED) (spot us 0) >>= λ x. whole_by (x.0) (x.1.groups) (x.1.rest))
  body_refers us =
      then_holds TreeRefers BodyRefers (all_rows count (inside_of count MOST_NESTED) (spot us 0)) _
      (all_refer (inside_of count MOST_NESTED) (inside_refers MOST_NESTED) (spot us 0)) (λ x h. whole_refers (x.0) (x.1.groups) (x.1.rest) h)

pub references_name_groups : ReferencesNameGroups
references_name_groups us x groups e =
    let P : Result (Tree × ℕ) PatternAnswer → Type 0 = Holds (BodyRefers (groups_in us)) in
    let Q : ℕ → Type 0 = λ n. RefersWithin n x in
    subst Q (sym (groups_are_counted us x groups e)) (subst P e (body_refers (groups_in us) us))
