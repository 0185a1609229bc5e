-- Rows of a pattern, turn by turn, and what stands in a group.
use Rattle.std.proofs.Common.{◌≡◌, ℕ, zero, suc, ◌-◌, ◌<◌, List, [], ◌∷◌, ◌++◌, map, Option, Result, Ok, Err, refl, sym, ap, ◌∙◌, arith}
use Rattle.std.proofs.lemmas.List.{append-nil, append_assoc}
use Rattle.js_pattern.specs.Tree.{Tree}
use Rattle.js_pattern_reader.specs.declared.answer.PatternAnswer.{PatternAnswer}
use Rattle.js_pattern_reader.specs.declared.body.Turn.TheVariants as turn
use Rattle.js_pattern_reader.specs.Answers.{Fails, unsupported, ◌>>=◌}
use Rattle.js_pattern_reader.specs.Pieces.{Spot, ReadAt}
use Rattle.js_pattern_reader.specs.Reading.{Rows, row_of, tree_of_rows, next_turn, rows_by, rows_from, all_rows, inside_of, group_body, group_end}
use Rattle.js_pattern_reader.proofs.Items.{fails_too}

-- ---- rows that were read, with the terms of one more, and those behind

abbrev joined : List Tree → List Tree → Rows → List Tree
joined rows terms r = rows ++ row_of (terms ++ r.first) ∷ map row_of r.others

abbrev pub finished : List Tree → List Tree → Result (Rows × Spot) PatternAnswer → Result (Tree × Spot) PatternAnswer
finished rows terms read = read >>= λ r. Ok (tree_of_rows (joined rows terms r.0), r.1)

term_more : (rows terms : List Tree) (x : Tree) (read : Result (Rows × Spot) PatternAnswer)
    → finished rows terms (read >>= λ r. Ok (record { first = x ∷ r.0.first; others = r.0.others }, r.1)) ≡ finished rows (terms ++ x ∷ []) read
term_more rows terms x (Ok r) =
    ap (λ (ts : List Tree). Ok (tree_of_rows (rows ++ row_of ts ∷ map row_of r.0.others), r.1)) (sym (append_assoc terms (x ∷ []) (r.0.first)))
term_more rows terms x (Err e) = refl

row_more : (rows terms : List Tree) (read : Result (Rows × Spot) PatternAnswer)
    → finished rows terms (read >>= λ r. Ok (record { first = []; others = r.0.first ∷ r.0.others }, r.1)) ≡ finished (rows ++ row_of terms ∷ []) [] read
row_more rows terms (Ok r) =
    ap (λ (ts : List Tree). Ok (tree_of_rows (rows ++ row_of ts ∷ row_of r.0.first ∷ map row_of r.0.others), r.1)) (append-nil terms)
    ∙ ap (λ (xs : List Tree). Ok (tree_of_rows xs, r.1)) (sym (append_assoc rows (row_of terms ∷ []) (row_of r.0.first ∷ map row_of r.0.others)))
row_more rows terms (Err e) = refl

module _ (count : ℕ) (inside : ReadAt Tree) (n : ℕ) (rows terms : List Tree) (c : Spot) (some : 0 < n) where
  pub rows_end : (d : Spot) → next_turn count inside c ≡ Ok (turn.End, d) → finished rows terms (rows_from count inside n c) ≡ Ok (tree_of_rows (rows ++ row_of terms ∷ []), d)
  rows_end d h = by n some
    where
      by : (m : ℕ) → 0 < m → finished rows terms (rows_from count inside m c) ≡ Ok (tree_of_rows (rows ++ row_of terms ∷ []), d)
      by zero l = absurd (omega arith)
      by (suc m) l =
          ap (λ r. finished rows terms (r >>= λ t. rows_by t.0 (rows_from count inside m) t.1)) h
          ∙ ap (λ (ts : List Tree). Ok (tree_of_rows (rows ++ row_of ts ∷ []), d)) (append-nil terms)

  pub rows_refused : (e : PatternAnswer) → next_turn count inside c ≡ Err e → finished rows terms (rows_from count inside n c) ≡ Err e
  rows_refused e h = by n some
    where
      by : (m : ℕ) → 0 < m → finished rows terms (rows_from count inside m c) ≡ Err e
      by zero l = absurd (omega arith)
      by (suc m) l = ap (λ r. finished rows terms (r >>= λ t. rows_by t.0 (rows_from count inside m) t.1)) h

  pub rows_bar : (d : Spot) → next_turn count inside c ≡ Ok (turn.Bar, d)
      → finished rows terms (rows_from count inside n c) ≡ finished (rows ++ row_of terms ∷ []) [] (rows_from count inside (n - 1) d)
  rows_bar d h = by n some
    where
      by : (m : ℕ) → 0 < m → finished rows terms (rows_from count inside m c) ≡ finished (rows ++ row_of terms ∷ []) [] (rows_from count inside (m - 1) d)
      by zero l = absurd (omega arith)
      by (suc m) l =
          let same : m ≡ suc m - 1 = omega arith in
          ap (λ r. finished rows terms (r >>= λ t. rows_by t.0 (rows_from count inside m) t.1)) h
          ∙ row_more rows terms (rows_from count inside m d)
          ∙ ap (λ k. finished (rows ++ row_of terms ∷ []) [] (rows_from count inside k d)) same

  pub rows_term : (x : Tree) (d : Spot) → next_turn count inside c ≡ Ok (turn.Term x, d)
      → finished rows terms (rows_from count inside n c) ≡ finished rows (terms ++ x ∷ []) (rows_from count inside (n - 1) d)
  rows_term x d h = by n some
    where
      by : (m : ℕ) → 0 < m → finished rows terms (rows_from count inside m c) ≡ finished rows (terms ++ x ∷ []) (rows_from count inside (m - 1) d)
      by zero l = absurd (omega arith)
      by (suc m) l =
          let same : m ≡ suc m - 1 = omega arith in
          ap (λ r. finished rows terms (r >>= λ t. rows_by t.0 (rows_from count inside m) t.1)) h
          ∙ term_more rows terms x (rows_from count inside m d)
          ∙ ap (λ k. finished rows (terms ++ x ∷ []) (rows_from count inside k d)) same

-- ---- groups

inside_more : (count room : ℕ) (c : Spot) → 0 < room → inside_of count room c ≡ all_rows count (inside_of count (room - 1)) c
unfolding inside_of
inside_more count zero c h = absurd (omega arith)
inside_more count (suc room) c h = let same : room ≡ suc room - 1 = omega arith in ap (λ r. all_rows count (inside_of count r) c) same

module _ (count room : ℕ) (number : Option ℕ) (c : Spot) where
  pub group_none : room ≡ 0 → group_body (inside_of count room) number c ≡ unsupported
  unfolding inside_of
  group_none e = ap (λ r. group_body (inside_of count r) number c) e

  module _ (some : 0 < room) where
    pub group_refused : (e : PatternAnswer) → Fails e (all_rows count (inside_of count (room - 1)) c) → Fails e (group_body (inside_of count room) number c)
    group_refused e =
        fails_too (all_rows count (inside_of count (room - 1)) c) (group_body (inside_of count room) number c) e
        (λ f h. ap (λ r. r >>= λ x. group_end number x.0 x.1) (inside_more count room c some ∙ h))

    pub group_more : (x : Tree) (d : Spot) → all_rows count (inside_of count (room - 1)) c ≡ Ok (x, d)
        → group_body (inside_of count room) number c ≡ group_end number x d
    group_more x d h = ap (λ r. r >>= λ x. group_end number x.0 x.1) (inside_more count room c some ∙ h)
