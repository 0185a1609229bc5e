-- Rows of parts: what holds of each turn, holds of the whole row.
use Rattle.std.proofs.Common.{◌≡◌, ◌<◌, ℕ, List, [], ◌∷◌, length, sym, subst, arith}
use Rattle.js_tree.specs.declared.token.Token.{Token}
use Rattle.js_law_induction.proofs.Alike.{Row, Turns, no_turn, more_turns, last_turn, end_turn}
use Rattle.js_law_tokens.proofs.Keeping.{Keeps, done}

-- lists of parts are printed part by part, with what stands between them
pub record Lists {A : Type 0} (item : A → List Token) (out : List A → List Token) : Type 0 where
  pub none : out [] ≡ []
  pub more : (x : A) (xs : List A) (a b c : List Token) → Keeps (item x) a b → Keeps (out xs) b c → Keeps (out (x ∷ xs)) a c

pub no_part : {A : Type 0} {item : A → List Token} {out : List A → List Token} (l : Lists item out) (a b : List Token) → Keeps [] a b → Keeps (out []) a b
no_part l a b k = subst (λ ts. Keeps ts a b) (sym l.none) k

-- ---- rows that no printed sign closes

pub record RowKeeps {A : Type 0} (item : A → List Token) (w : Row A) : Type 0 where
  pub more : (a : List Token) (x : A) (b : List Token) → w.more a x b → Keeps (item x) a b
  pub last : (a : List Token) (x : A) (b : List Token) → w.last a x b → Keeps (item x) a b
  pub ended : (a b : List Token) → w.ended a b → Keeps [] a b

pub row_kept : {A : Type 0} {item : A → List Token} {out : List A → List Token} (l : Lists item out) (w : Row A) → RowKeeps item w
    → {n : ℕ} {a : List Token} {xs : List A} {b : List Token} → Turns w n a xs b → Keeps (out xs) a b
row_kept l w g (no_turn {a = a}) = no_part l a a (done a)
row_kept l w g (more_turns is are) = l.more _ _ _ _ _ (g.more _ _ _ is) (row_kept l w g are)
row_kept l w g (last_turn {b = b} is) = l.more _ [] _ _ _ (g.last _ _ _ is) (no_part l b b (done b))
row_kept l w g (end_turn {a = a} {b = b} is) = no_part l a b (g.ended _ _ is)

-- ---- rows that a printed sign closes, which the last turn reads

abbrev pub Closes : List Token → List Token → List Token → List Token → Type 0
Closes close out a c = (b : List Token) × Keeps out a b × Keeps close b c

-- a turn but the last takes a token at least
pub record RowCloses {A : Type 0} (item : A → List Token) (close : List Token) (w : Row A) : Type 0 where
  pub more : (a : List Token) (x : A) (b : List Token) → w.more a x b → Keeps (item x) a b × (length b < length a)
  pub last : (a : List Token) (x : A) (b : List Token) → w.last a x b → Closes close (item x) a b
  pub ended : (a b : List Token) → w.ended a b → Keeps close a b

pub row_closes : {A : Type 0} {item : A → List Token} {out : List A → List Token} (close : List Token) (l : Lists item out) (w : Row A) → RowCloses item close w
    → {n : ℕ} {a : List Token} {xs : List A} {b : List Token} → length a < n → Turns w n a xs b → Closes close (out xs) a b
row_closes close l w g less no_turn = absurd (omega arith)
row_closes close l w g less (more_turns is are) =
    let one = g.more _ _ _ is in
    let others = row_closes close l w g (omega (arith, one.1, less)) are in
    (others.0, l.more _ _ _ _ _ one.0 others.1, others.2)
row_closes close l w g less (last_turn is) =
    let one = g.last _ _ _ is in
    (one.0, l.more _ [] _ _ _ one.1 (no_part l one.0 one.0 (done one.0)), one.2)
row_closes close l w g less (end_turn {a = a} is) = (a, no_part l a a (done a), g.ended _ _ is)
