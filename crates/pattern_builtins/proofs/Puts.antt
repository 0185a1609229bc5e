-- Pieces are put behind others, one by one.
use Rattle.std.proofs.Common.{◌≡◌, ℕ, zero, suc, ◌-◌, ◌<◌, ◌≤◌, Bool, true, false, List, [], ◌∷◌, ◌++◌, length, get_or, take, drop, Option, None, refl, ap, sym, subst, ◌∙◌, arith, append_assoc, length-append}
use Rattle.std.proofs.lemmas.Bool.{ltb-true, ltb-false}
use Rattle.std.proofs.lemmas.List.{append-nil}
use Rattle.std.specs.Prelude.{nat_lt}
use Rattle.js_pattern.specs.declared.span.Span.{Span}
use Rattle.js_regex.proofs.Lists.{first_of_list}
use Rattle.pattern_builtins.specs.Putting.{after, Puts}
use Rattle.pattern_builtins.specs.Splitting.{Splits, pieces_alone, within_limit}

-- the pieces that are there and those that are left
pub record Putting (limit : ℕ) (added old ps left : List (Option Span)) : Type 0 where
  pub same : (b : ℕ → Splits) → after old (within_limit (limit - length old) added b) ≡ after ps (within_limit (limit - length ps) left b)
  pub room : length ps ≤ limit

one_put : (limit : ℕ) (ps : List (Option Span)) (x : Option Span) (left : List (Option Span)) (b : ℕ → Splits) → length ps < limit
    → after ps (within_limit (limit - length ps) (x ∷ left) b) ≡ after (ps ++ x ∷ []) (within_limit (limit - length (ps ++ x ∷ [])) left b)
one_put limit ps x left b h =
    let one : limit - length ps ≡ suc (limit - length (ps ++ x ∷ [])) = omega (arith, length-append ps (x ∷ [])) in
    let more = within_limit (limit - length (ps ++ x ∷ [])) left b in
    ap (λ n. after ps (within_limit n (x ∷ left) b)) one
    ∙ ap (λ qs. record { pieces = qs; cost = more.cost }) (sym (append_assoc ps (x ∷ []) more.pieces))

pub put_start : (limit : ℕ) (added old : List (Option Span)) → length old < limit → Putting limit added old old added
put_start limit added old h = record { same = λ b. refl; room = omega arith }

pub put_more : (limit : ℕ) (added old ps left : List (Option Span)) (x : Option Span) → Putting limit added old ps (x ∷ left) → length ps < limit
    → Putting limit added old (ps ++ x ∷ []) left
put_more limit added old ps left x h l = record {
  same = λ b. h.same b ∙ one_put limit ps x left b l;
  room = omega (arith, length-append ps (x ∷ []));
}

none_left : (n : ℕ) (b : ℕ → Splits) → 0 < n → within_limit n [] b ≡ b n
none_left zero b h = absurd (omega arith)
none_left (suc n) b h = refl

no_room : (n : ℕ) (left : List (Option Span)) (b : ℕ → Splits) → n ≡ zero → within_limit n left b ≡ pieces_alone []
no_room n left b e = ap (λ k. within_limit k left b) e

pub put_full : (limit : ℕ) (added old ps left : List (Option Span)) → Putting limit added old ps left → limit ≤ length ps → Puts limit added old false ps
put_full limit added old ps left h l b =
    h.same b
    ∙ ap (after ps) (no_room (limit - length ps) left b (omega arith))
    ∙ ap pieces_alone (append-nil ps)

pub put_end : (limit : ℕ) (added old ps : List (Option Span)) (t : Bool) → Putting limit added old ps [] → nat_lt (length ps) limit ≡ t → Puts limit added old t ps
put_end limit added old ps true h e =
    let some = ltb-true (length ps) limit e in
    (some, λ b. h.same b ∙ ap (after ps) (none_left (limit - length ps) b (omega arith)))
put_end limit added old ps false h e = put_full limit added old ps [] h (ltb-false (length ps) limit e)

pub put_next : (limit : ℕ) (added old ps left : List (Option Span)) (x : Option Span) (more new : List (Option Span))
    → Putting limit added old ps left → length ps < limit → left ≡ x ∷ more → new ≡ ps ++ x ∷ [] → Putting limit added old new more
put_next limit added old ps left x more new h l e f =
    subst (λ ys. Putting limit added old ys more) (sym f)
    (put_more limit added old ps more x (subst (Putting limit added old ps) e h) l)

pub put_last : (limit : ℕ) (added old ps left : List (Option Span)) (n : ℕ) → Putting limit added old ps left → left ≡ [] → n ≡ length ps
    → Puts limit added old (nat_lt n limit) ps
put_last limit added old ps left n h e f =
    subst (λ k. Puts limit added old (nat_lt k limit) ps) (sym f)
    (put_end limit added old ps (nat_lt (length ps) limit) (subst (Putting limit added old ps) e h) refl)

pub puts : (limit : ℕ) (added old new : List (Option Span)) (b t : Bool) → Puts limit added old b new → b ≡ t → Puts limit added old t new
puts limit added old new b t p e = subst (λ t. Puts limit added old t new) e p

pub first_left : (xs : List (Option Span)) → 1 ≤ length xs → xs ≡ get_or xs 0 None ∷ take (length xs - 1) (drop 1 xs)
first_left [] h = absurd (omega arith)
first_left (y ∷ ys) h = first_of_list (y ∷ ys) y refl h
