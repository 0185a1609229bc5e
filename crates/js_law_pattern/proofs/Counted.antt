-- The groups that are counted beforehand are those that are read: each step of reading keeps the groups that have begun
-- and those that are left.
use Rattle.std.proofs.Common.{◌≡◌, ℕ, zero, suc, ◌+◌, ◌-◌, ◌*◌, Bool, true, false, List, [], ◌∷◌, length, Option, Some, None, Result, Ok, Err, refl, sym, ap, ◌∙◌, subst, arith}
use Rattle.std.specs.Prelude.{if◌then◌else◌, nat_eq, nat_lt, nat_le}
use Rattle.std.proofs.lemmas.Bool.{eqb-true}
use Rattle.utf16_text.specs.Letters.{is_between}
use Rattle.utf16_text.specs.Digits.{is_digit, is_hexadecimal}
use Rattle.js_pattern.specs.Leaves.{is_word}
use Rattle.js_pattern.specs.Tree.{Tree, group}
use Rattle.js_pattern.specs.declared.class.Set.{Set}
use Rattle.js_pattern.specs.declared.class.Class.{Class}
use Rattle.js_pattern.specs.declared.class.ClassItem.{ClassItem}
use Rattle.js_pattern_reader.specs.declared.answer.PatternAnswer.{PatternAnswer}
use Rattle.js_pattern_reader.specs.declared.escapes.ClassAtom.{ClassAtom}
use Rattle.js_pattern_reader.specs.declared.escapes.Escape.{Escape}
use Rattle.js_pattern_reader.specs.declared.counts.Counts.{Counts}
use Rattle.js_pattern_reader.specs.declared.limits.TheConstants.{MOST_GROUPS, MOST_NESTED, MOST_TIMES}
use Rattle.js_pattern_reader.specs.declared.pieces.Piece.{Piece}
use Rattle.js_pattern_reader.specs.declared.pieces.Piece.TheVariants as piece
use Rattle.js_pattern_reader.specs.declared.body.Turn.{Turn}
use Rattle.js_pattern_reader.specs.declared.body.Turn.TheVariants as turn
use Rattle.js_pattern_reader.specs.Answers.{Read, ◌>>=◌}
use Rattle.js_pattern_reader.specs.Escapes.{then_some, digit_at, two_digits_at, four_digits_at, begins_with_digit, unit_at, set_of, as_unit, atom_by, atom_at, class_escape_at, escape_at}
use Rattle.js_pattern_reader.specs.Classes.{behind_backslash, class_atom, range_of, unless_end, behind_dash, item_by, class_item, items_by, items_from, class_by, class_of}
use Rattle.js_pattern_reader.specs.Counts.{behind, count_from, count_of, to_most, behind_comma, behind_least, in_braces, some_counts, quantifier, greedy_at}
use Rattle.js_pattern_reader.specs.Groups.{groups_from, groups_in}
use Rattle.js_pattern_reader.specs.Pieces.{Spot, spot, ReadAt, escaped_piece, no_capture, capture, open_piece, class_piece, stands_alone, piece_by, next_piece}
use Rattle.js_pattern_reader.specs.Reading.{repeated, quantified, term, group_end, group_body, turn_by, next_turn, Rows, rows_by, rows_from, all_rows, inside_of, whole_by, body_of}
use Rattle.js_law_pattern.specs.Laws.{GroupsAreCounted}

-- ---- the groups that are left

-- outside a class, or within one
abbrev left : Bool → List ℕ → ℕ
left within us = groups_from false within us

pub if_any : {X : Type 0} (P : X → Type 0) (t : Bool) (x y : X) → (t ≡ true → P x) → (t ≡ false → P y) → P (if t then x else y)
if_any P true x y h l = h refl
if_any P false x y h l = l refl

-- a unit that meets a test is none that fails it
differs : (test : ℕ → Bool) (u k : ℕ) → test u ≡ true → test k ≡ false → nat_eq u k ≡ false
differs test u k h l = by (nat_eq u k) refl
  where
    by : (t : Bool) → nat_eq u k ≡ t → t ≡ false
    by false e = refl
    by true e = sym h ∙ ap test (eqb-true u k e) ∙ l

outside_plain : (u : ℕ) (us : List ℕ) → nat_eq u 40 ≡ false → nat_eq u 91 ≡ false → nat_eq u 92 ≡ false → left false (u ∷ us) ≡ left false us
outside_plain u us a b c = rw (a, b, c) refl

within_plain : (u : ℕ) (us : List ℕ) → nat_eq u 92 ≡ false → nat_eq u 93 ≡ false → left true (u ∷ us) ≡ left true us
within_plain u us a b = rw (a, b) refl

-- a unit that is no bracket and no backslash
plain : (test : ℕ → Bool) (within : Bool) (u : ℕ) (us : List ℕ) → test u ≡ true
    → test 40 ≡ false → test 91 ≡ false → test 92 ≡ false → test 93 ≡ false → left within us ≡ left within (u ∷ us)
plain test false u us h a b c d = sym (outside_plain u us (differs test u 40 h a) (differs test u 91 h b) (differs test u 92 h c))
plain test true u us h a b c d = sym (within_plain u us (differs test u 92 h c) (differs test u 93 h d))

hexadecimal_plain : (within : Bool) (u : ℕ) (us : List ℕ) → is_hexadecimal u ≡ true → left within us ≡ left within (u ∷ us)
hexadecimal_plain within u us h = plain is_hexadecimal within u us h refl refl refl refl

-- ---- what is read leaves so many

abbrev SomeLeft : Bool → ℕ → Option (ℕ × List ℕ) → Type 0
SomeLeft within n None = Unit {0}
SomeLeft within n (Some x) = left within (x.1) ≡ n

abbrev OkLeft : {A : Type 0} → Bool → ℕ → Result (A × List ℕ) PatternAnswer → Type 0
OkLeft within n (Ok x) = left within (x.1) ≡ n
OkLeft within n (Err e) = Unit {0}

then_left : {A B : Type 0} (v w : Bool) (m n : ℕ) (r : Result (A × List ℕ) PatternAnswer) (f : A × List ℕ → Result (B × List ℕ) PatternAnswer)
    → OkLeft v m r → ((x : A × List ℕ) → left v (x.1) ≡ m → OkLeft w n (f x)) → OkLeft w n (r >>= f)
then_left v w m n (Ok x) f h g = g x h
then_left v w m n (Err e) f h g = tt

-- ---- escapes

module _ (within : Bool) (n : ℕ) where
  digit_left : (us : List ℕ) → left within us ≡ n → SomeLeft within n (digit_at us)
  digit_left [] e = tt
  digit_left (u ∷ us) e = if_any (SomeLeft within n) (is_hexadecimal u) _ _ (λ h. hexadecimal_plain within u us h ∙ e) (λ _. tt)

  some_left : (o : Option (ℕ × List ℕ)) (f : ℕ × List ℕ → Option (ℕ × List ℕ)) → SomeLeft within n o
      → ((x : ℕ × List ℕ) → left within (x.1) ≡ n → SomeLeft within n (f x)) → SomeLeft within n (then_some o f)
  some_left None f h g = tt
  some_left (Some x) f h g = g x h

  two_left : (us : List ℕ) → left within us ≡ n → SomeLeft within n (two_digits_at us)
  two_left us e = some_left (digit_at us) _ (digit_left us e) (λ a h. some_left (digit_at (a.1)) _ (digit_left (a.1) h) (λ b l. l))

  four_left : (us : List ℕ) → left within us ≡ n → SomeLeft within n (four_digits_at us)
  four_left us e = some_left (two_digits_at us) _ (two_left us e) (λ a h. some_left (two_digits_at (a.1)) _ (two_left (a.1) h) (λ b l. l))

  unit_left : (u : ℕ) (us : List ℕ) → left within us ≡ n → SomeLeft within n (unit_at u us)
  unit_left u us e =
      if_any (SomeLeft within n) (nat_eq u 116) _ _ (λ _. e)
      (λ _. if_any (SomeLeft within n) (nat_eq u 110) _ _ (λ _. e)
      (λ _. if_any (SomeLeft within n) (nat_eq u 118) _ _ (λ _. e)
      (λ _. if_any (SomeLeft within n) (nat_eq u 102) _ _ (λ _. e)
      (λ _. if_any (SomeLeft within n) (nat_eq u 114) _ _ (λ _. e)
      (λ _. if_any (SomeLeft within n) (nat_eq u 48) _ _ (λ _. if_any (SomeLeft within n) (begins_with_digit us) _ _ (λ _. tt) (λ _. e))
      (λ _. if_any (SomeLeft within n) (nat_eq u 120) _ _ (λ _. two_left us e)
      (λ _. if_any (SomeLeft within n) (nat_eq u 117) _ _ (λ _. four_left us e)
      (λ _. if_any (SomeLeft within n) (is_word u) _ _ (λ _. tt) (λ _. e)))))))))

  as_left : (o : Option (ℕ × List ℕ)) → SomeLeft within n o → OkLeft within n (as_unit o)
  as_left None h = tt
  as_left (Some x) h = h

  atom_by_left : (u : ℕ) (us : List ℕ) (s : Option Set) → left within us ≡ n → OkLeft within n (atom_by u us s)
  atom_by_left u us (Some s) e = e
  atom_by_left u us None e = as_left (unit_at u us) (unit_left u us e)

  class_escape_left : (u : ℕ) (us : List ℕ) → left within us ≡ n → OkLeft within n (class_escape_at u us)
  class_escape_left u us e = if_any (OkLeft {A = ClassAtom} within n) (nat_eq u 98) _ _ (λ _. e) (λ _. atom_by_left u us (set_of u) e)

  escape_left : (count u : ℕ) (us : List ℕ) → left within us ≡ n → OkLeft within n (escape_at count u us)
  escape_left count u us e =
      if_any (OkLeft {A = Escape} within n) (nat_eq u 98) _ _ (λ _. e)
      (λ _. if_any (OkLeft {A = Escape} within n) (nat_eq u 66) _ _ (λ _. e)
      (λ _. if_any (OkLeft {A = Escape} within n) (is_between 49 57 u) _ _
      (λ _. if_any (OkLeft {A = Escape} within n) (nat_le (u - 48) count) _ _ (λ _. e) (λ _. tt))
      (λ _. then_left within within n n (atom_at u us) _ (atom_by_left u us (set_of u) e) (λ x h. h))))

-- ---- classes

-- no `]` is here
abbrev NotEnd : List ℕ → Type 0
NotEnd [] = Unit {0}
NotEnd (u ∷ us) = nat_eq u 93 ≡ false

abbrev DashLeft : ℕ → Option (List ℕ) → Type 0
DashLeft n None = Unit {0}
DashLeft n (Some us) = NotEnd us × (left true us ≡ n)

behind_backslash_left : (n : ℕ) (us : List ℕ) → groups_from true true us ≡ n → OkLeft true n (behind_backslash us)
behind_backslash_left n [] e = tt
behind_backslash_left n (u ∷ us) e = class_escape_left true n u us e

class_atom_left : (n : ℕ) (us : List ℕ) → NotEnd us → left true us ≡ n → OkLeft true n (class_atom us)
class_atom_left n [] h e = tt
class_atom_left n (u ∷ us) h e =
    if_any (OkLeft {A = ClassAtom} true n) (nat_eq u 92) _ _
    (λ b. behind_backslash_left n us (let same : groups_from true true us ≡ left true (u ∷ us) = rw (b, h) refl in same ∙ e))
    (λ b. sym (within_plain u us b h) ∙ e)

unless_left : (n : ℕ) (us : List ℕ) → left true us ≡ n → DashLeft n (unless_end us)
unless_left n [] e = tt
unless_left n (u ∷ us) e = if_any (DashLeft n) (nat_eq u 93) _ _ (λ _. tt) (λ b. (b, e))

dash_left : (n : ℕ) (us : List ℕ) → left true us ≡ n → DashLeft n (behind_dash us)
dash_left n [] e = tt
dash_left n (u ∷ us) e =
    if_any (DashLeft n) (nat_eq u 45) _ _
    (λ b. unless_left n us (plain (λ v. nat_eq v 45) true u us b refl refl refl refl ∙ e)) (λ _. tt)

range_left : (n : ℕ) (r : Result ClassItem PatternAnswer) (us : List ℕ) → left true us ≡ n → OkLeft true n (r >>= λ i. Ok (i, us))
range_left n (Ok i) us e = e
range_left n (Err f) us e = tt

item_by_left : (n : ℕ) (a : ClassAtom) (us : List ℕ) (o : Option (List ℕ)) → left true us ≡ n → DashLeft n o → OkLeft true n (item_by a us o)
item_by_left n a us None e d = e
item_by_left n a us (Some vs) e d =
    then_left true true n n (class_atom vs) _ (class_atom_left n vs (d.0) (d.1)) (λ b h. range_left n (range_of a (b.0)) (b.1) h)

class_item_left : (n : ℕ) (us : List ℕ) → NotEnd us → left true us ≡ n → OkLeft true n (class_item us)
class_item_left n us h e =
    then_left true true n n (class_atom us) _ (class_atom_left n us h e) (λ a l. item_by_left n (a.0) (a.1) (behind_dash (a.1)) l (dash_left n (a.1) l))

items_by_left : (n : ℕ) (more : Read (List ClassItem)) (u : ℕ) (us : List ℕ) → ((vs : List ℕ) → left true vs ≡ n → OkLeft false n (more vs))
    → left true (u ∷ us) ≡ n → (t : Bool) → nat_eq u 93 ≡ t → OkLeft false n (items_by (u ∷ us) more (if t then Some us else None))
items_by_left n more u us next e true b =
    let same : left false us ≡ left true (u ∷ us) = rw (differs (λ v. nat_eq v 93) u 92 b refl, b) refl in same ∙ e
items_by_left n more u us next e false b =
    then_left true false n n (class_item (u ∷ us)) _ (class_item_left n (u ∷ us) b e)
    (λ i h. then_left false false n n (more (i.1)) _ (next (i.1) h) (λ is l. l))

items_left : (turns n : ℕ) (us : List ℕ) → left true us ≡ n → OkLeft false n (items_from turns us)
items_left zero n us e = tt
items_left (suc turns) n [] e = tt
items_left (suc turns) n (u ∷ us) e = items_by_left n (items_from turns) u us (λ vs h. items_left turns n vs h) e (nat_eq u 93) refl

class_by_left : (n : ℕ) (excludes : Bool) (us : List ℕ) → left true us ≡ n → OkLeft false n (class_by excludes us)
class_by_left n excludes us e = then_left false false n n (items_from (length us) us) _ (items_left (length us) n us e) (λ is h. h)

class_left : (n : ℕ) (us : List ℕ) → left true us ≡ n → OkLeft false n (class_of us)
class_left n [] e = tt
class_left n (u ∷ us) e =
    if_any (OkLeft {A = Class} false n) (nat_eq u 94) _ _
    (λ b. class_by_left n true us (plain (λ v. nat_eq v 94) true u us b refl refl refl refl ∙ e)) (λ _. class_by_left n false (u ∷ us) e)

-- ---- quantifiers

-- one unit that must stand here
abbrev RestLeft : ℕ → Result (List ℕ) PatternAnswer → Type 0
RestLeft n (Ok us) = left false us ≡ n
RestLeft n (Err e) = Unit {0}

module _ (n : ℕ) where
  behind_left : (wanted : ℕ) → nat_eq 40 wanted ≡ false → nat_eq 91 wanted ≡ false → nat_eq 92 wanted ≡ false → nat_eq 93 wanted ≡ false
      → (us : List ℕ) → left false us ≡ n → RestLeft n (behind wanted us)
  behind_left wanted a b c d [] e = tt
  behind_left wanted a b c d (u ∷ us) e = if_any (RestLeft n) (nat_eq u wanted) _ _ (λ h. plain (λ v. nat_eq v wanted) false u us h a b c d ∙ e) (λ _. tt)

  -- behind a unit of a quantifier
  behind_sign : (sign u : ℕ) (us : List ℕ) → nat_eq u sign ≡ true → nat_eq 40 sign ≡ false → nat_eq 91 sign ≡ false → nat_eq 92 sign ≡ false → nat_eq 93 sign ≡ false
      → left false (u ∷ us) ≡ n → left false us ≡ n
  behind_sign sign u us h a b c d e = plain (λ v. nat_eq v sign) false u us h a b c d ∙ e

  count_from_left : (k : ℕ) (us : List ℕ) → left false us ≡ n → OkLeft false n (count_from k us)
  count_from_left k [] e = e
  count_from_left k (u ∷ us) e =
      if_any (OkLeft {A = ℕ} false n) (is_digit u) _ _
      (λ d. if_any (OkLeft {A = ℕ} false n) (nat_lt MOST_TIMES (k * 10 + (u - 48))) _ _ (λ _. tt)
      (λ _. count_from_left (k * 10 + (u - 48)) us (plain is_digit false u us d refl refl refl refl ∙ e)))
      (λ _. e)

  count_left : (us : List ℕ) → left false us ≡ n → OkLeft false n (count_of us)
  count_left [] e = tt
  count_left (u ∷ us) e =
      if_any (OkLeft {A = ℕ} false n) (is_digit u) _ _
      (λ d. count_from_left (u - 48) us (plain is_digit false u us d refl refl refl refl ∙ e)) (λ _. tt)

  closed_left : (c : Counts) (r : Result (List ℕ) PatternAnswer) → RestLeft n r → OkLeft false n (r >>= λ us. Ok (c, us))
  closed_left c (Ok us) h = h
  closed_left c (Err e) h = tt

  to_most_left : (k : ℕ) (us : List ℕ) → left false us ≡ n → OkLeft false n (to_most k us)
  to_most_left k us e =
      then_left false false n n (count_of us) _ (count_left us e)
      (λ m h. if_any (OkLeft {A = Counts} false n) (nat_lt (m.0) k) _ _ (λ _. tt)
      (λ _. closed_left _ (behind 125 (m.1)) (behind_left 125 refl refl refl refl (m.1) h)))

  behind_comma_left : (k : ℕ) (us : List ℕ) → left false us ≡ n → OkLeft false n (behind_comma k us)
  behind_comma_left k [] e = tt
  behind_comma_left k (u ∷ us) e =
      if_any (OkLeft {A = Counts} false n) (nat_eq u 125) _ _ (λ h. behind_sign 125 u us h refl refl refl refl e) (λ _. to_most_left k (u ∷ us) e)

  behind_least_left : (k : ℕ) (us : List ℕ) → left false us ≡ n → OkLeft false n (behind_least k us)
  behind_least_left k [] e = tt
  behind_least_left k (u ∷ us) e =
      if_any (OkLeft {A = Counts} false n) (nat_eq u 125) _ _ (λ h. behind_sign 125 u us h refl refl refl refl e)
      (λ _. if_any (OkLeft {A = Counts} false n) (nat_eq u 44) _ _ (λ h. behind_comma_left k us (behind_sign 44 u us h refl refl refl refl e)) (λ _. tt))

  braces_left : (us : List ℕ) → left false us ≡ n → OkLeft false n (some_counts (in_braces us))
  braces_left us e =
      then_left false false n n (in_braces us) _
      (then_left false false n n (count_of us) _ (count_left us e) (λ k h. behind_least_left (k.0) (k.1) h)) (λ c h. h)

  quantifier_left : (us : List ℕ) → left false us ≡ n → OkLeft false n (quantifier us)
  quantifier_left [] e = e
  quantifier_left (u ∷ us) e =
      if_any (OkLeft {A = Option Counts} false n) (nat_eq u 42) _ _ (λ h. behind_sign 42 u us h refl refl refl refl e)
      (λ _. if_any (OkLeft {A = Option Counts} false n) (nat_eq u 43) _ _ (λ h. behind_sign 43 u us h refl refl refl refl e)
      (λ _. if_any (OkLeft {A = Option Counts} false n) (nat_eq u 63) _ _ (λ h. behind_sign 63 u us h refl refl refl refl e)
      (λ _. if_any (OkLeft {A = Option Counts} false n) (nat_eq u 123) _ _ (λ h. braces_left us (behind_sign 123 u us h refl refl refl refl e)) (λ _. e))))

  greedy_left : (us : List ℕ) → left false us ≡ n → left false ((greedy_at us).1) ≡ n
  greedy_left [] e = e
  greedy_left (u ∷ us) e =
      if_any (λ (g : Bool × List ℕ). left false (g.1) ≡ n) (nat_eq u 63) _ _ (λ h. behind_sign 63 u us h refl refl refl refl e) (λ _. e)

-- ---- pieces

-- the groups that have begun, and those that are left
abbrev AllGroups : ℕ → Spot → Type 0
AllGroups n c = c.groups + left false c.rest ≡ n

abbrev Keeps : {A : Type 0} → ℕ → Result (A × Spot) PatternAnswer → Type 0
Keeps n (Ok x) = AllGroups n (x.1)
Keeps n (Err e) = Unit {0}

then_keeps : {A B : Type 0} (n : ℕ) (r : Result (A × Spot) PatternAnswer) (f : A × Spot → Result (B × Spot) PatternAnswer)
    → Keeps n r → ((x : A × Spot) → AllGroups n (x.1) → Keeps n (f x)) → Keeps n (r >>= f)
then_keeps n (Ok x) f h g = g x h
then_keeps n (Err e) f h g = tt

-- what reads units alone leaves the groups that are left
then_left_keeps : {A B : Type 0} (n m : ℕ) (r : Result (A × List ℕ) PatternAnswer) (f : A × List ℕ → Result (B × Spot) PatternAnswer)
    → OkLeft false m r → ((x : A × List ℕ) → left false (x.1) ≡ m → Keeps n (f x)) → Keeps n (r >>= f)
then_left_keeps n m (Ok x) f h g = g x h
then_left_keeps n m (Err e) f h g = tt

module _ (n m : ℕ) where
  -- so many groups have begun, and these are left
  kept_by : (a b : ℕ) → a ≡ b → m + b ≡ n → m + a ≡ n
  kept_by a b h e = ap (λ k. m + k) h ∙ e

  escaped_keeps : (count : ℕ) (us : List ℕ) → m + groups_from true false us ≡ n → Keeps n (escaped_piece count m us)
  escaped_keeps count [] e = tt
  escaped_keeps count (u ∷ us) e =
      then_left_keeps n (left false us) (escape_at count u us) _ (escape_left false (left false us) count u us refl) (λ x h. kept_by _ _ h e)

  class_keeps : (us : List ℕ) → m + left true us ≡ n → Keeps n (class_piece m us)
  class_keeps us e = then_left_keeps n (left true us) (class_of us) _ (class_left (left true us) us refl) (λ x h. kept_by _ _ h e)

  no_capture_keeps : (us : List ℕ) → m + left false us ≡ n → Keeps n (no_capture m us)
  no_capture_keeps [] e = tt
  no_capture_keeps (u ∷ us) e =
      if_any (Keeps {A = Piece} n) (nat_eq u 58) _ _ (λ h. kept_by _ _ (plain (λ v. nat_eq v 58) false u us h refl refl refl refl) e)
      (λ _. if_any (Keeps {A = Piece} n) (nat_eq u 61) _ _ (λ _. tt)
      (λ _. if_any (Keeps {A = Piece} n) (nat_eq u 33) _ _ (λ _. tt) (λ _. tt)))

  capture_keeps : (us : List ℕ) → m + suc (left false us) ≡ n → Keeps n (capture m us)
  capture_keeps us e =
      let all : m + 1 + left false us ≡ n = omega (arith, e) in
      if_any (Keeps {A = Piece} n) (nat_lt m MOST_GROUPS) _ _ (λ _. all) (λ _. tt)

  open_keeps : (us : List ℕ) → m + left false (40 ∷ us) ≡ n → Keeps n (open_piece m us)
  open_keeps [] e = capture_keeps [] e
  open_keeps (u ∷ us) e =
      if_any (Keeps {A = Piece} n) (nat_eq u 63) _ _
      (λ h. let same : left false us ≡ left false (40 ∷ u ∷ us) = plain (λ v. nat_eq v 63) false u us h refl refl refl refl ∙ (let whole : left false (u ∷ us) ≡ left false (40 ∷ u ∷ us) = rw h refl in whole)
      in no_capture_keeps us (kept_by _ _ same e))
      (λ h. capture_keeps (u ∷ us) (let same : suc (left false (u ∷ us)) ≡ left false (40 ∷ u ∷ us) = rw h refl in kept_by _ _ same e))

  -- behind a unit that has no part in groups
  plain_keeps : (sign u : ℕ) (us : List ℕ) → nat_eq u sign ≡ true → nat_eq 40 sign ≡ false → nat_eq 91 sign ≡ false → nat_eq 92 sign ≡ false → nat_eq 93 sign ≡ false
      → m + left false (u ∷ us) ≡ n → m + left false us ≡ n
  plain_keeps sign u us h a b c d e = kept_by _ _ (plain (λ v. nat_eq v sign) false u us h a b c d) e

  piece_keeps : (count u : ℕ) (us : List ℕ) → m + left false (u ∷ us) ≡ n → Keeps n (piece_by count m u us)
  piece_keeps count u us e =
      if_any (Keeps {A = Piece} n) (nat_eq u 41) _ _ (λ _. e)
      (λ _. if_any (Keeps {A = Piece} n) (nat_eq u 124) _ _ (λ h. plain_keeps 124 u us h refl refl refl refl e)
      (λ _. if_any (Keeps {A = Piece} n) (nat_eq u 94) _ _ (λ h. plain_keeps 94 u us h refl refl refl refl e)
      (λ _. if_any (Keeps {A = Piece} n) (nat_eq u 36) _ _ (λ h. plain_keeps 36 u us h refl refl refl refl e)
      (λ _. if_any (Keeps {A = Piece} n) (nat_eq u 46) _ _ (λ h. plain_keeps 46 u us h refl refl refl refl e)
      (λ _. if_any (Keeps {A = Piece} n) (nat_eq u 91) _ _
      (λ h. class_keeps us (let P : ℕ → Type 0 = λ v. m + left false (v ∷ us) ≡ n in subst P (eqb-true u 91 h) e))
      (λ square. if_any (Keeps {A = Piece} n) (nat_eq u 40) _ _
      (λ h. open_keeps us (let P : ℕ → Type 0 = λ v. m + left false (v ∷ us) ≡ n in subst P (eqb-true u 40 h) e))
      (λ round. if_any (Keeps {A = Piece} n) (nat_eq u 92) _ _
      (λ h. escaped_keeps count us (let P : ℕ → Type 0 = λ v. m + left false (v ∷ us) ≡ n in subst P (eqb-true u 92 h) e))
      (λ slash. if_any (Keeps {A = Piece} n) (stands_alone u) _ _
      (λ _. kept_by _ _ (sym (outside_plain u us round square slash)) e) (λ _. tt)))))))))

next_piece_keeps : (n count : ℕ) (us : List ℕ) (m : ℕ) → m + left false us ≡ n → Keeps n (next_piece count us m)
next_piece_keeps n count [] m e = e
next_piece_keeps n count (u ∷ us) m e = piece_keeps n m count u us e

-- ---- terms and rows

module _ (n : ℕ) where
  repeated_keeps : (x : Tree) (from to : ℕ) (q : Option Counts) (us : List ℕ) → to + left false us ≡ n → AllGroups n ((repeated x from to q us).1)
  repeated_keeps x from to None us e = e
  repeated_keeps x from to (Some c) us e = kept_by n to _ _ (greedy_left (left false us) us refl) e

  term_keeps : (x : Tree) (from : ℕ) (c : Spot) → AllGroups n c → Keeps n (term x from c)
  term_keeps x from c e =
      then_keeps n (quantified x from c) _
      (then_left_keeps n (left false c.rest) (quantifier c.rest) _ (quantifier_left (left false c.rest) c.rest refl)
      (λ q h. repeated_keeps x from c.groups (q.0) (q.1) (kept_by n c.groups _ _ h e)))
      (λ x h. h)

  group_end_keeps : (number : Option ℕ) (x : Tree) (c : Spot) → AllGroups n c → Keeps n (group_end number x c)
  group_end_keeps number x c e = by (behind 41 c.rest) (behind_left (left false c.rest) 41 refl refl refl refl c.rest refl)
    where
      by : (r : Result (List ℕ) PatternAnswer) → RestLeft (left false c.rest) r → Keeps n (r >>= λ us. Ok (group number x, spot us c.groups))
      by (Ok us) h = kept_by n c.groups _ _ h e
      by (Err f) h = tt

  -- what reads inside of a group
  abbrev InsideKeeps : ReadAt Tree → Type 0
  InsideKeeps inside = (c : Spot) → AllGroups n c → Keeps n (inside c)

  module _ (count : ℕ) (inside : ReadAt Tree) (keeps : InsideKeeps inside) where
    group_keeps : (number : Option ℕ) (c : Spot) → AllGroups n c → Keeps n (group_body inside number c)
    group_keeps number c e = then_keeps n (inside c) _ (keeps c e) (λ x h. group_end_keeps number (x.0) (x.1) h)

    turn_keeps : (from : ℕ) (p : Piece) (c : Spot) → AllGroups n c → Keeps n (turn_by inside from p c)
    turn_keeps from piece.End c e = e
    turn_keeps from piece.Bar c e = e
    turn_keeps from (piece.Assertion a) c e = e
    turn_keeps from (piece.Atom x) c e = term_keeps x from c e
    turn_keeps from (piece.Open number) c e = then_keeps n (group_body inside number c) _ (group_keeps number c e) (λ x h. term_keeps (x.0) from (x.1) h)

    next_turn_keeps : (c : Spot) → AllGroups n c → Keeps n (next_turn count inside c)
    next_turn_keeps c e =
        then_keeps n (next_piece count c.rest c.groups) _ (next_piece_keeps n count c.rest c.groups e) (λ p h. turn_keeps c.groups (p.0) (p.1) h)

    rows_by_keeps : (more : ReadAt Rows) → ((d : Spot) → AllGroups n d → Keeps n (more d)) → (t : Turn) (c : Spot) → AllGroups n c → Keeps n (rows_by t more c)
    rows_by_keeps more next turn.End c e = e
    rows_by_keeps more next turn.Bar c e = then_keeps n (more c) _ (next c e) (λ r h. h)
    rows_by_keeps more next (turn.Term x) c e = then_keeps n (more c) _ (next c e) (λ r h. h)

    rows_keep : (turns : ℕ) (c : Spot) → AllGroups n c → Keeps n (rows_from count inside turns c)
    rows_keep zero c e = tt
    rows_keep (suc turns) c e =
        then_keeps n (next_turn count inside c) _ (next_turn_keeps c e)
        (λ t h. rows_by_keeps (rows_from count inside turns) (rows_keep turns) (t.0) (t.1) h)

    all_keep : InsideKeeps (all_rows count inside)
    all_keep c e = then_keeps n (rows_from count inside (length c.rest + 1) c) _ (rows_keep (length c.rest + 1) c e) (λ r h. h)

  inside_keeps : (count room : ℕ) → InsideKeeps (inside_of count room)
  unfolding inside_of
  inside_keeps count zero c e = tt
  inside_keeps count (suc room) c e = all_keep count (inside_of count room) (inside_keeps count room) c e

-- ---- the whole

abbrev IsCount : ℕ → Result (Tree × ℕ) PatternAnswer → Type 0
IsCount n (Ok b) = b.1 ≡ n
IsCount n (Err e) = Unit {0}

whole_is_count : (n : ℕ) (x : Tree) (groups : ℕ) (us : List ℕ) → groups + left false us ≡ n → IsCount n (whole_by x groups us)
whole_is_count n x groups [] e = omega (arith, e)
whole_is_count n x groups (u ∷ us) e = tt

body_by : (n : ℕ) (r : Result (Tree × Spot) PatternAnswer) → Keeps n r → IsCount n (r >>= λ x. whole_by (x.0) (x.1.groups) (x.1.rest))
body_by n (Ok x) h = whole_is_count n (x.0) (x.1.groups) (x.1.rest) h
body_by n (Err e) h = tt

body_is_count : (us : List ℕ) → IsCount (groups_in us) (body_of us)
body_is_count us =
    let start : 0 + groups_in us ≡ groups_in us = omega arith in
    body_by (groups_in us) (all_rows (groups_in us) (inside_of (groups_in us) MOST_NESTED) (spot us 0))
    (all_keep (groups_in us) (groups_in us) (inside_of (groups_in us) MOST_NESTED) (inside_keeps (groups_in us) (groups_in us) MOST_NESTED) (spot us 0) start)

pub groups_are_counted : GroupsAreCounted
groups_are_counted us x groups e =
    let P : Result (Tree × ℕ) PatternAnswer → Type 0 = IsCount (groups_in us) in
    subst P e (body_is_count us)
