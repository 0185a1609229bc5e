-- Groups between colons: no `::` stands among them, and the pieces between their colons are the groups.
use Rattle.std.proofs.Common.{◌≡◌, ◌≢◌, ℕ, ◌+◌, ◌<◌, ◌≤◌, Bool, true, false, cond, ◌&&◌, ◌==◌, List, [], ◌∷◌, ◌++◌, length, map, Some, None, refl, sym, ◌∙◌, ap, subst, arith, append-nil}
use Rattle.std.specs.List.{AllByRecursion, join_with_byte}
use Rattle.std.specs.Char.{digit_char}
use Rattle.std.proofs.lemmas.Bool.{eqb-true, ne_eqb}
use Rattle.std.proofs.lemmas.Bool.Decides.{nat_tests}
use Rattle.std.proofs.lemmas.List.Elements.{All-from_recursion}
use Rattle.std.proofs.lemmas.List.Splits.{slice_split_none, slice_split_at}
use Rattle.utf16_text.specs.Search.{first_place}
use Rattle.pac_ext.specs.declared.side.Ending.{Ending}
use Rattle.pac_ext.specs.declared.side.Ending.TheVariants.{Group, GroupOrQuad}
use Rattle.pac_ext.specs.Reading.{joined, one_in, two_in, last_in, groups_in, side_in}
use Rattle.pac_ext.specs.Writing.{group_text, between_colons}
use Rattle.pac_ext.proofs.Gaps.{gap, miss, short}
use Rattle.pac_ext.proofs.Sides.{pieces, side-begins, joined-nothing}
use Rattle.pac_ext.proofs.Spelled.{AreDigits, spells-group_text, is_group-group_text, one_in-group_text}

abbrev pub AreGroups : List ℕ → Type 0
AreGroups groups = AllByRecursion (λ group. group < 65536) groups

abbrev HasNoColon : List ℕ → Type 0
HasNoColon units = AllByRecursion (λ u. u ≢ 58) units

-- it begins with a unit that is no colon
abbrev BeginsPlain : List ℕ → Type 0
BeginsPlain [] = ⊥
BeginsPlain (u ∷ us) = u ≢ 58

abbrev IsPlain : List ℕ → Type 0
IsPlain units = HasNoColon units × BeginsPlain units

no-colon : (digit : ℕ) → digit < 16 → digit_char digit ≡ 58 → ⊥
no-colon digit h e = grind (arith, nat_tests)

digits-plain : (digits : List ℕ) → AreDigits digits → HasNoColon (map digit_char digits)
digits-plain [] h = tt
digits-plain (digit ∷ digits) h = (no-colon digit h.0, digits-plain digits h.1)

digits-begin : (digits : List ℕ) → AreDigits digits → 1 ≤ length digits → BeginsPlain (map digit_char digits)
digits-begin [] h some = absurd (omega arith)
digits-begin (digit ∷ digits) h some = no-colon digit h.0

group-plain : (group : ℕ) → group < 65536 → IsPlain (group_text group)
group-plain group h =
    let s = spells-group_text group h in
    subst IsPlain (sym s.spelled) (digits-plain s.digits s.small, digits-begin s.digits s.small s.some)

texts-plain : (groups : List ℕ) → AreGroups groups → AllByRecursion IsPlain (map group_text groups)
texts-plain [] h = tt
texts-plain (group ∷ groups) h = (group-plain group h.0, texts-plain groups h.1)

-- each colon stands before another unit
abbrev IsGapless : List ℕ → Type 0
IsGapless [] = Unit {0}
IsGapless (u ∷ us) = (u ≡ 58 → BeginsPlain us) × IsGapless us

gapless-append : (xs ys : List ℕ) → HasNoColon xs → IsGapless ys → IsGapless (xs ++ ys)
gapless-append [] ys h k = k
gapless-append (x ∷ xs) ys h k = (λ e. absurd (h.0 e), gapless-append xs ys h.1 k)

join-begins : (x : List ℕ) (xs : List (List ℕ)) → BeginsPlain x → BeginsPlain (join_with_byte 58 (x ∷ xs))
join-begins [] xs h = absurd h
join-begins (u ∷ us) [] h = h
join-begins (u ∷ us) (y ∷ ys) h = h

gapless-join : (xs : List (List ℕ)) → AllByRecursion IsPlain xs → IsGapless (join_with_byte 58 xs)
gapless-join [] h = tt
gapless-join (x ∷ []) h = subst IsGapless (append-nil x) (gapless-append x [] h.0.0 tt)
gapless-join (x ∷ y ∷ ys) h = gapless-append x (58 ∷ join_with_byte 58 (y ∷ ys)) h.0.0 (λ _. join-begins y ys h.1.0.1, gapless-join (y ∷ ys) h.1)

no-gap : (u v : ℕ) → (u ≡ 58 → v ≢ 58) → ((58 == u) && ((58 == v) && true)) ≡ false
no-gap u v h = go (58 == u) refl where
  go : (b : Bool) → (58 == u) ≡ b → (b && ((58 == v) && true)) ≡ false
  go false e = refl
  go true e = ap (λ b. b && true) (ne_eqb 58 v (λ f. h (sym (eqb-true _ _ e)) (sym f)))

gapless-none : (text : List ℕ) (k : ℕ) → IsGapless text → first_place gap text k ≡ None
gapless-none [] k h = refl
gapless-none (u ∷ []) k h = short (u ∷ []) k (omega arith)
gapless-none (u ∷ v ∷ rest) k h = miss u v rest k (no-gap u v h.0) ∙ gapless-none (v ∷ rest) (k + 1) h.1

gapless-gap : (text rest : List ℕ) (k : ℕ) → IsGapless text → first_place gap (text ++ 58 ∷ 58 ∷ rest) k ≡ Some (k + length text)
gapless-gap [] rest k h = ap Some (let e : k ≡ k + 0 = omega arith in e)
gapless-gap (u ∷ []) rest k h =
    miss u 58 (58 ∷ rest) k (no-gap u 58 (λ e _. h.0 e)) ∙ ap Some (let e : k + 1 ≡ k + 1 = refl in e)
gapless-gap (u ∷ v ∷ vs) rest k h =
    miss u v (vs ++ 58 ∷ 58 ∷ rest) k (no-gap u v h.0) ∙ gapless-gap (v ∷ vs) rest (k + 1) h.1
    ∙ ap Some (let e : k + 1 + length (v ∷ vs) ≡ k + length (u ∷ v ∷ vs) = omega arith in e)

-- no `::` stands among groups
pub no-gap-in : (groups : List ℕ) → AreGroups groups → first_place gap (between_colons groups) 0 ≡ None
no-gap-in groups h = gapless-none _ 0 (gapless-join _ (texts-plain groups h))

-- behind groups it is the first one
pub gap-behind-groups : (groups rest : List ℕ) → AreGroups groups → first_place gap (between_colons groups ++ 58 ∷ 58 ∷ rest) 0 ≡ Some (length (between_colons groups))
gap-behind-groups groups rest h =
    gapless-gap (between_colons groups) rest 0 (gapless-join _ (texts-plain groups h))
    ∙ ap Some (let e : 0 + length (between_colons groups) ≡ length (between_colons groups) = omega arith in e)

passes : (units : List ℕ) → HasNoColon units → AllByRecursion (λ u. (u == 58) ≡ false) units
passes [] h = tt
passes (u ∷ us) h = (ne_eqb u 58 h.0, passes us h.1)

split-join : (x : List ℕ) (xs : List (List ℕ)) → AllByRecursion IsPlain (x ∷ xs) → pieces (join_with_byte 58 (x ∷ xs)) ≡ x ∷ xs
split-join x [] h = slice_split_none (λ c. c == 58) x (All-from_recursion _ x (passes x h.0.0))
split-join x (y ∷ ys) h =
    slice_split_at (λ c. c == 58) x 58 (join_with_byte 58 (y ∷ ys)) (All-from_recursion _ x (passes x h.0.0)) refl
    ∙ ap (λ ps. x ∷ ps) (split-join y ys h.1)

last_in-group_text : (ending : Ending) (group : ℕ) → group < 65536 → last_in ending (group_text group) ≡ Some (group ∷ [])
last_in-group_text Group group h = one_in-group_text group h
last_in-group_text GroupOrQuad group h =
    ap (λ b. cond b (one_in (group_text group)) (two_in (group_text group))) (is_group-group_text group h) ∙ one_in-group_text group h

groups_in-texts : (ending : Ending) (group : ℕ) (groups : List ℕ) → AreGroups (group ∷ groups) → groups_in ending (group_text group ∷ map group_text groups) ≡ Some (group ∷ groups)
groups_in-texts ending group [] h = last_in-group_text ending group h.0
groups_in-texts ending group (next ∷ rest) h =
    ap (λ o. joined o (groups_in ending (group_text next ∷ map group_text rest))) (one_in-group_text group h.0)
    ∙ ap (joined (Some (group ∷ []))) (groups_in-texts ending next rest h.1)

begins-some : (units : List ℕ) → BeginsPlain units → 0 < length units
begins-some [] h = absurd h
begins-some (u ∷ us) h = omega arith

-- what is between the colons of written groups are these groups
pub side_in-between_colons : (ending : Ending) (groups : List ℕ) → AreGroups groups → side_in ending (between_colons groups) ≡ Some groups
side_in-between_colons ending [] h = refl
side_in-between_colons ending (group ∷ groups) h =
    let plain = texts-plain (group ∷ groups) h in
    let text = between_colons (group ∷ groups) in
    let some : 0 < length text = begins-some text (join-begins (group_text group) (map group_text groups) plain.0.1) in
    side-begins ending text some ∙ joined-nothing (groups_in ending (pieces text))
    ∙ ap (groups_in ending) (split-join (group_text group) (map group_text groups) plain) ∙ groups_in-texts ending group groups h
