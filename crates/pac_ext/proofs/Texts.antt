-- The digits of a group, and groups between colons, one after the other.
use Rattle.std.proofs.Common.{◌≡◌, ℕ, ◌+◌, ◌-◌, ◌<◌, ◌≤◌, false, cond, ◌==◌, List, [], ◌∷◌, ◌++◌, length, get_or, take, drop, refl, sym, ◌∙◌, ap, arith, append_assoc, append-nil}
use Rattle.std.specs.Char.{digit_char}
use Rattle.std.proofs.lemmas.Bool.Decides.{nat_tests}
use Rattle.std.proofs.lemmas.Bool.{lt-leb, le-leb}
use Rattle.std.proofs.lemmas.List.{take_all, drop-drop}
use Rattle.pac_ext.specs.declared.row.Row.{Row}
use Rattle.pac_ext.specs.Groups.{groups_of}
use Rattle.pac_ext.specs.Rows.{longest_row}
use Rattle.pac_ext.specs.Writing.{without_leading_zeros, group_text, between_colons, behind_colons, shortened, groups_text, ipv6_text}

-- a digit of 1 to 15 is not written `0`
pub nonzero : (digit : ℕ) → 0 < digit → digit < 16 → (digit_char digit == 48) ≡ false
nonzero digit h k = grind (arith, nat_tests)

-- without the zeros at the front
pub four : (a b c d : ℕ) → 0 < a → a < 16 → without_leading_zeros (digit_char a ∷ digit_char b ∷ digit_char c ∷ digit_char d ∷ []) ≡ digit_char a ∷ digit_char b ∷ digit_char c ∷ digit_char d ∷ []
four a b c d h k = rw (nonzero a h k) refl

pub three : (a b c d : ℕ) → a ≡ 0 → 0 < b → b < 16 → without_leading_zeros (digit_char a ∷ digit_char b ∷ digit_char c ∷ digit_char d ∷ []) ≡ digit_char b ∷ digit_char c ∷ digit_char d ∷ []
three a b c d e h k = rw (e, nonzero b h k) refl

pub two : (a b c d : ℕ) → a ≡ 0 → b ≡ 0 → 0 < c → c < 16 → without_leading_zeros (digit_char a ∷ digit_char b ∷ digit_char c ∷ digit_char d ∷ []) ≡ digit_char c ∷ digit_char d ∷ []
two a b c d e f h k = rw (e, f, nonzero c h k) refl

pub one : (a b c d : ℕ) → a ≡ 0 → b ≡ 0 → c ≡ 0 → without_leading_zeros (digit_char a ∷ digit_char b ∷ digit_char c ∷ digit_char d ∷ []) ≡ digit_char d ∷ []
one a b c d e f g = rw (e, f, g) refl

-- behind the first group each has its colon
behind-first : (first : ℕ) (others : List ℕ) → between_colons (first ∷ others) ≡ group_text first ++ behind_colons others
behind-first first [] = sym (append-nil (group_text first))
behind-first first (next ∷ rest) = ap (λ text. group_text first ++ (58 ∷ text)) (behind-first next rest)

-- the first group and those behind it, as a pattern parts them, appended one after the other
pub groups-behind : (text groups begun whole : List ℕ) → 0 < length groups → begun ≡ text ++ group_text (get_or groups 0 0)
    → whole ≡ begun ++ behind_colons (take (length groups - 1) (drop 1 groups)) → whole ≡ text ++ between_colons groups
groups-behind text [] begun whole h e f = absurd (omega arith)
groups-behind text (first ∷ others) begun whole h e f =
    let all : take (length (first ∷ others) - 1) others ≡ others = take_all (length (first ∷ others) - 1) others (omega arith) in
    f ∙ ap (λ gs. begun ++ behind_colons gs) all ∙ ap (λ xs. xs ++ behind_colons others) e
    ∙ append_assoc text (group_text first) (behind_colons others) ∙ ap (λ xs. text ++ xs) (sym (behind-first first others))

-- what the calls for a shortened text append, one after the other
pub shortened-parts : (text groups head rest tail : List ℕ) (row : Row) → head ≡ take row.start groups → rest ≡ drop row.start groups → tail ≡ drop row.length rest
    → (((text ++ between_colons head) ++ (58 ∷ [])) ++ (58 ∷ [])) ++ between_colons tail ≡ text ++ shortened groups row
shortened-parts text groups head rest tail row e f g =
    let back : tail ≡ drop (row.start + row.length) groups = g ∙ ap (drop row.length) f ∙ drop-drop row.length row.start groups in
    ap (λ gs. (((text ++ between_colons gs) ++ (58 ∷ [])) ++ (58 ∷ [])) ++ between_colons tail) e
    ∙ ap (λ gs. (((text ++ between_colons (take row.start groups)) ++ (58 ∷ [])) ++ (58 ∷ [])) ++ between_colons gs) back
    ∙ simp append_assoc

module _ (address : ℕ) (groups : List ℕ) (row : Row) (text : List ℕ) (e : groups ≡ groups_of address) (f : row ≡ longest_row groups) where
  same : groups_text groups row ≡ ipv6_text address
  same = ap (groups_text groups) f ∙ ap (λ gs. groups_text gs (longest_row gs)) e

  pub text-full : (start : List ℕ) → row.length < 2 → start ≡ [] → text ≡ start ++ between_colons groups → text ≡ ipv6_text address
  text-full start few none is =
      is ∙ ap (λ xs. xs ++ between_colons groups) none
      ∙ sym (ap (λ b. cond b (shortened groups row) (between_colons groups)) (lt-leb 2 row.length few)) ∙ same

  pub text-short : (start : List ℕ) → 2 ≤ row.length → start ≡ [] → text ≡ start ++ shortened groups row → text ≡ ipv6_text address
  text-short start some none is =
      is ∙ ap (λ xs. xs ++ shortened groups row) none
      ∙ sym (ap (λ b. cond b (shortened groups row) (between_colons groups)) (le-leb 2 row.length some)) ∙ same
