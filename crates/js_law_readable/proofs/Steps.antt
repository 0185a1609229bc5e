-- Steps of reading: what holds of a reader's answer, from what holds of the answers that it is made of.
use Rattle.std.proofs.Common.{◌≡◌, ℕ, zero, suc, ◌≤◌, List, [], ◌∷◌, length, Option, Some, None, Ok, Err, Bool, true, false, refl, sym, ap, ◌∙◌, arith}
use Rattle.std.specs.Prelude.{Result, nat_eq, if◌then◌else◌}
use Rattle.std.proofs.lemmas.Bool.Decides.{nat_tests}
use Rattle.js_tree.specs.declared.token.Token.{Token}
use Rattle.js_tree.specs.declared.sign.Sign.{Sign}
use Rattle.js_tree.specs.declared.sign.Sign.TheVariants as sign
use Rattle.js_tree.specs.declared.operators.BinaryOp.{BinaryOp}
use Rattle.js_grammar.specs.declared.turn.Turn.{Turn}
use Rattle.js_grammar.specs.declared.turn.Turn.TheVariants.{More, Last, End}
use Rattle.js_grammar.specs.Reading.{Refusal, ◌>>=◌}
use Rattle.js_grammar.specs.Readers.{Reader, row_of, row, turned, rest_of, parted}
use Rattle.js_grammar.specs.Operators.{at_level, level_of}

-- ---- answers

-- what holds of the answer, where there is one
abbrev pub Where : {A : Type 0} → (A → Type 0) → Result A Refusal → Type 0
Where P (Ok x) = P x
Where P (Err e) = Unit {0}

pub step : {A B : Type 0} {P : A → Type 0} (Q : B → Type 0) (m : Result A Refusal) (f : A → Result B Refusal) → Where P m → ((x : A) → P x → Where Q (f x)) → Where Q (m >>= f)
step Q (Ok x) f h k = k x h
step Q (Err e) f h k = tt

pub chosen : {A : Type 0} (P : A → Type 0) (b : Bool) (x y : Result A Refusal) → (b ≡ true → Where P x) → (b ≡ false → Where P y) → Where P (if b then x else y)
chosen P true x y h k = h refl
chosen P false x y h k = k refl

pub weaker : {A : Type 0} (P Q : A → Type 0) (m : Result A Refusal) → ((x : A) → P x → Q x) → Where P m → Where Q m
weaker P Q (Ok x) f h = f x h
weaker P Q (Err e) f h = tt

-- what holds of a part, where it is there
abbrev pub OfOption : {A : Type 0} → (A → Type 0) → Option A → Type 0
OfOption P None = Unit {0}
OfOption P (Some x) = P x

-- at most n tokens are left
abbrev pub Short : ℕ → List Token → Type 0
Short n ts = length ts ≤ n

abbrev pub Gives : {A : Type 0} → (A → Type 0) → ℕ → A × List Token → Type 0
Gives P n y = P y.0 × (length y.1 ≤ n)

-- what the reader gives, and that it leaves no more tokens than it was given
abbrev pub Reads : {A : Type 0} → (A → Type 0) → Reader A → Type 0
Reads P reader = (n : ℕ) (ts : List Token) → length ts ≤ n → Where (Gives P n) (reader ts)

rest_shorter : (ts : List Token) → length (rest_of ts) ≤ length ts
rest_shorter [] = omega arith
rest_shorter (t ∷ ts) = omega arith

pub rest_short : (n : ℕ) (ts : List Token) → length ts ≤ n → length (rest_of ts) ≤ n
rest_short n ts h = omega (arith, rest_shorter ts, h)

-- ---- rows

-- each item of a list
abbrev pub Every : {A : Type 0} → (A → Type 0) → List A → Type 0
Every P [] = Unit {0}
Every P (x ∷ xs) = P x × Every P xs

-- what a turn gives
abbrev pub OfTurn : {A : Type 0} → (A → Type 0) → Turn A → Type 0
OfTurn P (More x) = P x
OfTurn P (Last x) = P x
OfTurn P End = Unit {0}

abbrev pub has_item : {A : Type 0} → List A → Bool
has_item [] = false
has_item (x ∷ xs) = true

-- a turn that gives a part
abbrev pub OfPart : {A : Type 0} → (A → Type 0) → Turn A → Type 0
OfPart P (More x) = P x
OfPart P (Last x) = P x
OfPart P End = ⊥

abbrev pub AreSome : {A : Type 0} → (A → Type 0) → List A → Type 0
AreSome P xs = (has_item xs ≡ true) × Every P xs

turned_reads : {A : Type 0} (P : A → Type 0) (n : ℕ) (t : Turn A) (ts : List Token) (others : Result (List A × List Token) Refusal) → OfTurn P t → length ts ≤ n → Where (Gives (Every P) n) others → Where (Gives (Every P) n) (turned t ts others)
turned_reads P n (More x) ts others is h k = step _ others _ k (λ y l. ((is, l.0), l.1))
turned_reads P n (Last x) ts others is h k = ((is, tt), h)
turned_reads P n End ts others is h k = (tt, h)

row_of_reads : {A : Type 0} (P : A → Type 0) (turn : Reader (Turn A)) → Reads (OfTurn P) turn → (room : ℕ) → Reads (Every P) (row_of turn room)
unfolding row_of
row_of_reads P turn each zero n ts h = (tt, h)
row_of_reads P turn each (suc room) n ts h = step _ (turn ts) _ (each n ts h) (λ one k. turned_reads P n one.0 one.1 (row_of turn room one.1) k.0 k.1 (row_of_reads P turn each room n one.1 k.1))

pub row_reads : {A : Type 0} (P : A → Type 0) (turn : Reader (Turn A)) → Reads (OfTurn P) turn → Reads (Every P) (row turn)
row_reads P turn each n ts h = row_of_reads P turn each (suc (length ts)) n ts h

part_turn : {A : Type 0} (P : A → Type 0) (t : Turn A) → OfPart P t → OfTurn P t
part_turn P (More x) is = is
part_turn P (Last x) is = is
part_turn P End is = tt

turned_some : {A : Type 0} (P : A → Type 0) (n : ℕ) (t : Turn A) (ts : List Token) (others : Result (List A × List Token) Refusal) → OfPart P t → length ts ≤ n → Where (Gives (Every P) n) others → Where (Gives (AreSome P) n) (turned t ts others)
turned_some P n (More x) ts others is h k = step _ others _ k (λ y l. ((refl, (is, l.0)), l.1))
turned_some P n (Last x) ts others is h k = ((refl, (is, tt)), h)
turned_some P n End ts others is h k = absurd is

-- a row of turns that give parts isn't empty
pub some_read : {A : Type 0} (P : A → Type 0) (turn : Reader (Turn A)) → Reads (OfPart P) turn → Reads (AreSome P) (row turn)
unfolding row_of
some_read P turn each n ts h =
    let turns : Reads (OfTurn P) turn = λ m us l. weaker (Gives (OfPart P) m) (Gives (OfTurn P) m) (turn us) (λ x is. (part_turn P x.0 is.0, is.1)) (each m us l) in
    step _ (turn ts) _ (each n ts h) (λ one k. turned_some P n one.0 one.1 (row_of turn (length ts) one.1) k.0 k.1 (row_of_reads P turn turns (length ts) n one.1 k.1))

pub parted_reads : {A : Type 0} (P : A → Type 0) (s : Option Sign) (x : A) → P x → Reads (OfPart P) (parted s x)
parted_reads P (Some sign.Comma) x is n ts h = (is, rest_short n ts h)
parted_reads P _ x is n ts h = (is, h)

-- ---- levels

pub level_is : (k : ℕ) (o : Option BinaryOp) (op : BinaryOp) → at_level k o ≡ Some op → level_of op ≡ k
level_is k None op h = cc
level_is k (Some x) op h = by_test (nat_eq (level_of x) k) refl h
  where
    by_test : (b : Bool) → nat_eq (level_of x) k ≡ b → (if b then Some x else None) ≡ Some op → level_of op ≡ k
    by_test true e h =
        let same : x ≡ op = cc in
        let is : level_of x ≡ k = grind (arith, nat_tests) in
        ap level_of (sym same) ∙ is
    by_test false e h = cc
