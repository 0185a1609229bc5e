-- Two runs of a reader over the same tokens. The other run finds each token at another place, and may have more room
-- for nesting. What both give is alike.
use Rattle.std.proofs.Common.{◌≡◌, ◌≤◌, ◌<◌, ◌+◌, ◌*◌, arith, ℕ, zero, suc, List, [], ◌∷◌, length, Ok, Err, Bool, true, false, refl}
use Rattle.std.specs.Prelude.{map, Result, if◌then◌else◌}
use Rattle.std.proofs.lemmas.List.{length-map}
use Rattle.js_tree.specs.declared.place.Place.{Place}
use Rattle.js_tree.specs.declared.token.Token.{Token}
use Rattle.js_tree.specs.declared.refusal.ReadKind.{ReadKind}
use Rattle.js_tree.specs.declared.refusal.ReadKind.TheVariants.{TooDeep}
use Rattle.js_grammar.specs.declared.turn.Turn.{Turn}
use Rattle.js_grammar.specs.declared.turn.Turn.TheVariants.{More, Last, End}
use Rattle.js_grammar.specs.Reading.{Refusal, ◌>>=◌}
use Rattle.js_grammar.specs.Readers.{Reader, row_of, row, turned, rest_of}

-- what holds of a value that is read: the tokens from its first on, the value, and the tokens behind it
abbrev pub Rel : Type 0 → Type 1
Rel A = List Token → A → List Token → Type 0

abbrev pub stays : {A : Type 0} → A → A
stays x = x

-- the other run: where it finds what the first finds at a place, and whether it may have more room
pub record Other : Type 1 where
  pub at : Place → Place
  pub roomy : Type 0

-- it finds each token where the first does
abbrev pub beside : Type 0 → Other
beside roomy = record { at = stays; roomy = roomy }

abbrev pub moved_token : (Place → Place) → Token → Token
moved_token at t = record { kind = t.kind; place = at t.place; after_line = t.after_line }

abbrev pub moved : (Place → Place) → List Token → List Token
moved at ts = map (moved_token at) ts

abbrev pub moved_turn : {A : Type 0} → (A → A) → Turn A → Turn A
moved_turn f (More x) = More (f x)
moved_turn f (Last x) = Last (f x)
moved_turn f End = End

abbrev pub Read : Type 0 → Type 0
Read A = Result (A × List Token) Refusal

abbrev pub is_depth : ReadKind → Bool
is_depth TooDeep = true
is_depth kind = false

-- What both give where n tokens come next. The first gives x and the other f x, with no more tokens left; or both
-- refuse at the same token; or the first lacks room, which it never does where s is more than 2 * n + 1.
pub data Alike {A : Type 0} (o : Other) (f : A → A) (s n : ℕ) (P : A → List Token → Type 0) : Read A → Read A → Type 0 where
  gave : (x : A) (rest : List Token) → length rest ≤ n → P x rest → Alike o f s n P (Ok (x, rest)) (Ok (f x, moved o.at rest))
  stops : (kind : ReadKind) (place : Place) → is_depth kind ≡ false → Alike o f s n P (Err (kind, place)) (Err (kind, o.at place))
  too_deep : s ≤ 2 * n + 1 → (place : Place) → Alike o f s n P (Err (TooDeep, place)) (Err (TooDeep, o.at place))
  deeper_than : o.roomy → s ≤ 2 * n + 1 → (place : Place) (other : Read A) → Alike o f s n P (Err (TooDeep, place)) other

-- the same of steps that give no value
pub data Skips (at : Place → Place) (n : ℕ) (P : List Token → Type 0) : Result (List Token) Refusal → Result (List Token) Refusal → Type 0 where
  skips : (rest : List Token) → length rest ≤ n → P rest → Skips at n P (Ok rest) (Ok (moved at rest))
  no_skip : (kind : ReadKind) (place : Place) → is_depth kind ≡ false → Skips at n P (Err (kind, place)) (Err (kind, at place))

-- ---- rows

-- what holds of each turn of a row: of a part behind which more may come, of the last part, and of the row's end
pub record Row (A : Type 0) : Type 1 where
  pub more : Rel A
  pub last : Rel A
  pub ended : List Token → List Token → Type 0

pub data Turned {A : Type 0} (r : Row A) : List Token → Turn A → List Token → Type 0 where
  turn_more : {a : List Token} {x : A} {b : List Token} → r.more a x b → Turned r a (More x) b
  turn_last : {a : List Token} {x : A} {b : List Token} → r.last a x b → Turned r a (Last x) b
  turn_end : {a b : List Token} → r.ended a b → Turned r a End b

-- n: at most so many turns
pub data Turns {A : Type 0} (r : Row A) : ℕ → List Token → List A → List Token → Type 0 where
  no_turn : {a : List Token} → Turns r zero a [] a
  more_turns : {n : ℕ} {a : List Token} {x : A} {b : List Token} {xs : List A} {c : List Token} → r.more a x b → Turns r n b xs c → Turns r (suc n) a (x ∷ xs) c
  last_turn : {n : ℕ} {a : List Token} {x : A} {b : List Token} → r.last a x b → Turns r (suc n) a (x ∷ []) b
  end_turn : {n : ℕ} {a b : List Token} → r.ended a b → Turns r (suc n) a [] b

abbrev pub RowOf : {A : Type 0} → Row A → Rel (List A)
RowOf r a xs b = Turns r (suc (length a)) a xs b

-- ---- other counts of tokens, and other bounds of room

pub shift : {A : Type 0} {o : Other} {f : A → A} {s t m n : ℕ} {P : A → List Token → Type 0} {x y : Read A}
    → t + 2 * m ≤ s + 2 * n → m ≤ n → Alike o f s m P x y → Alike o f t n P x y
shift fits less (gave x rest few is) = gave x rest (omega (arith, less, few)) is
shift fits less (stops kind place e) = stops kind place e
shift fits less (too_deep lacks place) = too_deep (omega (arith, fits, lacks)) place
shift fits less (deeper_than roomy lacks place other) = deeper_than roomy (omega (arith, fits, lacks)) place other

pub later : {A : Type 0} {o : Other} {f : A → A} {s m n : ℕ} {P : A → List Token → Type 0} {x y : Read A} → m ≤ n → Alike o f s m P x y → Alike o f s n P x y
later less h = shift (omega (arith, less)) less h

-- behind a token that was taken
pub past : {A : Type 0} {o : Other} {f : A → A} {s m n : ℕ} {P : A → List Token → Type 0} {x y : Read A} → m < n → Alike o f s m P x y → Alike o f (suc (suc s)) n P x y
past less h = shift (omega (arith, less)) (omega (arith, less)) h

pub wait : {A : Type 0} {o : Other} {f : A → A} {s n : ℕ} {P : A → List Token → Type 0} {x y : Read A} → Alike o f (suc s) n P x y → Alike o f s n P x y
wait h = shift (omega arith) (omega arith) h

pub rest_shorter : (ts : List Token) → length (rest_of ts) ≤ length ts
rest_shorter [] = omega arith
rest_shorter (t ∷ ts) = omega arith

-- behind the token that comes next, if there is one
pub skip : {A : Type 0} {o : Other} {f : A → A} {s : ℕ} {P : A → List Token → Type 0} (ts : List Token) {x y : Read A} → Alike o f s (length (rest_of ts)) P x y
    → Alike o f s (length ts) P x y
skip ts h = later (rest_shorter ts) h

-- ---- steps

pub both : {A : Type 0} {o : Other} {f : A → A} {s : ℕ} {P : A → List Token → Type 0} {x y : A} (rest : List Token) → y ≡ f x → P x rest
    → Alike o f s (length rest) P (Ok (x, rest)) (Ok (y, moved o.at rest))
both {x = x} rest same is = rw same (gave x rest (omega arith) is)

pub and_then : {A B : Type 0} {o : Other} {f : A → A} {g : B → B} {s n : ℕ} {P : A → List Token → Type 0} {Q : B → List Token → Type 0} {x y : Read A} (j k : A × List Token → Read B)
    → Alike o f s n P x y → ((v : A) (rest : List Token) → P v rest → Alike o g s (length rest) Q (j (v, rest)) (k (f v, moved o.at rest)))
    → Alike o g s n Q (x >>= j) (y >>= k)
and_then j k (gave v rest less is) h = later less (h v rest is)
and_then j k (stops kind place e) h = stops kind place e
and_then j k (too_deep lacks place) h = too_deep lacks place
and_then j k (deeper_than roomy lacks place other) h = deeper_than roomy lacks place _

pub skipped : {B : Type 0} {o : Other} {g : B → B} {s n : ℕ} {P : List Token → Type 0} {Q : B → List Token → Type 0} {x y : Result (List Token) Refusal} (j k : List Token → Read B)
    → Skips o.at n P x y → ((rest : List Token) → length rest ≤ n → P rest → Alike o g s n Q (j rest) (k (moved o.at rest)))
    → Alike o g s n Q (x >>= j) (y >>= k)
skipped j k (skips rest less is) h = h rest less is
skipped j k (no_skip kind place e) h = stops kind place e

pub behind : {B : Type 0} {o : Other} {g : B → B} {s n : ℕ} {P : List Token → Type 0} {Q : B → List Token → Type 0} {x y : Result (List Token) Refusal} (j k : List Token → Read B)
    → Skips o.at n P x y → ((rest : List Token) → P rest → Alike o g s (length rest) Q (j rest) (k (moved o.at rest)))
    → Alike o g s n Q (x >>= j) (y >>= k)
behind j k step h = skipped j k step (λ rest less is. later less (h rest is))

pub by_test : {A : Type 0} {o : Other} {f : A → A} {s n : ℕ} {P : A → List Token → Type 0} (b : Bool) {v w x y : Read A} → (b ≡ true → Alike o f s n P v w)
    → Alike o f s n P x y → Alike o f s n P (if b then v else x) (if b then w else y)
by_test true h k = h refl
by_test false h k = k

-- a weaker relation holds too
pub so : {A : Type 0} {o : Other} {f : A → A} {s n : ℕ} {P Q : A → List Token → Type 0} {x y : Read A} → Alike o f s n P x y
    → ((v : A) (rest : List Token) → P v rest → Q v rest) → Alike o f s n Q x y
so (gave v rest less is) h = gave v rest less (h v rest is)
so (stops kind place e) h = stops kind place e
so (too_deep lacks place) h = too_deep lacks place
so (deeper_than roomy lacks place other) h = deeper_than roomy lacks place other

-- ---- readers

abbrev pub Keep : {A : Type 0} (o : Other) → (A → A) → ℕ → Rel A → Reader A → Reader A → Type 0
Keep o f s P r t = (ts : List Token) → Alike o f s (length ts) (P ts) (r ts) (t (moved o.at ts))

-- the same of readers that choose by what comes next, as `next` says
abbrev pub KeepBy : {A B : Type 0} (o : Other) → (A → A) → ℕ → Rel A → (List Token → B) → (B → Reader A) → (B → Reader A) → Type 0
KeepBy {B = B} o f s P next r t = (v : B) (ts : List Token) → next ts ≡ v → Alike o f s (length ts) (P ts) (r v ts) (t v (moved o.at ts))

turned_keeps : {A : Type 0} {o : Other} {s : ℕ} (f : A → A) (w : Row A) (n : ℕ) (a : List Token) (t : Turn A) (b : List Token) {x y : Read (List A)}
    → Turned w a t b → Alike o (map f) s (length b) (Turns w n b) x y
    → Alike o (map f) s (length b) (Turns w (suc n) a) (turned t b x) (turned (moved_turn f t) (moved o.at b) y)
turned_keeps f w n a t b (turn_more is) h = and_then _ _ h (λ xs c are. both c refl (more_turns is are))
turned_keeps f w n a t b (turn_last is) h = both b refl (last_turn is)
turned_keeps f w n a t b (turn_end is) h = both b refl (end_turn is)

row_of_keeps : {A : Type 0} {o : Other} {s : ℕ} (f : A → A) (w : Row A) (r t : Reader (Turn A)) → Keep o (moved_turn f) s (Turned w) r t → (n : ℕ)
    → Keep o (map f) s (Turns w n) (row_of r n) (row_of t n)
unfolding row_of
row_of_keeps f w r t each zero ts = both ts refl no_turn
row_of_keeps f w r t each (suc n) ts = and_then _ _ (each ts) (λ x b is. turned_keeps f w n ts x b is (row_of_keeps f w r t each n b))

pub row_keeps : {A : Type 0} {o : Other} {s : ℕ} (f : A → A) (w : Row A) (r t : Reader (Turn A)) → Keep o (moved_turn f) s (Turned w) r t
    → Keep o (map f) s (RowOf w) (row r) (row t)
row_keeps {o = o} f w r t each ts = rw (length-map ts (moved_token o.at)) (row_of_keeps f w r t each (suc (length ts)) ts)
