-- A reserved word is looked for among those that begin as it does.
use Rattle.std.proofs.Common.{◌≡◌, ℕ, Bool, true, false, cond, ◌&&◌, List, [], ◌∷◌, Some, find, filter, nat_eq, slice_index, length, ◌<◌, refl, sym, ap, ◌∙◌, arith}
use Rattle.std.proofs.lemmas.Bool.{ne_eqb}
use Rattle.js_tree.specs.declared.keyword.Keyword.{Keyword}
use Rattle.js_tree.specs.declared.keyword.Keyword.TheVariants as word
use Rattle.js_grammar.specs.Words.{same, keyword_spelling, keyword_of, keywords}
use Rattle.js_lexer.specs.Keywords.{begins, keywords_from}

module _ {A : Type 0} (p q : A → Bool) where
  one : (x : A) (b c : Bool) (some all : List A) → p x ≡ b → (p x ≡ true → c ≡ true) → find p some ≡ find p all → find p (cond c (x ∷ some) some) ≡ cond (p x) (Some x) (find p all)
  one x b true some all e h f = ap (cond (p x) (Some x)) f
  one x true false some all e h f = let no : false ≡ true = h e in cc
  one x false false some all e h f = rw e f

  -- what is looked for is among those that pass a test that it passes
  find_among : ((x : A) → p x ≡ true → q x ≡ true) → (xs : List A) → find p (filter q xs) ≡ find p xs
  find_among h [] = refl
  find_among h (x ∷ xs) = one x (p x) (q x) (filter q xs) xs refl (h x) (find_among h xs)

  pub filter_none : ((x : A) → q x ≡ false) → (xs : List A) → filter q xs ≡ []
  filter_none h [] = refl
  filter_none h (x ∷ xs) = rw (h x) (filter_none h xs)

first_of_both : (b c : Bool) → (b && c) ≡ true → b ≡ true
first_of_both true c e = refl
first_of_both false c e = e

same_begins : (unit : ℕ) (units w : List ℕ) → same (unit ∷ units) w ≡ true → begins unit w ≡ true
same_begins unit units [] e = e
same_begins unit units (x ∷ xs) e = first_of_both (nat_eq unit x) (same units xs) e

among : (unit : ℕ) (units : List ℕ) → find (λ k. same (unit ∷ units) (keyword_spelling k)) (keywords_from unit) ≡ keyword_of (unit ∷ units)
unfolding keywords_from
among unit units = find_among (λ k. same (unit ∷ units) (keyword_spelling k)) (λ k. begins unit (keyword_spelling k)) (λ k e. same_begins unit units (keyword_spelling k) e) keywords

pub first_among : (units : List ℕ) (some : List Keyword) → 0 < length units → some ≡ keywords_from (slice_index units 0) → find (λ k. same units (keyword_spelling k)) some ≡ keyword_of units
first_among [] some any e = absurd (omega arith)
first_among (unit ∷ units) some any e = ap (find (λ k. same (unit ∷ units) (keyword_spelling k))) e ∙ among unit units

-- the words that begin with a letter

pub from_b : word.Break ∷ [] ≡ keywords_from 98
unfolding keywords_from
from_b = refl

pub from_c : word.Case ∷ word.Catch ∷ word.Class ∷ word.Const ∷ word.Continue ∷ [] ≡ keywords_from 99
unfolding keywords_from
from_c = refl

pub from_d : word.Debugger ∷ word.Default ∷ word.Delete ∷ word.Do ∷ [] ≡ keywords_from 100
unfolding keywords_from
from_d = refl

pub from_e : word.Else ∷ word.Enum ∷ word.Export ∷ word.Extends ∷ [] ≡ keywords_from 101
unfolding keywords_from
from_e = refl

pub from_f : word.False ∷ word.Finally ∷ word.For ∷ word.Function ∷ [] ≡ keywords_from 102
unfolding keywords_from
from_f = refl

pub from_i : word.If ∷ word.Import ∷ word.In ∷ word.InstanceOf ∷ [] ≡ keywords_from 105
unfolding keywords_from
from_i = refl

pub from_n : word.New ∷ word.Null ∷ [] ≡ keywords_from 110
unfolding keywords_from
from_n = refl

pub from_r : word.Return ∷ [] ≡ keywords_from 114
unfolding keywords_from
from_r = refl

pub from_s : word.Super ∷ word.Switch ∷ [] ≡ keywords_from 115
unfolding keywords_from
from_s = refl

pub from_t : word.This ∷ word.Throw ∷ word.True ∷ word.Try ∷ word.TypeOf ∷ [] ≡ keywords_from 116
unfolding keywords_from
from_t = refl

pub from_v : word.Var ∷ word.Void ∷ [] ≡ keywords_from 118
unfolding keywords_from
from_v = refl

pub from_w : word.While ∷ word.With ∷ [] ≡ keywords_from 119
unfolding keywords_from
from_w = refl

module _ (unit : ℕ) (b : unit ≡ 98 → ⊥) (c : unit ≡ 99 → ⊥) (d : unit ≡ 100 → ⊥) (e : unit ≡ 101 → ⊥) (f : unit ≡ 102 → ⊥) (i : unit ≡ 105 → ⊥) (n : unit ≡ 110 → ⊥) (r : unit ≡ 114 → ⊥) (s : unit ≡ 115 → ⊥) (t : unit ≡ 116 → ⊥) (v : unit ≡ 118 → ⊥) (w : unit ≡ 119 → ⊥) where
  no_word : (k : Keyword) → begins unit (keyword_spelling k) ≡ false
  no_word word.Break = ne_eqb unit 98 b
  no_word word.Case = ne_eqb unit 99 c
  no_word word.Catch = ne_eqb unit 99 c
  no_word word.Class = ne_eqb unit 99 c
  no_word word.Const = ne_eqb unit 99 c
  no_word word.Continue = ne_eqb unit 99 c
  no_word word.Debugger = ne_eqb unit 100 d
  no_word word.Default = ne_eqb unit 100 d
  no_word word.Delete = ne_eqb unit 100 d
  no_word word.Do = ne_eqb unit 100 d
  no_word word.Else = ne_eqb unit 101 e
  no_word word.Enum = ne_eqb unit 101 e
  no_word word.Export = ne_eqb unit 101 e
  no_word word.Extends = ne_eqb unit 101 e
  no_word word.False = ne_eqb unit 102 f
  no_word word.Finally = ne_eqb unit 102 f
  no_word word.For = ne_eqb unit 102 f
  no_word word.Function = ne_eqb unit 102 f
  no_word word.If = ne_eqb unit 105 i
  no_word word.Import = ne_eqb unit 105 i
  no_word word.In = ne_eqb unit 105 i
  no_word word.InstanceOf = ne_eqb unit 105 i
  no_word word.New = ne_eqb unit 110 n
  no_word word.Null = ne_eqb unit 110 n
  no_word word.Return = ne_eqb unit 114 r
  no_word word.Super = ne_eqb unit 115 s
  no_word word.Switch = ne_eqb unit 115 s
  no_word word.This = ne_eqb unit 116 t
  no_word word.Throw = ne_eqb unit 116 t
  no_word word.True = ne_eqb unit 116 t
  no_word word.Try = ne_eqb unit 116 t
  no_word word.TypeOf = ne_eqb unit 116 t
  no_word word.Var = ne_eqb unit 118 v
  no_word word.Void = ne_eqb unit 118 v
  no_word word.While = ne_eqb unit 119 w
  no_word word.With = ne_eqb unit 119 w

  -- no word begins with another unit
  pub none_from : [] ≡ keywords_from unit
  unfolding keywords_from
  none_from = sym (filter_none (λ k. true) (λ k. begins unit (keyword_spelling k)) no_word keywords)
