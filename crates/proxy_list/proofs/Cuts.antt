-- A list cut at the first unit that passes a test, and words cut off at blanks.
use Rattle.std.proofs.Common.{◌≡◌, ℕ, suc, ◌+◌, ◌-◌, ◌<◌, ◌≤◌, Bool, cond, not, List, [], ◌∷◌, length, take, drop, filter, refl, sym, ap, ◌∙◌, arith, ⊎_elim}
use Rattle.std.specs.List.{onto_first, prefix_len, slice_split}
use Rattle.std.proofs.lemmas.Bool.{cases_Bool}
use Rattle.std.proofs.lemmas.List.{take_all}
use Rattle.proxy_list.specs.Proxies.{is_blank, is_word, words_of}

-- how many units stand before the first that passes
abbrev pub before : (ℕ → Bool) → List ℕ → ℕ
before p xs = prefix_len (λ x. not (p x)) xs

one_more : (n : ℕ) → 1 + n ≡ suc n
one_more n = omega arith

-- what stands in front of that unit is the first part, and the others are those of the rest
pub record IsCut (p : ℕ → Bool) (xs : List ℕ) : Type 0 where
  pub others : List (List ℕ)
  pub front : slice_split p xs ≡ take (before p xs) xs ∷ others
  pub rest : slice_split p (drop (before p xs) xs) ≡ [] ∷ others

pub cut : (p : ℕ → Bool) (xs : List ℕ) → IsCut p xs
cut p [] = record { others = []; front = refl; rest = refl }
cut p (x ∷ xs) = ⊎_elim
    (λ yes.
    let none = ap (λ b. cond (not b) (1 + before p xs) 0) yes in
    record {
      others = slice_split p xs;
      front = ap (λ b. cond b ([] ∷ slice_split p xs) (onto_first x (slice_split p xs))) yes ∙ ap (λ n. take n (x ∷ xs) ∷ slice_split p xs) (sym none);
      rest = ap (λ n. slice_split p (drop n (x ∷ xs))) none ∙ ap (λ b. cond b ([] ∷ slice_split p xs) (onto_first x (slice_split p xs))) yes;
    })
    (λ no.
    let more = ap (λ b. cond (not b) (1 + before p xs) 0) no ∙ one_more (before p xs) in
    let behind = cut p xs in
    record {
      others = behind.others;
      front = ap (λ b. cond b ([] ∷ slice_split p xs) (onto_first x (slice_split p xs))) no ∙ ap (onto_first x) behind.front ∙ ap (λ n. take n (x ∷ xs) ∷ behind.others) (sym more);
      rest = ap (λ n. slice_split p (drop n (x ∷ xs))) more ∙ behind.rest;
    })
    (cases_Bool (p x))

-- the parts where nothing stands behind the first, and where that unit does
pub cut-last : (p : ℕ → Bool) (xs first second : List ℕ) → first ≡ take (before p xs) xs → second ≡ drop (before p xs) xs → length second < 1 → slice_split p xs ≡ first ∷ []
cut-last p xs first [] front back none =
    let c = cut p xs in
    let empty : [] ∷ [] ≡ [] ∷ c.others = ap (slice_split p) back ∙ c.rest in
    let others : c.others ≡ [] = cc in
    c.front ∙ ap (λ o. take (before p xs) xs ∷ o) others ∙ ap (λ f. f ∷ []) (sym front)
cut-last p xs first (x ∷ behind) front back none = absurd (omega (arith, none))

onto : (x : ℕ) (parts others : List (List ℕ)) → onto_first x parts ≡ [] ∷ others → ⊥
onto x [] others e = cc
onto x (part ∷ parts) others e = cc

pub cut-first : (p : ℕ → Bool) (xs first second : List ℕ) → first ≡ take (before p xs) xs → second ≡ drop (before p xs) xs → 1 ≤ length second
    → slice_split p xs ≡ first ∷ slice_split p (take (length second - 1) (drop 1 second))
cut-first p xs first [] front back some = absurd (omega (arith, some))
cut-first p xs first (x ∷ behind) front back some =
    let c = cut p xs in
    let parts : cond (p x) ([] ∷ slice_split p behind) (onto_first x (slice_split p behind)) ≡ [] ∷ c.others = ap (slice_split p) back ∙ c.rest in
    let all : take (suc (length behind) - 1) behind ≡ behind = take_all (suc (length behind) - 1) behind (omega arith) in
    ⊎_elim
    (λ yes.
    let same : [] ∷ slice_split p behind ≡ [] ∷ c.others = sym (ap (λ b. cond b ([] ∷ slice_split p behind) (onto_first x (slice_split p behind))) yes) ∙ parts in
    let others : c.others ≡ slice_split p behind = cc in
    c.front ∙ ap (λ o. take (before p xs) xs ∷ o) others ∙ ap (λ f. f ∷ slice_split p behind) (sym front) ∙ ap (λ l. first ∷ slice_split p l) (sym all))
    (λ no. absurd (onto x (slice_split p behind) c.others (sym (ap (λ b. cond b ([] ∷ slice_split p behind) (onto_first x (slice_split p behind))) no) ∙ parts)))
    (cases_Bool (p x))

-- blanks in front are passed
words-none : (units : List ℕ) → drop (prefix_len is_blank units) units ≡ [] → words_of units ≡ []
words-none [] none = refl
words-none (u ∷ us) none = ⊎_elim
    (λ yes.
    let more = ap (λ b. cond b (1 + prefix_len is_blank us) 0) yes ∙ one_more (prefix_len is_blank us) in
    ap (λ b. filter is_word (cond b ([] ∷ slice_split is_blank us) (onto_first u (slice_split is_blank us)))) yes
    ∙ words-none us (sym (ap (λ n. drop n (u ∷ us)) more) ∙ none))
    (λ no. absurd (let all : u ∷ us ≡ [] = sym (ap (λ n. drop n (u ∷ us)) (ap (λ b. cond b (1 + prefix_len is_blank us) 0) no)) ∙ none in cc))
    (cases_Bool (is_blank u))

words-first : (units : List ℕ) (x : ℕ) (xs : List ℕ) → drop (prefix_len is_blank units) units ≡ x ∷ xs
    → words_of units ≡ take (before is_blank (x ∷ xs)) (x ∷ xs) ∷ words_of (drop (before is_blank (x ∷ xs)) (x ∷ xs))
words-first [] x xs is = absurd (cc)
words-first (u ∷ us) x xs is = ⊎_elim
    (λ yes.
    let more = ap (λ b. cond b (1 + prefix_len is_blank us) 0) yes ∙ one_more (prefix_len is_blank us) in
    ap (λ b. filter is_word (cond b ([] ∷ slice_split is_blank us) (onto_first u (slice_split is_blank us)))) yes
    ∙ words-first us x xs (sym (ap (λ n. drop n (u ∷ us)) more) ∙ is))
    (λ no.
    let all : u ∷ us ≡ x ∷ xs = sym (ap (λ n. drop n (u ∷ us)) (ap (λ b. cond b (1 + prefix_len is_blank us) 0) no)) ∙ is in
    let c = cut is_blank (u ∷ us) in
    let more = ap (λ b. cond (not b) (1 + before is_blank us) 0) no ∙ one_more (before is_blank us) in
    ap (filter is_word) (c.front ∙ ap (λ n. take n (u ∷ us) ∷ c.others) more)
    ∙ ap (λ n. take n (u ∷ us) ∷ filter is_word c.others) (sym more)
    ∙ ap (λ ws. take (before is_blank (u ∷ us)) (u ∷ us) ∷ ws) (sym (ap (filter is_word) c.rest))
    ∙ ap (λ l. take (before is_blank l) l ∷ words_of (drop (before is_blank l) l)) all)
    (cases_Bool (is_blank u))

-- no word, and the first word, as the code cuts it off
pub no_word : (units word : List ℕ) → word ≡ drop (prefix_len is_blank units) units → length word < 1 → words_of units ≡ []
no_word units [] back none = words-none units (sym back)
no_word units (x ∷ xs) back none = absurd (omega (arith, none))

pub first_word : (units word front rest : List ℕ) (n : ℕ) → word ≡ drop (prefix_len is_blank units) units → 1 ≤ length word → n ≡ before is_blank word → front ≡ take n word → rest ≡ drop n word
    → words_of units ≡ front ∷ words_of rest
first_word units [] front rest n back some cut_at before_it behind_it = absurd (omega (arith, some))
first_word units (x ∷ xs) front rest n back some cut_at before_it behind_it =
    words-first units x xs (sym back)
    ∙ ap (λ k. take k (x ∷ xs) ∷ words_of (drop k (x ∷ xs))) (sym cut_at)
    ∙ rw (before_it, behind_it) refl
