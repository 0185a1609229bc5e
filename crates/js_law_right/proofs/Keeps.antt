-- What holds of each tree that is resolved and of the functions that it places, in a table with the settings of these.
use Rattle.std.proofs.Common.{◌≡◌, ℕ, zero, suc, ◌+◌, ◌≤◌, ◌<◌, List, [], ◌∷◌, ◌++◌, length, Bool, true, false, ltb, Option, Some, None, refl, sym, ◌∙◌, ap, subst, arith, length-append, append_assoc}
use Rattle.std.proofs.lemmas.Bool.{ltb-true, ltb-false}
use Rattle.std.specs.Prelude.{slice_get, slice_set}
use Rattle.js_tree.specs.Tree.{FunctionTree, Statements}
use Rattle.js_binding.specs.Resolved.{Placing, pure, ◌>>=◌, hollow, placed, numbered}
use Rattle.js_binding.proofs.Grows.{Grows, grows_pure, grows_then, grows_placed, grows_numbered, numbered_place, get_set_here, get_set_other, length_set}
use Rattle.js_law_right.specs.Right.{Setting, setting_at, FunctionRight, own_in}

-- the table has these settings from a number on
abbrev pub Has : (ℕ → Setting) → ℕ → List Setting → Type 0
Has setting from [] = Unit {0}
Has setting from (s ∷ ss) = (setting from ≡ s) × Has setting (suc from) ss

has_both : (setting : ℕ → Setting) (from : ℕ) (ss ts : List Setting) → Has setting from (ss ++ ts)
    → Has setting from ss × Has setting (from + length ss) ts
has_both setting from [] ts h = (tt, subst (λ n. Has setting n ts) (omega arith) h)
has_both setting from (s ∷ ss) ts h =
    let rest = has_both setting (suc from) ss ts h.1 in
    ((h.0, rest.0), subst (λ n. Has setting n ts) (omega arith) rest.1)

-- the function of a number has its own name and stands among its scopes
pub record Good (setting : ℕ → Setting) (n : ℕ) (o : Option FunctionTree) : Type 0 where
  pub owns : own_in o ≡ (setting n).own
  pub right : (f : FunctionTree) → o ≡ Some f → FunctionRight setting (setting n).around f

good_at : (setting : ℕ → Setting) (n : ℕ) (f : FunctionTree) (s : Setting) → setting n ≡ s → own_in (Some f) ≡ s.own
    → FunctionRight setting s.around f → Good setting n (Some f)
good_at setting n f s e own h = record {
  owns = own ∙ ap (λ (z : Setting). z.own) (sym e);
  right = λ g at.
      let same : f ≡ g = cc in
      subst (FunctionRight setting (setting n).around) same (subst (λ (z : Setting). FunctionRight setting z.around f) (sym e) h);
}

-- R holds of what m makes, and the functions that m places are good, in each table that has their settings
pub record Keeps {T : Type 0} (R : (ℕ → Setting) → T → Type 0) (m : Placing T) : Type 0 where
  pub grows : Grows m
  pub settings : List FunctionTree → List Setting
  pub longer : (fs : List FunctionTree) → length (m fs).1 ≡ length fs + length (settings fs)
  pub made : (fs : List FunctionTree) (setting : ℕ → Setting) → Has setting (length fs) (settings fs) → R setting (m fs).0
  pub each : (fs : List FunctionTree) (setting : ℕ → Setting) → Has setting (length fs) (settings fs)
      → (n : ℕ) → length fs ≤ n → n < length (m fs).1 → Good setting n (slice_get (m fs).1 n)

pub keeps_pure : {T : Type 0} {R : (ℕ → Setting) → T → Type 0} (x : T) → ((setting : ℕ → Setting) → R setting x) → Keeps R (pure x)
keeps_pure x h = record {
  grows = grows_pure x;
  settings = λ fs. [];
  longer = λ fs. omega arith;
  made = λ fs setting has. h setting;
  each = λ fs setting has n past below. absurd (omega (arith, past, below));
}

pub keeps_then : {A B : Type 0} {Q : (ℕ → Setting) → A → Type 0} {R : (ℕ → Setting) → B → Type 0} {m : Placing A} {f : A → Placing B}
    → Keeps Q m → ((a : A) → Keeps (λ setting b. Q setting a → R setting b) (f a)) → Keeps R (m >>= f)
keeps_then {Q = Q} {R = R} {m = m} {f = f} h k = record {
  grows = grows_then m f h.grows (λ a. (k a).grows);
  settings = λ fs. h.settings fs ++ (k (m fs).0).settings (m fs).1;
  longer = λ fs. omega (arith, h.longer fs, (k (m fs).0).longer (m fs).1, length-append (h.settings fs) ((k (m fs).0).settings (m fs).1));
  made = λ fs setting has. (k (m fs).0).made (m fs).1 setting (later fs setting has) (h.made fs setting (first fs setting has));
  each = λ fs setting has n past below. by_place fs setting has n (ltb n (length (m fs).1)) refl past below;
}
  where
    first : (fs : List FunctionTree) (setting : ℕ → Setting) → Has setting (length fs) (h.settings fs ++ (k (m fs).0).settings (m fs).1)
        → Has setting (length fs) (h.settings fs)
    first fs setting has = (has_both setting (length fs) (h.settings fs) ((k (m fs).0).settings (m fs).1) has).0

    later : (fs : List FunctionTree) (setting : ℕ → Setting) → Has setting (length fs) (h.settings fs ++ (k (m fs).0).settings (m fs).1)
        → Has setting (length (m fs).1) ((k (m fs).0).settings (m fs).1)
    later fs setting has =
        subst (λ n. Has setting n ((k (m fs).0).settings (m fs).1)) (sym (h.longer fs))
        (has_both setting (length fs) (h.settings fs) ((k (m fs).0).settings (m fs).1) has).1

    by_place : (fs : List FunctionTree) (setting : ℕ → Setting) → Has setting (length fs) (h.settings fs ++ (k (m fs).0).settings (m fs).1)
        → (n : ℕ) (t : Bool) → ltb n (length (m fs).1) ≡ t → length fs ≤ n → n < length (f (m fs).0 (m fs).1).1
        → Good setting n (slice_get (f (m fs).0 (m fs).1).1 n)
    by_place fs setting has n true e past below =
        subst (Good setting n) (sym (((k (m fs).0).grows.grows (m fs).1).kept n (ltb-true _ _ e)))
        (h.each fs setting (first fs setting has) n past (ltb-true _ _ e))
    by_place fs setting has n false e past below = (k (m fs).0).each (m fs).1 setting (later fs setting has) n (ltb-false _ _ e) below

get_behind : (fs : List FunctionTree) (f : FunctionTree) → slice_get (fs ++ f ∷ []) (length fs) ≡ Some f
get_behind [] f = refl
get_behind (g ∷ fs) f = get_behind fs f

-- a function that is placed alone
pub keeps_placed : (f : FunctionTree) (s : Setting) → own_in (Some f) ≡ s.own → ((setting : ℕ → Setting) → FunctionRight setting s.around f)
    → Keeps (λ setting n. setting n ≡ s) (placed f)
keeps_placed f s own h = record {
  grows = grows_placed f;
  settings = λ fs. s ∷ [];
  longer = λ fs. length-append fs (f ∷ []);
  made = λ fs setting has. has.0;
  each = λ fs setting has n past below.
      let here : length fs ≡ n = omega (arith, past, below, length-append fs (f ∷ [])) in
      subst (λ i. Good setting i (slice_get (fs ++ f ∷ []) i)) here
      (subst (Good setting (length fs)) (sym (get_behind fs f)) (good_at setting (length fs) f s has.0 own (h setting)));
}

-- a function with a body, whose functions are placed behind it
pub keeps_numbered : {P : (ℕ → Setting) → Statements → Type 0} (with_body : Statements → FunctionTree) (s : Setting) {body : Placing Statements}
    → ((made : Statements) → own_in (Some (with_body made)) ≡ s.own) → Keeps P body
    → ((setting : ℕ → Setting) (made : Statements) → P setting made → FunctionRight setting s.around (with_body made))
    → Keeps (λ setting n. setting n ≡ s) (numbered with_body body)
keeps_numbered with_body s {body = body} own h k = record {
  grows = grows_numbered with_body body h.grows;
  settings = λ fs. s ∷ h.settings (fs ++ hollow ∷ []);
  longer = λ fs. length_set _ (length fs) _ ∙ omega (arith, h.longer (fs ++ hollow ∷ []), length-append fs (hollow ∷ []));
  made = λ fs setting has. has.0;
  each = λ fs setting has n past below.
      let made = body (fs ++ hollow ∷ []) in
      let within : Has setting (length (fs ++ hollow ∷ [])) (h.settings (fs ++ hollow ∷ [])) =
      subst (λ i. Has setting i (h.settings (fs ++ hollow ∷ []))) (omega (arith, length-append fs (hollow ∷ []))) has.1 in
      by_place fs setting n (ltb (length fs) n) refl has.0 within past (omega (arith, below, length_set made.1 (length fs) (with_body made.0)));
}
  where
    by_place : (fs : List FunctionTree) (setting : ℕ → Setting) (n : ℕ) (t : Bool) → ltb (length fs) n ≡ t → setting (length fs) ≡ s
        → Has setting (length (fs ++ hollow ∷ [])) (h.settings (fs ++ hollow ∷ []))
        → length fs ≤ n → n < length (body (fs ++ hollow ∷ [])).1
        → Good setting n (slice_get (slice_set (body (fs ++ hollow ∷ [])).1 (length fs) (with_body (body (fs ++ hollow ∷ [])).0)) n)
    by_place fs setting n true e at has past below =
        subst (Good setting n) (sym (get_set_other _ (length fs) n _ (ltb-true _ _ e)))
        (h.each (fs ++ hollow ∷ []) setting has n (omega (arith, ltb-true _ _ e, length-append fs (hollow ∷ []))) below)
    by_place fs setting n false e at has past below =
        let made = body (fs ++ hollow ∷ []) in
        let f = with_body made.0 in
        let here : length fs ≡ n = omega (arith, past, ltb-false _ _ e) in
        subst (λ i. Good setting i (slice_get (slice_set made.1 (length fs) f) i)) here
        (subst (Good setting (length fs)) (sym (get_set_here made.1 (length fs) f (numbered_place body fs h.grows)))
        (good_at setting (length fs) f s at (own made.0) (k setting made.0 (h.made (fs ++ hollow ∷ []) setting has))))

pub keeps_as : {T : Type 0} {R S : (ℕ → Setting) → T → Type 0} {m : Placing T} → Keeps R m
    → ((setting : ℕ → Setting) (x : T) → R setting x → S setting x) → Keeps S m
keeps_as {m = m} h w = record {
  grows = h.grows;
  settings = h.settings;
  longer = h.longer;
  made = λ fs setting has. w setting (m fs).0 (h.made fs setting has);
  each = h.each;
}

-- ---- a table of settings

at_behind : (ss : List Setting) (s : Setting) (ts : List Setting) → setting_at (ss ++ s ∷ ts) (length ss) ≡ s
at_behind [] s ts = refl
at_behind (t ∷ ss) s ts = at_behind ss s ts

table_from : (ss ts : List Setting) → Has (setting_at (ss ++ ts)) (length ss) ts
table_from ss [] = tt
table_from ss (t ∷ ts) = (
  at_behind ss t ts,
  subst (λ n. Has (setting_at (ss ++ t ∷ ts)) n ts) (omega (arith, length-append ss (t ∷ [])))
      (subst (λ us. Has (setting_at us) (length (ss ++ t ∷ [])) ts) (append_assoc ss (t ∷ []) ts) (table_from (ss ++ t ∷ []) ts)),
)

pub table_has : (ss : List Setting) → Has (setting_at ss) 0 ss
table_has ss = table_from [] ss

past_settings : (ss : List Setting) (n : ℕ) → length ss ≤ n → (setting_at ss n).own ≡ None
past_settings [] n b = refl
past_settings (s ∷ ss) zero b = absurd (omega (arith, b))
past_settings (s ∷ ss) (suc n) b = past_settings ss n (omega (arith, b))

past_functions : (fs : List FunctionTree) (n : ℕ) → length fs ≤ n → slice_get fs n ≡ None
past_functions [] n b = refl
past_functions (f ∷ fs) zero b = absurd (omega (arith, b))
past_functions (f ∷ fs) (suc n) b = past_functions fs n (omega (arith, b))

-- past the last function stands none, with no name of its own
pub owns_none : (fs : List FunctionTree) (ss : List Setting) (n : ℕ) → length fs ≡ length ss → length fs ≤ n
    → own_in (slice_get fs n) ≡ (setting_at ss n).own
owns_none fs ss n same past = ap own_in (past_functions fs n past) ∙ sym (past_settings ss n (omega (arith, same, past)))

pub get_below : (fs : List FunctionTree) (n : ℕ) (f : FunctionTree) → slice_get fs n ≡ Some f → n < length fs
get_below [] n f h = cc
get_below (g ∷ fs) zero f h = omega arith
get_below (g ∷ fs) (suc n) f h = let b : n < length fs = get_below fs n f h in omega (arith, b)
