-- A run that asks in order is restartable.
use Rattle.std.proofs.Common.{◌≡◌, ℕ, ◌+◌, ◌≤◌, List, [], ◌∷◌, ◌++◌, length, Option, Some, None, refl, sym, ◌∙◌, ap, arith}
use Rattle.pac_names.specs.declared.answer.Answer.{Answer}
use Rattle.pac_names.specs.Names.{Name}
use Rattle.poll_log.specs.Told.{Map}
use Rattle.poll_log.specs.Laws.{Extends, AsksInOrder, IsRestartableBy, RunsAreRestartable, first_lacking, lacking_or, up_to_lacking, only_behind}
use Rattle.poll_log.proofs.Names.{none_some}

-- how many names are held before the first that isn't
abbrev pub held_or : Option Answer → ℕ → ℕ
held_or None rest = 0
held_or (Some answer) rest = rest + 1

abbrev pub held_before : List Name → Map → ℕ
held_before [] M = 0
held_before (n ∷ ns) M = held_or (M n) (held_before ns M)

lacks_it : (ns : List Name) (M : Map) (n : Name) → first_lacking ns M ≡ Some n → M n ≡ None
lacks_it [] M n e = none_some n e
lacks_it (m ∷ ns) M n e = go (M m) refl e (lacks_it ns M n)
  where
    go : (r : Option Answer) → M m ≡ r → lacking_or m r (first_lacking ns M) ≡ Some n → (first_lacking ns M ≡ Some n → M n ≡ None) → M n ≡ None
    go None h e ih = let same : m ≡ n = cc in ap M (sym same) ∙ h
    go (Some x) h e ih = ih e

-- the names before it are held, by the larger map too
waits_it : (ns rest : List Name) (N M : Map) (n : Name) → Extends N M → first_lacking ns M ≡ Some n → N n ≡ None → first_lacking (up_to_lacking ns M ++ rest) N ≡ Some n
waits_it [] rest N M n x e u = none_some n e
waits_it (m ∷ ns) rest N M n x e u = go (M m) refl e (λ k. waits_it ns rest N M n x k u)
  where
    go : (r : Option Answer) → M m ≡ r → lacking_or m r (first_lacking ns M) ≡ Some n → (first_lacking ns M ≡ Some n → first_lacking (up_to_lacking ns M ++ rest) N ≡ Some n) → first_lacking (m ∷ (only_behind r (up_to_lacking ns M) ++ rest)) N ≡ Some n
    go None h e ih =
        let same : m ≡ n = cc in
        ap (λ s. lacking_or m s (first_lacking rest N)) (ap N same ∙ u) ∙ ap Some same
    go (Some y) h e ih = ap (λ s. lacking_or m s (first_lacking (up_to_lacking ns M ++ rest) N)) (x m y h) ∙ ih e

done_it : (ns : List Name) (N M : Map) → Extends N M → first_lacking ns M ≡ None → first_lacking ns N ≡ None
done_it [] N M x e = refl
done_it (m ∷ ns) N M x e = go (M m) refl e (done_it ns N M x)
  where
    go : (r : Option Answer) → M m ≡ r → lacking_or m r (first_lacking ns M) ≡ None → (first_lacking ns M ≡ None → first_lacking ns N ≡ None) → first_lacking (m ∷ ns) N ≡ None
    go None h e ih = none_some m (sym e)
    go (Some y) h e ih = ap (λ s. lacking_or m s (first_lacking ns N)) (x m y h) ∙ ih e

-- without a missing name all are held
all_held : (ns : List Name) (N M : Map) → Extends N M → first_lacking ns M ≡ None → (held_before ns M ≡ length ns) × (held_before ns N ≡ length ns)
all_held [] N M x e = (refl, refl)
all_held (m ∷ ns) N M x e = go (M m) refl e (all_held ns N M x)
  where
    go : (r : Option Answer) → M m ≡ r → lacking_or m r (first_lacking ns M) ≡ None → (first_lacking ns M ≡ None → (held_before ns M ≡ length ns) × (held_before ns N ≡ length ns)) → (held_or r (held_before ns M) ≡ length (m ∷ ns)) × (held_before (m ∷ ns) N ≡ length (m ∷ ns))
    go None h e rec = none_some m (sym e)
    go (Some y) h e rec =
        let ih = rec e in
        let here : held_before (m ∷ ns) N ≡ held_before ns N + 1 = ap (λ s. held_or s (held_before ns N)) (x m y h) in (
          omega arith,
          omega arith,
        )

-- up to the missing name as many are held by the larger map, and one more where it holds that name
held_more : (ns rest : List Name) (N M : Map) (n : Name) → Extends N M → first_lacking ns M ≡ Some n → (held_before ns M ≤ held_before (up_to_lacking ns M ++ rest) N) × ((y : Answer) → N n ≡ Some y → held_before ns M + 1 ≤ held_before (up_to_lacking ns M ++ rest) N)
held_more [] rest N M n x e = none_some n e
held_more (m ∷ ns) rest N M n x e = go (M m) refl e (held_more ns rest N M n x)
  where
    go : (r : Option Answer) → M m ≡ r → lacking_or m r (first_lacking ns M) ≡ Some n → (first_lacking ns M ≡ Some n → (held_before ns M ≤ held_before (up_to_lacking ns M ++ rest) N) × ((y : Answer) → N n ≡ Some y → held_before ns M + 1 ≤ held_before (up_to_lacking ns M ++ rest) N)) → (held_or r (held_before ns M) ≤ held_before (m ∷ (only_behind r (up_to_lacking ns M) ++ rest)) N) × ((y : Answer) → N n ≡ Some y → held_or r (held_before ns M) + 1 ≤ held_before (m ∷ (only_behind r (up_to_lacking ns M) ++ rest)) N)
    go None h e rec =
        let same : m ≡ n = cc in (
          omega arith,
          λ y k. let here : held_before (m ∷ rest) N ≡ held_before rest N + 1 = ap (λ s. held_or s (held_before rest N)) (ap N same ∙ k) in omega arith,
        )
    go (Some y) h e rec =
        let ih = rec e in
        let here : held_before (m ∷ (up_to_lacking ns M ++ rest)) N ≡ held_before (up_to_lacking ns M ++ rest) N + 1 = ap (λ s. held_or s (held_before (up_to_lacking ns M ++ rest) N)) (x m y h) in
        let first : held_before ns M ≤ held_before (up_to_lacking ns M ++ rest) N = ih.0 in (
          omega arith,
          λ z k. let second : held_before ns M + 1 ≤ held_before (up_to_lacking ns M ++ rest) N = ih.1 z k in omega arith,
        )

held_within : (ns : List Name) (M : Map) → held_before ns M ≤ length ns
held_within [] M = omega arith
held_within (m ∷ ns) M = go (M m) (held_within ns M)
  where
    go : (r : Option Answer) → held_before ns M ≤ length ns → held_or r (held_before ns M) ≤ length (m ∷ ns)
    go None h = omega arith
    go (Some x) h = omega arith

held_below : (ns : List Name) (M : Map) (n : Name) → first_lacking ns M ≡ Some n → held_before ns M + 1 ≤ length ns
held_below [] M n e = none_some n e
held_below (m ∷ ns) M n e = go (M m) e (held_below ns M n)
  where
    go : (r : Option Answer) → lacking_or m r (first_lacking ns M) ≡ Some n → (first_lacking ns M ≡ Some n → held_before ns M + 1 ≤ length ns) → held_or r (held_before ns M) + 1 ≤ length (m ∷ ns)
    go None e ih = omega arith
    go (Some x) e ih = let k = ih e in omega arith

module _ (most : ℕ) (asked : Map → List Name) (law : AsksInOrder most asked) where
  grown : (N M : Map) → Extends N M → (r : Option Name) → first_lacking (asked M) M ≡ r → held_before (asked M) M ≤ held_before (asked N) N
  grown N M x None e =
      let held = all_held (asked M) N M x e in
      let same : held_before (asked N) N ≡ held_before (asked M) N = ap (λ l. held_before l N) (law.done N M x e) in
      omega arith
  grown N M x (Some n) e =
      let a = law.agrees N M n x e in
      let same : held_before (asked N) N ≡ held_before (up_to_lacking (asked M) M ++ a.0) N = ap (λ l. held_before l N) a.1 in
      let more = held_more (asked M) a.0 N M n x e in
      let first : held_before (asked M) M ≤ held_before (up_to_lacking (asked M) M ++ a.0) N = more.0 in
      omega arith

  pub restartable : IsRestartableBy most asked
  restartable =
      record {
        law = record {
          depth = λ M. held_before (asked M) M;
          lacks = λ M n e. lacks_it (asked M) M n e;
          waits = λ N M n x e u. let a = law.agrees N M n x e in ap (λ l. first_lacking l N) a.1 ∙ waits_it (asked M) a.0 N M n x e u;
          done = λ N M x e. ap (λ l. first_lacking l N) (law.done N M x e) ∙ done_it (asked M) N M x e;
          grows = λ N M x. grown N M x (first_lacking (asked M) M) refl;
          deeper = λ N M n y x e k.
              let a = law.agrees N M n x e in
              let same : held_before (asked N) N ≡ held_before (up_to_lacking (asked M) M ++ a.0) N = ap (λ l. held_before l N) a.1 in
              let more = held_more (asked M) a.0 N M n x e in
              let second : held_before (asked M) M + 1 ≤ held_before (up_to_lacking (asked M) M ++ a.0) N = more.1 y k in
              omega arith;
          within = λ M. let a = held_within (asked M) M in (let b = law.within M in omega arith);
          before = λ M n e. let a = held_below (asked M) M n e in (let b = law.within M in omega arith);
        };
        depth = λ M. held_within (asked M) M;
      }

pub runs_restartable : RunsAreRestartable
runs_restartable most asked law = restartable most asked law
