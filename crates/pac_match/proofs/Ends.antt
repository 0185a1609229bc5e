-- Tests that hold of some end of a text.
use Rattle.std.proofs.Common.{◌≡◌, ℕ, zero, suc, List, [], ◌∷◌, true, Bool, drop}
use Rattle.std.proofs.lemmas.Bool.{or_cases, or_left, or_right}
use Rattle.std.proofs.Common.{⊎_elim}
use Rattle.pac_match.specs.Matching.{some_end}

-- the whole text is an end of it
pub some_end-whole : (test : List ℕ → Bool) (text : List ℕ) → test text ≡ true → some_end test text ≡ true
some_end-whole test [] h = h
some_end-whole test (u ∷ us) h = or_left (test (u ∷ us)) (some_end test us) h

-- an end of an end is an end
pub some_end-drop : (test : List ℕ → Bool) (n : ℕ) (text : List ℕ) → some_end test (drop n text) ≡ true → some_end test text ≡ true
some_end-drop test zero text h = h
some_end-drop test (suc n) [] h = h
some_end-drop test (suc n) (u ∷ us) h = or_right (test (u ∷ us)) (some_end test us) (some_end-drop test n us h)

-- the end of which the test holds
pub end_of : (test : List ℕ → Bool) (text : List ℕ) → some_end test text ≡ true → (n : ℕ) × (test (drop n text) ≡ true)
end_of test [] h = (0, h)
end_of test (u ∷ us) h =
    ⊎_elim
    (λ (here : test (u ∷ us) ≡ true). (0, here))
    (λ (later : some_end test us ≡ true). let found = end_of test us later in (suc (found.0), found.1))
    (or_cases (test (u ∷ us)) (some_end test us) h)
