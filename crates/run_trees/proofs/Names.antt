-- The names that a run has asked, and the first of them that is missing.
use Rattle.std.proofs.Common.{◌≡◌, refl, ap, sym, ◌∙◌, List, [], ◌∷◌, ◌++◌, Bool, true, false, cond, ◌||◌, if◌then◌else◌, Option, Some, None}
use Rattle.std.specs.Prelude.{is_none}
use Rattle.std.specs.Option.{option_or}
use Rattle.std.proofs.lemmas.List.Folds.{find-append}
use Rattle.std.specs.FinMap as map
use Rattle.pac_names.specs.declared.answer.Answer.{Answer}
use Rattle.pac_names.specs.Names.{Name}
use Rattle.pac_names.specs.Comparing.{same_name, one_name}
use Rattle.js_host.specs.Answers.{AnswerMap, Knowledge, known_answer, or_no_address, first_missing, wholly}
use Rattle.js_host.specs.Seen.{was_asked, with_name}
use Rattle.run_trees.specs.WholeRun.{names_to}

-- whether no answer is known
abbrev pub lacks : Knowledge → Name → Bool
lacks known name = is_none (known_answer known name)

-- behind names of which none is missing, the first of the others is the first of all
pub first_missing-append : (known : Knowledge) (xs ys : List Name) → first_missing known xs ≡ None
    → first_missing known (xs ++ ys) ≡ first_missing known ys
first_missing-append known xs ys none =
    find-append (lacks known) xs ys ∙ ap (λ o. option_or o (first_missing known ys)) none

-- the first stays where others come behind
pub first_missing-front : (known : Knowledge) (xs ys : List Name) (name : Name) → first_missing known xs ≡ Some name
    → first_missing known (xs ++ ys) ≡ Some name
first_missing-front known xs ys name some =
    find-append (lacks known) xs ys ∙ ap (λ o. option_or o (first_missing known ys)) some

alone_by : (b : Bool) (name : Name) → b ≡ true → cond b (Some name) None ≡ Some name
alone_by true name e = refl
alone_by false name e = cc

known_by : (b : Bool) (name : Name) → b ≡ false → cond b (Some name) None ≡ None
known_by true name e = cc
known_by false name e = refl

-- a missing name behind names of which none is missing is the first
pub first_missing-last : (known : Knowledge) (xs : List Name) (name : Name) → first_missing known xs ≡ None
    → lacks known name ≡ true → first_missing known (xs ++ name ∷ []) ≡ Some name
first_missing-last known xs name none missing =
    first_missing-append known xs (name ∷ []) none ∙ alone_by (lacks known name) name missing

-- with a name that is known, none is missing still
pub first_missing-with_name : (known : Knowledge) (xs : List Name) (name : Name) → first_missing known xs ≡ None
    → lacks known name ≡ false → first_missing known (with_name xs name) ≡ None
first_missing-with_name known xs name none here =
    elim (was_asked xs name) as (λ b. first_missing known (if b then xs else xs ++ name ∷ []) ≡ None) [
      | true ↦ none
      | false ↦ first_missing-append known xs (name ∷ []) none ∙ known_by (lacks known name) name here
    ]

-- none is missing in front, and none behind
pub none_in_front : (b : Bool) (first : Name) (rest : Option Name) → cond b (Some first) rest ≡ None
    → (b ≡ false) × (rest ≡ None)
none_in_front true first rest e = cc
none_in_front false first rest e = (refl, e)

-- a missing name isn't among names of which none is missing
pub was_asked-missing : (known : Knowledge) (xs : List Name) (name : Name) → first_missing known xs ≡ None
    → lacks known name ≡ true → was_asked xs name ≡ false
was_asked-missing known [] name none missing = refl
was_asked-missing known (x ∷ xs) name none missing =
    let parts = none_in_front (lacks known x) x (first_missing known xs) none in
    elim (same_name name x) as (λ b. same_name name x ≡ b → (b || was_asked xs name) ≡ false) [
      | true ↦ λ same.
          let here : lacks known name ≡ lacks known x = ap (lacks known) ((one_name name x).0 same) in
          let wrong : true ≡ false = sym missing ∙ here ∙ parts.0 in
          cc
      | false ↦ λ apart. was_asked-missing known xs name parts.1 missing
    ] refl

-- the names up to a name that is not among those in front
pub names_to-append : (xs ys : List Name) (name : Name) → was_asked xs name ≡ false
    → names_to name (xs ++ name ∷ ys) ≡ xs ++ name ∷ []
names_to-append [] ys name new = rw ((one_name name name).1 refl) refl
names_to-append (x ∷ xs) ys name new =
    elim (same_name name x) as (λ b. (b || was_asked xs name) ≡ false → (if b then x ∷ [] else x ∷ names_to name (xs ++ name ∷ ys)) ≡ x ∷ (xs ++ name ∷ [])) [
      | true ↦ λ wrong. cc
      | false ↦ λ others. ap (λ rest. x ∷ rest) (names_to-append xs ys name others)
    ] new

-- ---- where all is known

some_is_known : (held : Option Answer) → is_none (or_no_address true held) ≡ false
some_is_known (Some answer) = refl
some_is_known None = refl

pub first_missing-wholly : (answers : AnswerMap) (names : List Name) → first_missing (wholly answers) names ≡ None
first_missing-wholly answers [] = refl
first_missing-wholly answers (name ∷ names) =
    ap (λ b. cond b (Some name) (first_missing (wholly answers) names)) (some_is_known (map.get answers name))
    ∙ first_missing-wholly answers names
