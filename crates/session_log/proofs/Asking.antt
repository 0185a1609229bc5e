-- The names that a run asks against answers of any kind.
use Rattle.std.proofs.Common.{◌≡◌, ◌+◌, ◌<◌, ◌≤◌, Bool, true, false, cond, not, ◌||◌, ◌&&◌, List, [], ◌∷◌, ◌++◌, length, Option, Some, None, refl, sym, ◌∙◌, ap, arith, length-append, append_assoc}
use Rattle.std.specs.Prelude.{is_none, nat_le}
use Rattle.std.specs.FinMap as map
use Rattle.std.proofs.lemmas.Bool.{leb-false}
use Rattle.std.proofs.lemmas.List.{append-nil}
use Rattle.pac_names.specs.declared.answer.Answer.{Answer}
use Rattle.pac_names.specs.Names.{Name}
use Rattle.js_host.specs.Answers.{AnswerMap, first_missing, or_no_address, partly}
use Rattle.js_host.specs.Seen.{is_one_too_many, was_asked, with_name}
use Rattle.run_trees.specs.RunTree.{RunTree, Done, Ask, Tell}
use Rattle.run_trees.specs.WholeRun.{asked_names, asked_with, reply_of, rest_of_run}
use Rattle.poll_log.specs.Told.{Map}
use Rattle.poll_log.specs.Laws.{first_lacking, lacking_or}
use Rattle.poll_log.proofs.Names.{none_some}
use Rattle.session_log.specs.Asked.{asked_from, asked_in, reply_in}
use Rattle.session_log.specs.Laws.{LacksTheFirstMissing}
use Rattle.pac_names.specs.declared.limits.TheConstants.{MOST_NAMES}
use Rattle.pac_names.specs.Comparing.{same_name, one_name}

-- ---- over a finite map

pub asked_from-map : {End : Type 0} (all : AnswerMap) (run : RunTree End) (asked : List Name) → asked_from (map.get all) run asked ≡ (rest_of_run all run asked).asked
unfolding asked_from rest_of_run
asked_from-map all (Done end) asked = refl
asked_from-map all (Ask name next) asked = asked_from-map all (next (reply_of all asked name)) (asked_with asked name)
asked_from-map all (Tell text next) asked = asked_from-map all next asked

pub asked_in-map : {End : Type 0} (all : AnswerMap) (run : RunTree End) → asked_in run (map.get all) ≡ asked_names all run
asked_in-map all run = asked_from-map all run []

lacking_is_missing : (all : AnswerMap) (names : List Name) → first_lacking names (map.get all) ≡ first_missing (partly all) names
lacking_is_missing all [] = refl
lacking_is_missing all (n ∷ names) = go (map.get all n) (lacking_is_missing all names)
  where
    go : (r : Option Answer) → first_lacking names (map.get all) ≡ first_missing (partly all) names → lacking_or n r (first_lacking names (map.get all)) ≡ cond (is_none (or_no_address false r)) (Some n) (first_missing (partly all) names)
    go None ih = refl
    go (Some x) ih = ih

pub first_missing_is : {End : Type 0} → LacksTheFirstMissing End
first_missing_is run all = ap (λ l. first_lacking l (map.get all)) (asked_in-map all run) ∙ lacking_is_missing all (asked_names all run)

-- ---- names that are held

-- names behind names that are held
pub lacking-append : (M : Map) (xs ys : List Name) → first_lacking xs M ≡ None → first_lacking (xs ++ ys) M ≡ first_lacking ys M
lacking-append M [] ys e = refl
lacking-append M (x ∷ xs) ys e = go (M x) e (lacking-append M xs ys)
  where
    go : (r : Option Answer) → lacking_or x r (first_lacking xs M) ≡ None → (first_lacking xs M ≡ None → first_lacking (xs ++ ys) M ≡ first_lacking ys M) → lacking_or x r (first_lacking (xs ++ ys) M) ≡ first_lacking ys M
    go None e ih = none_some x (sym e)
    go (Some y) e ih = ih e

-- the first name is held, and so are the others
pub held_parts : (M : Map) (x : Name) (xs : List Name) → first_lacking (x ∷ xs) M ≡ None → ((y : Answer) × (M x ≡ Some y)) × (first_lacking xs M ≡ None)
held_parts M x xs e = go (M x) refl e
  where
    go : (r : Option Answer) → M x ≡ r → lacking_or x r (first_lacking xs M) ≡ None → ((y : Answer) × (M x ≡ Some y)) × (first_lacking xs M ≡ None)
    go None h e = none_some x (sym e)
    go (Some y) h e = ((y, h), e)

-- a name that isn't held was not asked among names that are
pub not_asked : (M : Map) (asked : List Name) (n : Name) → first_lacking asked M ≡ None → M n ≡ None → was_asked asked n ≡ false
not_asked M [] n held u = refl
not_asked M (x ∷ asked) n held u =
    let p = held_parts M x asked held in
    go (same_name n x) refl p.0 (not_asked M asked n p.1 u)
  where
    go : (b : Bool) → same_name n x ≡ b → (y : Answer) × (M x ≡ Some y) → was_asked asked n ≡ false → (b || was_asked asked n) ≡ false
    go true same h ih = none_some (h.0) (sym u ∙ ap M ((one_name n x).0 same) ∙ h.1)
    go false apart h ih = ih

-- with a name more that is held
pub held-with_name : (M : Map) (asked : List Name) (n : Name) (x : Answer) → first_lacking asked M ≡ None → M n ≡ Some x → first_lacking (with_name asked n) M ≡ None
held-with_name M asked n x held h = go (was_asked asked n)
  where
    go : (b : Bool) → first_lacking (cond b asked (asked ++ n ∷ [])) M ≡ None
    go true = held
    go false = lacking-append M asked (n ∷ []) held ∙ ap (λ r. lacking_or n r None) h

-- ---- names are added behind

grown : (b c : Bool) (asked : List Name) (n : Name) → (more : List Name) × (cond b asked (cond c asked (asked ++ n ∷ [])) ≡ asked ++ more)
grown true c asked n = ([], sym (append-nil asked))
grown false true asked n = ([], sym (append-nil asked))
grown false false asked n = (n ∷ [], refl)

pub asked_more : {End : Type 0} (M : Map) (run : RunTree End) (asked : List Name) → (more : List Name) × (asked_from M run asked ≡ asked ++ more)
unfolding asked_from
asked_more M (Done end) asked = ([], sym (append-nil asked))
asked_more M (Ask name next) asked =
    let first = grown (is_one_too_many asked name) (was_asked asked name) asked name in
    let rest = asked_more M (next (reply_in M asked name)) (asked_with asked name) in
    (first.0 ++ rest.0, rest.1 ∙ ap (λ l. l ++ rest.0) first.1 ∙ append_assoc asked first.0 rest.0)
asked_more M (Tell text next) asked = asked_more M next asked

-- ---- at most so many

few : (b c : Bool) (asked : List Name) (n : Name) → nat_le MOST_NAMES (length asked) ≡ b → length asked ≤ MOST_NAMES → length (cond (b && not c) asked (cond c asked (asked ++ n ∷ []))) ≤ MOST_NAMES
few true true asked n e low = low
few true false asked n e low = low
few false true asked n e low = low
few false false asked n e low =
    let room : length asked < MOST_NAMES = leb-false MOST_NAMES (length asked) e in
    let one : length (asked ++ n ∷ []) ≡ length asked + 1 = length-append asked (n ∷ []) in
    omega arith

pub asked_few : {End : Type 0} (M : Map) (run : RunTree End) (asked : List Name) → length asked ≤ MOST_NAMES → length (asked_from M run asked) ≤ MOST_NAMES
unfolding asked_from
asked_few M (Done end) asked low = low
asked_few M (Ask name next) asked low = asked_few M (next (reply_in M asked name)) (asked_with asked name) (few (nat_le MOST_NAMES (length asked)) (was_asked asked name) asked name refl low)
asked_few M (Tell text next) asked low = asked_few M next asked low
