-- What a stub knows, and what is asked of it.
use Rattle.std.proofs.Common.{◌≡◌, Bool, true, false, cond, ◌||◌, List, [], ◌∷◌, ◌++◌, Option, Some, None, refl, sym, ◌∙◌, ap}
use Rattle.std.specs.List.{cons_option, list_any}
use Rattle.std.specs.Option.{option_to_list}
use Rattle.std.proofs.lemmas.List.{map-append}
use Rattle.pac_names.specs.Names.{Name}
use Rattle.pac_names.specs.Comparing.{same_name}
use Rattle.poll_log.specs.declared.flight.Flight.{Flight}
use Rattle.poll_log.specs.declared.question.Question.{Question}
use Rattle.poll_log.specs.Questions.{names_of}
use Rattle.poll_log.specs.Told.{Map}
use Rattle.poll_log.specs.Jobs.{once}
use Rattle.poll_log.proofs.Names.{has, has-append, once-new, once-none, once-seen, or-assoc}
use Rattle.stub_poller.specs.State.{StubState, asking, flies_in, is_dead_in}
use Rattle.stub_poller.specs.Driven.{asking_all}
use Rattle.session_core.specs.declared.lookups.Lookups.{Lookups}
use Rattle.session_core.specs.Lookups.{with_asked}
use Rattle.session_core.specs.Sessions.{dead_of}
use Rattle.session_core.specs.Settling.{asked_of, knows, numbers_of}
use Rattle.session_core.specs.Cascade.{KnowsThese}

pub names-append : (xs ys : List Question) → names_of (xs ++ ys) ≡ names_of xs ++ names_of ys
names-append xs ys = map-append (λ (q : Question). q.name) xs ys

pub numbers-append : (xs ys : List Question) → numbers_of (xs ++ ys) ≡ numbers_of xs ++ numbers_of ys
numbers-append xs ys = map-append (λ (q : Question). q.id) xs ys

pub one_missed : (r : Option Name) → cons_option r [] ≡ option_to_list r
one_missed None = refl
one_missed (Some n) = refl

-- asking kills nobody, and the terms stay
pub dead_still : (qs : List Question) (stub : StubState) (n : Name) → dead_of (asking_all qs stub) n ≡ dead_of stub n
dead_still [] stub n = refl
dead_still (q ∷ qs) stub n = dead_still qs (asking q stub) n

pub asking_terms : (qs : List Question) (stub : StubState) → (asking_all qs stub).terms ≡ stub.terms
asking_terms [] stub = refl
asking_terms (q ∷ qs) stub = asking_terms qs (asking q stub)

flies-append : (n : Name) (fs gs : List Flight) → list_any (λ f. same_name f.question.name n) (fs ++ gs) ≡ (list_any (λ f. same_name f.question.name n) fs || list_any (λ f. same_name f.question.name n) gs)
flies-append n [] gs = refl
flies-append n (f ∷ fs) gs = ap (λ b. same_name f.question.name n || b) (flies-append n fs gs) ∙ sym (or-assoc (same_name f.question.name n) _ _)

or-none : (b : Bool) → (b || false) ≡ b
or-none true = refl
or-none false = refl

knows-asking : (q : Question) (stub : StubState) (n : Name) → knows (asking q stub) n ≡ (knows stub n || same_name q.name n)
knows-asking q stub n =
    ap (λ b. is_dead_in n stub || b) (flies-append n stub.flights (record { question = q; age = 0 } ∷ []) ∙ ap (λ b. flies_in n stub || b) (or-none (same_name q.name n)))
    ∙ sym (or-assoc (is_dead_in n stub) (flies_in n stub) (same_name q.name n))

-- what was asked is known besides
pub knows-asking_all : (qs : List Question) (stub : StubState) (n : Name) → knows (asking_all qs stub) n ≡ (knows stub n || has n (names_of qs))
knows-asking_all [] stub n = sym (or-none (knows stub n))
knows-asking_all (q ∷ qs) stub n =
    knows-asking_all qs (asking q stub) n
    ∙ ap (λ b. b || has n (names_of qs)) (knows-asking q stub n)
    ∙ or-assoc (knows stub n) (same_name q.name n) (has n (names_of qs))

pub knows_more : (qs : List Question) (stub : StubState) (answers : Map) (seen : List Name) → KnowsThese stub answers seen → KnowsThese (asking_all qs stub) answers (seen ++ names_of qs)
knows_more qs stub answers seen k n u =
    knows-asking_all qs stub n ∙ ap (λ b. b || has n (names_of qs)) (k n u) ∙ sym (has-append n seen (names_of qs))

-- a name that is missed is asked where it was not seen
pub asked_is_once : (stub : StubState) (answers : Map) (seen : List Name) → KnowsThese stub answers seen → (r : Option Name) → ((n : Name) → r ≡ Some n → answers n ≡ None) → asked_of stub r ≡ once seen (option_to_list r)
asked_is_once stub answers seen k None u = sym (once-none seen)
asked_is_once stub answers seen k (Some n) u = ap (λ b. cond b [] (n ∷ [])) (k n (u n refl)) ∙ go (has n seen) refl
  where
    go : (b : Bool) → has n seen ≡ b → cond b [] (n ∷ []) ≡ once seen (n ∷ [])
    go true h = sym (once-seen seen n h)
    go false h = sym (once-new seen n h)

-- one question more behind others
asking_all-append : (xs ys : List Question) (stub : StubState) → asking_all (xs ++ ys) stub ≡ asking_all ys (asking_all xs stub)
asking_all-append [] ys stub = refl
asking_all-append (x ∷ xs) ys stub = asking_all-append xs ys (asking x stub)

abbrev pub with_stub : Lookups → StubState → Lookups
with_stub lookups stub = record lookups { stub = stub }

pub asked_both : (xs ys : List Question) (lookups : Lookups) → with_asked ys (with_asked xs lookups) ≡ with_asked (xs ++ ys) lookups
asked_both xs ys lookups = ap (with_stub lookups) (sym (asking_all-append xs ys lookups.stub))
