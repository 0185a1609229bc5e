-- In each turn some sends are owed.
use Rattle.std.proofs.Common.{◌≡◌, ◌<◌, Bool, true, false, List, [], ◌∷◌, ◌++◌, map, Option, Some, None, IsTrue, refl, sym, ◌∙◌, ap, subst}
use Rattle.std.proofs.Common.{lit<}
use Rattle.std.specs.List.{All, AllByRecursion, cons_option, filter_map}
use Rattle.std.proofs.lemmas.List.Elements.{All-head, All-tail, All-nil, All-cons}
use Rattle.pac_names.specs.Names.{is_lookup_name, Name}
use Rattle.poll_log.specs.declared.question.Question.{Question}
use Rattle.poll_log.specs.declared.terms.Terms.{Terms}
use Rattle.poll_log.specs.Turns.{Outgoing, Turns, Begin, Then, Event}
use mathlib.Core.Path.{fun_ext}
use Rattle.poll_log.specs.Questions.{IsQuestion, first_sending, first_sent, firsts, names_of, outgoing_of}
use Rattle.poll_log.specs.Told.{Map, told}
use Rattle.poll_log.specs.Jobs.{IsCut, Job, SendsOwed, WaitsBefore, once, onto_new, wanted}
use Rattle.poll_log.proofs.TurnLaws.{falls_due, told-begin}
use Rattle.poll_log.proofs.Names.{once-cons, once-none, has}
use Rattle.poll_log.proofs.Dues.{owed_begin, owed_then}
use Rattle.poll_loop.specs.Task.{AsksLookupNames}

-- the names that jobs lack are lookup names
abbrev pub Named : Name → Type 0
Named n = IsTrue (is_lookup_name n)

pub wanted_named : (jobs : List Job) (M : Map) → All AsksLookupNames jobs → AllByRecursion Named (wanted jobs M)
wanted_named [] M h = tt
wanted_named (job ∷ jobs) M h = go (job M) refl (wanted_named jobs M (All-tail AsksLookupNames job jobs h))
  where
    go : (r : Option Name) → job M ≡ r → AllByRecursion Named (wanted jobs M) → AllByRecursion Named (cons_option r (wanted jobs M))
    go None e ih = ih
    go (Some n) e ih = (All-head AsksLookupNames job jobs h M n e, ih)

pub once_named : (seen ns : List Name) → AllByRecursion Named ns → AllByRecursion Named (once seen ns)
once_named seen [] h = subst (AllByRecursion Named) (sym (once-none seen)) tt
once_named seen (n ∷ ns) h =
    subst (AllByRecursion Named) (sym (once-cons seen n ns)) (go (has n seen) (once_named seen ns h.1) (once_named (seen ++ n ∷ []) ns h.1))
  where
    go : (b : Bool) → AllByRecursion Named (once seen ns) → AllByRecursion Named (once (seen ++ n ∷ []) ns) → AllByRecursion Named (onto_new b n (once seen ns) (once (seen ++ n ∷ []) ns))
    go true left behind = left
    go false left behind = (h.0, behind)

-- the questions for names under the number 0
abbrev asking : Name → Question
asking n = record { id = 0; name = n }

names_back : (ns : List Name) → names_of (map asking ns) ≡ ns
names_back [] = refl
names_back (n ∷ ns) = ap (λ l. n ∷ l) (names_back ns)

all_asked : (ns : List Name) → AllByRecursion Named ns → All IsQuestion (map asking ns)
all_asked [] h = All-nil IsQuestion
all_asked (n ∷ ns) h = All-cons IsQuestion (asking n) (map asking ns) (record { number = lit< tt; name = h.0 }) (all_asked ns h.1)

none_told : (t : Terms) (sent other : List Outgoing) → told t (Begin sent) ≡ told t (Begin other)
none_told t sent other = fun_ext (λ n. told-begin t sent n ∙ sym (told-begin t other n))

module _ (t : Terms) (jobs : List Job) (w : 0 < t.wait) (r : 0 < t.tries) (named : All AsksLookupNames jobs) where
  -- before the first event
  pub cut_begin : IsCut t jobs (Begin [])
  cut_begin =
      let ns = once [] (wanted jobs (told t (Begin []))) in
      record {
        unsent = first_sent (map asking ns);
        sends = owed_begin t jobs w r (map asking ns) (names_back ns ∙ ap (λ M. once [] (wanted jobs M)) (none_told t [] (first_sent (map asking ns)))) (all_asked ns (once_named [] (wanted jobs (told t (Begin []))) (wanted_named jobs (told t (Begin [])) named)));
        waits = tt;
      }

  -- after an event
  pub cut_then : (h : Turns) (e : Event) → SendsOwed t jobs h → WaitsBefore t jobs (Then h e []) → IsCut t jobs (Then h e [])
  cut_then h e o waits =
      let ns = once (names_of (firsts h)) (wanted jobs (told t (Then h e []))) in
      let fresh = map asking ns in
      let again = filter_map (falls_due t h e) (firsts h ++ fresh) in
      record {
        unsent = map outgoing_of (map first_sending fresh ++ again);
        sends = (o, owed_then t jobs w r h e fresh again o (names_back ns) (all_asked ns (once_named (names_of (firsts h)) (wanted jobs (told t (Then h e []))) (wanted_named jobs (told t (Then h e [])) named))) refl);
        waits = waits;
      }
