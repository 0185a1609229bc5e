-- A run asks in order, whatever answers it.
use Rattle.std.proofs.Common.{◌≡◌, Bool, true, false, cond, List, [], ◌∷◌, ◌++◌, Option, Some, None, ◌⊎◌, inl, inr, refl, sym, ◌∙◌, ap, arith, append_assoc}
use Rattle.std.specs.Prelude.{unwrap_or}
use Rattle.pac_names.specs.declared.answer.Answer.{Answer}
use Rattle.pac_names.specs.declared.answer.Answer.TheVariants.{NoAddress}
use Rattle.pac_names.specs.Names.{Name}
use Rattle.js_host.specs.Seen.{Answered, Refused, is_one_too_many, with_name}
use Rattle.run_trees.specs.RunTree.{RunTree, Done, Ask, Tell}
use Rattle.poll_log.specs.Told.{Map}
use Rattle.poll_log.specs.Laws.{Extends, first_lacking, lacking_or, only_behind, up_to_lacking}
use Rattle.poll_log.proofs.Names.{none_some}
use Rattle.poll_log.proofs.Orders.{runs_restartable}
use Rattle.session_log.specs.Asked.{asked_from, asked_in}
use Rattle.session_log.specs.Laws.{RunsAreJobs, RunsAskInOrder}
use Rattle.session_log.proofs.Asking.{asked_few, asked_more, held-with_name, lacking-append, not_asked}
use Rattle.pac_names.specs.declared.limits.TheConstants.{MOST_NAMES}

-- two lists of names are alike up to a name that isn't held, the first such one
record Parts (M : Map) (one other : List Name) : Type 0 where
  pub front : List Name
  pub name : Name
  pub behind : List Name
  pub beyond : List Name
  pub one_is : one ≡ front ++ name ∷ behind
  pub other_is : other ≡ front ++ name ∷ beyond
  pub held : first_lacking front M ≡ None
  pub lacks : M name ≡ None

-- all is held and they are the same, or they are alike up to the first that isn't held
abbrev Agree : Map → List Name → List Name → Type 0
Agree M one other = ((first_lacking one M ≡ None) × (other ≡ one)) ⊎ Parts M one other

module _ {End : Type 0} (N M : Map) (x : Extends N M) where
  parts_at : (name : Name) (asked : List Name) (one other : RunTree End) → first_lacking asked M ≡ None → M name ≡ None → Parts M (asked_from M one (with_name asked name)) (asked_from N other (with_name asked name))
  parts_at name asked one other held u =
      let p = asked_more M one (with_name asked name) in
      let q = asked_more N other (with_name asked name) in
      let new : with_name asked name ≡ asked ++ name ∷ [] = ap (λ b. cond b asked (asked ++ name ∷ [])) (not_asked M asked name held u) in
      record {
        front = asked;
        name = name;
        behind = p.0;
        beyond = q.0;
        one_is = p.1 ∙ ap (λ l. l ++ p.0) new ∙ append_assoc asked (name ∷ []) p.0;
        other_is = q.1 ∙ ap (λ l. l ++ q.0) new ∙ append_assoc asked (name ∷ []) q.0;
        held = held;
        lacks = u;
      }

  agree : (run : RunTree End) (asked : List Name) → first_lacking asked M ≡ None → Agree M (asked_from M run asked) (asked_from N run asked)
  unfolding asked_from
  agree (Done end) asked held = inl (held, refl)
  agree (Tell text next) asked held = agree next asked held
  agree (Ask name next) asked held =
      go (is_one_too_many asked name) (agree (next Refused) asked held) (M name) refl (λ y h. agree (next (Answered y)) (with_name asked name) (held-with_name M asked name y held h))
    where
      answers : Map → Bool → RunTree End
      answers O b = next (cond b Refused (Answered (unwrap_or (O name) NoAddress)))

      known : (y : Answer) (O : Map) → O name ≡ Some y → asked_from O (next (Answered y)) (with_name asked name) ≡ asked_from O (next (Answered (unwrap_or (O name) NoAddress))) (with_name asked name)
      known y O h = ap (λ r. asked_from O (next (Answered (unwrap_or r NoAddress))) (with_name asked name)) (sym h)

      both : (y : Answer) → M name ≡ Some y → Agree M (asked_from M (next (Answered y)) (with_name asked name)) (asked_from N (next (Answered y)) (with_name asked name)) → Agree M (asked_from M (next (Answered (unwrap_or (M name) NoAddress))) (with_name asked name)) (asked_from N (next (Answered (unwrap_or (N name) NoAddress))) (with_name asked name))
      both y h a = rw (← known y M h, ← known y N (x name y h)) a

      go : (b : Bool) → Agree M (asked_from M (next Refused) asked) (asked_from N (next Refused) asked) → (r : Option Answer) → M name ≡ r → ((y : Answer) → M name ≡ Some y → Agree M (asked_from M (next (Answered y)) (with_name asked name)) (asked_from N (next (Answered y)) (with_name asked name))) → Agree M (asked_from M (answers M b) (cond b asked (with_name asked name))) (asked_from N (answers N b) (cond b asked (with_name asked name)))
      go true refused r h rec = refused
      go false refused (Some y) h rec = both y h (rec y h)
      go false refused None h rec = inr (parts_at name asked (answers M false) (answers N false) held h)

-- what lists that agree say of the first name that is lacking
module _ (M : Map) (one other : List Name) where
  first_of : (p : Parts M one other) → first_lacking one M ≡ Some p.name
  first_of p = ap (λ l. first_lacking l M) p.one_is ∙ lacking-append M p.front (p.name ∷ p.behind) p.held ∙ ap (λ r. lacking_or p.name r (first_lacking p.behind M)) p.lacks

  same_if_none : Agree M one other → first_lacking one M ≡ None → other ≡ one
  same_if_none (inl a) e = a.1
  same_if_none (inr p) e = none_some p.name (sym e ∙ first_of p)

up_to : (M : Map) (front behind : List Name) (name : Name) → first_lacking front M ≡ None → M name ≡ None → up_to_lacking (front ++ name ∷ behind) M ≡ front ++ name ∷ []
up_to M [] behind name held u = ap (λ r. name ∷ only_behind r (up_to_lacking behind M)) u
up_to M (y ∷ front) behind name held u = go (M y) held (up_to M front behind name)
  where
    go : (r : Option Answer) → lacking_or y r (first_lacking front M) ≡ None → (first_lacking front M ≡ None → M name ≡ None → up_to_lacking (front ++ name ∷ behind) M ≡ front ++ name ∷ []) → y ∷ only_behind r (up_to_lacking (front ++ name ∷ behind) M) ≡ y ∷ (front ++ name ∷ [])
    go None e ih = none_some y (sym e)
    go (Some z) e ih = ap (λ l. y ∷ l) (ih e u)

up_to_first : (M : Map) (one other : List Name) (n : Name) → Agree M one other → first_lacking one M ≡ Some n → (rest : List Name) × (other ≡ up_to_lacking one M ++ rest)
up_to_first M one other n (inl a) e = none_some n (sym a.0 ∙ e)
up_to_first M one other n (inr p) e =
    (p.beyond, p.other_is ∙ sym (append_assoc p.front (p.name ∷ []) p.beyond) ∙ ap (λ l. l ++ p.beyond) (sym (ap (λ l. up_to_lacking l M) p.one_is ∙ up_to M p.front p.behind p.name p.held p.lacks)))

pub in_order : {End : Type 0} → RunsAskInOrder End
in_order run =
    record {
      done = λ N M x e. same_if_none M (asked_in run M) (asked_in run N) (agree N M x run [] refl) e;
      agrees = λ N M n x e. up_to_first M (asked_in run M) (asked_in run N) n (agree N M x run [] refl) e;
      within = λ M. asked_few M run [] (omega arith);
    }

pub run_is_job : {End : Type 0} → RunsAreJobs End
run_is_job run = (runs_restartable MOST_NAMES (asked_in run) (in_order run)).law
