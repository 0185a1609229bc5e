-- The reply to a question tells its name while that is young, and no other name.
use Rattle.std.proofs.Common.{◌≡◌, ℕ, ◌<◌, Bool, false, cond, not, ◌&&◌, nat_le, List, [], ◌∷◌, ◌++◌, Option, Some, None, is_some, refl, sym, ◌∙◌, ap}
use Rattle.std.proofs.lemmas.Bool.{lt-leb, or_parts}
use Rattle.pac_names.specs.declared.answer.Answer.{Answer}
use Rattle.pac_names.specs.Comparing.{same_name}
use Rattle.pac_names.specs.Names.{Name}
use Rattle.js_host.specs.Answers.{AnswerMap, answer_in}
use Rattle.dns_message.specs.Reply.{reply_of}
use Rattle.dns_message.proofs.QueryLaws.{one_name_law}
use Rattle.poll_log.specs.declared.question.Question.{Question}
use Rattle.poll_log.specs.declared.terms.Terms.{Terms}
use Rattle.poll_log.specs.Turns.{Turns, Given}
use Rattle.poll_log.specs.Questions.{IsQuestion, firsts, has_name, number_in}
use Rattle.poll_log.specs.Sendings.{limit}
use Rattle.poll_log.specs.Told.{accepted, accepted_in, age, reply_to}
use Rattle.poll_log.proofs.Asking.{firsts_named}
use Rattle.poll_log.proofs.Counts.{seen_here}
use Rattle.poll_log.proofs.Names.{same_itself, true_false}
use Rattle.pac_generate.specs.Answered.{reply_from}
use Rattle.memory_talk.specs.Laws.{AreAddresses}
use Rattle.memory_talk.proofs.Told.{accepted_parts, named, reply_told}

-- the number of a name that stands behind others
number_here : (done rest : List Question) (q : Question) → has_name q.name done ≡ false → number_in (done ++ q ∷ rest) q.name ≡ Some q.id
unfolding number_in
number_here [] rest q new = ap (λ (b : Bool). cond b (Some q.id) (number_in rest q.name)) (same_itself q.name)
number_here (x ∷ done) rest q new =
    let parts = or_parts (same_name x.name q.name) (has_name q.name done) new in
    ap (λ (b : Bool). cond b (Some x.id) (number_in (done ++ q ∷ rest) q.name)) parts.0 ∙ number_here done rest q parts.1

module _ (answers : AnswerMap) (small : AreAddresses answers) (t : Terms) (h : Turns) (q : Question) (is : IsQuestion q) where
  pub takes_own : (done rest : List Question) → firsts h ≡ done ++ q ∷ rest → has_name q.name done ≡ false → age h q.name < limit t
      → accepted t h (Given (reply_from answers q)) q.name ≡ Some (answer_in answers q.name)
  unfolding accepted accepted_in
  takes_own done rest e new young =
      ap (λ (b : Bool). cond (b && not (nat_le (limit t) (age h q.name))) (reply_to (number_in (firsts h) q.name) (reply_from answers q) q.name) None)
      (ap (has_name q.name) e ∙ seen_here done q rest)
      ∙ ap (λ (b : Bool). cond (not b) (reply_to (number_in (firsts h) q.name) (reply_from answers q) q.name) None) (lt-leb (limit t) (age h q.name) young)
      ∙ ap (λ (r : Option ℕ). reply_to r (reply_from answers q) q.name) (ap (λ (qs : List Question). number_in qs q.name) e ∙ number_here done rest q new)
      ∙ reply_told answers small q is

  pub takes_no_other : (n : Name) → same_name q.name n ≡ false → accepted t h (Given (reply_from answers q)) n ≡ None
  takes_no_other n other = go (accepted t h (Given (reply_from answers q)) n) refl
    where
      go : (r : Option Answer) → accepted t h (Given (reply_from answers q)) n ≡ r → r ≡ None
      go None e = refl
      go (Some x) e =
          let parts = accepted_parts t h (reply_from answers q) n x e in
          let own : reply_of (reply_from answers q) q.id q.name ≡ Some (answer_in answers q.name) = reply_told answers small q is in
          let same : q.name ≡ n =
          one_name_law (reply_from answers q) q.id parts.number q.name n is.name (named (firsts h) n (firsts_named h) parts.sent) (ap is_some own) (ap is_some parts.reply) in
          true_false (sym (ap (same_name q.name) (sym same) ∙ same_itself q.name) ∙ other)
