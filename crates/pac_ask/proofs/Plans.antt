-- How the plan of `ask` is followed.
use Rattle.std.proofs.Common.{◌≡◌, ℕ, List, [], ◌∷◌, Option, Some, None, inl, refl, sym, ◌∙◌, ap, arith}
use Rattle.pac_names.specs.declared.answer.Answer.{Answer}
use Rattle.std.specs.Prelude.{IsTrue}
use Rattle.pac_names.specs.Names.{is_lookup_name, lookup_name_of, Name}
use Rattle.pac_names.specs.Quads.{quad_of}
use Rattle.pac_ports.specs.Dice.{DiceTold, Gave}
use Rattle.poll_log.specs.declared.terms.Terms.{Terms}
use Rattle.poll_log.specs.Sendings.{AreTerms}
use Rattle.poll_log.specs.Flat.{flat_behind}
use Rattle.poll_log.specs.Turns.{turns_of, with_moves}
use Rattle.poll_log.specs.Questions.{firsts, new_among}
use Rattle.poll_log.specs.Rounds.{Opening, moves_of}
use Rattle.poll_log.specs.Streamed.{AreFramed}
use Rattle.poll_log.specs.Told.{told}
use Rattle.poll_log.specs.Jobs.{Job}
use Rattle.stub_poller.specs.State.{StubState}
use Rattle.pac_plan.specs.Plan.{Outside, unfinished}
use Rattle.pac_plan.specs.Follows.{Follows}
use Rattle.poll_loop.specs.Task.{IsSound, Task}
use Rattle.poll_loop.specs.declared.looping.Upstream.{Upstream}
use Rattle.poll_loop.proofs.Kept.{few_none, not_begun}
use Rattle.poll_loop.proofs.Owing.{cut_begin}
use Rattle.pac_ask.specs.Ask.{address_plan, ask_plan, name_plan, told_output}
use Rattle.pac_ask.specs.Task.{task_of, talk_of}
use Rattle.pac_ask.specs.Standing.{Stands}
use Rattle.pac_ask.specs.Talks.{talks}
use Rattle.pac_ask.proofs.Begin.{sound}

-- memory may run out before anything is done
pub memory_first : (upstream : Upstream) (text : List ℕ) (o : Outside) → Follows talks (ask_plan upstream text) o o None
memory_first upstream text o = by_quad (quad_of text)
  where
    by_name : (name : Option Name) → Follows talks (name_plan upstream name) o o None
    by_name None = (refl, tt)
    by_name (Some name) = (unfinished, [], not_begun (talk_of upstream name) o, refl)

    by_quad : (quad : Option ℕ) → Follows talks (address_plan upstream quad (lookup_name_of text)) o o None
    by_quad None = by_name (lookup_name_of text)
    by_quad (Some address) = (refl, tt)

-- memory ran out when a number had been drawn
pub memory_drawn : (upstream : Upstream) (name : Name) → AreTerms upstream.terms → IsTrue (is_lookup_name name) → (o : Outside) (id : ℕ) (dice : Option DiceTold) → Gave o.dice id dice → Follows talks (name_plan upstream (Some name)) o (record o { dice = dice }) None
unfolding firsts new_among with_moves flat_behind AreFramed moves_of
memory_drawn upstream name terms named o id dice g =
    let is_sound : IsSound (task_of upstream.terms name) = sound upstream.terms name terms named in (
      unfinished,
      [],
      record {
        files = refl;
        clock = refl;
        few = few_none upstream.terms;
        streams = refl;
        ends = inl (record {
          cut = cut_begin upstream.terms (task_of upstream.terms name).jobs terms.waits terms.tried is_sound.named;
          owed = None;
          streamed = record { rounds = Opening []; moves = refl; framed = refl };
          link = refl;
          drew = (id ∷ [], (dice, g, refl));
          ran = omega arith;
        });
      },
      refl,
    )

-- what a job lacks where nothing is told
first_lack : List Job → Option Name
first_lack [] = None
first_lack (job ∷ jobs) = job (λ n. None)

some_same : (x y : Name) → Some x ≡ Some y → x ≡ y
some_same x y e = cc

-- the answer that is held is the one that is told
pub held_is_told : (t : Terms) (name name' : Name) (answer : Option Answer) (t' : Terms) (stub : StubState) (n : ℕ) (log : _) → Stands name' answer t' stub n (task_of t name) (turns_of log) → told_output name' answer ≡ told_output name (told t (turns_of log) name)
unfolding first_lack
held_is_told t name name' answer t' stub n log s =
    let terms : t ≡ t' = ap (λ (x : Task). x.terms) s.same in
    let names : name ≡ name' = some_same name name' (ap (λ (x : Task). first_lack x.jobs) s.same) in
    ap (told_output name') s.answered ∙ ap (λ x. told_output name' (told x (turns_of log) name')) (sym terms) ∙ ap (λ m. told_output m (told t (turns_of log) m)) (sym names)
