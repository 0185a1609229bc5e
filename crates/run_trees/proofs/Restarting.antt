-- The restart theorem and the extension law, from what a run over a host says.
use Rattle.std.proofs.Common.{◌≡◌, refl, ap, sym, ◌∙◌, subst, [], Some, None}
use Rattle.pac_names.specs.Names.{Name}
use Rattle.js_host.specs.Answers.{AnswerMap, Extends, Knowledge, Completes, first_missing, partly}
use Rattle.js_host.specs.Seen.{fresh}
use Rattle.run_trees.specs.RunTree.{RunTree, Walked, Ended, Stopped, walk}
use Rattle.run_trees.specs.WholeRun.{whole_run, names_to}
use Rattle.run_trees.specs.Laws.{first_missing_of, IsExtended, Restarts}
use Rattle.run_trees.proofs.Walking.{Says, says}
use Rattle.run_trees.proofs.Answering.{all_agree, rest-same}

-- what is known is a map that completes it
itself : (known : Knowledge) → Completes known.answers known
itself known = record { extends = λ name answer here. here; alone = λ _. refl }

-- a larger map completes the smaller one
larger : (before after : AnswerMap) → Extends after before → Completes after (partly before)
larger before after extends = record { extends = extends; alone = λ wrong. cc }

module _ {End : Type 0} (run : RunTree End) (known : Knowledge) where
  restarts_by : (walked : Walked End)
      → ((all : AnswerMap) → Completes all known → Says known [] (whole_run all run) walked) → Restarts run known walked
  restarts_by (Ended end after) says = (
    (says known.answers (itself known)).known_is,
    λ all completes.
        let here = says all completes in
        record {
          end_is = here.end_is;
          asked_is = here.asked_is;
          alerts_are = here.alerts_are;
          none_missing = ap (first_missing known) here.asked_is ∙ here.none_missing;
        },
  )
  restarts_by (Stopped name after) says = (
    (says known.answers (itself known)).known_is,
    λ all completes.
        let here = says all completes in record { first_is = here.first_is; asked_is = here.asked_is },
  )

  pub restarts : Restarts run known (walk run (fresh known))
  restarts = restarts_by (walk run (fresh known)) (λ all completes. says all known completes run [] [] refl)

module _ {End : Type 0} (run : RunTree End) (before after : AnswerMap) (extends : Extends after before) where
  names_by : (walked : Walked End)
      → ((all : AnswerMap) → Completes all (partly before) → Says (partly before) [] (whole_run all run) walked)
      → (name : Name) → first_missing_of before run ≡ Some name
      → names_to name (whole_run after run).asked ≡ names_to name (whole_run before run).asked
  names_by (Ended end seen) says name first =
      let here = says before (itself (partly before)) in
      let none : first_missing_of before run ≡ None =
      ap (first_missing (partly before)) here.asked_is ∙ here.none_missing in
      cc
  names_by (Stopped missing seen) says name first =
      let here = says before (itself (partly before)) in
      let there = says after (larger before after extends) in
      let same : missing ≡ name = cc in
      subst (λ (n : Name). names_to n (whole_run after run).asked ≡ names_to n (whole_run before run).asked) same
      (there.asked_is ∙ sym here.asked_is)

  pub extended : IsExtended run before after
  extended =
      record {
        same_run =
            λ none. sym
            (rest-same before after run [] (all_agree before after (whole_run before run).asked extends none));
        same_names =
            names_by (walk run (fresh (partly before)))
            (λ all completes. says all (partly before) completes run [] [] refl);
      }
