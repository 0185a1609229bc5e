-- What `map` says, by what it reads.
use Rattle.std.proofs.Common.{◌≡◌, ◌∙◌, [], ◌∷◌, Ok, refl, ap, subst, sym}
use Rattle.pac_names.specs.Names.{Name}
use Rattle.js_host.specs.Answers.{AnswerMap, answer_in}
use Rattle.js_host.specs.Seen.{kept_alerts}
use Rattle.run_trees.specs.RunTree.{RunTree}
use Rattle.run_trees.specs.WholeRun.{WholeRun, whole_run}
use Rattle.run_trees.proofs.Answering.{rest-same}
use Rattle.js_evaluation.specs.State.{RunEnd}
use Rattle.js_evaluation.specs.Evaluation as def
use Rattle.js_evaluation.specs.Evaluation.{ending_of}
use Rattle.batch_text.specs.Batch.{Asks}
use Rattle.batch_text.specs.Names.{NamesRead}
use Rattle.batch_text.specs.Told.{told_whole, read_whole}
use Rattle.batch_text.proofs.Telling.{whole_answers_alike}
use Rattle.report_text.specs.Report.{done, report_of}
use Rattle.url_runs.specs.Mapping.{map_report}
use Rattle.pac_command.specs.Work.{work_of}
use Rattle.library_calls.specs.Settings.{given_by}
use Rattle.library_calls.specs.Finding.{Asked, asked_for, mapped_text}
use Rattle.library_calls.specs.Laws.{AnswerAlike, MapSaysTheSame, ToldAnswersAlike}

-- ---- maps that answer alike

same_run : (all answers : AnswerMap) → AnswerAlike all answers → (run : RunTree RunEnd) → whole_run all run ≡ whole_run answers run
same_run all answers alike run = rest-same all answers run [] (λ k d short. alike _)

abbrev outcome_by : WholeRun RunEnd → def.Outcome
outcome_by whole = record { ending = ending_of whole.end; alerts = kept_alerts whole.alerts }

same_text : (all answers : AnswerMap) → AnswerAlike all answers → (asked : Asked) → mapped_text all asked ≡ mapped_text answers asked
same_text all answers alike asked =
    ap (λ (whole : WholeRun RunEnd). report_of asked.batch (record { end = done (outcome_by whole); runs = 1 } ∷ []))
    (same_run all answers alike (asked.script asked.entry))

pub map_says : MapSaysTheSame
map_says all answers settings zone script names url tree seen read named alike viewed = (
  map_report answers (work_of (given_by settings zone) tree (Asks settings.moment seen ∷ [])),
  sym (same_text all answers alike (asked_for settings zone tree seen)),
  rw (read, named, viewed) refl,
)

-- ---- names that are told whole

abbrev is_read : AnswerMap → NamesRead
is_read known = Ok known

same_map : (a b : AnswerMap) → is_read a ≡ is_read b → a ≡ b
same_map a b same = cc

pub told_answers_alike : ToldAnswersAlike
told_answers_alike all answers names told named name =
    subst (λ (m : AnswerMap). answer_in m name ≡ answer_in answers name)
    (same_map (told_whole answers) all (sym (ap read_whole named) ∙ told)) (whole_answers_alike answers name)
