-- The names of a run are distinct, and few.
use Rattle.std.proofs.Common.{◌≡◌, ◌<◌, refl, List, [], ◌∷◌, ◌++◌, length, Bool, true, false, not, ◌&&◌, if◌then◌else◌, arith, length-append}
use Rattle.std.specs.Prelude.{nat_le}
use Rattle.std.specs.List.{IsDistinct}
use Rattle.std.proofs.lemmas.Bool.{leb-false}
use Rattle.std.proofs.lemmas.Map.Keys.{IsDistinct-push}
use Rattle.pac_names.specs.Names.{Name}
use Rattle.js_host.specs.Answers.{AnswerMap}
use Rattle.js_host.specs.Seen.{was_asked}
use Rattle.run_trees.specs.RunTree.{RunTree, Done, Ask, Tell}
use Rattle.run_trees.specs.WholeRun.{rest_of_run, reply_of, asked_with}
use Rattle.run_trees.specs.Laws.{AreFew}
use Rattle.pac_names.specs.declared.limits.TheConstants.{MOST_NAMES}
use Rattle.pac_names.specs.Comparing.{names_equal}

few_by : (asked : List Name) (name : Name) → AreFew asked → (many : Bool) → nat_le MOST_NAMES (length asked) ≡ many
    → (was : Bool) → was_asked asked name ≡ was
    → AreFew (if many && not was then asked else (if was then asked else asked ++ name ∷ []))
few_by asked name few true m true w = few
few_by asked name few true m false w = few
few_by asked name few false m true w = few
few_by asked name few false m false w =
    let room : length asked < MOST_NAMES = leb-false MOST_NAMES (length asked) m in
    record {
      distinct = IsDistinct-push names_equal asked name few.distinct w;
      few = rw (length-append asked (name ∷ [])) (omega arith);
    }

pub few-rest : {End : Type 0} (all : AnswerMap) (run : RunTree End) (asked : List Name) → AreFew asked
    → AreFew (rest_of_run all run asked).asked
unfolding rest_of_run
few-rest all (Done end) asked few = few
few-rest all (Tell text next) asked few = few-rest all next asked few
few-rest all (Ask name next) asked few =
    few-rest all (next (reply_of all asked name)) (asked_with asked name)
    (few_by asked name few (nat_le MOST_NAMES (length asked)) refl (was_asked asked name) refl)

pub few-none : AreFew []
unfolding IsDistinct
few-none = record { distinct = tt; few = omega arith }
