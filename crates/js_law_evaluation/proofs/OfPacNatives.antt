-- The functions of the proxy format have one end and ask for lookup names alone, where calls do.
use Rattle.std.proofs.Common.{◌≡◌, refl, sym, subst, ◌∙◌, ℕ, List, Option, Some, None}
use Rattle.js_tree.specs.declared.place.Place.{Place}
use Rattle.heap_values.specs.declared.value.Value.{Value}
use Rattle.run_trees.specs.RunTree.{RunTree, Walked, Ended, Stopped, walk}
use Rattle.run_trees.specs.Runs.{After, Run}
use Rattle.run_trees.specs.OneEnd.{PartEnd, Misses, followed, HasOneEnd}
use Rattle.pac_calendar.specs.declared.moment.Moments.{Moments}
use Rattle.pac_functions.specs.declared.call.PacFunction.{PacFunction}
use Rattle.pac_functions.specs.declared.call.PacFunction.TheVariants as function
use Rattle.pac_functions.specs.Addresses.{PacEnd, Gives, AsksTooMany, NeedsClock}
use Rattle.pac_functions.specs.Call.{pac_call}
use Rattle.js_evaluation.specs.PacNatives.{pac_walk, followed_by, pac_end, pac_work, pac_done}
use Rattle.js_evaluation.specs.State.{RunEnd, AfterValue}
use Rattle.js_law_evaluation.specs.Laws.{at_moment}
use Rattle.js_evaluation.proofs.Following.{walked_on, walks_on}
use Rattle.js_law_evaluation.proofs.Asking.{asking-followed_by}
use Rattle.js_law_evaluation.proofs.Clocks.{GoesAlike, GoesOn, alike-followed_by}
use Rattle.js_law_evaluation.proofs.PacAsking.{call-asks}
use Rattle.js_law_evaluation.proofs.OfState.{Ends, fails, ◌then◌, charges-ends}
use Rattle.js_law_evaluation.proofs.OfHanded.{given-ends}

-- ---- a tree, and what comes after its end

module _ {State Stop End A CallEnd : Type 0} (part : CallEnd → Run State Stop End A)
    (has : (end : CallEnd) → HasOneEnd (part end)) where
  abbrev behind : State → Walked CallEnd → PartEnd State Stop End A
  behind state (Ended end seen) = (has end).comes state seen
  behind state (Stopped name seen) = Misses name seen

  behind-followed : (after : After State Stop End A) (state : State) (walked : Walked CallEnd)
      → walked_on (λ end. part end after state) walked ≡ followed after (behind state walked)
  behind-followed after state (Ended end seen) = (has end).is after state seen
  behind-followed after state (Stopped name seen) = refl

  -- a tree that the state tells, followed by parts that have one end
  one_end-followed_by : (tree : State → RunTree CallEnd)
      → HasOneEnd (λ after state. followed_by (tree state) (λ end. part end after state))
  one_end-followed_by tree =
      record {
        comes = λ state seen. behind state (walk (tree state) seen);
        is = λ after state seen. walks_on (λ end. part end after state) (tree state) seen
            ∙ behind-followed after state (walk (tree state) seen);
      }

-- ---- the work of a function

pac_end-ends : (place : Place) (end : PacEnd) → Ends (pac_end place end)
pac_end-ends place (Gives v) = given-ends v place
pac_end-ends place AsksTooMany = fails _ place
pac_end-ends place NeedsClock = fails _ place

-- a function that is no range is called alike without a clock; a range is a fault then
module _ (last : AfterValue) (m : Moments) (one other : PacEnd → RunTree RunEnd)
    (alike : (end : PacEnd) → GoesOn last m (one end) (other end))
    (stops : (run : RunTree RunEnd) → GoesOn last m (one NeedsClock) run) where
  call-alike : (f : PacFunction) (vs : List Value) (my_ip : ℕ)
      → GoesOn last m (followed_by (pac_call f vs None my_ip) one) (followed_by (pac_call f vs (Some m) my_ip) other)
  unfolding followed_by
  call-alike function.WeekdayRange vs my_ip = stops _
  call-alike function.DateRange vs my_ip = stops _
  call-alike function.TimeRange vs my_ip = stops _
  call-alike f vs my_ip = alike-followed_by last m one other alike (pac_call f vs None my_ip)

work-alike : (f : PacFunction) (vs : List Value) (place : Place) → GoesAlike (pac_work f vs place)
unfolding GoesOn
work-alike f vs place last m one other rest s hidden =
    subst (λ (now : Option Moments). GoesOn last m
    (followed_by (pac_call f vs now s.settings.my_ip) (λ end. pac_end place end one s))
    (followed_by (pac_call f vs (Some m) s.settings.my_ip) (λ end. pac_end place end other (at_moment m s))))
    (sym hidden)
    (call-alike last m (λ end. pac_end place end one s) (λ end. pac_end place end other (at_moment m s))
    (λ end. (pac_end-ends place end).alike last m one other rest s hidden) (λ run. tt) f vs s.settings.my_ip)

pac_work-ends : (f : PacFunction) (vs : List Value) (place : Place) → Ends (pac_work f vs place)
pac_work-ends f vs place =
    record {
      one_end = one_end-followed_by (pac_end place) (λ end. (pac_end-ends place end).one_end)
          (λ state. pac_call f vs state.now state.settings.my_ip);
      asks = λ after rest state. asking-followed_by (pac_call f vs state.now state.settings.my_ip)
          (λ end. pac_end place end after state) (call-asks f vs state.now state.settings.my_ip)
          (λ end. (pac_end-ends place end).asks after rest state);
      alike = work-alike f vs place;
    }

pub pac_done-ends : (f : PacFunction) (vs : List Value) (place : Place) → Ends (pac_done f vs place)
pac_done-ends f vs place = charges-ends (pac_walk f vs) place then pac_work-ends f vs place
