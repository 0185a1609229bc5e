-- The functions of the proxy format.
use Rattle.std.proofs.Common.{ℕ, List, ◌≡◌, ap}
use Rattle.js_tree.specs.declared.place.Place.{Place}
use Rattle.heap_values.specs.declared.value.Value.{Value}
use Rattle.pac_functions.specs.declared.call.PacFunction.{PacFunction}
use Rattle.pac_functions.specs.Addresses.{PacEnd, Gives, AsksTooMany, NeedsClock}
use Rattle.pac_functions.specs.Call.{pac_call}
use Rattle.run_trees.specs.RunTree.{RunTree, Done, Ask, Tell}
use Rattle.js_evaluation.specs.State.{RunState}
use Rattle.js_evaluation.specs.PacNatives.{pac_walk, followed_by, pac_end, pac_work, pac_done}
use Rattle.js_law_right.specs.Right.{Setting}
use Rattle.js_law_names.proofs.Worlds.{later_self}
use Rattle.js_law_names.proofs.Agreeing.{Agrees, fails, ◌then◌}
use Rattle.js_law_names.proofs.OfState.{charges-agrees}
use Rattle.js_law_names.proofs.OfHanded.{given-agrees}

followed_same : {A B : Type 0} (tree : RunTree A) (f g : A → RunTree B) → ((a : A) → f a ≡ g a)
    → followed_by tree f ≡ followed_by tree g
unfolding followed_by
followed_same (Done a) f g h = h a
followed_same (Ask name go) f g h = ap (Ask name) (λ i reply. followed_same (go reply) f g h i)
followed_same (Tell text tree) f g h = ap (Tell text) (followed_same tree f g h)

module _ {setting : ℕ → Setting} where
  pac_end-agrees : {z : RunState} (place : Place) (end : PacEnd) → Agrees setting z (pac_end place end) (pac_end place end)
  pac_end-agrees place (Gives v) = given-agrees v place
  pac_end-agrees place AsksTooMany = fails _ place
  pac_end-agrees place NeedsClock = fails _ place

  pub pac_work-agrees : {z : RunState} (f : PacFunction) (vs : List Value) (place : Place)
      → Agrees setting z (pac_work f vs place) (pac_work f vs place)
  pac_work-agrees f vs place = record {
    agree = λ t l fine k k' w. followed_same (pac_call f vs t.now t.settings.my_ip) _ _ (λ end. (pac_end-agrees place end).agree t (later_self t) fine k k' w);
  }

  pub pac_done-agrees : {z : RunState} (f : PacFunction) (vs : List Value) (place : Place)
      → Agrees setting z (pac_done f vs place) (pac_done f vs place)
  pac_done-agrees f vs place = charges-agrees (pac_walk f vs) place then pac_work-agrees f vs place
