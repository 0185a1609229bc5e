-- Each word makes parts that go alike, whether clocks are shown or not, of parts that do: as far as they ask nothing and
-- have no fault.
use Rattle.std.proofs.Common.{◌≡◌, refl, sym, subst, ◌∙◌, List, ℕ, Bool, true, false, if◌then◌else◌, Option, Some, None, Result, Ok, Err}
use Rattle.run_trees.specs.declared.abrupt.Abrupt.TheVariants.{Thrown, Returned, Broken, Continued}
use Rattle.run_trees.specs.RunTree.{RunTree, Done, Ask, Tell}
use Rattle.run_trees.specs.Runs.{After, ends, halt, onward, ◌>>=◌, last_then, with_last, reading, changing, caught, catching, broken_at, breaking, turned, turning, returned_to, returning}
use Rattle.heap_values.specs.declared.value.Value.{Value}
use Rattle.pac_calendar.specs.declared.moment.Moments.{Moments}
use Rattle.js_evaluation.specs.declared.fault.Fault.{Fault}
use Rattle.js_evaluation.specs.declared.thrown.Thrown.{Thrown as Cause}
use Rattle.js_evaluation.specs.PacNatives.{followed_by}
use Rattle.js_evaluation.specs.State.{RunState, RunEnd, Comes, Faults, Stop, Does, AfterValue}
use Rattle.js_law_evaluation.specs.Laws.{at_moment}

-- The other run tells the same texts, and goes on where the first comes to its end, at this moment. Of a first run that
-- asks for a name, or has a fault, nothing is said.
unfoldable pub GoesOn : AfterValue → Moments → RunTree RunEnd → RunTree RunEnd → Type 0
GoesOn last m (Done (Comes result s)) other = other ≡ last result (at_moment m s)
GoesOn last m (Done (Faults f)) other = Unit {0}
GoesOn last m (Ask name next) other = Unit {0}
GoesOn last m (Tell text next) other = (rest : RunTree RunEnd) × (other ≡ Tell text rest) × GoesOn last m next rest

-- each way to go on does, from a state to which no clock is shown
abbrev pub AllGoOn : {A : Type 0} → AfterValue → Moments → After RunState Stop RunEnd A → After RunState Stop RunEnd A → Type 0
AllGoOn {A} last m one other =
    (result : Result A Stop) (s : RunState) → s.now ≡ None → GoesOn last m (one result s) (other result (at_moment m s))

-- A part goes alike, where what comes after it does.
abbrev pub GoesAlike : {A : Type 0} → Does A → Type 0
GoesAlike {A} part =
    (last : AfterValue) (m : Moments) (one other : After RunState Stop RunEnd A) → AllGoOn last m one other
    → (s : RunState) → s.now ≡ None → GoesOn last m (part one s) (part other (at_moment m s))

-- what a part does after it has read the state, and a change of the state, go by all but what clocks show
abbrev pub SeesNoClock : {A : Type 0} → (RunState → Does A) → Type 0
SeesNoClock part = (m : Moments) (s : RunState) → part (at_moment m s) ≡ part s

abbrev pub KeepsClock : (RunState → RunState) → Type 0
KeepsClock change = (m : Moments) (s : RunState) → (change (at_moment m s) ≡ at_moment m (change s)) × ((change s).now ≡ s.now)

pub alike-ends : {A : Type 0} (result : Result A Stop) → GoesAlike (ends result)
alike-ends result last m one other rest s hidden = rest result s hidden

pub alike-halt : {A : Type 0} (f : Fault) → GoesAlike {A = A} (halt (Faults f))
unfolding GoesOn
alike-halt f last m one other rest s hidden = tt

pub alike-reading : {A : Type 0} (part : RunState → Does A) → SeesNoClock part → ((s : RunState) → GoesAlike (part s))
    → GoesAlike (reading part)
alike-reading {A} part same alike last m one other rest s hidden =
    subst (λ (p : Does A). GoesOn last m (part s one s) (p other (at_moment m s))) (sym (same m s)) (alike s last m one other rest s hidden)

pub alike-changing : (change : RunState → RunState) → KeepsClock change → GoesAlike (changing change)
alike-changing change keeps last m one other rest s hidden =
    subst (λ (t : RunState). GoesOn last m (one (Ok tt) (change s)) (other (Ok tt) t)) (sym (keeps m s).0)
    (rest (Ok tt) (change s) ((keeps m s).1 ∙ hidden))

-- ---- words that change what comes after

onward-alike : {A B : Type 0} (next : A → Does B) → ((value : A) → GoesAlike (next value))
    → (last : AfterValue) (m : Moments) (one other : After RunState Stop RunEnd B) → AllGoOn last m one other
    → AllGoOn last m (onward next one) (onward next other)
onward-alike next alike last m one other rest (Ok value) s hidden = alike value last m one other rest s hidden
onward-alike next alike last m one other rest (Err stop) s hidden = rest (Err stop) s hidden

pub alike-next : {A B : Type 0} (part : Does A) (next : A → Does B) → GoesAlike part → ((value : A) → GoesAlike (next value))
    → GoesAlike (part >>= next)
alike-next part next before alike last m one other rest =
    before last m (onward next one) (onward next other) (onward-alike next alike last m one other rest)

pub alike-with_last : {A B : Type 0} (part : Does A) (final : Does B) → GoesAlike part → GoesAlike final
    → GoesAlike (with_last part final)
alike-with_last part final before alike last m one other rest =
    before last m (last_then final one) (last_then final other)
    (λ result. alike-next final (λ _. ends result) alike (λ _. alike-ends result) last m one other rest)

pub alike-if : {A : Type 0} (b : Bool) (one other : Does A) → GoesAlike one → GoesAlike other → GoesAlike (if b then one else other)
alike-if true one other alike alike_other = alike
alike-if false one other alike alike_other = alike_other

-- either way, where the choice is made of what comes after
chosen : (last : AfterValue) (m : Moments) (b : Bool) (one one' other other' : RunState → RunTree RunEnd)
    → ((s : RunState) → s.now ≡ None → GoesOn last m (one s) (other (at_moment m s)))
    → ((s : RunState) → s.now ≡ None → GoesOn last m (one' s) (other' (at_moment m s)))
    → (s : RunState) → s.now ≡ None → GoesOn last m ((if b then one else one') s) ((if b then other else other') (at_moment m s))
chosen last m true one one' other other' has has_other = has
chosen last m false one one' other other' has has_other = has_other

caught-alike : {A : Type 0} (handler : Cause → Does A) → ((cause : Cause) → GoesAlike (handler cause))
    → (last : AfterValue) (m : Moments) (one other : After RunState Stop RunEnd A) → AllGoOn last m one other
    → AllGoOn last m (caught handler one) (caught handler other)
caught-alike handler alike last m one other rest (Ok value) = rest (Ok value)
caught-alike handler alike last m one other rest (Err (Thrown cause)) = alike cause last m one other rest
caught-alike handler alike last m one other rest (Err stop) = rest (Err stop)

pub alike-catching : {A : Type 0} (part : Does A) (handler : Cause → Does A) → GoesAlike part
    → ((cause : Cause) → GoesAlike (handler cause)) → GoesAlike (catching part handler)
alike-catching part handler before alike last m one other rest =
    before last m (caught handler one) (caught handler other) (caught-alike handler alike last m one other rest)

broken-alike : {A : Type 0} (nothing : A) (is_here : Unit {0} → Bool)
    → (last : AfterValue) (m : Moments) (one other : After RunState Stop RunEnd A) → AllGoOn last m one other
    → AllGoOn last m (broken_at nothing is_here one) (broken_at nothing is_here other)
broken-alike nothing is_here last m one other rest (Ok value) = rest (Ok value)
broken-alike nothing is_here last m one other rest (Err (Broken target)) =
    chosen last m (is_here target) (one (Ok nothing)) (one (Err (Broken target))) (other (Ok nothing)) (other (Err (Broken target)))
    (rest _) (rest _)
broken-alike nothing is_here last m one other rest (Err stop) = rest (Err stop)

pub alike-breaking : {A : Type 0} (nothing : A) (is_here : Unit {0} → Bool) (part : Does A) → GoesAlike part
    → GoesAlike (breaking nothing is_here part)
alike-breaking nothing is_here part before last m one other rest =
    before last m (broken_at nothing is_here one) (broken_at nothing is_here other) (broken-alike nothing is_here last m one other rest)

turned-alike : {A : Type 0} (nothing : A) (is_here : Unit {0} → Bool) (next : Does A) → GoesAlike next
    → (last : AfterValue) (m : Moments) (one other : After RunState Stop RunEnd A) → AllGoOn last m one other
    → AllGoOn last m (turned nothing is_here next one) (turned nothing is_here next other)
turned-alike nothing is_here next alike last m one other rest (Ok value) = alike last m one other rest
turned-alike nothing is_here next alike last m one other rest (Err (Broken target)) =
    chosen last m (is_here target) (one (Ok nothing)) (one (Err (Broken target))) (other (Ok nothing)) (other (Err (Broken target)))
    (rest _) (rest _)
turned-alike nothing is_here next alike last m one other rest (Err (Continued target)) =
    chosen last m (is_here target) (next one) (one (Err (Continued target))) (next other) (other (Err (Continued target)))
    (alike last m one other rest) (rest _)
turned-alike nothing is_here next alike last m one other rest (Err stop) = rest (Err stop)

pub alike-turning : {A : Type 0} (nothing : A) (is_here : Unit {0} → Bool) (body next : Does A) → GoesAlike body → GoesAlike next
    → GoesAlike (turning nothing is_here body next)
alike-turning nothing is_here body next before alike last m one other rest =
    before last m (turned nothing is_here next one) (turned nothing is_here next other) (turned-alike nothing is_here next alike last m one other rest)

returned-alike : (nothing : Value) (last : AfterValue) (m : Moments) (one other : AfterValue) → AllGoOn last m one other
    → AllGoOn last m (returned_to nothing one) (returned_to nothing other)
returned-alike nothing last m one other rest (Ok value) = rest (Ok nothing)
returned-alike nothing last m one other rest (Err (Returned value)) = rest (Ok value)
returned-alike nothing last m one other rest (Err stop) = rest (Err stop)

pub alike-returning : (nothing : Value) (body : Does Value) → GoesAlike body → GoesAlike (returning nothing body)
alike-returning nothing body before last m one other rest =
    before last m (returned_to nothing one) (returned_to nothing other) (returned-alike nothing last m one other rest)

-- ---- a tree, and what comes after its end

module _ {A : Type 0} (last : AfterValue) (m : Moments) (one other : A → RunTree RunEnd)
    (alike : (end : A) → GoesOn last m (one end) (other end)) where
  pub alike-followed_by : (tree : RunTree A) → GoesOn last m (followed_by tree one) (followed_by tree other)
  unfolding GoesOn followed_by
  alike-followed_by (Done end) = alike end
  alike-followed_by (Ask name next) = tt
  alike-followed_by (Tell text tree) = (followed_by tree other, refl, alike-followed_by tree)
