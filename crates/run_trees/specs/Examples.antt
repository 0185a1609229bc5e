-- Worked examples, by computation.
use Rattle.std.specs.Prelude.{◌≡◌, ℕ, List, [], ◌∷◌, true, false, Ok, Err, codes, refl}
use Rattle.std.specs.FinMap as map
use Rattle.pac_names.specs.declared.kind.NameKind.TheVariants.{V4, V6}
use Rattle.pac_names.specs.Names.{Name}
use Rattle.pac_names.specs.Comparing.{compare_names}
use Rattle.js_host.specs.Answers.{AnswerMap, partly}
use Rattle.js_host.specs.Seen.{Reply, fresh}
use Rattle.run_trees.specs.declared.abrupt.Abrupt.{Abrupt}
use Rattle.run_trees.specs.declared.abrupt.Abrupt.TheVariants.{Thrown, Returned, Broken, Continued}
use Rattle.run_trees.specs.RunTree.{RunTree, Done, Ask, Tell, Stopped, walk}
use Rattle.run_trees.specs.WholeRun.{whole_run, rest_of_run, names_to}
use Rattle.run_trees.specs.Runs.{After, Run, pure, abrupt, halt, ◌>>=◌, look_up, catching, with_last, turning, returning}

-- ---- `alert("a"); dnsResolve("x.example"); alert("b"); dnsResolve("y.example"); return "DIRECT";`

abbrev x : Name
x = record { kind = V4; text = codes "x.example" }

abbrev y : Name
y = record { kind = V4; text = codes "y.example" }

-- the IPv6 name of the same text
abbrev z : Name
z = record { kind = V6; text = codes "y.example" }

abbrev run : RunTree (List ℕ)
run = Tell (codes "a") (Ask x (λ _. Tell (codes "b") (Ask y (λ _. Done (codes "DIRECT")))))

abbrev nothing : AnswerMap
nothing = map.empty

-- over a host that knows nothing it stops at the first name, with one alert kept
pub stops_first : walk run (fresh (partly nothing))
    ≡ Stopped x (record { known = partly nothing; asked = x ∷ []; alerts = codes "a" ∷ [] })
unfolding walk
stops_first = rw (map.get-empty compare_names x) refl

-- the whole run asks both names and tells both texts
pub asks_both :
    whole_run nothing run ≡ record { end = codes "DIRECT"; asked = x ∷ y ∷ []; alerts = codes "a" ∷ codes "b" ∷ [] }
unfolding rest_of_run
asks_both = refl

-- the names up to one, which stands twice
pub up_to_the_first : names_to y (x ∷ y ∷ z ∷ y ∷ []) ≡ x ∷ y ∷ []
up_to_the_first = refl

-- ---- the words of runs

module _ (State Cause Value Target End : Type 0) where
  abbrev Part : Type 0
  Part = Run State (Abrupt Cause Value Target) End Value

  abbrev Next : Type 0
  Next = After State (Abrupt Cause Value Target) End Value

  -- a handler takes what was thrown, and not what is returned
  pub thrown_is_caught : (cause : Cause) (handler : Cause → Part)
      → catching (abrupt (Thrown cause)) handler ≡ handler cause
  thrown_is_caught cause handler = refl

  pub returned_is_not_caught : (value : Value) (handler : Cause → Part)
      → catching (abrupt (Returned value)) handler ≡ abrupt (Returned value)
  returned_is_not_caught value handler = refl

  -- neither a handler nor a last part sees the end of the whole run
  pub no_handler_sees_the_end : (end : End) (handler : Cause → Part) → catching (halt end) handler ≡ halt end
  no_handler_sees_the_end end handler = refl

  pub no_last_part_sees_the_end : (end : End) (last : Part) → with_last {A = Value} (halt end) last ≡ halt end
  no_last_part_sees_the_end end last = refl

  -- the end of a part stands where the last part comes to its end, and a return of the last part wins
  pub end_stands : (value other : Value) (after : Next)
      → with_last (abrupt (Returned value)) (pure other) after ≡ after (Err (Returned value))
  end_stands value other after = refl

  pub last_return_wins : (value other : Value) (after : Next)
      → with_last (abrupt (Returned value)) (abrupt {A = Value} (Returned other)) after ≡ after (Err (Returned other))
  last_return_wins value other after = refl

  -- a break that goes elsewhere passes a loop, and one that goes here ends it; a continue that goes here takes the next
  -- turn
  pub break_passes : (none : Value) (target : Target) (next : Part)
      → turning none (λ _. false) (abrupt (Broken target)) next ≡ abrupt (Broken target)
  break_passes none target next = refl

  pub break_leaves : (none : Value) (target : Target) (next : Part)
      → turning none (λ _. true) (abrupt (Broken target)) next ≡ pure none
  break_leaves none target next = refl

  pub continue_turns : (none : Value) (target : Target) (next : Part)
      → turning none (λ _. true) (abrupt (Continued target)) next ≡ next
  continue_turns none target next = refl

  -- a function's value is what it returns, and none where it comes to its end
  pub returned_is_its_value : (none value : Value) (after : Next)
      → returning none (abrupt (Returned value)) after ≡ after (Ok value)
  returned_is_its_value none value after = refl

  pub end_has_no_value : (none value : Value) (after : Next) → returning none (pure value) after ≡ after (Ok none)
  end_has_no_value none value after = refl

  -- no handler sees that a name is missing: the run stops there
  pub no_handler_sees_a_missing_name : (next : Reply → Part) (handler : Cause → Part) (after : Next) (state : State)
      → walk (catching (look_up x >>= next) handler after state) (fresh (partly nothing))
      ≡ Stopped x (record { known = partly nothing; asked = x ∷ []; alerts = [] })
  unfolding walk
  no_handler_sees_a_missing_name next handler after state = rw (map.get-empty compare_names x) refl
