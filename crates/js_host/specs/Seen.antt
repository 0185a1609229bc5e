-- What a host knows and has written down of a run, and what its calls do to that record.
use Rattle.std.specs.Prelude.{◌≡◌, ℕ, List, [], ◌∷◌, ◌++◌, Bool, not, ◌&&◌, nat_lt, nat_le, if◌then◌else◌, length, take, map, Option, Some, None}
use Rattle.std.specs.List.{list_any}
use Rattle.pac_names.specs.declared.answer.Answer.{Answer}
use Rattle.js_host.specs.declared.host.Looked.{Looked}
use Rattle.js_host.specs.declared.host.Looked.TheVariants.{Known, Missing, TooMany, Memory}
use Rattle.pac_names.specs.Names.{Name}
use Rattle.pac_names.specs.Comparing.{same_name}
use Rattle.js_host.specs.Answers.{Knowledge, known_answer}
use Rattle.js_host.specs.declared.limits.TheConstants.{MOST_ALERTS, MOST_UNITS}
use Rattle.pac_names.specs.declared.limits.TheConstants.{MOST_NAMES}

-- what is known, the distinct names that were asked, in order, and the alerts that were kept
pub record Seen : Type 0 where
  pub known : Knowledge
  pub asked : List Name
  pub alerts : List (List ℕ)

-- nothing asked yet, and no alert
abbrev pub fresh : Knowledge → Seen
fresh known = record { known = known; asked = []; alerts = [] }

-- ---- names

-- the name was asked before
abbrev pub was_asked : List Name → Name → Bool
was_asked asked name = list_any (same_name name) asked

-- the most names were asked, and this is another
abbrev pub is_one_too_many : List Name → Name → Bool
is_one_too_many asked name = nat_le MOST_NAMES (length asked) && not (was_asked asked name)

-- with this name at the end, unless it was asked before
abbrev pub with_name : List Name → Name → List Name
with_name asked name = if was_asked asked name then asked else asked ++ name ∷ []

-- what a run is told of a name: an answer, or that it has asked too many
pub data Reply : Type 0 where
  Answered : Answer → Reply
  Refused : Reply

-- what a host does with a name: it replies, or it knows no answer; and its record then
pub data Lookup : Type 0 where
  Replies : Reply → Seen → Lookup
  Lacks : Seen → Lookup

-- with the answer that is known, if there is one
abbrev pub lookup_by : Option Answer → Seen → Lookup
lookup_by (Some answer) seen = Replies (Answered answer) seen
lookup_by None seen = Lacks seen

-- what a lookup of a name does
abbrev pub looked_up : Seen → Name → Lookup
looked_up seen name =
    if is_one_too_many seen.asked name then Replies Refused seen
    else lookup_by (known_answer seen.known name) (record seen { asked = with_name seen.asked name })

-- the code's answer and the record behind it are those of a lookup; after Memory the record is as before
abbrev pub LooksUp : Lookup → Seen → Looked → Seen → Type 0
LooksUp lookup before (Known answer) after = lookup ≡ Replies (Answered answer) after
LooksUp lookup before Missing after = lookup ≡ Lacks after
LooksUp lookup before TooMany after = lookup ≡ Replies Refused after
LooksUp lookup before Memory after = after ≡ before

-- ---- alerts

-- with one alert more, cut, unless the most are kept
abbrev pub with_alert : List (List ℕ) → List ℕ → List (List ℕ)
with_alert alerts text = if nat_lt (length alerts) MOST_ALERTS then alerts ++ take MOST_UNITS text ∷ [] else alerts

-- what an alert does
abbrev pub alerted : Seen → List ℕ → Seen
alerted seen text = record seen { alerts = with_alert seen.alerts text }

-- what is kept of all alerts of a run: the first of them, each cut
abbrev pub kept_alerts : List (List ℕ) → List (List ℕ)
kept_alerts alerts = map (take MOST_UNITS) (take MOST_ALERTS alerts)
