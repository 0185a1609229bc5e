-- Answers to lookup names: maps, and what is known of all names.
use Rattle.std.specs.Prelude.{◌≡◌, List, Bool, true, false, Option, Some, None, is_none, find, unwrap_or}
use Rattle.std.specs.FinMap as map
use Rattle.pac_names.specs.declared.answer.Answer.{Answer}
use Rattle.pac_names.specs.declared.answer.Answer.TheVariants.{NoAddress}
use Rattle.pac_names.specs.Names.{Name}
use Rattle.pac_names.specs.Comparing.{compare_names}

-- a finite map from names to answers
abbrev pub AnswerMap : Type 0
AnswerMap = map.FinMap {K = Name} compare_names Answer

-- the answer that a map gives: a name outside has no address
abbrev pub answer_in : AnswerMap → Name → Answer
answer_in answers name = unwrap_or (map.get answers name) NoAddress

-- each pair of `before` is in `after`
abbrev pub Extends : AnswerMap → AnswerMap → Type 0
Extends after before =
    (name : Name) (answer : Answer) → map.get before name ≡ Some answer → map.get after name ≡ Some answer

-- What is known of names: some answers, and whether each other name is known to have no address.
pub record Knowledge : Type 0 where
  pub answers : AnswerMap
  pub is_whole : Bool

-- these answers, and nothing of any other name
abbrev pub partly : AnswerMap → Knowledge
partly answers = record { answers = answers; is_whole = false }

-- these answers, and that no other name has an address
abbrev pub wholly : AnswerMap → Knowledge
wholly answers = record { answers = answers; is_whole = true }

-- an answer that is there, or else NoAddress where all is known
abbrev pub or_no_address : Bool → Option Answer → Option Answer
or_no_address is_whole (Some answer) = Some answer
or_no_address true None = Some NoAddress
or_no_address false None = None

-- the answer that is known for a name
abbrev pub known_answer : Knowledge → Name → Option Answer
known_answer known name = or_no_address known.is_whole (map.get known.answers name)

-- the first of these names for which no answer is known
abbrev pub first_missing : Knowledge → List Name → Option Name
first_missing known names = find (λ name. is_none (known_answer known name)) names

-- A map of all names as far as it is known: it extends the answers, and is them alone where each other name is known to
-- have no address.
pub record Completes (all : AnswerMap) (known : Knowledge) : Type 0 where
  pub extends : Extends all known.answers
  pub alone : known.is_whole ≡ true → all ≡ known.answers
