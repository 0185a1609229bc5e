-- What searches answer, as the definition of evaluation has it.
use Rattle.std.specs.Prelude.{List, Option, map, Result, Ok, Err}
use Rattle.js_tree.specs.declared.place.Place.{Place}
use Rattle.js_pattern.specs.Search.{Found}
use Rattle.js_regex.specs.declared.answer.FindAnswer.{FindAnswer}
use Rattle.js_regex.specs.declared.answer.FindAnswer.TheVariants as answer
use Rattle.js_regex.specs.declared.search.Match.{Match}
use Rattle.js_regex.specs.Finds.{found_of}
use Rattle.pattern_builtins.specs.Pieces.{found_in}
use Rattle.js_evaluation.specs.declared.fault.FaultCode.TheVariants as code
use Rattle.heap_steps.specs.declared.halt.Halt.{Halt}
use Rattle.heap_steps.specs.declared.halt.Halt.TheVariants as halt

abbrev pub seen_match : Result (Option Match) Halt → Result (Option Found) Halt
seen_match (Ok m) = Ok (found_of m)
seen_match (Err e) = Err e

abbrev pub seen_matches : Result (List Match) Halt → Result (List Found) Halt
seen_matches (Ok ms) = Ok (map found_in ms)
seen_matches (Err e) = Err e

-- what a search without an answer comes to
abbrev pub refusal : FindAnswer → Place → Halt
refusal answer.Spent place = halt.Fault code.FuelSpent place
refusal answer.Memory place = halt.Memory
