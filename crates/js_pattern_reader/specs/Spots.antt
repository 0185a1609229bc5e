-- Where a reader of the code stands.
use Rattle.std.specs.Prelude.{Result}
use Rattle.js_pattern_reader.specs.declared.answer.PatternAnswer.{PatternAnswer}
use Rattle.js_pattern_reader.specs.declared.pieces.Cursor.{Cursor}
use Rattle.js_pattern_reader.specs.Answers.{Gives}
use Rattle.js_pattern_reader.specs.Pieces.{Spot, spot}

abbrev pub spot_of : Cursor → Spot
spot_of c = spot c.rest.now c.groups

abbrev pub ReadsAt : {A : Type 0} → Result (A × Spot) PatternAnswer → Result (A × Cursor) PatternAnswer → Type 0
ReadsAt read r = Gives (λ x. (x.0, spot_of x.1)) r read
