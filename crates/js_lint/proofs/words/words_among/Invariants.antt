use Rattle.std.proofs.Common.{◌≡◌, length, map}
use Rattle.js_lint.specs.Advice.{row_read, words_among}
use Rattle.js_lint.proofs.words.words_among.Given as goal

abbrev pub invariant-loop-left : goal.invariant-loop-left
invariant-loop-left l = words_among (map row_read l.left) l.advice ≡ words_among (map row_read l.rows) l.advice

abbrev pub decreases-loop-left : goal.decreases-loop-left
decreases-loop-left l = length l.left
