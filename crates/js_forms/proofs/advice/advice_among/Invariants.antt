use Rattle.std.proofs.Common.{◌≡◌, length, map}
use Rattle.js_forms.specs.Forms.{advice_among, form_read}
use Rattle.js_forms.proofs.advice.advice_among.Given as goal

-- no form that was passed fits
abbrev pub invariant-loop-left : goal.invariant-loop-left
invariant-loop-left l = advice_among (map form_read l.left) l.kind l.last l.first ≡ advice_among (map form_read l.rows) l.kind l.last l.first

abbrev pub decreases-loop-left : goal.decreases-loop-left
decreases-loop-left l = length l.left
