use Rattle.std.proofs.Common.{sym, ◌∙◌}
use Rattle.pac_words.proofs.Digits.{past_range}
use Rattle.pac_words.proofs.number.number.Goals as goal

pub returns-in-Err : goal.returns-in-Err
returns-in-Err c = record {
  number = past_range c.args.low c.args.high c.args.text.now c.in-Err.field-0 c.in-Err.ensures.value.0 (sym c.looks_a_number.ensures ∙ c.if-not-looks_a_number.false) c.ranges.high.fits;
  range = tt;
}
