use Rattle.std.proofs.Common.{◌++◌, sym, ap, ◌∙◌}
use Rattle.js_native_calls.proofs.Texts.{joined_none, joined_name, joined_both, never}
use Rattle.js_native_calls.proofs.errors.joined.Goals as goal

pub returns-then-is_empty : goal.returns-then-is_empty
returns-then-is_empty c = rw (joined_none _ _ (c.is_empty.ensures.0 c.if-is_empty.true)) c.copy.ensures

pub returns-then-is_empty-2 : goal.returns-then-is_empty-2
returns-then-is_empty-2 c = rw (joined_name _ _ (never _ c.is_empty.ensures.1 c.if-is_empty.false) (c.is_empty-2.ensures.0 c.if-is_empty-2.true)) c.copy-then-is_empty-2.ensures

pub returns : goal.returns
returns c = c.in_ok-text.ensures ∙ ap (λ b. c.args.name.now ++ b) (c.in_ok-behind.ensures ∙ ap (λ x. x ++ c.args.message.now) c.in_ok-separator.ensures) ∙ sym (joined_both _ _ (never _ c.is_empty.ensures.1 c.if-is_empty.false) (never _ c.is_empty-2.ensures.1 c.if-is_empty-2.false))
