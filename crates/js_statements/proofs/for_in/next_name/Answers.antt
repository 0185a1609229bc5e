use Rattle.std.proofs.Common.{refl, sym, ◌∙◌}
use Rattle.js_machine.proofs.Steps.{forgets}
use Rattle.js_statements.proofs.Listing.{names_end, turn_kept, turn_gone}
use Rattle.js_statements.proofs.for_in.next_name.Goals as goal

pub loop-name-init : goal.loop-name-init
loop-name-init c = record { same = λ last. refl; unmoved = refl; held = refl }

pub returns-in_err-is_listed : goal.returns-in_err-is_listed
returns-in_err-is_listed c = forgets _ _ c.from_residual.ensures.1 refl

pub returns-then-branch : goal.returns-then-branch
returns-then-branch c = rw (c.loop-name.invariant.unmoved, c.loop-name.invariant.held) at (turn_kept c.loop-name.machine c.args.looped _ c.args.names c.loop-name.names c.loop-name.invariant.same c.in-Some.name _ c.in-Some.ensures (sym c.in_ok-is_listed.ensures ∙ c.if-branch.true) c.with_name.ensures)

pub loop-name-preserved : goal.loop-name-preserved
loop-name-preserved c = record {
  same = turn_gone c.loop-name.machine c.args.looped _ c.args.names c.loop-name.names c.loop-name.invariant.same c.in-Some.name _ c.in-Some.ensures (sym c.in_ok-is_listed.ensures ∙ c.if-branch.false);
  unmoved = c.loop-name.invariant.unmoved;
  held = c.loop-name.invariant.held;
}

pub returns : goal.returns
returns c = rw c.loop-name.invariant.unmoved (rw (c.loop-name.invariant.unmoved, c.loop-name.invariant.held) at (names_end c.loop-name.machine c.args.looped _ c.args.names c.loop-name.names c.loop-name.invariant.same c.in_default.ensures))
