use Rattle.std.proofs.Common.{Option, ℕ, ◌+◌, ◌∙◌, sym, ap, length, arith}
use Rattle.dns_name.specs.Walk.{rest_of}
use Rattle.dns_name.proofs.WalkLaws.{skipped, within_or, skipped_whole, skipped_end, skipped_label, skipped_long, skipped_pointer, rest_at_high_pointer, rest_at_neither}
use Rattle.dns_name.proofs.skip.skip_name.Goals as goal

pub parts-init : goal.parts-init
parts-init c = (skipped_whole c.args.message.now c.args.at, omega arith, tt)

pub returns-in-End-clause-behind : goal.returns-in-End-clause-behind
returns-in-End-clause-behind c =
    c.or.ensures ∙ skipped_end c.args.message.now c.parts.piece c.parts.at c.parts.length c.parts.behind (sym c.in-End.ensures.part) c.parts.invariant.1
    ∙ sym c.parts.invariant.0

pub returns-then-length-gt255-clause-behind : goal.returns-then-length-gt255-clause-behind
returns-then-length-gt255-clause-behind c =
    sym (c.parts.invariant.0 ∙ skipped_label c.args.message.now c.parts.piece c.parts.at c.parts.length c.in-Label.octets c.parts.behind (sym c.in-Label.ensures.part)
    ∙ skipped_long _ c.parts.behind _ c.if-length-gt255.true)

pub parts-preserved-in-Label : goal.parts-preserved-in-Label
parts-preserved-in-Label c =
    (c.parts.invariant.0 ∙ skipped_label c.args.message.now c.parts.piece c.parts.at c.parts.length c.in-Label.octets c.parts.behind (sym c.in-Label.ensures.part), omega arith, c.parts.invariant.2)

pub returns-then-target-piece-clause-behind : goal.returns-then-target-piece-clause-behind
returns-then-target-piece-clause-behind c =
    sym (c.parts.invariant.0 ∙ ap (skipped c.parts.length c.parts.behind)
    (rest_at_high_pointer c.args.message.now c.parts.piece c.parts.at c.in-Pointer.target (sym c.in-Pointer.ensures.part) c.if-target-piece.true))

pub parts-preserved : goal.parts-preserved
parts-preserved c = (
  c.parts.invariant.0
      ∙ skipped_pointer c.args.message.now c.parts.piece c.parts.at c.parts.length c.in-Pointer.target c.parts.behind (sym c.in-Pointer.ensures.part) c.if-target-piece.false
      ∙ ap (λ (first : Option ℕ). skipped c.parts.length first (rest_of c.args.message.now c.in-Pointer.target c.in-Pointer.target)) (sym c.or-behind.ensures),
  c.parts.invariant.1,
  rw c.or-behind.ensures (within_or c.parts.behind (c.parts.at + 2) (length c.args.message.now) c.parts.invariant.2 (omega (arith, c.in-Pointer.ensures.whole))),
)

pub returns-in-Neither-clause-behind : goal.returns-in-Neither-clause-behind
returns-in-Neither-clause-behind c =
    sym (c.parts.invariant.0 ∙ ap (skipped c.parts.length c.parts.behind) (rest_at_neither c.args.message.now c.parts.piece c.parts.at (sym c.in-Neither.ensures.part)))

pub returns-in-End-clause-within : goal.returns-in-End-clause-within
returns-in-End-clause-within c = rw c.or.ensures (within_or c.parts.behind (c.parts.at + 1) (length c.args.message.now) c.parts.invariant.2 (omega (arith, c.in-End.ensures.whole)))
