use Rattle.std.proofs.Common.{◌∙◌, sym, subst, get_or, add-one}
use Rattle.std.proofs.lemmas.Option.{slice_get-get_or}
use Rattle.heap_elements.proofs.RowLemmas.{NoneBefore, NoneBefore-more, StandsAt-from, IsMissing-from}
use Rattle.heap_elements.proofs.row.place_in.Goals as goal

pub returns-then-is_same-clause-found : goal.returns-then-is_same-clause-found
returns-then-is_same-clause-found c =
    StandsAt-from c.args.row.now c.args.name.now c.loop-at.at (get_or c.args.row.now c.loop-at.at c.index-row-at.result) c.loop-at.invariant
    (slice_get-get_or c.args.row.now c.loop-at.at c.index-row-at.result c.loop-at-test.true)
    (sym c.is_same.ensures ∙ c.if-is_same.true)

pub loop-at-preserved : goal.loop-at-preserved
loop-at-preserved c =
    subst (NoneBefore c.args.row.now c.args.name.now) (sym (add-one c.loop-at.at))
    (NoneBefore-more c.args.row.now c.args.name.now c.loop-at.at (get_or c.args.row.now c.loop-at.at c.index-row-at.result) c.loop-at.invariant
    (slice_get-get_or c.args.row.now c.loop-at.at c.index-row-at.result c.loop-at-test.true)
    (sym c.is_same.ensures ∙ c.if-is_same.false))

pub returns-clause-missing : goal.returns-clause-missing
returns-clause-missing c = IsMissing-from c.args.row.now c.args.name.now c.loop-at.at c.loop-at.invariant c.loop-at-test.false
