use Rattle.std.proofs.Common.{drop, sym, ◌∙◌}
use Rattle.heap_steps.proofs.Lists.{list_step, list_rest, list_end}
use Rattle.js_expressions.proofs.SuffixSteps.{spent_suffix, last_charged, next_charged, member_then, member_stops, index_then, index_stops, index_visited, element_then, element_stops}
use Rattle.js_expressions.proofs.suffixes.suffixes_from.Goals as goal
use Rattle.js_expressions.proofs.suffixes.suffixes_from.Goals.{in-Member+in_ok-found-in-Member, in-Index+in_ok-key-in-Index+in-Some+in_default-key+in_ok-found-in_default-key}

pub loop-left-init : goal.loop-left-init
loop-left-init c = λ r m k. k

pub returns-in_err-charge : goal.returns-in_err-charge
returns-in_err-charge c = c.loop-left.invariant _ _ (rw (list_step _ _ c.suffix-item.is c.in-len1-up.len_at_least) (spent_suffix c.loop-left.machine _ _ _ _ _ _ _ _ _ c.from_residual.ensures.1 c.in_err-charge.ensures.spent))

pub returns-then-is_last : goal.returns-then-is_last
returns-then-is_last c = c.loop-left.invariant _ _ (rw (list_step _ _ c.suffix-item.is c.in-len1-up.len_at_least) (last_charged c.loop-left.machine _ _ _ _ _ _ _ c.in_ok-charge.ensures.ok _ _ (rw (list_rest c.loop-left.left.now) at (sym c.is_last.ensures ∙ c.if-is_last.true)) c.last_of_target.ensures))

pub returns-in_err-found-in-Member : goal.returns-in_err-found-in-Member
returns-in_err-found-in-Member c = c.loop-left.invariant _ _ (rw (list_step _ _ c.suffix-item.is c.in-len1-up.len_at_least) (next_charged c.loop-left.machine _ _ _ _ _ _ _ c.in_ok-charge.ensures.ok _ _ (rw (list_rest c.loop-left.left.now) at (sym c.is_last.ensures ∙ c.if-is_last.false)) (rw c.in-Member.is (member_stops _ c.args.aim c.loop-left.this c.loop-left.value c.suffix-item.result.place c.in-Member.name (drop 1 c.loop-left.left.now) _ _ _ c.from_residual-in_err-found-in-Member.ensures.1 c.in_err-found-in-Member.ensures))))

pub returns-in_err-key-in-Index : goal.returns-in_err-key-in-Index
returns-in_err-key-in-Index c = c.loop-left.invariant _ _ (rw (list_step _ _ c.suffix-item.is c.in-len1-up.len_at_least) (next_charged c.loop-left.machine _ _ _ _ _ _ _ c.in_ok-charge.ensures.ok _ _ (rw (list_rest c.loop-left.left.now) at (sym c.is_last.ensures ∙ c.if-is_last.false))
    (rw c.in-Index.is (index_stops _ c.leaf.new.self c.args.aim c.loop-left.this c.loop-left.value c.suffix-item.result.place c.in-Index.e (drop 1 c.loop-left.left.now) _ _ c.from_residual-in_err-key-in-Index.ensures.1 c.in_err-key-in-Index.ensures))))

pub returns-in_default-2 : goal.returns-in_default-2
returns-in_default-2 c = c.loop-left.invariant _ _ (rw (list_step _ _ c.suffix-item.is c.in-len1-up.len_at_least) (next_charged c.loop-left.machine _ _ _ _ _ _ _ c.in_ok-charge.ensures.ok _ _ (rw (list_rest c.loop-left.left.now) at (sym c.is_last.ensures ∙ c.if-is_last.false))
    (rw c.in-Index.is (index_visited _ c.leaf.new.self c.args.aim c.loop-left.this c.loop-left.value c.suffix-item.result.place c.in-Index.e (drop 1 c.loop-left.left.now) _ _ (rw c.in_default-2.is at c.in_ok-key-in-Index.ensures) (rw (list_rest c.loop-left.left.now) at c.index.ensures)))))

pub returns-in-Object : goal.returns-in-Object
returns-in-Object c = c.loop-left.invariant _ _ (rw (list_step _ _ c.suffix-item.is c.in-len1-up.len_at_least) (next_charged c.loop-left.machine _ _ _ _ _ _ _ c.in_ok-charge.ensures.ok _ _ (rw (list_rest c.loop-left.left.now) at (sym c.is_last.ensures ∙ c.if-is_last.false))
    (rw c.in-Index.is (index_then _ c.leaf.new.self c.args.aim c.loop-left.this c.loop-left.value c.suffix-item.result.place c.in-Index.e (drop 1 c.loop-left.left.now) _ _ _ (rw (c.in-Some.is, c.in-Object.is) at c.in_ok-key-in-Index.ensures) (rw (list_rest c.loop-left.left.now) at c.object_index.ensures)))))

pub returns-in_err-found-in_default-key : goal.returns-in_err-found-in_default-key
returns-in_err-found-in_default-key c = c.loop-left.invariant _ _ (rw (list_step _ _ c.suffix-item.is c.in-len1-up.len_at_least) (next_charged c.loop-left.machine _ _ _ _ _ _ _ c.in_ok-charge.ensures.ok _ _ (rw (list_rest c.loop-left.left.now) at (sym c.is_last.ensures ∙ c.if-is_last.false))
    (rw c.in-Index.is (element_stops _ c.leaf.new.self c.args.aim c.loop-left.this c.loop-left.value c.suffix-item.result.place c.in-Index.e (drop 1 c.loop-left.left.now) _ _ c.in_default-key.not-Object (rw c.in-Some.is at c.in_ok-key-in-Index.ensures) _ _ c.from_residual-in_err-found-in_default-key.ensures.1 c.in_err-found-in_default-key.ensures))))

pub loop-left-preserved : goal.loop-left-preserved
loop-left-preserved c = λ r m k. c.loop-left.invariant r m (rw (list_step _ _ c.suffix-item.is c.in-len1-up.len_at_least) (next_charged c.loop-left.machine _ _ _ _ _ _ _ c.in_ok-charge.ensures.ok _ _ (rw (list_rest c.loop-left.left.now) at (sym c.is_last.ensures ∙ c.if-is_last.false))
    (elim c.match-suffix.branch [
      | in-Member+in_ok-found-in-Member w ↦ rw w.in-Member.is (member_then _ c.args.aim c.loop-left.this c.loop-left.value c.suffix-item.result.place w.in-Member.name (drop 1 c.loop-left.left.now) _ _ r m w.in_ok-found-in-Member.ensures
          (rw (list_rest c.loop-left.left.now, w.machine-is, w.found-is) at k))
      | in-Index+in_ok-key-in-Index+in-Some+in_default-key+in_ok-found-in_default-key w ↦ rw w.in-Index.is (element_then _ w.leaf.new.self c.args.aim c.loop-left.this c.loop-left.value c.suffix-item.result.place w.in-Index.e (drop 1 c.loop-left.left.now) r
          _ w.in_default-key.not-Object (rw w.in-Some.is at w.in_ok-key-in-Index.ensures) _ _ m w.in_ok-found-in_default-key.ensures
          (rw (list_rest c.loop-left.left.now, w.machine-is, w.found-is) at k))
    ])))

pub returns-in-Call : goal.returns-in-Call
returns-in-Call c = c.loop-left.invariant _ _ (rw (list_step _ _ c.suffix-item.is c.in-len1-up.len_at_least) (next_charged c.loop-left.machine _ _ _ _ _ _ _ c.in_ok-charge.ensures.ok _ _ (rw (list_rest c.loop-left.left.now) at (sym c.is_last.ensures ∙ c.if-is_last.false)) (rw c.in-Call.is (rw (list_rest c.loop-left.left.now) at c.first_arguments.ensures))))

pub returns : goal.returns
returns c = c.loop-left.invariant _ _ (rw (list_end c.loop-left.left.now c.in_default.len_below) (c.behind_suffixes.ensures _ c.loop-left.this))
