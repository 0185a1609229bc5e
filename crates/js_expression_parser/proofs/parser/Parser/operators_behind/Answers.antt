use Rattle.std.proofs.Common.{Ok, refl, sym, ap, subst, ◌∙◌}
use Rattle.std.proofs.lemmas.Result.{err_from_is_err_and}
use Rattle.js_grammar.specs.Reading.{Fails}
use Rattle.js_expression_parser.specs.Operators.{Begins, Costs, Goes, behind, cost, within}
use Rattle.js_expression_parser.proofs.Costs as costs
use Rattle.js_expression_parser.proofs.Rows as rows
use Rattle.js_expression_parser.proofs.parser.Parser.operators_behind.Goals as goal

pub loop-rows-init : goal.loop-rows-init
loop-rows-init g c = rw c.new-rows.ensures.items refl

pub loop-rows-preserved-in-Value : goal.loop-rows-preserved-in-Value
loop-rows-preserved-in-Value g c =
    let d = g.N.Nested.readers c.args.self.now.nested in
    c.loop-rows.invariant
    ∙ subst (λ n. Goes c.args.self.now.end d c.args.form (within c.args.self.now.end d c.args.form c.loop-rows.rows.items (behind c.args.self.now.end d c.args.form c.loop-rows.reading)) n c.next_step.new.rows.items) c.in-Value.is (c.in_ok-value.ensures.goes d)

pub returns-in_err-reading-in-Operand : goal.returns-in_err-reading-in-Operand
returns-in_err-reading-in-Operand g c =
    let d = g.N.Nested.readers c.args.self.now.nested in
    let p = err_from_is_err_and c.from_residual-in_err-reading-in-Operand.result c.from_residual-in_err-reading-in-Operand.ensures.1 in
    let goes = subst (λ n. Goes c.args.self.now.end d c.args.form (within c.args.self.now.end d c.args.form c.loop-rows.rows.items (behind c.args.self.now.end d c.args.form c.loop-rows.reading)) n c.next_step.new.rows.items) c.in-Operand.is (c.in_ok-value.ensures.goes d) in
    rw (p.1, p.2) (subst (λ read. Fails c.in_err-reading-in-Operand.field-0.0 read) (sym (c.loop-rows.invariant ∙ goes))
    (rows.operand_fails c.args.self.now.end d c.args.form c.in_err-reading-in-Operand.field-0.0 c.next_step.new.rows.items c.in-Operand.row c.in-Operand.tokens.now c.in_err-reading-in-Operand.ensures))

pub loop-rows-preserved : goal.loop-rows-preserved
loop-rows-preserved g c =
    let d = g.N.Nested.readers c.args.self.now.nested in
    let begun = subst (λ b. Begins c.args.self.now.end d b c.in-Operand.tokens.now (Ok c.in_ok-reading-in-Operand.reading)) c.level_of-bound.ensures c.in_ok-reading-in-Operand.ensures in
    c.loop-rows.invariant
    ∙ subst (λ n. Goes c.args.self.now.end d c.args.form (within c.args.self.now.end d c.args.form c.loop-rows.rows.items (behind c.args.self.now.end d c.args.form c.loop-rows.reading)) n c.next_step.new.rows.items) c.in-Operand.is (c.in_ok-value.ensures.goes d)
    ∙ rw c.in_ok-push-in-Operand.ensures.items (rows.enters c.args.self.now.end d c.args.form c.next_step.new.rows.items c.in-Operand.row c.in-Operand.tokens.now c.in_ok-reading-in-Operand.reading begun)

pub loop-rows-smaller : goal.loop-rows-smaller
loop-rows-smaller g c =
    costs.entered c.next_step.new.rows.items c.in-Operand.row c.in_ok-reading-in-Operand.reading c.push.new.self.items (cost c.loop-rows.rows.items c.loop-rows.reading) c.in_ok-push-in-Operand.ensures.items
    (ap (λ r. r.level) c.in_ok-reading-in-Operand.ensures.1)
    (ap (λ r. r.bound) c.in_ok-reading-in-Operand.ensures.1 ∙ c.level_of-bound.ensures)
    (subst (λ n. Costs (cost c.loop-rows.rows.items c.loop-rows.reading) n c.next_step.new.rows.items) c.in-Operand.is c.in_ok-value.ensures.costs)

pub returns-in-Whole : goal.returns-in-Whole
returns-in-Whole g c =
    let d = g.N.Nested.readers c.args.self.now.nested in
    c.loop-rows.invariant
    ∙ subst (λ n. Goes c.args.self.now.end d c.args.form (within c.args.self.now.end d c.args.form c.loop-rows.rows.items (behind c.args.self.now.end d c.args.form c.loop-rows.reading)) n c.next_step.new.rows.items) c.in-Whole.is (c.in_ok-value.ensures.goes d)
