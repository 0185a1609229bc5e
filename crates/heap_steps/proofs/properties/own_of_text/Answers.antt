use Rattle.std.proofs.Common.{◌≡◌, if◌then◌else◌, length, pos, Some, IfOk, sym, ap, subst, ◌∙◌}
use Rattle.heap_values.specs.declared.value.Value.TheVariants as value
use Rattle.heap_elements.specs.Names.{array_index}
use Rattle.js_evaluation.specs.Objects.{unit_by}
use Rattle.heap_steps.proofs.properties.own_of_text.Goals as goal

pub returns-then-is_named : goal.returns-then-is_named
returns-then-is_named c = ap (λ k. Some (value.Number k)) (c.in_ok-count_of.ensures ∙ ap pos c.len.ensures)
    ∙ sym (ap (λ b. if b then Some (value.Number (pos (length c.args.text.now))) else unit_by c.args.text.now (array_index c.args.name.now)) (sym c.is_named.ensures ∙ c.if-is_named.true))

pub returns-in-None : goal.returns-in-None
returns-in-None c = sym (ap (λ b. if b then Some (value.Number (pos (length c.args.text.now))) else unit_by c.args.text.now (array_index c.args.name.now)) (sym c.is_named.ensures ∙ c.if-is_named.false)
    ∙ ap (unit_by c.args.text.now) (sym c.array_index.ensures ∙ c.in-None.is))

pub returns-in-Some : goal.returns-in-Some
returns-in-Some c = subst (λ x. IfOk c.unit_of.result (λ own. own ≡ x)) (sym (ap (λ b. if b then Some (value.Number (pos (length c.args.text.now))) else unit_by c.args.text.now (array_index c.args.name.now)) (sym c.is_named.ensures ∙ c.if-is_named.false)
    ∙ ap (unit_by c.args.text.now) (sym c.array_index.ensures ∙ c.in-Some.is))) c.unit_of.ensures
