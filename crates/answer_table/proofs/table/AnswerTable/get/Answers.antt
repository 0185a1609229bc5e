use Rattle.std.proofs.Common.{ap, sym, ◌∙◌}
use Rattle.std.specs.FinMap as map
use Rattle.answer_table.proofs.TableLaws.{get-from_entries}
use Rattle.answer_table.proofs.table.AnswerTable.get.Goals as goal

pub returns : goal.returns
returns c =
    c.copied.ensures ∙ c.get.ensures.value ∙ sym (get-from_entries c.self.inside.entries.entries c.args.name.now)
    ∙ ap (λ m. map.get m c.args.name.now) c.self.view_is
