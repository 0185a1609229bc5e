use Rattle.std.proofs.Common.{ap, ◌∙◌}
use Rattle.std.specs.FinMap as map
use Rattle.answer_table.proofs.TableLaws.{from_entries-inserted}
use Rattle.answer_table.proofs.table.AnswerTable.insert.Goals as goal

pub returns-clause-ok : goal.returns-clause-ok
returns-clause-ok c =
    from_entries-inserted c.self.inside.entries.entries c.insert.new.self.entries c.args.name c.args.answer
    c.in_ok-insert.ensures.updates.0
    ∙ ap (λ m. map.insert m c.args.name c.args.answer) c.self.view_is
