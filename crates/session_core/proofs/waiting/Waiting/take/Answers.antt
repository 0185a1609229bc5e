use Rattle.session_core.proofs.Waits.{sorted_none, took}
use Rattle.session_core.proofs.waiting.Waiting.take.Goals as goal

pub returns-in-Some-clause-others : goal.returns-in-Some-clause-others
returns-in-Some-clause-others c = took c.args.self.now.places c.remove.new.self c.args.name.now c.remove.ensures.updates.0

pub returns-in-None-clause-ascending : goal.returns-in-None-clause-ascending
returns-in-None-clause-ascending c = sorted_none c.new.result.items c.new.ensures.items
