use Rattle.std.proofs.Common.{sym, ◌∙◌}
use Rattle.js_expressions.proofs.Instances.{called_instance, uncalled_instance}
use Rattle.js_expressions.proofs.operators.instance_of.Goals as goal

pub returns-in-None : goal.returns-in-None
returns-in-None c = uncalled_instance c.args.machine.now c.args.value.now c.args.function.now c.args.place c.args.next _ _ (sym c.callable.ensures ∙ c.in-None.is) c.type_error.ensures

pub returns : goal.returns
returns c = called_instance c.args.machine.now c.args.value.now c.args.function.now c.args.place c.args.next _ _ _ (sym c.callable.ensures ∙ c.in-Some.is) c.instance_by.ensures
