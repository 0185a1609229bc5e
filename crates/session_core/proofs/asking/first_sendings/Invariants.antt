use Rattle.std.proofs.Common.{◌≡◌, map}
use Rattle.poll_log.specs.Questions.{first_sending}
use Rattle.session_core.proofs.asking.first_sendings.Given as goal

abbrev pub invariant-loop-question : goal.invariant-loop-question
invariant-loop-question l = l.sent.items ≡ map first_sending l.yielded
