use Rattle.poll_log.proofs.Dues.{sent_as_due as law}
use Rattle.poll_log.proofs.laws.sent_as_due.Goals as goal

pub returns : goal.returns
returns c = (λ t jobs h w r o n. law t jobs w r h o n)
