-- Every plan may be given up for want of memory before its first step.
use Rattle.std.proofs.Common.{[], inr, refl, None, Err}
use Rattle.pac_ports.specs.declared.files.FilesAnswer.TheVariants as why
use Rattle.pac_plan.specs.Plan.{Output, Plan, say, run, read, talk, Outside, End, whole, faulted, unfinished, Talks}
use Rattle.pac_plan.specs.Follows.{Follows, TalkSays}

pub gives_up : {T : Type 0} (K : Talks T) (plan : Plan T) (o : Outside) → Follows K plan o o None
gives_up K (say answer) o = (refl, tt)
gives_up K (run plan) o = inr (refl, refl)
gives_up K (read kind name next) o = (Err why.Memory, o.files, refl, (refl, refl))
gives_up K (talk t answer) o = (unfinished, [], K.not_begun t o, refl)

-- memory may run out behind a talk, however that ended
pub says_nothing : (end : End) (answer : Output) → TalkSays end answer None
says_nothing whole answer = tt
says_nothing faulted answer = tt
says_nothing unfinished answer = refl
