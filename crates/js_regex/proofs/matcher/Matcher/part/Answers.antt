use Rattle.js_regex.specs.Subjects.{subject_in}
use Rattle.js_regex.proofs.Lists.{if_ok}
use Rattle.js_regex.proofs.matcher.Matcher.part.Goals as goal

pub returns-in-Group : goal.returns-in-Group
returns-in-Group c =
    rw (← c.node.view_is, c.in-Group.is)
    (if_ok c.group.result (λ next h. h (subject_in c.args.self)) (rw c.deref.ensures at c.group.ensures))
