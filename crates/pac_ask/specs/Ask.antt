-- What `ask` does.
use Rattle.std.specs.Prelude.{ℕ, List, ◌++◌, Option, Some, None, codes}
use Rattle.pac_names.specs.declared.answer.Answer.{Answer}
use Rattle.pac_names.specs.declared.answer.Answer.TheVariants as answer
use Rattle.pac_names.specs.Names.{lookup_name_of, Name}
use Rattle.pac_names.specs.Quads.{quad_of, quad_text}
use Rattle.poll_log.specs.Turns.{turns_of}
use Rattle.poll_log.specs.Told.{told}
use Rattle.pac_plan.specs.Plan.{Output, Plan, line, say, talk}
use Rattle.pac_plan.specs.declared.status.Status.TheVariants as status
use Rattle.poll_loop.specs.Task.{Talk}
use Rattle.poll_loop.specs.declared.looping.Upstream.{Upstream}
use Rattle.pac_ask.specs.Task.{talk_of}

abbrev pub answered : Answer → Output
answered (answer.Address address) = record { status = status.Good; text = line (codes "address " ++ quad_text address) }
-- an IPv4 address was asked
answered (answer.Address6 address) = record { status = status.Good; text = line (codes "no address") }
answered answer.NoAddress = record { status = status.Good; text = line (codes "no address") }

-- a name that nothing is told of is unanswered
abbrev pub told_output : Name → Option Answer → Output
told_output name (Some told) = answered told
told_output name None = record { status = status.Unanswered; text = line (codes "unanswered " ++ name.text) }

-- asks for the name, if there is one, and else nobody
abbrev pub name_plan : Upstream → Option Name → Plan Talk
name_plan upstream None = say (answered answer.NoAddress)
name_plan upstream (Some name) = talk (talk_of upstream name) (λ log. told_output name (told upstream.terms (turns_of log) name))

-- an address already needs nobody
abbrev pub address_plan : Upstream → Option ℕ → Option Name → Plan Talk
address_plan upstream (Some address) name = say (answered (answer.Address address))
address_plan upstream None name = name_plan upstream name

-- a dotted quad is an address already; four groups of digits that are none, and what is no lookup name, have no address
abbrev pub ask_plan : Upstream → List ℕ → Plan Talk
ask_plan upstream text = address_plan upstream (quad_of text) (lookup_name_of text)
