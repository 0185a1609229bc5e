-- Logs of a job that asks example.com alone, and what the definitions say of them.
use Rattle.std.specs.Prelude.{◌≡◌, ℕ, true, Option, Some, None, List, [], ◌∷◌, ◌++◌, codes, take, map, refl}
use Rattle.std.specs.List.{All}
use Rattle.std.proofs.Common.{lit<}
use Rattle.std.proofs.lemmas.List.Elements.{All-nil, All-push}
use Rattle.pac_names.specs.declared.answer.Answer.{Answer}
use Rattle.pac_names.specs.declared.answer.Answer.TheVariants.{Address}
use Rattle.pac_names.specs.declared.kind.NameKind.TheVariants.{V4, V6}
use Rattle.pac_names.specs.Names.{Name}
use Rattle.pac_ports.specs.declared.link.Move.{Move}
use Rattle.pac_ports.specs.declared.link.Move.TheVariants.{Sent, Given, Tick}
use Rattle.pac_ports.specs.declared.link.Which.TheVariants.{First, Second}
use Rattle.dns_name.specs.Wire.{name_at, name_from, part_at}
use Rattle.dns_message.specs.Question.{question_octets}
use Rattle.dns_message.specs.Record.{record_at, facts_at}
use Rattle.dns_message.specs.Reply.{reply_of, answer_on}
use Rattle.poll_log.specs.declared.question.Question.{Question}
use Rattle.poll_log.specs.declared.terms.Terms.{Terms}
use Rattle.poll_log.specs.Sendings.{limit, sending_at, server_of}
use Rattle.poll_log.specs.Flat.{flat_behind}
use Rattle.poll_log.specs.Turns.{Outgoing, Turns, Begin, Then, turns_of, with_moves}
use Rattle.poll_log.specs.Turns as event
use Rattle.poll_log.specs.Beats.{beats, ticks, stretches, is_beat}
use Rattle.poll_log.specs.Questions.{IsQuestion, asked_by, firsts, new_among, outgoing_from, questions, number_in, times}
use Rattle.poll_log.specs.Told.{age, told, accepted, accepted_in, is_dead, stopped_age, due_sends}
use Rattle.poll_log.specs.Jobs.{Job, IsPolled, is_waiting, once, runs_of}

abbrev pub example : Name
example = record { kind = V4; text = codes "example.com" }

-- the question for it under the number 1234 (hexadecimal)
abbrev pub asked : List ℕ
asked = 0x12 ∷ 0x34 ∷ 0x01 ∷ 0 ∷ 0 ∷ 1 ∷ 0 ∷ 0 ∷ 0 ∷ 0 ∷ 0 ∷ 0 ∷ 7 ∷ codes "example" ++ 3 ∷ codes "com" ++ 0 ∷ 0 ∷ 1 ∷ 0 ∷ 1 ∷ []

-- its reply with the address 93.184.216.34
abbrev pub answered : List ℕ
answered = 0x12 ∷ 0x34 ∷ 0x81 ∷ 0x80 ∷ 0 ∷ 1 ∷ 0 ∷ 1 ∷ 0 ∷ 0 ∷ 0 ∷ 0 ∷ 7 ∷ codes "example" ++ 3 ∷ codes "com" ++ 0 ∷ 0 ∷ 1 ∷ 0 ∷ 1 ∷ 0xc0 ∷ 0x0c ∷ 0 ∷ 1 ∷ 0 ∷ 1 ∷ 0 ∷ 0 ∷ 0 ∷ 60 ∷ 0 ∷ 4 ∷ 93 ∷ 184 ∷ 216 ∷ 34 ∷ []

abbrev pub lacking : Option Answer → Option Name
lacking None = Some example
lacking (Some answer) = None

abbrev pub job : Job
job answers = lacking (answers example)

-- a wait of one beat, with three sendings, two, and one
abbrev pub thrice : Terms
thrice = record { wait = 1; tries = 3 }

abbrev pub twice : Terms
twice = record { wait = 1; tries = 2 }

abbrev pub once_only : Terms
once_only = record { wait = 1; tries = 1 }

-- a wait of ten beats and four sendings: they fall due at the ages 0, 10, 30 and 70, and the name is dead at 150
abbrev pub usual : Terms
usual = record { wait = 10; tries = 4 }

pub usual-sendings : map (sending_at usual) (0 ∷ 9 ∷ 10 ∷ 20 ∷ 30 ∷ 70 ∷ 150 ∷ []) ≡ None ∷ None ∷ Some 1 ∷ None ∷ Some 2 ∷ Some 3 ∷ None ∷ []
usual-sendings = refl

pub usual-limit : limit usual ≡ 150
usual-limit = refl

pub usual-servers : map server_of (0 ∷ 1 ∷ 2 ∷ 3 ∷ []) ≡ First ∷ Second ∷ First ∷ Second ∷ []
usual-servers = refl

pub question_is : asked_by asked ≡ Some (record { id = 0x1234; name = example })
unfolding asked_by question_octets
question_is = refl

-- the question for its IPv6 addresses under the same number
abbrev pub asked6 : List ℕ
asked6 = take 26 asked ++ 28 ∷ 0 ∷ 1 ∷ []

pub question6_is : asked_by asked6 ≡ Some (record { id = 0x1234; name = record { kind = V6; text = codes "example.com" } })
unfolding asked_by question_octets
question6_is = refl

-- A reply comes at once.
abbrev pub at_once : List Move
at_once = Sent First asked ∷ Given answered ∷ []

pub at_once-told : told thrice (turns_of at_once) example ≡ Some (Address 0x5db8d822)
unfolding told accepted accepted_in age firsts new_among asked_by question_octets with_moves flat_behind is_beat beats ticks stretches number_in reply_of name_at name_from part_at record_at facts_at answer_on
at_once-told = refl

pub at_once-runs : runs_of thrice (turns_of at_once) job ≡ 2
unfolding runs_of told accepted accepted_in age firsts new_among asked_by question_octets with_moves flat_behind is_beat beats ticks stretches number_in reply_of name_at name_from part_at record_at facts_at answer_on
at_once-runs = refl

-- A reply comes behind the third sending.
abbrev pub late : List Move
late = Sent First asked ∷ Tick ∷ Sent Second asked ∷ Tick ∷ Tick ∷ Sent First asked ∷ Given answered ∷ []

pub late-told : told thrice (turns_of late) example ≡ Some (Address 0x5db8d822)
unfolding told accepted accepted_in age firsts new_among asked_by question_octets with_moves flat_behind is_beat beats ticks stretches number_in reply_of name_at name_from part_at record_at facts_at answer_on
late-told = refl

pub late-due : due_sends thrice (turns_of late) example ≡ 3
unfolding due_sends stopped_age told accepted accepted_in age firsts new_among asked_by question_octets with_moves flat_behind is_beat beats ticks stretches number_in reply_of name_at name_from part_at record_at facts_at answer_on
late-due = refl

pub late-sent : times (questions (turns_of late)) example ≡ 3
unfolding questions asked_by question_octets with_moves flat_behind
late-sent = refl

-- No datagram comes: three sendings, and four ticks behind the last one.
abbrev pub silence : List Move
silence = Sent First asked ∷ Tick ∷ Sent Second asked ∷ Tick ∷ Tick ∷ Sent First asked ∷ Tick ∷ Tick ∷ Tick ∷ Tick ∷ []

pub silence-waits : is_waiting thrice (turns_of (take 9 silence)) job ≡ true
unfolding is_dead told accepted accepted_in age firsts new_among asked_by question_octets with_moves flat_behind is_beat beats ticks stretches
silence-waits = refl

pub silence-sent : times (questions (turns_of silence)) example ≡ 3
unfolding questions asked_by question_octets with_moves flat_behind
silence-sent = refl

pub silence-due : due_sends thrice (turns_of silence) example ≡ 3
unfolding due_sends stopped_age told accepted accepted_in age firsts new_among asked_by question_octets with_moves flat_behind is_beat beats ticks stretches
silence-due = refl

pub silence-runs : runs_of thrice (turns_of silence) job ≡ 1
unfolding runs_of told accepted accepted_in age firsts new_among asked_by question_octets with_moves flat_behind is_beat beats ticks stretches
silence-runs = refl

pub silence-dead : is_dead thrice (turns_of silence) example ≡ true
unfolding is_dead told accepted accepted_in age firsts new_among asked_by question_octets with_moves flat_behind is_beat beats ticks stretches
silence-dead = refl

abbrev pub question : Question
question = record { id = 0x1234; name = example }

abbrev pub to_first : Outgoing
to_first = record { to = First; octets = asked }

abbrev pub to_second : Outgoing
to_second = record { to = Second; octets = asked }

-- With two sendings: sent to the first server at the start and to the second one at the first tick, dead at the third.
abbrev pub brief : Turns
brief = Then (Then (Then (Begin (to_first ∷ [])) event.Tick (to_second ∷ [])) event.Tick []) event.Tick []

pub brief-is : turns_of (Sent First asked ∷ Tick ∷ Sent Second asked ∷ Tick ∷ Tick ∷ []) ≡ brief
unfolding with_moves flat_behind
brief-is = refl

is_question : IsQuestion question
is_question = record { number = lit< tt; name = refl }

proper : All IsQuestion (question ∷ [])
proper = All-push IsQuestion [] question (All-nil IsQuestion) is_question

pub brief-is_polled : IsPolled twice (job ∷ []) brief
unfolding once told accepted accepted_in firsts new_among questions asked_by question_octets due_sends stopped_age age is_beat beats ticks stretches is_dead outgoing_from
brief-is_polled =
    record {
      sends = (
        (
          (
            record { fresh = question ∷ []; again = []; asks = refl; proper = proper; repeats = refl; out = refl },
            record { fresh = []; again = question ∷ []; asks = refl; proper = All-nil IsQuestion; repeats = refl; out = refl },
          ),
          record { fresh = []; again = []; asks = refl; proper = All-nil IsQuestion; repeats = refl; out = refl },
        ),
        record { fresh = []; again = []; asks = refl; proper = All-nil IsQuestion; repeats = refl; out = refl },
      );
      waits = (((tt, refl), refl), refl);
      ended = refl;
    }
