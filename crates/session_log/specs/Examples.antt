-- Sessions of short scripts over short logs, and what the definitions say of them.
use Rattle.std.specs.Prelude.{◌≡◌, ℕ, zero, suc, ◌+◌, false, Some, None, List, [], ◌∷◌, ◌++◌, codes, length, refl}
use Rattle.std.specs.List.{All}
use Rattle.std.proofs.Common.{lit<}
use Rattle.std.proofs.lemmas.List.Elements.{All-nil, All-push}
use Rattle.pac_names.specs.declared.answer.Answer.{Answer}
use Rattle.pac_names.specs.declared.answer.Answer.TheVariants.{Address, NoAddress}
use Rattle.pac_names.specs.declared.kind.NameKind.TheVariants.{V4}
use Rattle.pac_names.specs.Names.{Name}
use Rattle.js_host.specs.Seen.{Reply}
use Rattle.run_trees.specs.RunTree.{RunTree, Done, Ask}
use Rattle.pac_ports.specs.declared.link.Move.{Move}
use Rattle.pac_ports.specs.declared.link.Move.TheVariants.{Sent, Given}
use Rattle.pac_ports.specs.declared.link.Which.TheVariants.{First}
use Rattle.dns_name.specs.Wire.{name_at, name_from, part_at}
use Rattle.dns_message.specs.Question.{question_octets}
use Rattle.dns_message.specs.Record.{record_at, facts_at}
use Rattle.dns_message.specs.Reply.{reply_of, answer_on}
use Rattle.poll_log.specs.declared.question.Question.{Question}
use Rattle.poll_log.specs.declared.terms.Terms.{Terms}
use Rattle.poll_log.specs.Flat.{flat_behind}
use Rattle.poll_log.specs.Turns.{Turns, Begin, Then, turns_of, with_moves}
use Rattle.poll_log.specs.Turns as event
use Rattle.poll_log.specs.Beats.{beats, ticks, stretches, is_beat}
use Rattle.poll_log.specs.Questions.{IsQuestion, asked_by, first_sent, firsts, new_among, number_in, octets_of, outgoing_from, questions}
use Rattle.poll_log.specs.Told.{Map, age, told, accepted, accepted_in, is_dead, stopped_age, due_sends}
use Rattle.poll_log.specs.Jobs.{IsPolled, is_waiting, once, runs_of}
use Rattle.session_log.specs.Asked.{asked_from, asked_in, job_of}
use Rattle.session_log.specs.Sessions.{all_runs}

-- a wait of ten beats, and four sendings
abbrev pub usual : Terms
usual = record { wait = 10; tries = 4 }

-- ---- names and datagrams

abbrev pub a : Name
a = record { kind = V4; text = codes "a.example" }

abbrev pub b : Name
b = record { kind = V4; text = codes "b.example" }

abbrev pub question_a : Question
question_a = record { id = 1; name = a }

abbrev pub question_b : Question
question_b = record { id = 2; name = b }

-- the record of an address, whose owner is the question's name
abbrev record_of : ℕ → List ℕ
record_of last = 0xc0 ∷ 0x0c ∷ 0 ∷ 1 ∷ 0 ∷ 1 ∷ 0 ∷ 0 ∷ 0 ∷ 60 ∷ 0 ∷ 4 ∷ 10 ∷ 0 ∷ 0 ∷ last ∷ []

-- a reply with so many records, to the question under this number, whose name begins with this letter
abbrev reply : ℕ → ℕ → ℕ → List ℕ → List ℕ
reply id letter count records =
    0 ∷ id ∷ 0x81 ∷ 0x80 ∷ 0 ∷ 1 ∷ 0 ∷ count ∷ 0 ∷ 0 ∷ 0 ∷ 0 ∷ 1 ∷ letter ∷ 7 ∷ codes "example" ++ 0 ∷ 0 ∷ 1 ∷ 0 ∷ 1 ∷ records

-- the addresses 10.0.0.1 and 10.0.0.2 of a.example, the same with their order turned, and no address
abbrev pub one_two : List ℕ
one_two = reply 1 97 2 (record_of 1 ++ record_of 2)

abbrev pub two_one : List ℕ
two_one = reply 1 97 2 (record_of 2 ++ record_of 1)

abbrev pub none_of_a : List ℕ
none_of_a = reply 1 97 0 []

-- the address 10.0.0.2 of b.example
abbrev pub two_of_b : List ℕ
two_of_b = reply 2 98 1 (record_of 2)

abbrev pub ten : ℕ → Answer
ten last = Address (0x0a000000 + last)

proper_a : All IsQuestion (question_a ∷ [])
proper_a = All-push IsQuestion [] question_a (All-nil IsQuestion) (record { number = lit< tt; name = refl })

proper_b : All IsQuestion (question_b ∷ [])
proper_b = All-push IsQuestion [] question_b (All-nil IsQuestion) (record { number = lit< tt; name = refl })

proper_both : All IsQuestion (question_a ∷ question_b ∷ [])
proper_both = All-push IsQuestion (question_a ∷ []) question_b proper_a (record { number = lit< tt; name = refl })

-- ---- runs

-- `return "PROXY " + dnsResolve(h) + ":80";`
abbrev pub asks : Name → RunTree (List Reply)
asks name = Ask name (λ reply. Done (reply ∷ []))

-- `var a = dnsResolve("a.example"); dnsResolve("b.example"); return "PROXY " + a;`
abbrev pub asks_both : RunTree (List Reply)
asks_both = Ask a (λ first. Ask b (λ second. Done (first ∷ second ∷ [])))

-- `if (isResolvable(h)) return "PROXY a"; if (isResolvable(h)) return "PROXY b"; return "DIRECT";` for a name without address
abbrev pub asks_twice : Name → RunTree (List Reply)
asks_twice name = Ask name (λ first. Ask name (λ second. Done (first ∷ second ∷ [])))

-- ---- two sessions over one name: it is sent once, and each is run twice

abbrev pub shared : List Move
shared = Sent First (octets_of question_a) ∷ Given one_two ∷ []

pub shared-runs : all_runs usual (job_of (asks a) ∷ job_of (asks a) ∷ []) (turns_of shared) ≡ 4
unfolding runs_of told accepted accepted_in age firsts new_among asked_by question_octets with_moves flat_behind is_beat beats ticks stretches number_in reply_of name_at name_from part_at record_at facts_at answer_on asked_from
shared-runs = refl

-- ---- two sessions over two names, answered in turned order

abbrev pub turned : List Move
turned = Sent First (octets_of question_a) ∷ Sent First (octets_of question_b) ∷ Given two_of_b ∷ Given one_two ∷ []

abbrev pub turned_turns : Turns
turned_turns =
    Then (Then (Begin (first_sent (question_a ∷ question_b ∷ []))) (event.Given two_of_b) []) (event.Given one_two) []

pub turned-is : turns_of turned ≡ turned_turns
unfolding with_moves flat_behind
turned-is = refl

pub turned-runs : all_runs usual (job_of (asks a) ∷ job_of (asks b) ∷ []) turned_turns ≡ 4
unfolding runs_of told accepted accepted_in age firsts new_among asked_by question_octets is_beat beats ticks stretches number_in reply_of name_at name_from part_at record_at facts_at answer_on asked_from
turned-runs = refl

pub turned-is_polled : IsPolled usual (job_of (asks a) ∷ job_of (asks b) ∷ []) turned_turns
unfolding once told accepted accepted_in firsts new_among questions asked_by question_octets due_sends stopped_age age is_beat beats ticks stretches is_dead number_in reply_of name_at name_from part_at record_at facts_at answer_on asked_from outgoing_from
turned-is_polled =
    record {
      sends = (
        (
          record { fresh = question_a ∷ question_b ∷ []; again = []; asks = refl; proper = proper_both; repeats = refl; out = refl },
          record { fresh = []; again = []; asks = refl; proper = All-nil IsQuestion; repeats = refl; out = refl },
        ),
        record { fresh = []; again = []; asks = refl; proper = All-nil IsQuestion; repeats = refl; out = refl },
      );
      waits = ((tt, refl), refl);
      ended = refl;
    }

-- ---- a session over two names: the second is sent once the first is told, and a later reply replaces nothing

abbrev pub in_turn : Turns
in_turn =
    Then (Then (Then (Begin (first_sent (question_a ∷ []))) (event.Given one_two) (first_sent (question_b ∷ []))) (event.Given two_one) []) (event.Given two_of_b) []

pub in_turn-told : told usual in_turn a ≡ Some (ten 1)
unfolding told accepted accepted_in age firsts new_among asked_by question_octets is_beat beats ticks stretches number_in reply_of name_at name_from part_at record_at facts_at answer_on
in_turn-told = refl

pub in_turn-runs : runs_of usual in_turn (job_of asks_both) ≡ 3
unfolding runs_of told accepted accepted_in age firsts new_among asked_by question_octets is_beat beats ticks stretches number_in reply_of name_at name_from part_at record_at facts_at answer_on asked_from
in_turn-runs = refl

pub in_turn-is_polled : IsPolled usual (job_of asks_both ∷ []) in_turn
unfolding once told accepted accepted_in firsts new_among questions asked_by question_octets due_sends stopped_age age is_beat beats ticks stretches is_dead number_in reply_of name_at name_from part_at record_at facts_at answer_on asked_from outgoing_from
in_turn-is_polled =
    record {
      sends = (
        (
          (
            record { fresh = question_a ∷ []; again = []; asks = refl; proper = proper_a; repeats = refl; out = refl },
            record { fresh = question_b ∷ []; again = []; asks = refl; proper = proper_b; repeats = refl; out = refl },
          ),
          record { fresh = []; again = []; asks = refl; proper = All-nil IsQuestion; repeats = refl; out = refl },
        ),
        record { fresh = []; again = []; asks = refl; proper = All-nil IsQuestion; repeats = refl; out = refl },
      );
      waits = (((tt, refl), refl), refl);
      ended = refl;
    }

-- ---- that a name has no address is told too: it is sent once, and the run is run twice

abbrev pub without : Turns
without = Then (Begin (first_sent (question_a ∷ []))) (event.Given none_of_a) []

pub without-told : told usual without a ≡ Some NoAddress
unfolding told accepted accepted_in age firsts new_among asked_by question_octets is_beat beats ticks stretches number_in reply_of name_at name_from part_at record_at facts_at answer_on
without-told = refl

pub without-ended : is_waiting usual without (job_of (asks_twice a)) ≡ false
unfolding is_dead told accepted accepted_in age firsts new_among asked_by question_octets is_beat beats ticks stretches number_in reply_of name_at name_from part_at record_at facts_at answer_on asked_from
without-ended = refl

pub without-runs : runs_of usual without (job_of (asks_twice a)) ≡ 2
unfolding runs_of told accepted accepted_in age firsts new_among asked_by question_octets is_beat beats ticks stretches number_in reply_of name_at name_from part_at record_at facts_at answer_on asked_from
without-runs = refl

-- ---- no run asks more than 32 names

abbrev no_answers : Map
no_answers n = None

abbrev asks_so_many : ℕ → Name → RunTree (List Reply)
asks_so_many zero name = Done []
asks_so_many (suc n) name = Ask name (λ reply. asks_so_many n (record name { text = 97 ∷ name.text }))

pub thirty_two : length (asked_in (asks_so_many 32 a) no_answers) ≡ 32
unfolding asked_from
thirty_two = refl

pub thirty_three : length (asked_in (asks_so_many 33 a) no_answers) ≡ 32
unfolding asked_from
thirty_three = refl
