-- A call of the host within a run.
use Rattle.std.proofs.Common.{◌≡◌, ℕ, List, Option, Some, None, Bool, true, false, Result, Ok, Err, if◌then◌else◌, refl, sym, ap, subst, ◌∙◌, arith}
use Rattle.std.specs.Prelude.{is_some, slice_get, not, length, ◌==◌}
use Rattle.std.specs.Result.{IsErrAnd}
use Rattle.js_tree.specs.declared.place.Place.{Place}
use Rattle.heap_values.specs.declared.value.Value.{Value}
use Rattle.heap_values.specs.declared.value.Value.TheVariants as value
use Rattle.heap_values.specs.Views.{HeapView}
use Rattle.pac_names.specs.declared.answer.Answer.{Answer}
use Rattle.pac_names.specs.declared.answer.Answer.TheVariants as of_name
use Rattle.pac_names.specs.Names.{Name, lookup_name_of, lookup_name6_of}
use Rattle.pac_names.specs.Quads.{quad_of}
use Rattle.pac_ext.specs.Reading.{ipv6_of}
use Rattle.pac_calendar.specs.declared.moment.Moments.{Moments}
use Rattle.pac_calendar.specs.Dates.{is_in_date_range}
use Rattle.pac_calendar.specs.Times.{is_in_time_range}
use Rattle.pac_calendar.specs.Weekdays.{is_in_weekday_range}
use Rattle.js_host.specs.Answers.{known_answer}
use Rattle.js_host.specs.Seen.{Seen, Reply, Answered, Refused, Replies, lookup_by, is_one_too_many, with_name}
use Rattle.pac_functions.specs.declared.call.PacFunction.{PacFunction}
use Rattle.pac_functions.specs.declared.call.PacFunction.TheVariants as function
use Rattle.pac_functions.specs.Addresses.{PacEnd, Gives, AsksTooMany, NeedsClock, AfterAnswer, AfterAddress, replied, ipv4_in, ipv6_in, named_then, read_then, text_then, is_nothing, resolved, quad_result, is_address_in}
use Rattle.pac_functions.specs.Families.{AfterText, joined, plain_text, asked_then, written_then, both_resolved}
use Rattle.pac_functions.specs.Call.{pac_call, by_clock, calendar_args, gives as give}
use Rattle.pac_functions.specs.Texts.{or_undefined, text_in}
use Rattle.js_convert.specs.Texts.{text_of}
use Rattle.run_trees.specs.RunTree.{RunTree, Walked, Ended, Stopped, with_lookup, walk}
use Rattle.js_evaluation.specs.Handed.{gives}
use Rattle.js_evaluation.specs.PacNatives.{pac_end, pac_work}
use Rattle.js_evaluation.proofs.Following.{walked_on, walks_on}
use Rattle.js_evaluation.specs.State.{AfterValue, Does, fault}
use Rattle.js_evaluation.specs.declared.fault.FaultCode.{FaultCode}
use Rattle.js_frames.specs.Rests.{giving}
use Rattle.heap_steps.specs.declared.halt.Halt.{Halt}
use Rattle.heap_steps.specs.declared.halt.Halt.TheVariants as halt
use Rattle.heap_steps.specs.Works.{Works}
use Rattle.js_machine.specs.declared.machine.Machine.{Machine}
use Rattle.js_machine.specs.declared.now.Now.{Now}
use Rattle.js_machine.specs.declared.now.Now.TheVariants as now
use Rattle.js_machine.specs.Moves.{left}
use Rattle.js_machine.proofs.Steps.{with_heap}
use Rattle.js_evaluation.specs.declared.fault.FaultCode.TheVariants as code
use Rattle.js_runs.specs.Asking.{AreKept, Calls, GivesBack, alerts_after}
use Rattle.js_runs.proofs.Loops.{goes_over}

-- ---- what a call does to the alerts

abbrev alerts_of : {End : Type 0} → Walked End → List (List ℕ)
alerts_of (Ended end seen) = seen.alerts
alerts_of (Stopped name seen) = seen.alerts

-- what comes after an answer, an address or a text tells the host nothing
abbrev Quiet : {Found : Type 0} → (Found → RunTree PacEnd) → Type 0
Quiet {Found} next = (found : Found) (seen : Seen) → alerts_of (walk (next found) seen) ≡ seen.alerts

module _ (next : AfterAnswer) (quiet : Quiet next) where
  quiet_reply : (reply : Reply) (seen : Seen) → alerts_of (walk (replied next reply) seen) ≡ seen.alerts
  unfolding walk
  quiet_reply (Answered told) seen = quiet told seen
  quiet_reply Refused seen = refl

  quiet_known : (name : Name) (answer : Option Answer) (seen : Seen)
      → alerts_of (with_lookup name (λ reply. walk (replied next reply)) (lookup_by answer seen)) ≡ seen.alerts
  quiet_known name (Some answer) seen = quiet_reply (Answered answer) seen
  quiet_known name None seen = refl

  quiet_lookup : (name : Name) (too_many : Bool) (seen : Seen)
      → alerts_of (with_lookup name (λ reply. walk (replied next reply)) (if too_many then Replies Refused seen else lookup_by (known_answer seen.known name) (record seen { asked = with_name seen.asked name }))) ≡ seen.alerts
  quiet_lookup name true seen = quiet_reply Refused seen
  quiet_lookup name false seen = quiet_known name (known_answer seen.known name) (record seen { asked = with_name seen.asked name })

  quiet_named : (name : Option Name) (seen : Seen) → alerts_of (walk (named_then name next) seen) ≡ seen.alerts
  unfolding walk
  quiet_named None seen = quiet of_name.NoAddress seen
  quiet_named (Some name) seen = quiet_lookup name (is_one_too_many seen.asked name) seen

module _ (next : AfterAddress) (quiet : Quiet next) where
  quiet_read : (address : Option ℕ) (name : Option Name) (seen : Seen) → alerts_of (walk (read_then address name next) seen) ≡ seen.alerts
  quiet_read (Some address) name seen = quiet (Some address) seen
  quiet_read None name seen = quiet_named (λ told. next (ipv4_in told)) (λ told. quiet (ipv4_in told)) name seen

  quiet_value : (b : Bool) (v : Value) (seen : Seen) → alerts_of (walk (if b then next None else text_then (text_of v) next) seen) ≡ seen.alerts
  quiet_value true v seen = quiet None seen
  quiet_value false v seen = quiet_read (quad_of (text_of v)) (lookup_name_of (text_of v)) seen

  quiet_resolved : (vs : List Value) (seen : Seen) → alerts_of (walk (resolved vs next) seen) ≡ seen.alerts
  quiet_resolved vs seen = quiet_value (is_nothing (or_undefined (slice_get vs 0))) (or_undefined (slice_get vs 0)) seen

module _ (next : AfterText) (quiet : Quiet next) where
  quiet_asked : (text : List ℕ) (seen : Seen) → alerts_of (walk (asked_then text next) seen) ≡ seen.alerts
  quiet_asked text seen =
      quiet_named _ (λ six. quiet_named _ (λ four. quiet (joined (ipv6_in six) (ipv4_in four))) (lookup_name_of text)) (lookup_name6_of text) seen

  quiet_written : (plain : Option (List ℕ)) (text : List ℕ) (seen : Seen) → alerts_of (walk (written_then plain text next) seen) ≡ seen.alerts
  quiet_written (Some plain) text seen = quiet plain seen
  quiet_written None text seen = quiet_asked text seen

  quiet_both : (vs : List Value) (seen : Seen) → alerts_of (walk (both_resolved vs next) seen) ≡ seen.alerts
  quiet_both vs seen = quiet_written (plain_text (quad_of (text_in vs 0)) (ipv6_of (text_in vs 0))) (text_in vs 0) seen

-- a range tells nothing
quiet_range : (now : Option Moments) (is_in : Moments → Bool) (seen : Seen) → alerts_of (walk (by_clock now is_in) seen) ≡ seen.alerts
unfolding walk
quiet_range None is_in seen = refl
quiet_range (Some m) is_in seen = refl

-- a call keeps what it tells, and tells nothing else
keeps : (f : PacFunction) (vs : List Value) (now : Option Moments) (my_ip : ℕ) (seen : Seen)
    → alerts_of (walk (pac_call f vs now my_ip) seen) ≡ alerts_after f vs seen.alerts
unfolding walk
keeps function.IsPlainHostName vs now my_ip seen = refl
keeps function.DnsDomainIs vs now my_ip seen = refl
keeps function.LocalHostOrDomainIs vs now my_ip seen = refl
keeps function.DnsDomainLevels vs now my_ip seen = refl
keeps function.DnsResolve vs now my_ip seen = quiet_resolved (λ address. give (quad_result address)) (λ address after. refl) vs seen
keeps function.IsResolvable vs now my_ip seen = quiet_resolved (λ address. give (value.Bool (is_some address))) (λ address after. refl) vs seen
keeps function.IsInNet vs now my_ip seen =
    quiet_resolved (λ address. give (value.Bool (is_address_in address (quad_of (text_in vs 1)) (quad_of (text_in vs 2))))) (λ address after. refl) vs seen
keeps function.MyIpAddress vs now my_ip seen = refl
keeps function.ShExpMatch vs now my_ip seen = refl
keeps function.Alert vs now my_ip seen = refl
keeps function.WeekdayRange vs now my_ip seen = quiet_range now (λ m. is_in_weekday_range m (calendar_args vs)) seen
keeps function.DateRange vs now my_ip seen = quiet_range now (λ m. is_in_date_range m (calendar_args vs)) seen
keeps function.TimeRange vs now my_ip seen = quiet_range now (λ m. is_in_time_range m (calendar_args vs)) seen
keeps function.DnsResolveEx vs now my_ip seen = quiet_both (λ text. give (value.Text text)) (λ text after. refl) vs seen
keeps function.IsResolvableEx vs now my_ip seen = quiet_both (λ text. give (value.Bool (not (length text == 0)))) (λ text after. refl) vs seen
keeps function.IsInNetEx vs now my_ip seen = refl

module _ (f : PacFunction) (vs : List Value) (now : Option Moments) (my_ip : ℕ) (before : Seen) where
  pub keeps_of : (end : PacEnd) (after : Seen) → walk (pac_call f vs now my_ip) before ≡ Ended end after
      → after.alerts ≡ alerts_after f vs before.alerts
  keeps_of end after e = sym (ap alerts_of e) ∙ keeps f vs now my_ip before

-- a call that gives no value tells nothing
abbrev NoValue : PacEnd → Type 0
NoValue (Gives v) = ⊥
NoValue end = Unit {0}

ends_quietly : (f : PacFunction) (vs : List Value) (now : Option Moments) (my_ip : ℕ) (before after : Seen) (end : PacEnd)
    → NoValue end → walk (pac_call f vs now my_ip) before ≡ Ended end after → after.alerts ≡ before.alerts
unfolding walk
ends_quietly function.Alert vs now my_ip before after (Gives v) none e = absurd none
ends_quietly function.Alert vs now my_ip before after AsksTooMany none e = cc
ends_quietly function.Alert vs now my_ip before after NeedsClock none e = cc
ends_quietly function.IsPlainHostName vs now my_ip before after end none e = keeps_of function.IsPlainHostName vs now my_ip before end after e
ends_quietly function.DnsDomainIs vs now my_ip before after end none e = keeps_of function.DnsDomainIs vs now my_ip before end after e
ends_quietly function.LocalHostOrDomainIs vs now my_ip before after end none e = keeps_of function.LocalHostOrDomainIs vs now my_ip before end after e
ends_quietly function.DnsDomainLevels vs now my_ip before after end none e = keeps_of function.DnsDomainLevels vs now my_ip before end after e
ends_quietly function.DnsResolve vs now my_ip before after end none e = keeps_of function.DnsResolve vs now my_ip before end after e
ends_quietly function.IsResolvable vs now my_ip before after end none e = keeps_of function.IsResolvable vs now my_ip before end after e
ends_quietly function.IsInNet vs now my_ip before after end none e = keeps_of function.IsInNet vs now my_ip before end after e
ends_quietly function.MyIpAddress vs now my_ip before after end none e = keeps_of function.MyIpAddress vs now my_ip before end after e
ends_quietly function.ShExpMatch vs now my_ip before after end none e = keeps_of function.ShExpMatch vs now my_ip before end after e
ends_quietly function.WeekdayRange vs now my_ip before after end none e = keeps_of function.WeekdayRange vs now my_ip before end after e
ends_quietly function.DateRange vs now my_ip before after end none e = keeps_of function.DateRange vs now my_ip before end after e
ends_quietly function.TimeRange vs now my_ip before after end none e = keeps_of function.TimeRange vs now my_ip before end after e
ends_quietly function.DnsResolveEx vs now my_ip before after end none e = keeps_of function.DnsResolveEx vs now my_ip before end after e
ends_quietly function.IsResolvableEx vs now my_ip before after end none e = keeps_of function.IsResolvableEx vs now my_ip before end after e
ends_quietly function.IsInNetEx vs now my_ip before after end none e = keeps_of function.IsInNetEx vs now my_ip before end after e

-- ---- what a call leaves of the run

module _ (f : PacFunction) (vs : List Value) (place : Place) (m : Machine) (last : AfterValue) (before after : Seen) where
  abbrev call : RunTree PacEnd
  call = pac_call f vs m.state.now m.state.settings.my_ip

  -- it ends, and its end stands in its place
  pub call_ends : (end : PacEnd) → walk call before ≡ Ended end after
      → walk (left last m (giving (pac_work f vs place))) before ≡ walk (left last m (giving (pac_end place end))) after
  call_ends end e = walks_on (λ x. left last m (giving (pac_end place x))) call before ∙ ap (walked_on (λ x. left last m (giving (pac_end place x)))) e

  -- it stops at a name, and so does the run
  pub call_stops : (name : Name) → walk call before ≡ Stopped name after → walk (left last m (giving (pac_work f vs place))) before ≡ Stopped name after
  call_stops name e = walks_on (λ x. left last m (giving (pac_end place x))) call before ∙ ap (walked_on (λ x. left last m (giving (pac_end place x)))) e

-- ---- the value of a call

module _ (v : Value) (place : Place) (m : Machine) where
  pub value_back : (w : Value) (h : HeapView) → Works (gives v place) m.state.heap (Ok w) h → GivesBack v place m (Ok (now.Back (Ok w))) (with_heap m h)
  value_back w h k = record { goes = λ last. k.is _ _ _; light = omega arith }

  ends : (e : Halt) (h : HeapView) → Works (gives v place) m.state.heap (Err e) h → GivesBack v place m (Err e) (with_heap m h)
  ends (halt.Throw thrown) h k = record { goes = λ last. k.is _ _ _; light = omega arith }
  ends (halt.Fault c p) h k = record { goes = λ last. k.is _ _ _; light = tt }
  ends (halt.LeftOut n p) h k = record { goes = λ last. k.is _ _ _; light = tt }
  ends halt.Memory h k = record { goes = λ last. tt; light = tt }

  pub value_stops : (r : Result Now Halt) (e : Halt) (h : HeapView) → IsErrAnd r (λ x. x ≡ e) → Works (gives v place) m.state.heap (Err e) h → GivesBack v place m r (with_heap m h)
  value_stops (Ok what) e h i k = absurd i
  value_stops (Err x) e h i k = subst (λ y. GivesBack v place m (Err y) (with_heap m h)) (sym i) (ends e h k)

-- ---- all together

are_kept : (r : Result Now Halt) (alerts kept : List (List ℕ)) → alerts ≡ kept → AreKept r alerts kept
are_kept (Ok what) alerts kept e = e
are_kept (Err (halt.Throw t)) alerts kept e = e
are_kept (Err (halt.Fault c p)) alerts kept e = e
are_kept (Err (halt.LeftOut n p)) alerts kept e = e
are_kept (Err halt.Memory) alerts kept e = tt

-- given: the arguments as they are handed over
module _ (f : PacFunction) (vs given : List Value) (same : given ≡ vs) (place : Place) (m : Machine) (before : Seen) (alerts : List (List ℕ))
    (m' : Machine) (after : Seen) (alerts' : List (List ℕ)) where
  abbrev over : List Value → Walked PacEnd
  over args = walk (pac_call f args m.state.now m.state.settings.my_ip) before

  comes : (walked : Walked PacEnd) → over given ≡ walked → over vs ≡ walked
  comes walked e = ap over (sym same) ∙ e

  -- it gave a value
  pub call_gives : (v : Value) (step : Result Now Halt) → over given ≡ Ended (Gives v) after → GivesBack v place m step m' → alerts' ≡ alerts_after f given alerts
      → Calls (now.Host f vs place) m before alerts (Ok step) m' after alerts'
  call_gives v step e back kept =
      let ended = comes (Ended (Gives v) after) e in
      record {
        goes = λ last. rw (call_ends f vs place m last before after (Gives v) ended) (goes_over last (left last m (giving (gives v place))) step m' after (back.goes last));
        light = back.light;
        keeps = λ begun. are_kept step alerts' after.alerts
            (kept ∙ ap (λ args. alerts_after f args alerts) same ∙ ap (alerts_after f vs) begun ∙ sym (keeps_of f vs m.state.now m.state.settings.my_ip before (Gives v) after ended));
      }

  -- it asked one name too many, or it needs a clock
  call_fails : (end : PacEnd) → NoValue end → (c : FaultCode) → pac_end place end ≡ fault c place
      → over given ≡ Ended end after → alerts' ≡ alerts
      → Calls (now.Host f vs place) m before alerts (Ok (Err (halt.Fault c place))) m' after alerts'
  unfolding walk
  call_fails end none c is e kept =
      let ended = comes (Ended end after) e in
      record {
        goes = λ last. call_ends f vs place m last before after end ended
            ∙ ap (λ (part : Does Value). walk (left last m (giving part)) after) is;
        light = tt;
        keeps = λ begun. kept ∙ begun ∙ sym (ends_quietly f vs m.state.now m.state.settings.my_ip before after end none ended);
      }

  pub call_asks_too_many : over given ≡ Ended AsksTooMany after → alerts' ≡ alerts
      → Calls (now.Host f vs place) m before alerts (Ok (Err (halt.Fault code.TooManyNames place))) m' after alerts'
  call_asks_too_many = call_fails AsksTooMany tt code.TooManyNames refl

  pub call_needs_clock : over given ≡ Ended NeedsClock after → alerts' ≡ alerts
      → Calls (now.Host f vs place) m before alerts (Ok (Err (halt.Fault code.Unsupported place))) m' after alerts'
  call_needs_clock = call_fails NeedsClock tt code.Unsupported refl

  -- the host lacks a name
  pub call_misses : (name : Name) → over given ≡ Stopped name after → Calls (now.Host f vs place) m before alerts (Err name) m' after alerts'
  call_misses name e = record { goes = λ last. call_stops f vs place m last before after name (comes (Stopped name after) e); light = tt; keeps = λ begun. tt }

  -- memory was refused
  pub call_forgets : Calls (now.Host f vs place) m before alerts (Ok (Err halt.Memory)) m' after alerts'
  call_forgets = record { goes = λ last. tt; light = tt; keeps = λ begun. tt }
