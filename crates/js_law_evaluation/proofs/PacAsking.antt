-- A call of a function of the proxy format asks for lookup names alone.
use Rattle.std.proofs.Common.{◌≡◌, ℕ, List, Bool, true, false, refl, if◌then◌else◌, Option, Some, None}
use Rattle.std.specs.Prelude.{cond, map, slice_get, is_some, not, length, ◌==◌}
use Rattle.std.specs.Char.{to_ascii_lowercase}
use Rattle.heap_values.specs.declared.value.Value.{Value}
use Rattle.heap_values.specs.declared.value.Value.TheVariants as value
use Rattle.pac_calendar.specs.declared.moment.Moments.{Moments}
use Rattle.pac_names.specs.declared.answer.Answer.{Answer}
use Rattle.pac_names.specs.declared.answer.Answer.TheVariants as answer
use Rattle.pac_names.specs.declared.kind.NameKind.{NameKind}
use Rattle.pac_names.specs.declared.kind.NameKind.TheVariants.{V4, V6}
use Rattle.pac_ext.specs.Reading.{ipv6_of}
use Rattle.pac_names.specs.Names.{Name, is_name_text, kept_name, name_of, lookup_name_of, without_final_dot}
use Rattle.pac_names.specs.Quads.{quad_of}
use Rattle.js_host.specs.Seen.{Reply, Answered, Refused}
use Rattle.js_convert.specs.Texts.{text_of}
use Rattle.pac_functions.specs.declared.call.PacFunction.{PacFunction}
use Rattle.pac_functions.specs.declared.call.PacFunction.TheVariants as function
use Rattle.pac_functions.specs.Texts.{or_undefined, text_in}
use Rattle.pac_functions.specs.Addresses.{AfterAnswer, AfterAddress, replied, ipv4_in, ipv6_in, named_then, read_then, text_then, is_nothing, value_then, resolved, quad_result, is_address_in}
use Rattle.pac_functions.specs.Families.{AfterText, joined, plain_text, asked_then, written_then, both_resolved}
use Rattle.pac_functions.specs.Call.{gives, by_clock, calendar_args, pac_call}
use Rattle.pac_calendar.specs.Dates.{is_in_date_range}
use Rattle.pac_calendar.specs.Times.{is_in_time_range}
use Rattle.pac_calendar.specs.Weekdays.{is_in_weekday_range}
use Rattle.js_law_evaluation.specs.Laws.{AsksLookupNames}

module _ (next : AfterAnswer) (rest : (told : Answer) → AsksLookupNames (next told)) where
  replied-asks : (reply : Reply) → AsksLookupNames (replied next reply)
  unfolding AsksLookupNames
  replied-asks (Answered told) = rest told
  replied-asks Refused = tt

  -- the name is asked for where it is a lookup name
  kept-asks : (kind : NameKind) (text : List ℕ) → AsksLookupNames (named_then (kept_name kind text) next)
  unfolding AsksLookupNames
  kept-asks kind text = go (is_name_text text) refl where
    go : (b : Bool) → is_name_text text ≡ b
        → AsksLookupNames (named_then (cond {A = Option Name} b (Some (record { kind = kind; text = text })) None) next)
    go true is_name = (is_name, replied-asks)
    go false is_none = rest answer.NoAddress

  named-asks : (kind : NameKind) (text : List ℕ) → AsksLookupNames (named_then (name_of kind text) next)
  named-asks kind text = kept-asks kind (map to_ascii_lowercase (without_final_dot text))

module _ (next : AfterAddress) (rest : (address : Option ℕ) → AsksLookupNames (next address)) where
  read-asks : (quad : Option ℕ) (text : List ℕ) → AsksLookupNames (read_then quad (lookup_name_of text) next)
  read-asks (Some address) text = rest (Some address)
  read-asks None text = named-asks (λ told. next (ipv4_in told)) (λ told. rest (ipv4_in told)) V4 text

  value-asks : (v : Value) → AsksLookupNames (value_then v next)
  value-asks v = go (is_nothing v) where
    go : (b : Bool) → AsksLookupNames (if b then next None else text_then (text_of v) next)
    go true = rest None
    go false = read-asks (quad_of (text_of v)) (text_of v)

  resolved-asks : (args : List Value) → AsksLookupNames (resolved args next)
  resolved-asks args = value-asks (or_undefined (slice_get args 0))

-- both names of a text are asked for where they are lookup names
module _ (next : AfterText) (rest : (text : List ℕ) → AsksLookupNames (next text)) where
  asked-asks : (text : List ℕ) → AsksLookupNames (asked_then text next)
  asked-asks text =
      named-asks _ (λ six. named-asks _ (λ four. rest (joined (ipv6_in six) (ipv4_in four))) V4 text) V6 text

  written-asks : (plain : Option (List ℕ)) (text : List ℕ) → AsksLookupNames (written_then plain text next)
  written-asks (Some plain) text = rest plain
  written-asks None text = asked-asks text

-- a call whose value depends on the text of addresses
text-asks : (value_of : List ℕ → Value) (args : List Value)
    → AsksLookupNames (both_resolved args (λ text. gives (value_of text)))
unfolding AsksLookupNames
text-asks value_of args =
    let text = text_in args 0 in
    written-asks (λ text. gives (value_of text)) (λ text. tt) (plain_text (quad_of text) (ipv6_of text)) text

-- a call whose value depends on an address
address-asks : (value_of : Option ℕ → Value) (args : List Value)
    → AsksLookupNames (resolved args (λ address. gives (value_of address)))
unfolding AsksLookupNames
address-asks value_of args = resolved-asks (λ address. gives (value_of address)) (λ address. tt) args

-- a call that depends on a clock
range-asks : (now : Option Moments) (is_in : Moments → Bool) → AsksLookupNames (by_clock now is_in)
unfolding AsksLookupNames
range-asks None is_in = tt
range-asks (Some now) is_in = tt

pub call-asks : (f : PacFunction) (args : List Value) (now : Option Moments) (my_ip : ℕ)
    → AsksLookupNames (pac_call f args now my_ip)
unfolding AsksLookupNames
call-asks function.DnsResolve args now my_ip = address-asks quad_result args
call-asks function.IsResolvable args now my_ip = address-asks (λ address. value.Bool (is_some address)) args
call-asks function.IsInNet args now my_ip =
    address-asks (λ address. value.Bool (is_address_in address (quad_of (text_in args 1)) (quad_of (text_in args 2)))) args
call-asks function.DnsResolveEx args now my_ip = text-asks value.Text args
call-asks function.IsResolvableEx args now my_ip = text-asks (λ text. value.Bool (not (length text == 0))) args
call-asks function.WeekdayRange args now my_ip = range-asks now (λ m. is_in_weekday_range m (calendar_args args))
call-asks function.DateRange args now my_ip = range-asks now (λ m. is_in_date_range m (calendar_args args))
call-asks function.TimeRange args now my_ip = range-asks now (λ m. is_in_time_range m (calendar_args args))
call-asks f args now my_ip = tt
