-- What a call of a function asks and tells the host of the run, and how it ends (the page on the Netscape Navigator Proxy
-- Auto-Config format; `alert` and the three functions on both families are this project's).
use Rattle.std.specs.Prelude.{ℕ, List, Bool, map, not, length, ◌==◌, Option, Some, None, is_some}
use Rattle.heap_values.specs.declared.value.Value.{Value}
use Rattle.heap_values.specs.declared.value.Value.TheVariants as value
use Rattle.pac_calendar.specs.declared.argument.CalendarArg.{CalendarArg}
use Rattle.pac_calendar.specs.declared.argument.CalendarArg.TheVariants as arg
use Rattle.pac_calendar.specs.declared.moment.Moments.{Moments}
use Rattle.pac_calendar.specs.Dates.{is_in_date_range}
use Rattle.pac_calendar.specs.Times.{is_in_time_range}
use Rattle.pac_calendar.specs.Weekdays.{is_in_weekday_range}
use Rattle.pac_match.specs.Matching.{is_match}
use Rattle.pac_names.specs.Quads.{quad_of}
use Rattle.pac_ext.specs.Prefixes.{is_in_prefix}
use Rattle.run_trees.specs.RunTree.{RunTree, Done, Tell}
use Rattle.pac_functions.specs.declared.call.PacFunction.{PacFunction}
use Rattle.pac_functions.specs.declared.call.PacFunction.TheVariants as function
use Rattle.pac_functions.specs.Texts.{text_in, is_plain, ends_in_domain, is_host_or_first, levels_of}
use Rattle.pac_functions.specs.Addresses.{PacEnd, Gives, NeedsClock, quad_result, is_address_in, resolved}
use Rattle.pac_functions.specs.Families.{both_resolved}

-- the call ends with a value
abbrev pub gives : Value → RunTree PacEnd
gives v = Done (Gives v)

-- an argument of a range: what is neither number nor text is of no form
abbrev pub calendar_arg : Value → CalendarArg
calendar_arg (value.Number n) = arg.Number n
calendar_arg (value.Text t) = arg.Text t
calendar_arg _ = arg.Other

abbrev pub calendar_args : List Value → List CalendarArg
calendar_args args = map calendar_arg args

-- a range is judged by what clocks show, where that is told
abbrev pub by_clock : Option Moments → (Moments → Bool) → RunTree PacEnd
by_clock None is_in = Done NeedsClock
by_clock (Some now) is_in = gives (value.Bool (is_in now))

-- one rule a function
abbrev pub pac_call : PacFunction → List Value → Option Moments → ℕ → RunTree PacEnd
pac_call function.IsPlainHostName args now my_ip = gives (value.Bool (is_plain (text_in args 0)))
pac_call function.DnsDomainIs args now my_ip = gives (value.Bool (ends_in_domain (text_in args 0) (text_in args 1)))
pac_call function.LocalHostOrDomainIs args now my_ip = gives (value.Bool (is_host_or_first (text_in args 0) (text_in args 1)))
pac_call function.DnsDomainLevels args now my_ip = gives (levels_of (text_in args 0))
pac_call function.DnsResolve args now my_ip = resolved args (λ address. gives (quad_result address))
pac_call function.IsResolvable args now my_ip = resolved args (λ address. gives (value.Bool (is_some address)))
pac_call function.IsInNet args now my_ip =
    resolved args (λ address. gives (value.Bool (is_address_in address (quad_of (text_in args 1)) (quad_of (text_in args 2)))))
pac_call function.MyIpAddress args now my_ip = gives (quad_result (Some my_ip))
pac_call function.ShExpMatch args now my_ip = gives (value.Bool (is_match (text_in args 1) (text_in args 0)))
pac_call function.Alert args now my_ip = Tell (text_in args 0) (gives value.Undefined)
pac_call function.WeekdayRange args now my_ip = by_clock now (λ m. is_in_weekday_range m (calendar_args args))
pac_call function.DateRange args now my_ip = by_clock now (λ m. is_in_date_range m (calendar_args args))
pac_call function.TimeRange args now my_ip = by_clock now (λ m. is_in_time_range m (calendar_args args))
pac_call function.DnsResolveEx args now my_ip = both_resolved args (λ text. gives (value.Text text))
pac_call function.IsResolvableEx args now my_ip = both_resolved args (λ text. gives (value.Bool (not (length text == 0))))
pac_call function.IsInNetEx args now my_ip = gives (value.Bool (is_in_prefix (text_in args 0) (text_in args 1)))
