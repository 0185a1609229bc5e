-- The report: the lines that are written of each URL of a batch, in the order of the URLs. Each line ends with a line feed.
use Rattle.std.specs.Prelude.{ℕ, ◌+◌, ℤ, List, [], ◌∷◌, ◌++◌, Bool, true, false, if◌then◌else◌, flat_map, codes, Option, Some, None}
use Rattle.std.specs.Fmt.{decimal}
use Rattle.utf16_text.specs.Escape.{escaped}
use Rattle.js_tree.specs.declared.place.Place.{Place}
use Rattle.pac_names.specs.Names.{Name}
use Rattle.pac_names.specs.declared.kind.NameKind.{NameKind}
use Rattle.pac_names.specs.declared.kind.NameKind.TheVariants.{V4, V6}
use Rattle.js_evaluation.specs.declared.fault.Fault.{Fault}
use Rattle.js_evaluation.specs.declared.fault.FaultCode.{FaultCode}
use Rattle.js_evaluation.specs.declared.fault.FaultCode.TheVariants as code
use Rattle.js_evaluation.specs.Evaluation.{Ending, Gives, Fails, Outcome}
use Rattle.js_interp.specs.Answers.{seen_outcome}
use Rattle.bad_proxy_table.specs.Retry.{Report, Failed, Worked, try_order}
use Rattle.batch_text.specs.Batch.{BatchEntry, Asks, ProxyFailed, ProxyWorked}
use Rattle.proxy_list.specs.declared.proxy.Proxy.{Proxy}
use Rattle.proxy_list.specs.Proxies.{entry_text, proxies_of}
use Rattle.report_text.specs.declared.blocks.End as declared
use Rattle.report_text.specs.declared.blocks.End.TheVariants as of_code
use Rattle.report_text.specs.declared.blocks.UrlEnd as of_url

-- how it ended with a URL: its run came to this outcome, or this name stayed unanswered
pub data End : Type 0 where
  done : Outcome → End
  unanswered : Name → End

pub record UrlEnd : Type 0 where
  pub end : End
  pub runs : ℕ

abbrev pub line : List ℕ → List ℕ
line text = text ++ 10 ∷ []

-- ---- faults

abbrev pub fault_name : FaultCode → List ℕ
fault_name code.FuelSpent = codes "F1 FuelSpent"
fault_name code.TooDeep = codes "F2 TooDeep"
fault_name code.TooManyNames = codes "F3 TooManyNames"
fault_name code.StringTooLong = codes "F4 StringTooLong"
fault_name code.TextSpent = codes "F5 TextSpent"
fault_name code.ArrayTooLong = codes "F6 ArrayTooLong"
fault_name code.HeapFull = codes "F7 HeapFull"
fault_name code.NumberRange = codes "F8 NumberRange"
fault_name code.Fraction = codes "F9 Fraction"
fault_name code.NotANumber = codes "F10 NotANumber"
fault_name code.DivisionByZero = codes "F11 DivisionByZero"
fault_name code.Unsupported = codes "F12 Unsupported"
fault_name code.Uncaught = codes "F13 Uncaught"
fault_name code.NoEntry = codes "F14 NoEntry"
fault_name code.NotAString = codes "F15 NotAString"

-- two kinds of fault say more: the name that is left out, and the text of what was thrown
abbrev pub has_detail : FaultCode → Bool
has_detail code.Unsupported = true
has_detail code.Uncaught = true
has_detail c = false

-- line and column, parted by a colon
abbrev pub place_text : Place → List ℕ
place_text place = decimal place.line ++ codes ":" ++ decimal place.column

abbrev pub detail_text : Fault → List ℕ
detail_text fault = if has_detail fault.code then codes " " ++ escaped false fault.detail else []

abbrev pub fault_text : Fault → List ℕ
fault_text fault = fault_name fault.code ++ codes " at " ++ place_text fault.place ++ detail_text fault

-- ---- one URL

abbrev pub ending_line : Ending → List ℕ
ending_line (Gives text) = line (codes "result " ++ escaped false text)
ending_line (Fails fault) = line (codes "fault " ++ fault_text fault)

abbrev pub alert_line : List ℕ → List ℕ
alert_line text = line (codes "alert " ++ escaped false text)

-- the type of the addresses that a name asks for (RFC 3596, section 2.1); of IPv4 nothing is said
abbrev pub type_text : NameKind → List ℕ
type_text V4 = []
type_text V6 = codes " AAAA"

abbrev pub unanswered_text : Name → List ℕ
unanswered_text name = name.text ++ type_text name.kind

-- the alerts that are kept, and how the run ended; of a name that stayed unanswered, no alert
abbrev pub end_lines : End → List ℕ
end_lines (done outcome) = flat_map alert_line outcome.alerts ++ ending_line outcome.ending
end_lines (unanswered name) = line (codes "unanswered " ++ unanswered_text name)

abbrev pub url_line : ℕ → List ℕ → List ℕ
url_line number url = line (codes "url " ++ decimal number ++ codes " " ++ escaped false url)

abbrev pub runs_line : ℕ → List ℕ
runs_line runs = line (codes "runs " ++ decimal runs)

abbrev pub try_line : Proxy → List ℕ
try_line proxy = line (codes "try " ++ entry_text proxy)

-- the URL, how it ended with it, the proxies to try, and the runs
abbrev pub block : ℕ → List ℕ → UrlEnd → List Proxy → List ℕ
block number url end tries = url_line number url ++ end_lines end.end ++ flat_map try_line tries ++ runs_line end.runs

-- ---- the proxies to try

abbrev pub given_by : Ending → Option (List ℕ)
given_by (Gives text) = Some text
given_by (Fails fault) = None

-- the result, where there is one
abbrev pub result_of : End → Option (List ℕ)
result_of (done outcome) = given_by outcome.ending
result_of (unanswered name) = None

abbrev pub tries_by : List Report → ℤ → Option (List ℕ) → List Proxy
tries_by reports moment (Some text) = try_order reports (proxies_of text) moment
tries_by reports moment None = []

-- those of a result, in the order in which to try them at a moment, after these reports of proxies
abbrev pub tries_of : List Report → ℤ → End → List Proxy
tries_of reports moment end = tries_by reports moment (result_of end)

-- ---- all of them

-- the blocks of the URLs of a batch from this number on, after these reports of proxies, the last one first
abbrev pub report_from : ℕ → List Report → List BatchEntry → List UrlEnd → List ℕ
report_from number reports [] ends = []
report_from number reports (ProxyFailed moment proxy ∷ entries) ends = report_from number (Failed proxy moment ∷ reports) entries ends
report_from number reports (ProxyWorked moment proxy ∷ entries) ends = report_from number (Worked proxy moment ∷ reports) entries ends
report_from number reports (Asks moment seen ∷ entries) [] = []
report_from number reports (Asks moment seen ∷ entries) (end ∷ ends) =
    block number seen.url end (tries_of reports moment end.end) ++ report_from (number + 1) reports entries ends

-- the report of a batch
abbrev pub report_of : List BatchEntry → List UrlEnd → List ℕ
report_of entries ends = report_from 1 [] entries ends

-- ---- what code has

abbrev pub seen : declared.End → End
seen (of_code.Done outcome) = done (seen_outcome outcome)
seen (of_code.Unanswered name) = unanswered name

abbrev pub seen_end : of_url.UrlEnd → UrlEnd
seen_end end = record { end = seen end.end; runs = end.runs }
