-- A batch: in each line `at` and a moment, `get` and a URL, or `fail` or `good` and a proxy.
use Rattle.std.specs.Prelude.{◌≡◌, ℕ, ◌+◌, ◌==◌, ℤ, pos, int_lt, Bool, true, false, ◌&&◌, nat_le, List, [], ◌∷◌, length, map, if◌then◌else◌, Option, Some, None, is_some, option_map, Result, Ok, Err, bytes_eq, codes}
use Rattle.std.specs.Char.{is_ascii_digit}
use Rattle.std.specs.List.{list_all, list_any}
use Rattle.std.specs.Option.{option_or}
use Rattle.std.specs.Str.{is_utf8}
use Rattle.std.specs.Str.Parse.{digits_value}
use Rattle.batch_text.specs.declared.batch.BatchKind.{BatchKind}
use Rattle.batch_text.specs.declared.batch.BatchKind.TheVariants.{BadLine, BadUrl, BackwardTime, TooMany}
use Rattle.batch_text.specs.declared.batch.BatchLine.{BatchLine}
use Rattle.batch_text.specs.declared.batch.BatchLine.TheVariants as line
use Rattle.batch_text.specs.declared.batch.BatchAnswer.{BatchAnswer}
use Rattle.batch_text.specs.declared.batch.BatchAnswer.TheVariants.{Refused, Memory}
use Rattle.batch_text.specs.Lines.{lines, says_nothing, word_of, rest_of}
use Rattle.batch_text.specs.View.{Seen, seen_of, view_of}
use Rattle.proxy_list.specs.declared.proxy.Proxy.{Proxy}
use Rattle.proxy_list.specs.Proxies.{entry_of, is_direct, lower}
use Rattle.utf16_text.specs.Decode.{utf16_units}
use Rattle.batch_text.specs.declared.batch.TheConstants.{MOST_URLS}
use Rattle.pac_calendar.specs.declared.showing.TheConstants.{LAST_MOMENT}

-- at a moment in seconds since 1970 in UTC: a URL, as scripts see it, is asked about, or a proxy failed, or worked
pub data BatchEntry : Type 0 where
  Asks : ℤ → Seen → BatchEntry
  ProxyFailed : ℤ → Proxy → BatchEntry
  ProxyWorked : ℤ → Proxy → BatchEntry

-- what a line says
pub data BatchSaid : Type 0 where
  Nothing : BatchSaid
  -- the moment from there on
  At : ℤ → BatchSaid
  -- what scripts see of a URL, if they are asked about it
  Get : Option Seen → BatchSaid
  -- a proxy failed, or worked
  Fail : Proxy → BatchSaid
  Good : Proxy → BatchSaid
  Bad : BatchSaid

-- 1 to 20 decimal digits
abbrev pub is_number : List ℕ → Bool
is_number text = nat_le 1 (length text) && nat_le (length text) 20 && list_all is_ascii_digit text

-- the moment that digits write, up to the end of the year 9998
abbrev pub moment_of : List ℕ → Option ℤ
moment_of text =
    if is_number text && nat_le (digits_value 10 text) LAST_MOMENT then Some (pos (digits_value 10 text)) else None

abbrev pub at_line : Option ℤ → BatchSaid
at_line (Some moment) = At moment
at_line None = Bad

abbrev pub get_line : List ℕ → BatchSaid
get_line url = if length url == 0 then Bad else Get (view_of url)

-- the proxy of an entry that is not `direct`
abbrev pub other_than_direct : Option Proxy → Option Proxy
other_than_direct None = None
other_than_direct (Some proxy) = if is_direct proxy.kind then None else Some proxy

-- the proxy that a text in UTF-8 names
abbrev pub proxy_of : List ℕ → Option Proxy
proxy_of text = other_than_direct (entry_of (lower (utf16_units text)))

abbrev pub fail_line : Option Proxy → BatchSaid
fail_line (Some proxy) = Fail proxy
fail_line None = Bad

abbrev pub good_line : Option Proxy → BatchSaid
good_line (Some proxy) = Good proxy
good_line None = Bad

abbrev pub text_line : List ℕ → BatchSaid
text_line line =
    if says_nothing line then Nothing
    else (if bytes_eq (word_of line) (codes "at") then at_line (moment_of (rest_of line))
    else (if bytes_eq (word_of line) (codes "get") then get_line (rest_of line)
    else (if bytes_eq (word_of line) (codes "fail") then fail_line (proxy_of (rest_of line))
    else (if bytes_eq (word_of line) (codes "good") then good_line (proxy_of (rest_of line))
    else Bad))))

abbrev pub line_of : List ℕ → BatchSaid
line_of line = if is_utf8 line then text_line line else Bad

-- ---- the batch: each line is judged by those before it, of which the nearest stands first

-- the moment of the nearest line `at`
abbrev pub named_moment : List BatchSaid → Option ℤ
named_moment [] = None
named_moment (At moment ∷ before) = Some moment
named_moment (line ∷ before) = named_moment before

-- how many lines ask for a URL
abbrev pub count_gets : List BatchSaid → ℕ
count_gets [] = 0
count_gets (Get seen ∷ before) = count_gets before + 1
count_gets (line ∷ before) = count_gets before

-- whether a line is at a moment: it asks for a URL, or a proxy failed or worked
abbrev pub has_moment : BatchSaid → Bool
has_moment (Get seen) = true
has_moment (Fail proxy) = true
has_moment (Good proxy) = true
has_moment line = false

-- a moment goes back if it is before the one that is named; the first one does behind a line that is at a moment
abbrev pub goes_back : Option ℤ → Bool → ℤ → Bool
goes_back (Some earlier) begun moment = int_lt moment earlier
goes_back None begun moment = begun

abbrev pub get_refusal : ℕ → Option Seen → Option BatchKind
get_refusal gets seen = if nat_le MOST_URLS gets then Some TooMany else (if is_some seen then None else Some BadUrl)

-- why a line is refused, by the moment that is named before it, whether a line before it is at a moment, and the number of
-- URLs before it
abbrev pub refusal : Option ℤ → Bool → ℕ → BatchSaid → Option BatchKind
refusal named begun gets Nothing = None
refusal named begun gets (At moment) = if goes_back named begun moment then Some BackwardTime else None
refusal named begun gets (Get seen) = get_refusal gets seen
refusal named begun gets (Fail proxy) = None
refusal named begun gets (Good proxy) = None
refusal named begun gets Bad = Some BadLine

-- the same by the lines before it, with its number from 1
abbrev pub refusal_behind : List BatchSaid → BatchSaid → Option (BatchKind × ℕ)
refusal_behind before line =
    option_map (λ kind. (kind, length before + 1)) (refusal (named_moment before) (list_any has_moment before) (count_gets before) line)

-- the first refusal of the lines behind these
abbrev pub first_refusal : List BatchSaid → List BatchSaid → Option (BatchKind × ℕ)
first_refusal before [] = None
first_refusal before (line ∷ rest) = option_or (refusal_behind before line) (first_refusal (line ∷ before) rest)

-- what these lines ask and tell, each at the moment of the last line `at` before it
abbrev pub entries_from : ℤ → List BatchSaid → List BatchEntry
entries_from moment [] = []
entries_from moment (At later ∷ rest) = entries_from later rest
entries_from moment (Get (Some seen) ∷ rest) = Asks moment seen ∷ entries_from moment rest
entries_from moment (Fail proxy ∷ rest) = ProxyFailed moment proxy ∷ entries_from moment rest
entries_from moment (Good proxy ∷ rest) = ProxyWorked moment proxy ∷ entries_from moment rest
entries_from moment (line ∷ rest) = entries_from moment rest

-- what the lines ask and tell, or the first line that is refused
abbrev pub BatchRead : Type 0
BatchRead = Result (List BatchEntry) (BatchKind × ℕ)

abbrev pub unless_refused : Option (BatchKind × ℕ) → List BatchEntry → BatchRead
unless_refused None entries = Ok entries
unless_refused (Some refused) entries = Err refused

abbrev pub batch_of : ℤ → List BatchSaid → BatchRead
batch_of start said = unless_refused (first_refusal [] said) (entries_from start said)

-- what the bytes of a batch say, from a moment on
abbrev pub batch_in : ℤ → List ℕ → BatchRead
batch_in start bytes = batch_of start (map line_of (lines bytes))

-- ---- what the code answers

abbrev pub entry_seen : BatchLine → BatchEntry
entry_seen (line.Get moment view) = Asks moment (seen_of view)
entry_seen (line.Fail moment proxy) = ProxyFailed moment proxy
entry_seen (line.Good moment proxy) = ProxyWorked moment proxy

abbrev pub ReadsBatch : Result (List BatchLine) BatchAnswer → BatchRead → Type 0
ReadsBatch (Ok batch) read = read ≡ Ok (map entry_seen batch)
ReadsBatch (Err (Refused kind line)) read = read ≡ Err (kind, line)
ReadsBatch (Err Memory) read = Unit {0}
