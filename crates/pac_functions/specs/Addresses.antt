-- The functions that ask for addresses (the page on the Netscape Navigator Proxy Auto-Config format).
use Rattle.std.specs.Prelude.{ℕ, List, Bool, true, false, if◌then◌else◌, nat_eq, bit_and, slice_get, Option, Some, None}
use Rattle.heap_values.specs.declared.value.Value.{Value}
use Rattle.heap_values.specs.declared.value.Value.TheVariants as value
use Rattle.pac_names.specs.declared.answer.Answer.{Answer}
use Rattle.pac_names.specs.declared.answer.Answer.TheVariants as answer
use Rattle.pac_names.specs.Names.{Name, lookup_name_of}
use Rattle.pac_names.specs.Quads.{quad_of, quad_text}
use Rattle.js_host.specs.Seen.{Reply, Answered, Refused}
use Rattle.run_trees.specs.RunTree.{RunTree, Done, Ask}
use Rattle.js_convert.specs.Texts.{text_of}
use Rattle.pac_functions.specs.Texts.{or_undefined}

-- how a call ends: it gives a value, or it asks a name when the most are asked, or it goes by what clocks show, and that
-- isn't told
pub data PacEnd : Type 0 where
  Gives : Value → PacEnd
  AsksTooMany : PacEnd
  NeedsClock : PacEnd

-- ---- addresses

-- a dotted quad, or null where there is no address
abbrev pub quad_result : Option ℕ → Value
quad_result None = value.Null
quad_result (Some address) = value.Text (quad_text address)

-- address and pattern are equal where the mask has a 1; where one of the three is none, they are not
abbrev pub is_address_in : Option ℕ → Option ℕ → Option ℕ → Bool
is_address_in (Some address) (Some pattern) (Some mask) = nat_eq (bit_and address mask) (bit_and pattern mask)
is_address_in _ _ _ = false

-- ---- asking the host

-- what comes after the answer on a name is known
abbrev pub AfterAnswer : Type 0
AfterAnswer = Answer → RunTree PacEnd

abbrev pub replied : AfterAnswer → Reply → RunTree PacEnd
replied next (Answered told) = next told
replied next Refused = Done AsksTooMany

-- the answer on a lookup name is what the host says; a text that is none has no address
abbrev pub named_then : Option Name → AfterAnswer → RunTree PacEnd
named_then None next = next answer.NoAddress
named_then (Some name) next = Ask name (replied next)

-- the IPv4 address of an answer, and the IPv6 address: one of the other family counts as none
abbrev pub ipv4_in : Answer → Option ℕ
ipv4_in (answer.Address address) = Some address
ipv4_in _ = None

abbrev pub ipv6_in : Answer → Option ℕ
ipv6_in (answer.Address6 address) = Some address
ipv6_in _ = None

-- what comes after an address is known, or that there is none
abbrev pub AfterAddress : Type 0
AfterAddress = Option ℕ → RunTree PacEnd

-- a dotted quad is an address
abbrev pub read_then : Option ℕ → Option Name → AfterAddress → RunTree PacEnd
read_then (Some address) name next = next (Some address)
read_then None name next = named_then name (λ told. next (ipv4_in told))

abbrev pub text_then : List ℕ → AfterAddress → RunTree PacEnd
text_then text next = read_then (quad_of text) (lookup_name_of text) next

abbrev pub is_nothing : Value → Bool
is_nothing value.Undefined = true
is_nothing value.Null = true
is_nothing _ = false

-- undefined and null have no address, and nobody is asked
abbrev pub value_then : Value → AfterAddress → RunTree PacEnd
value_then v next = if is_nothing v then next None else text_then (text_of v) next

-- the address of the first argument
abbrev pub resolved : List Value → AfterAddress → RunTree PacEnd
resolved args next = value_then (or_undefined (slice_get args 0)) next
