-- The names that a generated script asks for, and what they are answered.
use Rattle.std.specs.Prelude.{ℕ, zero, suc, ◌+◌, ◌*◌, ◌/◌, ◌%◌, ◌==◌, List, ◌++◌, codes, if◌then◌else◌}
use Rattle.std.specs.Fmt.{decimal}
use Rattle.std.specs.FinMap as map
use Rattle.pac_names.specs.declared.answer.Answer.{Answer}
use Rattle.pac_names.specs.declared.answer.Answer.TheVariants.{Address, NoAddress}
use Rattle.pac_names.specs.declared.kind.NameKind.TheVariants.{V4}
use Rattle.pac_names.specs.Names.{Name}
use Rattle.js_host.specs.Answers.{AnswerMap}
use Rattle.pac_generate.specs.Numbers.{site_number}
use Rattle.pac_generate.specs.declared.names.TheConstants.{GATES}

-- the host that a URL names
abbrev pub site_host : ℕ → List ℕ
site_host site = codes "site" ++ decimal site ++ codes ".example"

-- the host of the proxies, one for each digit
abbrev pub gate_host : ℕ → List ℕ
gate_host digit = codes "gw" ++ decimal digit ++ codes ".example"

-- the same as names, whose IPv4 addresses are asked
abbrev pub site_name : ℕ → Name
site_name site = record { kind = V4; text = site_host site }

abbrev pub gate_name : ℕ → Name
gate_name digit = record { kind = V4; text = gate_host digit }

-- the address 10.a.b.1
abbrev pub inner_address : ℕ → ℕ → Answer
inner_address a b = Address (10 * 16777216 + a * 65536 + b * 256 + 1)

-- every fifth number stands for a site without an address; of the others both octets stand in the address
abbrev pub site_answer : ℕ → Answer
site_answer number = if number % 5 == 0 then NoAddress else inner_address (number / 256) (number % 256)

abbrev pub gate_answer : ℕ → Answer
gate_answer digit = inner_address digit 0

-- the answers for so many gates
abbrev pub gate_map : ℕ → AnswerMap
gate_map zero = map.empty
gate_map (suc digit) = map.insert (gate_map digit) (gate_name digit) (gate_answer digit)

-- and for so many sites besides the ten gates
abbrev pub site_map : ℕ → ℕ → AnswerMap
site_map seed zero = gate_map GATES
site_map seed (suc site) = map.insert (site_map seed site) (site_name site) (site_answer (site_number seed site))
