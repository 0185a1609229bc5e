-- The answers for generated sites are addresses of the family that their names ask for.
use Rattle.std.proofs.Common.{◌≡◌, ℕ, zero, suc, ◌+◌, ◌*◌, ◌/◌, ◌%◌, ◌<◌, Bool, true, false, cond, Some, refl, sym, ◌∙◌, subst, arith}
use Rattle.std.specs.Prelude.{◌==◌}
use Rattle.std.specs.Ordering.{eq_by_cmp}
use Rattle.std.specs.FinMap as map
use Rattle.pac_names.specs.declared.answer.Answer.{Answer}
use Rattle.pac_names.specs.declared.answer.Answer.TheVariants.{NoAddress}
use Rattle.pac_names.specs.declared.kind.NameKind.TheVariants.{V4}
use Rattle.pac_names.specs.Names.{Name}
use Rattle.pac_names.specs.Comparing.{compare_names, names_tie, names_total, one_name}
use Rattle.js_host.specs.Answers.{AnswerMap}
use Rattle.poll_log.proofs.Names.{none_some}
use Rattle.pac_generate.specs.Names.{gate_answer, gate_map, gate_name, inner_address, site_answer, site_map, site_name}
use Rattle.pac_generate.specs.Numbers.{number_behind, site_number}
use Rattle.memory_talk.specs.Laws.{AreAddresses, IsAddressOf, SitesHaveAddresses}

with_answer : (answers : AnswerMap) (name : Name) (answer : Answer) → AreAddresses answers → IsAddressOf answer name.kind → AreAddresses (map.insert answers name answer)
with_answer answers name answer all fits other found e =
    go (eq_by_cmp compare_names other name) refl (sym (map.get-insert names_total answers name answer other) ∙ e)
  where
    go : (b : Bool) → eq_by_cmp compare_names other name ≡ b → cond b (Some answer) (map.get answers other) ≡ Some found → IsAddressOf found other.kind
    go true here f =
        let same : answer ≡ found = cc in
        let one : other ≡ name = (one_name other name).0 (names_tie other name ∙ here) in
        subst (λ (n : Name). IsAddressOf found n.kind) (sym one) (subst (λ (a : Answer). IsAddressOf a name.kind) same fits)
    go false apart f = all other found f

inner_fits : (a b : ℕ) → a < 256 → b < 256 → IsAddressOf (inner_address a b) V4
inner_fits a b low small = omega (arith, low, small)

gates_have : (count : ℕ) → count < 11 → AreAddresses (gate_map count)
gates_have zero low name answer e = none_some answer (sym (map.get-empty compare_names name) ∙ e)
gates_have (suc count) low name answer e =
    with_answer (gate_map count) (gate_name count) (gate_answer count) (gates_have count (omega arith)) (inner_fits count 0 (omega arith) (omega arith)) name answer e

site_fits : (number : ℕ) → number < 65536 → IsAddressOf (site_answer number) V4
site_fits number low = go (number % 5 == 0)
  where
    go : (b : Bool) → IsAddressOf (cond b NoAddress (inner_address (number / 256) (number % 256))) V4
    go true = tt
    go false = inner_fits (number / 256) (number % 256) (omega arith) (omega arith)

upper_half : (x : ℕ) → (x % 4294967296) / 65536 < 65536
upper_half x = omega arith

pub sites_have : SitesHaveAddresses
sites_have seed zero = gates_have 10 (omega arith)
sites_have seed (suc site) =
    with_answer (site_map seed site) (site_name site) (site_answer (site_number seed site)) (sites_have seed site)
    (site_fits (site_number seed site) (upper_half (number_behind seed site * 1664525 + 1013904223)))
