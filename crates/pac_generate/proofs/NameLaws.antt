-- The names that are asked for are lookup names, and distinct.
use Rattle.std.proofs.Common.{◌≡◌, ℕ, zero, suc, ◌^◌, ◌<◌, true, false, cond, List, get_or, Some, None, codes, refl, ◌∙◌, ap, arith}
use Rattle.std.specs.Ordering.{eq_by_cmp, is_eq}
use Rattle.std.specs.declared.cmp.Ordering.{Ordering}
use Rattle.std.specs.declared.cmp.Ordering.TheVariants.{Less, Equal, Greater}
use Rattle.std.specs.FinMap as map
use Rattle.std.specs.Fmt.{decimal, digits}
use Rattle.std.proofs.lemmas.Fmt.{decimal_injective}
use Rattle.std.proofs.lemmas.List.{append_cancel_left, append_cancel_right}
use Rattle.pac_names.specs.Names.{Name, is_lookup_name, lookup_name_of}
use Rattle.batch_text.specs.declared.batch.TheConstants.{MOST_URLS}
use Rattle.js_host.specs.Answers.{AnswerMap}
use Rattle.pac_names.specs.declared.answer.Answer.{Answer}
use Rattle.pac_names.specs.Comparing.{compare_names, names_total, names_apart}
use Rattle.dns_message.proofs.QueryLaws.{name_of_name}
use Rattle.pac_generate.specs.Names.{site_host, site_name, gate_host, gate_name, site_map, gate_map, site_answer, gate_answer}
use Rattle.pac_generate.specs.Numbers.{site_number}
use Rattle.pac_generate.proofs.Below.{holds_below, each_below}

sites_are_names : holds_below MOST_URLS (λ site. is_lookup_name (site_name site)) ≡ true
unfolding digits
sites_are_names = refl

gates_are_names : holds_below 10 (λ digit. is_lookup_name (gate_name digit)) ≡ true
unfolding digits
gates_are_names = refl

-- what is read of them are they
pub site_is_read : (site : ℕ) → site < MOST_URLS → lookup_name_of (site_host site) ≡ Some (site_name site)
site_is_read site below = name_of_name (site_name site) (each_below MOST_URLS (λ k. is_lookup_name (site_name k)) sites_are_names site below)

pub gate_is_read : (digit : ℕ) → digit < 10 → lookup_name_of (gate_host digit) ≡ Some (gate_name digit)
gate_is_read digit below = name_of_name (gate_name digit) (each_below 10 (λ k. is_lookup_name (gate_name k)) gates_are_names digit below)

-- no site is a gate, and no two of either are one
sites_differ : (i j : ℕ) → i < 2 ^ 64 → j < 2 ^ 64 → site_name i ≡ site_name j → i ≡ j
sites_differ i j small fits e =
    decimal_injective i j small fits (append_cancel_left (codes "site") (decimal i) (decimal j) (append_cancel_right _ _ (codes ".example") (ap (λ (name : Name). name.text) e)))

gates_differ : (i j : ℕ) → i < 2 ^ 64 → j < 2 ^ 64 → gate_name i ≡ gate_name j → i ≡ j
gates_differ i j small fits e =
    decimal_injective i j small fits (append_cancel_left (codes "gw") (decimal i) (decimal j) (append_cancel_right _ _ (codes ".example") (ap (λ (name : Name). name.text) e)))

apart : (n : ℕ) → n ≡ 115 → n ≡ 103 → ⊥
apart n a b = omega arith

no_gate : (site digit : ℕ) → site_name site ≡ gate_name digit → ⊥
no_gate site digit e = apart (get_or (site_host site) 0 0) refl (ap (λ (name : Name). get_or name.text 0 0) e)

-- different names are kept apart
not_tied : (x y : Name) → (x ≡ y → ⊥) → eq_by_cmp compare_names x y ≡ false
not_tied x y differ = go (compare_names x y) refl
  where
    go : (r : Ordering) → compare_names x y ≡ r → is_eq r ≡ false
    go Less e = refl
    go Equal e = absurd (differ (names_apart x y e))
    go Greater e = refl

passed : (answers : AnswerMap) (name other : Name) (answer : Answer) → (other ≡ name → ⊥) → map.get answers other ≡ None → map.get (map.insert answers name answer) other ≡ None
passed answers name other answer differ absent =
    map.get-insert names_total answers name answer other ∙ ap (λ b. cond b (Some answer) (map.get answers other)) (not_tied other name differ) ∙ absent

-- so none of them has an answer before its own is put in
gate_absent : (count : ℕ) (name : Name) → ((digit : ℕ) → digit < count → name ≡ gate_name digit → ⊥) → map.get (gate_map count) name ≡ None
gate_absent zero name differ = map.get-empty compare_names name
gate_absent (suc count) name differ =
    passed (gate_map count) (gate_name count) name (gate_answer count) (differ count (omega arith)) (gate_absent count name (λ digit below. differ digit (omega arith)))

pub gate_is_new : (digit : ℕ) → digit < 2 ^ 64 → map.get (gate_map digit) (gate_name digit) ≡ None
gate_is_new digit small =
    gate_absent digit (gate_name digit) (λ k below e. let same : digit ≡ k = gates_differ digit k small (omega arith) e in absurd (omega arith))

site_absent : (seed count : ℕ) (name : Name) → ((site : ℕ) → site < count → name ≡ site_name site → ⊥) → ((digit : ℕ) → name ≡ gate_name digit → ⊥) → map.get (site_map seed count) name ≡ None
site_absent seed zero name differ other = gate_absent 10 name (λ digit below. other digit)
site_absent seed (suc count) name differ other =
    passed (site_map seed count) (site_name count) name (site_answer (site_number seed count)) (differ count (omega arith)) (site_absent seed count name (λ site below. differ site (omega arith)) other)

pub site_is_new : (seed site : ℕ) → site < 2 ^ 64 → map.get (site_map seed site) (site_name site) ≡ None
site_is_new seed site small =
    site_absent seed site (site_name site) (λ k below e. let same : site ≡ k = sites_differ site k small (omega arith) e in absurd (omega arith)) (λ digit e. no_gate site digit e)
