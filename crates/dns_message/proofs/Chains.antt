-- The chain of aliases, step by step.
use Rattle.std.proofs.Common.{◌≡◌, ℕ, suc, List, Some, None, ◌∙◌, ap}
use Rattle.std.specs.Prelude.{IsSome}
use Rattle.pac_names.specs.declared.answer.Answer.TheVariants as answer
use Rattle.pac_names.specs.declared.kind.NameKind.{NameKind}
use Rattle.dns_name.specs.Wire.{same_labels}
use Rattle.dns_message.specs.Record.{Fact, RecordThere, record_at, facts_at}
use Rattle.dns_message.specs.Reply.{address_in, address_or, alias_in, alias_or, answer_on, followed}
use Rattle.dns_message.specs.Seen.{facts_known}
use Rattle.dns_message.proofs.Records.{known_more}

-- one record less
pub alias_more : (kind : NameKind) (n k : ℕ) (message : List ℕ) (at : ℕ) (r : RecordThere) (name : List (List ℕ)) → n ≡ suc k → record_at kind message at ≡ Some r → IsSome (facts_at kind n message at)
    → alias_in (facts_known (facts_at kind n message at)) name ≡ alias_or (same_labels r.fact.owner name) r.fact.says (alias_in (facts_known (facts_at kind k message r.behind)) name)
alias_more kind n k message at r name e q h = ap (λ (facts : List Fact). alias_in facts name) (known_more kind n k message at r e q h)

pub address_more : (kind : NameKind) (n k : ℕ) (message : List ℕ) (at : ℕ) (r : RecordThere) (name : List (List ℕ)) → n ≡ suc k → record_at kind message at ≡ Some r → IsSome (facts_at kind n message at)
    → address_in (facts_known (facts_at kind n message at)) name ≡ address_or (same_labels r.fact.owner name) r.fact.says (address_in (facts_known (facts_at kind k message r.behind)) name)
address_more kind n k message at r name e q h = ap (λ (facts : List Fact). address_in facts name) (known_more kind n k message at r e q h)

-- no record is left
pub alias_none : (kind : NameKind) (n : ℕ) (message : List ℕ) (at : ℕ) (name : List (List ℕ)) → n ≡ 0 → alias_in (facts_known (facts_at kind n message at)) name ≡ None
unfolding facts_at
alias_none kind n message at name e = ap (λ (j : ℕ). alias_in (facts_known (facts_at kind j message at)) name) e

pub address_none : (kind : NameKind) (n : ℕ) (message : List ℕ) (at : ℕ) (name : List (List ℕ)) → n ≡ 0 → address_in (facts_known (facts_at kind n message at)) name ≡ answer.NoAddress
unfolding facts_at
address_none kind n message at name e = ap (λ (j : ℕ). address_in (facts_known (facts_at kind j message at)) name) e

-- one step of the chain
pub answer_more : (n k : ℕ) (facts : List Fact) (name target : List (List ℕ)) → n ≡ suc k → alias_in facts name ≡ Some target → answer_on n facts name ≡ answer_on k facts target
unfolding answer_on
answer_more n k facts name target e h = ap (λ (j : ℕ). answer_on j facts name) e ∙ ap (followed facts name (answer_on k facts)) h

-- the chain ends where there is no alias
pub answer_ends : (n k : ℕ) (facts : List Fact) (name : List (List ℕ)) → n ≡ suc k → alias_in facts name ≡ None → answer_on n facts name ≡ address_in facts name
unfolding answer_on
answer_ends n k facts name e h = ap (λ (j : ℕ). answer_on j facts name) e ∙ ap (followed facts name (answer_on k facts)) h

-- and after its last step
pub answer_last : (n : ℕ) (facts : List Fact) (name : List (List ℕ)) → n ≡ 0 → answer_on n facts name ≡ address_in facts name
unfolding answer_on
answer_last n facts name e = ap (λ (j : ℕ). answer_on j facts name) e
