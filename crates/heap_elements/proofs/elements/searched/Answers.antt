use Rattle.std.proofs.Common.{◌≡◌, IfOk, IfErr, None, rules, subst, arith}
use Rattle.std.specs.Fmt.{decimal}
use Rattle.std.proofs.lemmas.List.Sorted.{answers_always}
use Rattle.heap_elements.specs.Properties.{property_at}
use Rattle.heap_elements.specs.Elements.{elements_of, HasIndex}
use Rattle.heap_elements.proofs.ElementLemmas as lemmas
use Rattle.heap_elements.proofs.elements.searched.Goals as goal

pub returns-in-Ok-clause-found : goal.returns-in-Ok-clause-found
returns-in-Ok-clause-found c =
    let facts = c.binary_search_by_key.ensures in
    let by_key = facts.position (λ s. s.0) (answers_always _ _ _ (λ f a r g called. search rules)) in
    let both = lemmas.searched c.args.slots.now c.requires c.args.index c.binary_search_by_key.result (omega arith) facts.bound by_key in
    subst (λ r. IfOk r (λ at. HasIndex c.args.slots.now c.args.index at)) c.in-Ok.is both.found

pub returns-in-Err-clause-missing : goal.returns-in-Err-clause-missing
returns-in-Err-clause-missing c =
    let facts = c.binary_search_by_key.ensures in
    let by_key = facts.position (λ s. s.0) (answers_always _ _ _ (λ f a r g called. search rules)) in
    let both = lemmas.searched c.args.slots.now c.requires c.args.index c.binary_search_by_key.result (omega arith) facts.bound by_key in
    subst (λ r. IfErr r (λ at. property_at (elements_of c.args.slots.now) (decimal c.args.index) ≡ None)) c.in-Err.is both.missing
