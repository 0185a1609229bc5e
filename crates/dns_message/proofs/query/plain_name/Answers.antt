use Rattle.std.proofs.Common.{ℕ, List, Some, ◌∙◌, sym, ap, arith}
use Rattle.std.proofs.lemmas.List.{nil_from_length}
use Rattle.pac_names.specs.Names.{Name, lookup_name_of}
use Rattle.pac_names.specs.declared.kind.NameKind.{NameKind}
use Rattle.pac_names.specs.declared.kind.NameKind.TheVariants.{V4}
use Rattle.dns_message.proofs.QueryLaws.{both_same, length_of_question, not_both, plain_is_name, plain_is_some, plain_labels, same_inside, text_read}
use Rattle.dns_message.proofs.RoundTrip.{proper}
use Rattle.dns_message.proofs.query.plain_name.Goals as goal

pub returns-then-datagram-gt271-clause-named : goal.returns-then-datagram-gt271-clause-named
returns-then-datagram-gt271-clause-named c name kept asked =
    absurd (omega (arith, length_of_question c.args.datagram.now name asked, (proper name kept).short, c.if-datagram-gt271.true))

pub returns-in_err-first-clause-named : goal.returns-in_err-first-clause-named
returns-in_err-first-clause-named c name kept asked = absurd (plain_is_some name.text (sym (plain_labels c.args.datagram.now name asked) ∙ nil_from_length _ c.in_err-first.ensures.cases))

pub returns-in_err-name-clause-named : goal.returns-in_err-name-clause-named
returns-in_err-name-clause-named c name kept asked =
    let whole = sym (plain_labels c.args.datagram.now name asked) ∙ c.in_ok-first.ensures.cases.0 in
    let plain = plain_is_name name.text c.in_ok-first.rest.now c.in_ok-first.first.now whole in
    let named = c.from_bytes.ensures ∙ ap lookup_name_of (c.as_slice.ensures.value ∙ c.dots.ensures ∙ plain) ∙ text_read name kept in
    absurd (not_both c.from_bytes.result (record { kind = V4; text = name.text }) c.in_err-name.was named)

pub returns-clause-named : goal.returns-clause-named
returns-clause-named c name kept asked =
    let whole = sym (plain_labels c.args.datagram.now name asked) ∙ c.in_ok-first.ensures.cases.0 in
    let plain = plain_is_name name.text c.in_ok-first.rest.now c.in_ok-first.first.now whole in
    let named = c.from_bytes.ensures ∙ ap lookup_name_of (c.as_slice.ensures.value ∙ c.dots.ensures ∙ plain) ∙ text_read name kept in
    let read = same_inside c.in_ok-name.name (record { kind = V4; text = name.text }) (sym c.in_ok-name.was ∙ named) in
    let kind = same_inside c.in_ok-kind.kind name.kind (sym c.in_ok-kind.was ∙ c.plain_kind.ensures name asked) in
    ap Some (c.with_kind.ensures
    ∙ both_same (λ (k : NameKind) (text : List ℕ). record { kind = k; text = text }) c.in_ok-kind.kind name.kind c.in_ok-name.name.text name.text kind
    (ap (λ (n : Name). n.text) read))
