use Rattle.std.proofs.Common.{Option, Bor, List, ℕ, ◌∙◌, sym, ap, arith}
use Rattle.std.specs.Option.{option_copied}
use Rattle.std.proofs.lemmas.Bool.{iff_false}
use Rattle.pac_names.specs.Labels.{labels_behind, labels_of}
use Rattle.pac_names.proofs.LabelLaws.{labels_length-labels_of}
use Rattle.dns_name.specs.Wire.{spells_name}
use Rattle.dns_name.proofs.SameLaws.{spelled_whole, spells_differs, spells_goes_on}
use Rattle.dns_name.proofs.compare.spells.Goals as goal

pub labels-init : goal.labels-init
labels-init c =
    rw c.bytes.ensures.value
    (spelled_whole c.args.message.now c.args.at (labels_of c.args.name.now.text) (omega (arith, labels_length-labels_of c.args.name.now.text, c.bytes.ensures.short)), c.bytes.ensures.labels)

pub returns-then-not-eq_ignore_ascii_case : goal.returns-then-not-eq_ignore_ascii_case
returns-then-not-eq_ignore_ascii_case c =
    sym (spells_differs (spells_name c.args.message.now c.args.at c.args.name.now.text) _ _ _ _ c.in-Label.found.now c.split_label.result.0.now c.labels.invariant.0 c.in-Label.ensures
    (ap (λ (o : Option (Bor (List ℕ))). labels_behind (option_copied o)) c.in-Some.is ∙ c.split_label.ensures.labels) c.labels.invariant.1
    (iff_false c.eq_ignore_ascii_case.ensures.test c.if-not-eq_ignore_ascii_case.true))

pub labels-preserved : goal.labels-preserved
labels-preserved c =
    spells_goes_on (spells_name c.args.message.now c.args.at c.args.name.now.text) _ _ _ _ c.in-Label.found.now c.split_label.result.0.now c.labels.invariant.0 c.in-Label.ensures
    (ap (λ (o : Option (Bor (List ℕ))). labels_behind (option_copied o)) c.in-Some.is ∙ c.split_label.ensures.labels) c.labels.invariant.1
    (c.eq_ignore_ascii_case.ensures.test.0 c.if-not-eq_ignore_ascii_case.false)
