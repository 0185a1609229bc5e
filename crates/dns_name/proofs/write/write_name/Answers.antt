use Rattle.std.proofs.Common.{length, ◌≡◌, ◌+◌, Option, Bor, List, ℕ, ◌∙◌, ap, subst, arith}
use Rattle.std.specs.Option.{option_copied}
use Rattle.pac_names.specs.Labels.{labels_behind, labels_of}
use Rattle.pac_names.proofs.LabelLaws.{labels_length-labels_of}
use Rattle.dns_name.proofs.WriteLaws.{IsWrittenSoFar, written_start, written_more, written_end, end_of_written}
use Rattle.dns_name.proofs.WireLaws.{written_read, length-wire_name}
use Rattle.dns_name.specs.Writing.{wire_name}
use Rattle.dns_name.proofs.write.write_name.Goals as goal

pub labels-init : goal.labels-init
labels-init c =
    rw c.bytes.ensures.value
    (written_start c.args.buffer.now c.args.at (labels_of c.args.name.now.text) (omega (arith, labels_length-labels_of c.args.name.now.text, c.bytes.ensures.short)) c.bytes.ensures.labels)

pub labels-preserved : goal.labels-preserved
labels-preserved c =
    written_more c.args.buffer.now c.labels.buffer c.write_label-at.new.buffer c.args.at c.labels.at c.write_label-at.result (labels_of c.args.name.now.text) _ _ c.split_label.result.0.now
    c.labels.invariant (ap (λ (o : Option (Bor (List ℕ))). labels_behind (option_copied o)) c.in-Some.is ∙ c.split_label.ensures.labels) c.write_label-at.ensures.written c.write_label-at.ensures.behind

pub returns-clause-written : goal.returns-clause-written
returns-clause-written c =
    written_end c.args.buffer.now c.labels.buffer c.args.name.now.text c.args.at c.labels.at
    (subst (λ (o : Option (Bor (List ℕ))). IsWrittenSoFar c.args.buffer.now c.labels.buffer c.args.at c.labels.at (labels_of c.args.name.now.text) (labels_behind (option_copied o))) c.in_default.is
    c.labels.invariant)

pub returns-clause-read : goal.returns-clause-read
returns-clause-read c =
    written_read c.args.buffer.now c.labels.buffer c.args.name.now.text c.args.at c.labels.at
    (subst (λ (o : Option (Bor (List ℕ))). IsWrittenSoFar c.args.buffer.now c.labels.buffer c.args.at c.labels.at (labels_of c.args.name.now.text) (labels_behind (option_copied o))) c.in_default.is
    c.labels.invariant)
    c.bytes.ensures.short c.bytes.ensures.labels

pub returns-clause-room : goal.returns-clause-room
returns-clause-room c =
    let end : c.labels.at + 1 ≡ c.args.at + length (wire_name c.args.name.now.text) =
    end_of_written c.args.buffer.now c.labels.buffer c.args.name.now.text c.args.at c.labels.at
    (subst (λ (o : Option (Bor (List ℕ))). IsWrittenSoFar c.args.buffer.now c.labels.buffer c.args.at c.labels.at (labels_of c.args.name.now.text) (labels_behind (option_copied o))) c.in_default.is
    c.labels.invariant) in
    omega (arith, end, length-wire_name c.args.name.now.text, c.bytes.ensures.short)
