use Rattle.std.proofs.Common.{◌≡◌, ℕ, List, ◌++◌, ◌∙◌, sym, ap}
use Rattle.dns_stream.specs.Frames.{missing_octets}
use Rattle.dns_stream.specs.Reading.{Reading}
use Rattle.dns_stream.specs.declared.reader.Reader.TheInside.{Inside}
use Rattle.dns_stream.proofs.PieceLaws.{read_on, unfinished_part, unfinished_whole}
use Rattle.dns_stream.proofs.reader.Reader.feed.Goals as goal
use Rattle.dns_stream.proofs.reader.Reader.feed.Goals.{then-missing-eq0, else-missing-eq0}

-- the octets that are kept
contents : Inside → List ℕ
contents inside = inside.octets.items

pub returns : goal.returns
unfolding contents
returns c =
    let before = c.self.inside.octets.items in
    let missing : c.missing.result ≡ missing_octets before = c.missing.ensures.missing ∙ ap missing_octets c.deref.ensures.value in
    let unfinished = ap (λ (reading : Reading). reading.unfinished) c.self.view_is in
    let kept : contents c.if-missing-eq0.self-inside ≡ c.args.self.now.unfinished =
    elim c.if-missing-eq0.branch [
      | then-missing-eq0 w ↦ ap contents w.self-inside-is ∙ w.clear.ensures.items ∙ sym (unfinished_whole before (sym missing ∙ w.if-missing-eq0.true)) ∙ unfinished
      | else-missing-eq0 w ↦ ap contents w.self-inside-is ∙ sym (unfinished_part before (λ e. w.if-missing-eq0.false (missing ∙ e))) ∙ unfinished
    ] in
    let behind : c.extend_from_slice.new.self.items ≡ contents c.if-missing-eq0.self-inside ++ c.args.piece.now = rw c.unwrap.ensures at c.extend_from_slice.ensures.items in
    read_on before _ c.extend_from_slice.new.self.items c.args.piece.now c.args.self.now c.self.view_is kept behind c.requires.wanted
