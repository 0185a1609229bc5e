use Rattle.std.proofs.Common.{Some, ◌∙◌, sym, ap}
use Rattle.pac_names.specs.declared.kind.NameKind.TheVariants.{V4, V6}
use Rattle.dns_message.proofs.QueryLaws.{no_kind, one_kind, plain_type}
use Rattle.dns_message.proofs.query.plain_kind.Goals as goal

pub returns-then-asked-eq-TYPE_A : goal.returns-then-asked-eq-TYPE_A
returns-then-asked-eq-TYPE_A c name asked =
    ap Some (one_kind V4 name.kind (sym c.if-asked-eq-TYPE_A.true ∙ c.read_u16-asked.ensures ∙ plain_type c.args.datagram.now name asked))

pub returns-then-asked-eq-TYPE_AAAA : goal.returns-then-asked-eq-TYPE_AAAA
returns-then-asked-eq-TYPE_AAAA c name asked =
    ap Some (one_kind V6 name.kind (sym c.if-asked-eq-TYPE_AAAA.true ∙ c.read_u16-asked.ensures ∙ plain_type c.args.datagram.now name asked))

pub returns-else-asked-eq-TYPE_AAAA : goal.returns-else-asked-eq-TYPE_AAAA
returns-else-asked-eq-TYPE_AAAA c name asked =
    absurd (no_kind name.kind c.read_u16-asked.result (c.read_u16-asked.ensures ∙ plain_type c.args.datagram.now name asked) c.if-asked-eq-TYPE_A.false c.if-asked-eq-TYPE_AAAA.false)
