use Rattle.std.proofs.Common.{Some, None, ◌∙◌, sym, ap, arith}
use Rattle.dns_message.specs.Seen.{says_seen, seen}
use Rattle.dns_message.proofs.Records.{record_read, record_no_name, record_no_fields, record_no_data}
use Rattle.dns_message.proofs.record.read_record.Goals as goal

pub returns-in_err-fields : goal.returns-in_err-fields
returns-in_err-fields c = ap (seen c.args.message.now) c.from_residual.ensures ∙ sym (record_no_name c.args.kind c.args.message.now c.args.at (sym c.in_err-fields.ensures.behind))

pub returns-then-fields-message : goal.returns-then-fields-message
returns-then-fields-message c = sym (record_no_fields c.args.kind c.args.message.now c.args.at c.in_ok-fields.fields (sym c.in_ok-fields.ensures.behind) c.if-fields-message.true)

pub returns-then-behind-message : goal.returns-then-behind-message
returns-then-behind-message c =
    sym (record_no_data c.args.kind c.args.message.now c.args.at c.in_ok-fields.fields (sym c.in_ok-fields.ensures.behind) (omega (arith, c.read_u16-rdlength.ensures, c.if-behind-message.true)))

pub returns-in_err-told : goal.returns-in_err-told
returns-in_err-told c =
    ap (seen c.args.message.now) c.from_residual-in_err-told.ensures
    ∙ sym (record_read c.args.kind c.args.message.now c.args.at c.in_ok-fields.fields c.read_u16-rdlength.result None
    (sym c.in_ok-fields.ensures.behind) c.read_u16-rdlength.ensures c.if-behind-message.false c.in_err-told.ensures)

pub returns : goal.returns
returns c =
    sym (record_read c.args.kind c.args.message.now c.args.at c.in_ok-fields.fields c.read_u16-rdlength.result (Some (says_seen c.args.message.now c.in_ok-told.told))
    (sym c.in_ok-fields.ensures.behind) c.read_u16-rdlength.ensures c.if-behind-message.false c.in_ok-told.ensures)
