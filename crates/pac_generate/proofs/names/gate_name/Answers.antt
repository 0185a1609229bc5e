use Rattle.std.proofs.Common.{◌≡◌, Some, ◌∙◌, arith, rules}
use Rattle.pac_names.specs.Names.{lookup_name_of}
use Rattle.pac_generate.specs.Names.{gate_host, gate_name}
use Rattle.pac_generate.proofs.NameLaws.{gate_is_read}
use Rattle.pac_generate.proofs.names.gate_name.Goals as goal

pub unwrap-requires : goal.unwrap-requires
unwrap-requires c =
    let spelled : c.from_bytes.result ≡ lookup_name_of (gate_host c.args.digit) = search rules in
    let read : c.from_bytes.result ≡ Some (gate_name c.args.digit) = spelled ∙ gate_is_read c.args.digit (omega arith) in search rules

pub returns : goal.returns
returns c =
    let spelled : c.from_bytes.result ≡ lookup_name_of (gate_host c.args.digit) = search rules in
    let read : c.from_bytes.result ≡ Some (gate_name c.args.digit) = spelled ∙ gate_is_read c.args.digit (omega arith) in search rules
