use Rattle.std.proofs.Common.{◌≡◌, Some, ◌∙◌, arith, rules}
use Rattle.pac_names.specs.Names.{lookup_name_of}
use Rattle.pac_generate.specs.Names.{site_host, site_name}
use Rattle.pac_generate.proofs.NameLaws.{site_is_read}
use Rattle.pac_generate.proofs.names.site_name.Goals as goal

pub unwrap-requires : goal.unwrap-requires
unwrap-requires c =
    let spelled : c.from_bytes.result ≡ lookup_name_of (site_host c.args.site) = search rules in
    let read : c.from_bytes.result ≡ Some (site_name c.args.site) = spelled ∙ site_is_read c.args.site (omega arith) in search rules

pub returns : goal.returns
returns c =
    let spelled : c.from_bytes.result ≡ lookup_name_of (site_host c.args.site) = search rules in
    let read : c.from_bytes.result ≡ Some (site_name c.args.site) = spelled ∙ site_is_read c.args.site (omega arith) in search rules
