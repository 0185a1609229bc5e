use Rattle.std.proofs.Common.{◌<◌, length, arith}
use Rattle.pac_ext.proofs.Texts.{groups-behind}
use Rattle.pac_ext.proofs.write.push_groups.Goals as goal

pub returns-in-len1-up-clause-items : goal.returns-in-len1-up-clause-items
returns-in-len1-up-clause-items c =
    let some : 0 < length c.args.groups.now = omega arith in
    groups-behind c.args.text.now.items c.args.groups.now c.push_group.new.text.items c.push_behind.new.text.items some c.push_group.ensures.items c.push_behind.ensures.items
