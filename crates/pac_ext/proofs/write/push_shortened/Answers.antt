use Rattle.pac_ext.proofs.Texts.{shortened-parts}
use Rattle.pac_ext.proofs.write.push_shortened.Goals as goal

pub returns : goal.returns
returns c =
    let e = shortened-parts c.args.text.now.items c.args.groups.now c.split_at.result.0.now c.split_at.result.1.now c.split_at-2.result.1.now c.args.row
    c.split_at.ensures.front c.split_at.ensures.back c.split_at-2.ensures.back in
    cc
