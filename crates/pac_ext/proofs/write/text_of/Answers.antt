use Rattle.pac_ext.proofs.Texts.{text-full, text-short}
use Rattle.pac_ext.proofs.write.text_of.Goals as goal

pub returns-then-row-lt2 : goal.returns-then-row-lt2
returns-then-row-lt2 c =
    text-full c.args.address c.groups_of-groups.result c.longest_row-row.result c.push_groups.new.text.items c.groups_of-groups.ensures c.longest_row-row.ensures.value
    c.new-text.result.items c.if-row-lt2.true c.new-text.ensures c.push_groups.ensures.items

pub returns-else-row-lt2 : goal.returns-else-row-lt2
returns-else-row-lt2 c =
    text-short c.args.address c.groups_of-groups.result c.longest_row-row.result c.push_shortened.new.text.items c.groups_of-groups.ensures c.longest_row-row.ensures.value
    c.new-text.result.items c.if-row-lt2.false c.new-text.ensures c.push_shortened.ensures
