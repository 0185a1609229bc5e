use Rattle.std.proofs.Common.{◌∙◌, ◌^◌, ◌<◌, arith}
use Rattle.pac_ext.proofs.ReadBack.{read-front}
use Rattle.pac_ext.proofs.write.write6.Goals as goal

pub returns-clause-read_back : goal.returns-clause-read_back
returns-clause-read_back c =
    let small : c.args.address < 2 ^ 128 = omega arith in
    read-front c.args.address c.len-length.result c.text_of-text.result.items c.copy_from_slice.new.self _ small
    c.text_of-text.ensures c.len-length.ensures.value (c.copy_from_slice.ensures.after ∙ c.as_slice.ensures.value)
