use Rattle.std.proofs.Common.{length, ap, arith}
use Rattle.std.specs.Vec.{vec_len}
use Rattle.shared_list.proofs.PartLemmas.{length-items}
use Rattle.shared_list.proofs.list.SharedList.len.Goals as goal

pub returns : goal.returns
returns g c =
    let p = c.self.inside.parts in
    omega (arith, c.len.ensures, c.len-2.ensures, ap vec_len c.deref.ensures, p.base.value.ok.0, p.own.ok.0, length-items p, ap length c.self.view_is)
