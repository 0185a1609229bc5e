use Rattle.std.proofs.Common.{◌∙◌, ◌++◌, ◌∷◌, [], true, sym, ap, subst}
use Rattle.std.specs.Ordering.{nat_cmp}
use Rattle.std.specs.Cmp.Lexicographic.{slice_cmp}
use Rattle.std.specs.BTreeSet.{contains}
use Rattle.heap_objects.specs.Keys.{HasSeen, IsMarked}
use Rattle.heap_objects.proofs.KeyLemmas.{HasSeen-more}
use Rattle.heap_objects.proofs.name_set.NameSet.add.Goals as goal

pub invariant_of-self-in-Ok : goal.invariant_of-self-in-Ok
invariant_of-self-in-Ok c =
    let before = contains (slice_cmp nat_cmp) c.self.inside.seen in
    let after = contains (slice_cmp nat_cmp) c.mark.new.seen in
    let marked = subst (λ name. IsMarked before name true after) c.in_ok-copy.ensures c.in_ok-mark.ensures.ok in
    subst (HasSeen after) (sym (c.in-Ok.ensures.ok ∙ ap (λ name. c.self.inside.names ++ name ∷ []) c.in_ok-held.ensures))
    (HasSeen-more before after c.self.inside.names c.args.name.now c.self.invariant marked)
