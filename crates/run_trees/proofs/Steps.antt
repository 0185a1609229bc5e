-- The steps of a run over a host.
use Rattle.std.proofs.Common.{◌≡◌, ℕ, List, refl, ap}
use Rattle.pac_names.specs.Names.{Name}
use Rattle.js_host.specs.Seen.{Seen, Reply, Replies, Lacks, looked_up, alerted}
use Rattle.run_trees.specs.RunTree.{RunTree, Done, Ask, Tell, Ended, Stopped, with_lookup, walk}
use Rattle.run_trees.specs.Laws.{WalksByStep}

module _ {End : Type 0} where
  pub walk-Done : (end : End) (seen : Seen) → walk (Done end) seen ≡ Ended end seen
  unfolding walk
  walk-Done end seen = refl

  pub walk-Tell : (text : List ℕ) (next : RunTree End) (seen : Seen)
      → walk (Tell text next) seen ≡ walk next (alerted seen text)
  unfolding walk
  walk-Tell text next seen = refl

  pub walk-answered : (name : Name) (next : Reply → RunTree End) (seen : Seen) (reply : Reply) (after : Seen)
      → looked_up seen name ≡ Replies reply after → walk (Ask name next) seen ≡ walk (next reply) after
  unfolding walk
  walk-answered name next seen reply after e = ap (with_lookup name (λ reply. walk (next reply))) e

  pub walk-lacking : (name : Name) (next : Reply → RunTree End) (seen : Seen) (after : Seen)
      → looked_up seen name ≡ Lacks after → walk (Ask name next) seen ≡ Stopped name after
  unfolding walk
  walk-lacking name next seen after e = ap (with_lookup name (λ reply. walk (next reply))) e

pub steps : {End : Type 0} → WalksByStep End
steps = record { ended = walk-Done; told = walk-Tell; answered = walk-answered; lacking = walk-lacking }
