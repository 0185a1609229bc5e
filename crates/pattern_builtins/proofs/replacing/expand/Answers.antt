use Rattle.std.proofs.Common.{◌-◌, ◌++◌, List, ℕ, length, take, drop, ap, subst, ◌∙◌, arith}
use Rattle.std.proofs.lemmas.List.{take_rest}
use Rattle.pattern_builtins.specs.Pieces.{found_in}
use Rattle.pattern_builtins.specs.Putting.{Grows}
use Rattle.pattern_builtins.specs.Replacing.{expanded}
use Rattle.pattern_builtins.proofs.FullParts.{expands_on, last_all, more_within}
use Rattle.pattern_builtins.proofs.replacing.expand.Goals as goal

pub loop-piece-init : goal.loop-piece-init
loop-piece-init c = record {
  same = ap (λ us. c.args.all.now.items ++ us) (c.next_full-left.ensures.same ∙ ap (expanded c.args.text.now (found_in c.args.found.now)) (last_all c.args.by.now));
  short = c.requires.short;
  within = c.next_full-left.ensures.behind;
}

pub loop-piece-preserved : goal.loop-piece-preserved
loop-piece-preserved c =
    let start : ℕ = length c.args.by.now - c.loop-piece.left in
    let front : List ℕ = take (length c.args.by.now - start) (drop start c.args.by.now) in
    let grown = subst (λ t. Grows c.in-Some.piece.now c.loop-piece.all.items t c.put.new.all.items) c.if-not-branch.false c.in_ok-put.ensures in
    record {
      same = expands_on c.args.text.now (found_in c.args.found.now) c.args.by.now front c.in-Some.piece.now c.in-Some.more.now c.loop-piece.left
          c.loop-piece.invariant.within (take_rest c.args.by.now start) c.in-Some.ensures.shorter c.loop-piece.all.items c.put.new.all.items
          (c.args.all.now.items ++ expanded c.args.text.now (found_in c.args.found.now) c.args.by.now) c.next_full-left-in-Some.result
          c.loop-piece.invariant.same c.in-Some.ensures.piece c.in-Some.ensures.rest (grown.0) c.next_full-left-in-Some.ensures.same;
      short = grown.1;
      within = omega (
        arith,
        c.next_full-left-in-Some.ensures.behind,
        more_within c.args.text.now (found_in c.args.found.now) c.args.by.now front c.in-Some.piece.now c.in-Some.more.now c.loop-piece.left
            c.loop-piece.invariant.within (take_rest c.args.by.now start) c.in-Some.ensures.shorter,
      );
    }
