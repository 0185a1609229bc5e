use Rattle.std.proofs.Common.{◌≡◌, true, false, ◌∷◌, subst, eq-eqb, ne_eqb, rules}
use Rattle.std.specs.Prelude.{nat_eq}
use Rattle.pac_match.specs.Matching.{stands_for}
use Rattle.pac_match.proofs.Walks.{IsWalked, walk-star, walk-step}
use Rattle.pac_match.proofs.pattern.lay.Goals as goal

pub returns-then-sign-eq-STAR : goal.returns-then-sign-eq-STAR
returns-then-sign-eq-STAR c =
    let walked = subst (λ signs. IsWalked c.args.pattern.now c.args.text.now signs c.loop-sign.left.now) c.in-Some.ensures.cases.0 c.loop-sign.invariant in
    walk-star c.args.pattern.now c.args.text.now c.in-Some.behind.now c.loop-sign.left.now c.in-Some.sign.now walked (eq-eqb c.in-Some.sign.now 42 c.if-sign-eq-STAR.true)

pub loop-sign-preserved : goal.loop-sign-preserved
loop-sign-preserved c =
    let signs_known = subst (λ signs. IsWalked c.args.pattern.now c.args.text.now signs c.loop-sign.left.now) c.in-Some.ensures.cases.0 c.loop-sign.invariant in
    let walked = subst (λ left. IsWalked c.args.pattern.now c.args.text.now (c.in-Some.sign.now ∷ c.in-Some.behind.now) left) c.in-Some-split_first.ensures.cases.0 signs_known in
    let no_star : nat_eq c.in-Some.sign.now 42 ≡ false = ne_eqb c.in-Some.sign.now 42 c.if-sign-eq-STAR.false in
    let fit : stands_for c.in-Some.sign.now c.in-Some-split_first.unit.now ≡ true = search rules in
    walk-step c.args.pattern.now c.args.text.now c.in-Some.behind.now c.in-Some-split_first.others.now c.in-Some.sign.now c.in-Some-split_first.unit.now walked no_star fit
