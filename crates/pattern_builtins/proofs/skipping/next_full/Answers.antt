use Rattle.std.proofs.Common.{◌≡◌, ◌+◌, ◌-◌, ◌*◌, length, get_or, take, drop, ap, subst, ◌∙◌, arith}
use Rattle.std.proofs.lemmas.List.{get_or-drop, take_rest}
use Rattle.pattern_builtins.specs.Pieces.{found_in}
use Rattle.pattern_builtins.specs.Skipping.{last, next_of}
use Rattle.pattern_builtins.proofs.FullParts.{Furthest, furthest_next, skips_behind, skips_same}
use Rattle.pattern_builtins.proofs.skipping.next_full.Goals as goal

pub loop-kind-preserved : goal.loop-kind-preserved
loop-kind-preserved c =
    let kind : c.from.result ≡ c.loop-kind.kind = omega arith in
    let next : get_or (take (length c.args.rows.now - 13 * c.args.left) (drop (13 * c.args.left) c.args.rows.now)) c.from.result 0 ≡ next_of c.loop-kind.kind (last c.args.left c.args.by.now) =
    ap (λ xs. get_or xs c.from.result 0) (take_rest c.args.rows.now (13 * c.args.left))
    ∙ get_or-drop (13 * c.args.left) c.args.rows.now c.from.result 0
    ∙ ap (λ k. get_or c.args.rows.now (13 * c.args.left + k) 0) kind
    ∙ c.requires.rows.each c.args.left c.loop-kind.kind (omega arith) (omega arith) in
    furthest_next c.args.text.now (found_in c.args.found.now) (last c.args.left c.args.by.now) c.loop-kind.kind
    (get_or (take (length c.args.rows.now - 13 * c.args.left) (drop (13 * c.args.left) c.args.rows.now)) c.from.result 0)
    c.loop-kind.most c.further-most.result c.loop-kind.invariant next c.further-most.ensures

pub returns-clause-same : goal.returns-clause-same
returns-clause-same c =
    let all : c.loop-kind.kind ≡ 13 = omega arith in
    skips_same c.args.text.now (found_in c.args.found.now) c.args.by.now c.args.left c.loop-kind.most c.requires.left
    (subst (λ n. Furthest c.args.text.now (found_in c.args.found.now) (last c.args.left c.args.by.now) n c.loop-kind.most) all c.loop-kind.invariant)

pub returns-clause-behind : goal.returns-clause-behind
returns-clause-behind c =
    let all : c.loop-kind.kind ≡ 13 = omega arith in
    skips_behind c.args.text.now (found_in c.args.found.now) c.args.by.now c.args.left c.loop-kind.most c.requires.left
    (subst (λ n. Furthest c.args.text.now (found_in c.args.found.now) (last c.args.left c.args.by.now) n c.loop-kind.most) all c.loop-kind.invariant)
