use Rattle.std.proofs.Common.{◌≡◌, ◌∙◌, ℕ, Option, List, [], ◌∷◌, ◌++◌, ap, sym, append_assoc}
use Rattle.js_scope.specs.Functions.{functions_of}
use Rattle.js_sites.specs.declared.site.Site.{Site}
use Rattle.js_sites.specs.Program.{sites_from, inlined, within, number_in}
use Rattle.js_sites.proofs.Inlining.{inlined_more}
use Rattle.js_sites.proofs.program.+inlined.Goals as goal

-- what was added, the site, and what stands within it, in whichever brackets
joined : (a b w : List Site) (s : Site) → ((a ++ b) ++ s ∷ []) ++ w ≡ a ++ (b ++ s ∷ w)
joined a b w s = append_assoc (a ++ b) (s ∷ []) w ∙ append_assoc a b (s ∷ w)

pub add_inlined-loop-site-preserved : goal.add_inlined-loop-site-preserved
add_inlined-loop-site-preserved t c =
    let at = sites_from c.args.first (functions_of c.args.functions.now) in
    let site = c.in-Some.site in
    let before = c.args.found.now ++ inlined at c.loop-site.yielded in
    let placed : c.push.new.self ≡ before ++ site ∷ [] =
    c.in_ok-push.ensures.ok ∙ ap (λ (found : List Site). found ++ site ∷ []) c.loop-site.invariant in
    let all : c.add_within.new.found ≡ (before ++ site ∷ []) ++ within at (number_in site) =
    c.in_ok-add_within.ensures ∙ ap (λ (found : List Site). found ++ within at c.number_in-number.result) placed
    ∙ ap (λ (number : Option ℕ). (before ++ site ∷ []) ++ within at number) c.number_in-number.ensures in
    all ∙ joined c.args.found.now (inlined at c.loop-site.yielded) (within at (number_in site)) site
    ∙ ap (λ (sites : List Site). c.args.found.now ++ sites) (sym (inlined_more at c.loop-site.yielded site))
