use Rattle.std.proofs.Common.{◌≡◌, ◌∙◌, None, Some, ap, cond, rules, sym, true}
use Rattle.std.specs.BTreeMap.{get}
use Rattle.std.specs.List.{list_any}
use Rattle.std.specs.Option.{option_copied_mut}
use Rattle.std.specs.Ordering.{is_eq, nat_cmp}
use Rattle.pac_names.specs.Names.{Name}
use Rattle.pac_names.specs.Comparing.{compare_names}
use Rattle.session_core.specs.Waiting.{taken}
use Rattle.session_core.proofs.Waits.{put}
use Rattle.session_core.proofs.waiting.Waiting.add.Goals as goal

pub returns-in-Some-clause-added : goal.returns-in-Some-clause-added
returns-in-Some-clause-added c =
    let held : get compare_names c.args.self.now.places c.args.name ≡ Some c.in-Some.places.now = sym c.get_mut.ensures.value ∙ ap option_copied_mut c.in-Some.is in
    put c.args.self.now.places (c.get_mut.follows.lender c.insert.new.self) c.args.name c.args.place c.insert.new.self
    (((c.get_mut.follows.holds c.insert.new.self).3 (search rules)).0)
    (λ k. c.in_ok-insert.ensures.updates.0 k ∙ ap (λ o. cond (is_eq (nat_cmp c.args.place k)) true (taken o k)) (sym held))

pub returns-clause-added : goal.returns-clause-added
returns-clause-added c =
    let none : get compare_names c.args.self.now.places c.args.name ≡ None = search rules in
    let same : (q : Name) → get compare_names c.get_mut.follows.lender-at-none q ≡ get compare_names c.args.self.now.places q = search rules in
    put c.args.self.now.places c.insert-3.new.self c.args.name c.args.place c.insert-2.new.self
    (λ q. c.in_ok-insert-3.ensures.updates.0 q ∙ ap (cond (is_eq (compare_names c.args.name q)) (Some c.insert-2.new.self)) (same q))
    (λ k. c.in_ok-insert-2.ensures.updates.0 k
    ∙ ap (λ ks. cond (is_eq (nat_cmp c.args.place k)) true (list_any (λ x. is_eq (nat_cmp k x)) ks)) c.new-places.ensures.empty
    ∙ ap (λ o. cond (is_eq (nat_cmp c.args.place k)) true (taken o k)) (sym none))
