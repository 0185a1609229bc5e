use Rattle.std.proofs.Common.{◌≡◌, ◌∙◌, ◌++◌, ◌∷◌, [], false, is_some, sym, ap, subst}
use Rattle.std.specs.Ordering.{nat_cmp}
use Rattle.std.specs.Cmp.Lexicographic.{slice_cmp}
use Rattle.std.specs.BTreeMap.{get}
use Rattle.js_binding.specs.Scopes.{place_of}
use Rattle.scope_names.specs.Index.{IsIndex, IsPut}
use Rattle.scope_names.proofs.Slots.{with_old, with_new, no_place, index_more}
use Rattle.scope_names.proofs.name_table.add.Goals as goal

pub returns-then-contains_key-clause-names : goal.returns-then-contains_key-clause-names
returns-then-contains_key-clause-names c =
    sym (with_old c.args.names.now c.args.name.now (sym (ap is_some (c.requires c.args.name.now)) ∙ sym c.contains_key.ensures ∙ c.if-contains_key.true))

pub returns-clause-names : goal.returns-clause-names
returns-clause-names c =
    let absent : is_some (place_of c.args.name.now c.args.names.now) ≡ false = sym (ap is_some (c.requires c.args.name.now)) ∙ sym c.contains_key.ensures ∙ c.if-contains_key.false in
    c.in_ok-push.ensures.ok ∙ ap (λ x. c.args.names.now ++ x ∷ []) c.in_ok-held.ensures ∙ sym (with_new c.args.names.now c.args.name.now absent)

pub returns-clause-index : goal.returns-clause-index
returns-clause-index c =
    let absent : is_some (place_of c.args.name.now c.args.names.now) ≡ false = sym (ap is_some (c.requires c.args.name.now)) ∙ sym c.contains_key.ensures ∙ c.if-contains_key.false in
    let before = get (slice_cmp nat_cmp) c.args.slots.now in
    let after = get (slice_cmp nat_cmp) c.put.new.slots in
    let same : c.in_ok-key.key ≡ c.args.name.now = c.in_ok-key.ensures in
    let put = subst (λ n. IsPut before c.args.name.now n after) c.in_ok-slot.ensures (subst (λ x. IsPut before x c.in_ok-slot.slot after) same c.in_ok-put.ensures) in
    subst (IsIndex after) (sym (c.in_ok-push.ensures.ok ∙ ap (λ x. c.args.names.now ++ x ∷ []) c.in_ok-held.ensures))
    (index_more before after c.args.names.now c.args.name.now c.requires (no_place _ absent) put)
