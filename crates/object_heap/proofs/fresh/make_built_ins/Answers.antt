use Rattle.std.proofs.Common.{rules, ◌≡◌, ◌≤◌, ◌-◌, ◌∙◌, ◌++◌, [], List, map, length, ap, sym, subst}
use Rattle.heap_values.specs.Views.{ObjectView}
use Rattle.object_heap.specs.declared.table.TheConstants.{FIRST_NATIVE, NATIVES}
use Rattle.object_heap.specs.Fresh.{object_of, natives_from, roots, prototypes, constructors}
use Rattle.object_heap.specs.Heap.{PrototypesAreOlder}
use Rattle.object_heap.proofs.FreshLemmas.{table, objects_of-parts, filled_from-table, built_in-table, older-table, few-objects}
use Rattle.object_heap.proofs.fresh.make_built_ins.Goals as goal

abbrev all : List ObjectView
all = map object_of table ++ natives_from FIRST_NATIVE (NATIVES - FIRST_NATIVE)

in_parts : (none one two three four : List ObjectView) → none ≡ [] → one ≡ none ++ map object_of roots → two ≡ one ++ map object_of prototypes
    → three ≡ two ++ map object_of constructors → four ≡ three ++ natives_from FIRST_NATIVE (NATIVES - FIRST_NATIVE) → four ≡ all
in_parts none one two three four zero first second third fourth =
    fourth
    ∙ ap (λ os. os ++ natives_from FIRST_NATIVE (NATIVES - FIRST_NATIVE))
    (third
    ∙ ap (λ os. os ++ map object_of constructors) (second ∙ ap (λ os. os ++ map object_of prototypes) (first ∙ ap (λ os. os ++ map object_of roots) zero))
    ∙ objects_of-parts)

pub returns-clause-objects : goal.returns-clause-objects
returns-clause-objects c =
    let none : c.in_ok-objects.objects.items ≡ [] = search rules in
    in_parts _ _ _ _ _ none c.in_ok-add_roots.ensures c.in_ok-add_prototypes.ensures c.in_ok-add_constructors.ensures c.in_ok-add_natives.ensures
    ∙ sym filled_from-table ∙ built_in-table

pub returns-clause-count : goal.returns-clause-count
returns-clause-count c =
    let none : c.in_ok-objects.objects.items ≡ [] = search rules in
    let whole = in_parts _ _ _ _ _ none c.in_ok-add_roots.ensures c.in_ok-add_prototypes.ensures c.in_ok-add_constructors.ensures c.in_ok-add_natives.ensures in
    subst (λ (os : List ObjectView). length os ≤ 1000) (sym whole) few-objects

pub returns-clause-older : goal.returns-clause-older
returns-clause-older c =
    let none : c.in_ok-objects.objects.items ≡ [] = search rules in
    let whole = in_parts _ _ _ _ _ none c.in_ok-add_roots.ensures c.in_ok-add_prototypes.ensures c.in_ok-add_constructors.ensures c.in_ok-add_natives.ensures in
    subst (λ (os : List ObjectView). PrototypesAreOlder os) (sym whole) older-table
