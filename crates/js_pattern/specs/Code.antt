-- Each tree has a code of its own, by which a proof tells trees apart: the code can be read back.
use Rattle.std.specs.Prelude.{◌≡◌, ℕ, zero, suc, Bool, true, false, List, [], ◌∷◌, Option, Some, None, refl}
use Rattle.std.proofs.Common.{sym, ap, ◌∙◌}
use Rattle.std.specs.Coded.{Coded}
use base.Stored.{Gv, gnil, gnum, gcons, num}
use Rattle.js_pattern.specs.declared.class.Set.{Set}
use Rattle.js_pattern.specs.declared.class.Set.TheVariants as sets
use Rattle.js_pattern.specs.declared.class.ClassItem.{ClassItem}
use Rattle.js_pattern.specs.declared.class.ClassItem.TheVariants as items
use Rattle.js_pattern.specs.declared.class.Class.{Class}
use Rattle.js_pattern.specs.declared.node.Assertion.{Assertion}
use Rattle.js_pattern.specs.declared.node.Assertion.TheVariants as assertions
use Rattle.js_pattern.specs.declared.bounds.Bounds.{Bounds}
use Rattle.js_pattern.specs.Tree.{Tree, unit, any, class, assertion, reference, row, alternatives, group, repeat, Trees, no_tree, a_tree}

-- the choice at a tag
abbrev pub pick : {A : Type 0} → ℕ → List A → A → A
pick n [] d = d
pick zero (x ∷ xs) d = x
pick (suc n) (x ∷ xs) d = pick n xs d

abbrev bool_gv : Bool → Gv
bool_gv false = gnum 0
bool_gv true = gnum 1

abbrev bool_from : Gv → Bool
bool_from g = pick (num g) (false ∷ true ∷ []) false

bool_back : (b : Bool) → bool_from (bool_gv b) ≡ b
bool_back false = refl
bool_back true = refl

abbrev option_gv : Option ℕ → Gv
option_gv None = gnil
option_gv (Some n) = gcons (gnum n) gnil

abbrev option_from : Gv → Option ℕ
option_from (gcons a b) = Some (num a)
option_from _ = None

option_back : (o : Option ℕ) → option_from (option_gv o) ≡ o
option_back None = refl
option_back (Some n) = refl

abbrev set_gv : Set → Gv
set_gv sets.Digit = gnum 0
set_gv sets.NoDigit = gnum 1
set_gv sets.Word = gnum 2
set_gv sets.NoWord = gnum 3
set_gv sets.Space = gnum 4
set_gv sets.NoSpace = gnum 5

abbrev set_from : Gv → Set
set_from g = pick (num g) (sets.Digit ∷ sets.NoDigit ∷ sets.Word ∷ sets.NoWord ∷ sets.Space ∷ sets.NoSpace ∷ []) sets.Digit

set_back : (s : Set) → set_from (set_gv s) ≡ s
set_back sets.Digit = refl
set_back sets.NoDigit = refl
set_back sets.Word = refl
set_back sets.NoWord = refl
set_back sets.Space = refl
set_back sets.NoSpace = refl

abbrev item_gv : ClassItem → Gv
item_gv (items.Range first last) = gcons (gnum 0) (gcons (gnum first) (gnum last))
item_gv (items.Set s) = gcons (gnum 1) (gcons (set_gv s) gnil)

abbrev item_from : Gv → ClassItem
item_from (gcons t (gcons a b)) = pick (num t) (items.Range (num a) (num b) ∷ items.Set (set_from a) ∷ []) (items.Range 0 0)
item_from _ = items.Range 0 0

item_back : (i : ClassItem) → item_from (item_gv i) ≡ i
item_back (items.Range first last) = refl
item_back (items.Set s) = ap items.Set (set_back s)

abbrev class_items_gv : List ClassItem → Gv
class_items_gv [] = gnil
class_items_gv (i ∷ is) = gcons (item_gv i) (class_items_gv is)

abbrev class_items_from : Gv → List ClassItem
class_items_from (gcons a b) = item_from a ∷ class_items_from b
class_items_from _ = []

class_items_back : (is : List ClassItem) → class_items_from (class_items_gv is) ≡ is
class_items_back [] = refl
class_items_back (i ∷ is) = cc (item_back i, class_items_back is)

abbrev class_gv : Class → Gv
class_gv c = gcons (bool_gv c.excludes) (class_items_gv c.items)

abbrev class_from : Gv → Class
class_from (gcons a b) = record { excludes = bool_from a; items = class_items_from b }
class_from _ = record { excludes = false; items = [] }

class_back : (c : Class) → class_from (class_gv c) ≡ c
class_back c = λ i. record { excludes = bool_back c.excludes i; items = class_items_back c.items i }

abbrev assertion_gv : Assertion → Gv
assertion_gv assertions.Start = gnum 0
assertion_gv assertions.End = gnum 1
assertion_gv assertions.Boundary = gnum 2
assertion_gv assertions.NoBoundary = gnum 3

abbrev assertion_from : Gv → Assertion
assertion_from g = pick (num g) (assertions.Start ∷ assertions.End ∷ assertions.Boundary ∷ assertions.NoBoundary ∷ []) assertions.Start

assertion_back : (e : Assertion) → assertion_from (assertion_gv e) ≡ e
assertion_back assertions.Start = refl
assertion_back assertions.End = refl
assertion_back assertions.Boundary = refl
assertion_back assertions.NoBoundary = refl

abbrev bounds_gv : Bounds → Gv
bounds_gv b = gcons (gnum b.from_group) (gcons (gnum b.to_group) (gcons (gnum b.least) (gcons (option_gv b.most) (bool_gv b.greedy))))

abbrev bounds_from : Gv → Bounds
bounds_from (gcons a (gcons b (gcons c (gcons d e)))) = record { from_group = num a; to_group = num b; least = num c; most = option_from d; greedy = bool_from e }
bounds_from _ = record { from_group = 0; to_group = 0; least = 0; most = None; greedy = false }

bounds_back : (b : Bounds) → bounds_from (bounds_gv b) ≡ b
bounds_back b = λ i. record { from_group = b.from_group; to_group = b.to_group; least = b.least; most = option_back b.most i; greedy = bool_back b.greedy i }

abbrev mutual
  pub tree_gv : Tree → Gv
  tree_gv (unit u) = gcons (gnum 0) (gcons (gnum u) (gcons gnil gnil))
  tree_gv any = gcons (gnum 1) (gcons gnil (gcons gnil gnil))
  tree_gv (class c) = gcons (gnum 2) (gcons (class_gv c) (gcons gnil gnil))
  tree_gv (assertion e) = gcons (gnum 3) (gcons (assertion_gv e) (gcons gnil gnil))
  tree_gv (reference n) = gcons (gnum 4) (gcons (gnum n) (gcons gnil gnil))
  tree_gv (row xs) = gcons (gnum 5) (gcons (trees_gv xs) (gcons gnil gnil))
  tree_gv (alternatives xs) = gcons (gnum 6) (gcons (trees_gv xs) (gcons gnil gnil))
  tree_gv (group n x) = gcons (gnum 7) (gcons (option_gv n) (gcons (tree_gv x) gnil))
  tree_gv (repeat x b) = gcons (gnum 8) (gcons (tree_gv x) (gcons (bounds_gv b) gnil))

  pub trees_gv : Trees → Gv
  trees_gv no_tree = gcons (gnum 0) (gcons gnil (gcons gnil gnil))
  trees_gv (a_tree x xs) = gcons (gnum 1) (gcons (tree_gv x) (gcons (trees_gv xs) gnil))

abbrev mutual
  pub tree_from : Gv → Tree
  tree_from (gcons t (gcons a (gcons b _))) = pick (num t) (unit (num a) ∷ any ∷ class (class_from a) ∷ assertion (assertion_from a) ∷ reference (num a) ∷ row (trees_from a) ∷ alternatives (trees_from a) ∷ group (option_from a) (tree_from b) ∷ repeat (tree_from a) (bounds_from b) ∷ []) any
  tree_from _ = any

  pub trees_from : Gv → Trees
  trees_from (gcons t (gcons a (gcons b _))) = pick (num t) (no_tree ∷ a_tree (tree_from a) (trees_from b) ∷ []) no_tree
  trees_from _ = no_tree

mutual
  pub tree_back : (x : Tree) → tree_from (tree_gv x) ≡ x
  tree_back (unit u) = refl
  tree_back any = refl
  tree_back (class c) = ap class (class_back c)
  tree_back (assertion e) = ap assertion (assertion_back e)
  tree_back (reference n) = refl
  tree_back (row xs) = ap row (trees_back xs)
  tree_back (alternatives xs) = ap alternatives (trees_back xs)
  tree_back (group n x) = cc (option_back n, tree_back x)
  tree_back (repeat x b) = cc (tree_back x, bounds_back b)

  pub trees_back : (xs : Trees) → trees_from (trees_gv xs) ≡ xs
  trees_back no_tree = refl
  trees_back (a_tree x xs) = cc (tree_back x, trees_back xs)

abbrev pub tree_code : Coded Tree
tree_code = record { code = tree_gv; inj = λ x y e. sym (tree_back x) ∙ ap tree_from e ∙ tree_back y }
