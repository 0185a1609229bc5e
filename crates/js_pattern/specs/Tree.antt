-- The trees of patterns (ECMA-262 5.1, section 15.10.1). A list of parts is a type of its own.
use Rattle.std.specs.Prelude.{ℕ, List, [], ◌∷◌, Option}
use Rattle.js_pattern.specs.declared.class.Class.{Class}
use Rattle.js_pattern.specs.declared.node.Assertion.{Assertion}
use Rattle.js_pattern.specs.declared.bounds.Bounds.{Bounds}

mutual
  pub data Tree : Type 0 where
    unit : ℕ → Tree
    any : Tree
    class : Class → Tree
    assertion : Assertion → Tree
    reference : ℕ → Tree
    row : Trees → Tree
    alternatives : Trees → Tree
    group : Option ℕ → Tree → Tree
    repeat : Tree → Bounds → Tree

  -- parts, one after the other
  pub data Trees : Type 0 where
    no_tree : Trees
    a_tree : Tree → Trees → Trees

abbrev pub trees_of : List Tree → Trees
trees_of [] = no_tree
trees_of (x ∷ xs) = a_tree x (trees_of xs)
