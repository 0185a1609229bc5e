-- Worked examples, by computation.
use Rattle.std.specs.Prelude.{ℕ, List, codes, refl}
use Rattle.std.proofs.lemmas.Bool.{false≢true}
use Rattle.pac_names.specs.declared.kind.NameKind.TheVariants.{V6}
use Rattle.run_trees.specs.RunTree.{RunTree, Done, Ask}
use Rattle.js_law_evaluation.specs.Laws.{AsksLookupNames}

-- a run that asks for one name, and is at its end with each reply
abbrev asking : List ℕ → RunTree (Unit {0})
asking text = Ask (record { kind = V6; text = text }) (λ reply. Done tt)

pub dotted_name_is_asked : AsksLookupNames (asking (codes "a.example"))
unfolding AsksLookupNames
dotted_name_is_asked = (refl, λ reply. tt)

pub space_is_not_asked : AsksLookupNames (asking (codes "a b")) → ⊥
unfolding AsksLookupNames
space_is_not_asked asks = false≢true asks.0
