-- The laws of resolved scripts.
use Rattle.std.proofs.Common.{◌≡◌, ℕ, List, [], length, ltb, Bool, true, false, refl, arith}
use Rattle.std.proofs.lemmas.Bool.{ltb-true, ltb-false}
use Rattle.std.specs.Prelude.{slice_get}
use Rattle.js_tree.specs.Tree.{FunctionTree, statements_of}
use Rattle.js_binding.specs.Names.{arguments_name}
use Rattle.js_binding.specs.Resolved.{resolved, statements_in}
use Rattle.js_law_right.specs.Laws.{ResolvedIsRight, ResolvedIsNumbered}
use Rattle.js_law_right.specs.Right.{Setting, setting_at, own_in}
use Rattle.js_law_right.proofs.Functions.{BodyKept}
use Rattle.js_law_right.proofs.Keeps.{Has, Keeps, table_has, owns_none, get_below}
use Rattle.js_law_right.proofs.KeptTrees.{statements_keeps}
use Rattle.js_law_right.proofs.SameTrees.{statements_same}

pub resolved_is_numbered : ResolvedIsNumbered
resolved_is_numbered script = (statements_same [] (statements_of script)).same []

pub resolved_is_right : ResolvedIsRight
resolved_is_right script anonymous = record {
  setting = setting;
  body = (h.made [] setting has).0;
  owns = λ n. owned n (ltb n (length functions)) refl;
  functions = λ n f e. (h.each [] setting has n (omega arith) (get_below functions n f e)).right f e;
}
  where
    h : Keeps (BodyKept [] (statements_of script)) (statements_in [] (statements_of script))
    h = statements_keeps arguments_name [] (statements_of script) anonymous

    functions : List FunctionTree
    functions = (resolved script).1

    setting : ℕ → Setting
    setting = setting_at (h.settings [])

    has : Has (setting_at (h.settings [])) 0 (h.settings [])
    has = table_has (h.settings [])

    owned : (n : ℕ) (t : Bool) → ltb n (length functions) ≡ t → own_in (slice_get functions n) ≡ (setting n).own
    owned n true e = (h.each [] setting has n (omega arith) (ltb-true _ _ e)).owns
    owned n false e = owns_none functions (h.settings []) n (omega (arith, h.longer [])) (ltb-false _ _ e)
