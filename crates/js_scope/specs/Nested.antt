-- What the functions do that a resolver has for nested parts.
use Rattle.std.specs.Prelude.{ℕ, List, Result, OnOk}
use Rattle.std.specs.Fn.{Shared}
use Rattle.std.specs.declared.alloc.Global.{Global}
use denote.Ref.{Bor, MutBor}
use Rattle.utf16_text.specs.declared.memory.Memory.{Memory}
use Rattle.js_tree.specs.declared.expression.Function.{Function}
use Rattle.js_tree.specs.Tree.{ExpressionTree, StatementTree}
use Rattle.js_binding.specs.Scopes.{Scope}
use Rattle.js_binding.specs.Resolved.{Placing, expression_in, statement_in}
use Rattle.scope_names.specs.declared.scopes.Scopes.{Scopes}
use Rattle.scope_names.specs.Around.{scopes_of}
use Rattle.js_scope.specs.declared.resolver.Resolver.{Resolver}
use Rattle.js_scope.specs.Gives.{Gives}

-- Each part may be asked for with this room, and is resolved among the scopes around it.
pub record ResolvesParts {F T : Type 0} (f : Shared F (Global × (ℕ × (Bor Scopes × (MutBor (List Function) × (MutBor T × Unit {0}))))) (Result (Unit {0}) Memory × (MutBor (List Function) × (MutBor T × Unit {0}))))
    (resolve : F) (alloc : Global) (room : ℕ) (place : List Scope → T → Placing T) : Type 0 where
  pub callable : (scopes : Bor Scopes) (before : MutBor (List Function)) (part : MutBor T) → f.pre resolve (alloc, (room, (scopes, (before, (part, tt)))))
  pub resolves : (scopes : Bor Scopes) (before after : MutBor (List Function)) (part made : MutBor T) (result : Result (Unit {0}) Memory)
      → f.post resolve (alloc, (room, (scopes, (before, (part, tt))))) (result, (after, (made, tt)))
      → OnOk result (Gives (place (scopes_of scopes.now) part.now) before.now made.now after.now)

-- Both functions of a resolver resolve nested parts with the room that it has.
pub record ResolvesNested {E S : Type 0} (e : Shared E (Global × (ℕ × (Bor Scopes × (MutBor (List Function) × (MutBor ExpressionTree × Unit {0}))))) (Result (Unit {0}) Memory × (MutBor (List Function) × (MutBor ExpressionTree × Unit {0}))))
    (s : Shared S (Global × (ℕ × (Bor Scopes × (MutBor (List Function) × (MutBor StatementTree × Unit {0}))))) (Result (Unit {0}) Memory × (MutBor (List Function) × (MutBor StatementTree × Unit {0}))))
    (resolver : Resolver E S) : Type 0 where
  pub expressions : ResolvesParts e resolver.expressions resolver.alloc resolver.room expression_in
  pub statements : ResolvesParts s resolver.statements resolver.alloc resolver.room statement_in
