-- The scopes that the code's chain of scopes is.
use Rattle.std.specs.Prelude.{List, [], ◌∷◌}
use Rattle.js_binding.specs.Scopes.{Scope, named, itself}
use Rattle.scope_names.specs.declared.scopes.Scopes.{Scopes, Outermost, Named', Itself'}

abbrev pub scopes_of : Scopes → List Scope
scopes_of Outermost = []
scopes_of (Named' names place around) = named names.now ∷ scopes_of around
scopes_of (Itself' own place around) = itself own.now ∷ scopes_of around
