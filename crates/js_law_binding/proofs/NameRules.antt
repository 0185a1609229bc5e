-- Names are bound as the rules say.
use Rattle.std.proofs.Common.{List, refl}
use Rattle.js_binding.specs.Scopes.{Scope}
use Rattle.js_binding.specs.Resolved.{expression_in, suffix_in, suffixes_in, function_in, statement_in, declarations_in, target_in, handler_in}
use Rattle.js_law_binding.specs.Rules.{BindsNames}

pub names_bound : (scopes : List Scope) → BindsNames scopes
unfolding expression_in suffix_in suffixes_in function_in statement_in declarations_in target_in handler_in
names_bound scopes = record {
  name = λ p x fs. refl;
  assignment = λ p q x op e fs. refl;
  update = λ p q form op x fs. refl;
  unary = λ p q op x fs. refl;
  call = λ p q r x es ss fs. refl;
  variable = λ x o ds fs. refl;
  for_in = λ p x o e s fs. refl;
  declaration = λ p x parameters names body fs. refl;
  own_name = λ p x parameters names body fs. refl;
  handler = λ x s fs. refl;
}
