-- Values as texts (ECMA-262 5.1, section 9.8).
use Rattle.std.specs.Prelude.{ℕ, List, [], if◌then◌else◌, codes}
use Rattle.std.specs.Fmt.{signed_decimal}
use Rattle.heap_values.specs.declared.value.Value.{Value}
use Rattle.heap_values.specs.declared.value.Value.TheVariants as value

-- the text of a value; an object has none before it is made a primitive value
abbrev pub text_of : Value → List ℕ
text_of value.Undefined = codes "undefined"
text_of value.Null = codes "null"
text_of (value.Bool b) = if b then codes "true" else codes "false"
text_of (value.Number n) = signed_decimal n
text_of (value.Text t) = t
text_of (value.Object id) = []
