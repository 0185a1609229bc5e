-- What the functions ask of the texts of their arguments (the page on the Netscape Navigator Proxy Auto-Config format).
use Rattle.std.specs.Prelude.{ℕ, ℤ, pos, List, ◌∷◌, [], ◌++◌, Bool, false, not, ◌||◌, nat_eq, min, count_by, slice_get, Option, Some, None, codes}
use Rattle.std.specs.List.{list_any, starts_with, ends_with}
use Rattle.std.specs.Str.{bytes_eq}
use Rattle.heap_values.specs.declared.value.Value.{Value}
use Rattle.heap_values.specs.declared.value.Value.TheVariants as value
use Rattle.js_convert.specs.Texts.{text_of}

-- an argument; a missing one is undefined
abbrev pub or_undefined : Option Value → Value
or_undefined None = value.Undefined
or_undefined (Some v) = v

-- the text of the argument in this place, counted from 0
abbrev pub text_in : List Value → ℕ → List ℕ
text_in args at = text_of (or_undefined (slice_get args at))

-- 46 is `.`
abbrev pub is_dot : ℕ → Bool
is_dot unit = nat_eq unit 46

-- the unit that is there is this one
abbrev pub is_next : ℕ → Option ℕ → Bool
is_next unit None = false
is_next unit (Some next) = nat_eq unit next

-- there is no dot in the name
abbrev pub is_plain : List ℕ → Bool
is_plain host = not (list_any is_dot host)

-- the name ends with the domain
abbrev pub ends_in_domain : List ℕ → List ℕ → Bool
ends_in_domain host domain = ends_with nat_eq host domain

-- the name is the other one, or that begins with it and a dot
abbrev pub is_host_or_first : List ℕ → List ℕ → Bool
is_host_or_first host name = bytes_eq host name || starts_with nat_eq name (host ++ codes ".")

-- the number of dots in the name; 2^32 - 1 where there are more
abbrev pub dots_in : List ℕ → ℤ
dots_in host = pos (min (count_by is_dot host) 4294967295)

abbrev pub levels_of : List ℕ → Value
levels_of host = value.Number (dots_in host)
