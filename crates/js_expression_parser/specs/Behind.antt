-- What must stand behind a part that was read.
use Rattle.std.specs.Prelude.{Ok}
use Rattle.js_tree.specs.declared.place.Place.{Place}
use Rattle.js_tree.specs.declared.sign.Sign.{Sign}
use Rattle.js_grammar.specs.Reading.{◌>>=◌}
use Rattle.js_grammar.specs.Readers.{Reader, expect, semicolon}

-- end: the place after the last unit
module _ (end : Place) where
  -- a sign
  abbrev pub closed : {A : Type 0} → Sign → A → Reader A
  closed close part ts = do
    rest ← expect end close ts
    Ok (part, rest)

  -- a semicolon, or what stands for one
  abbrev pub ended : {A : Type 0} → A → Reader A
  ended part ts = do
    rest ← semicolon end ts
    Ok (part, rest)
