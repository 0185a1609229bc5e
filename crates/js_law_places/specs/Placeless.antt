-- Tokens with their places put aside.
use Rattle.std.specs.Prelude.{List, map}
use Rattle.js_tree.specs.declared.token.Token.{Token}
use Rattle.js_grammar.specs.Printing.{nowhere}

abbrev pub placeless_token : Token → Token
placeless_token t = record { kind = t.kind; place = nowhere; after_line = t.after_line }

abbrev pub placeless : List Token → List Token
placeless ts = map placeless_token ts
