-- A printed statement has a token.
use Rattle.std.proofs.Common.{◌≡◌, List, [], ◌∷◌, ◌++◌, true}
use Rattle.js_tree.specs.declared.token.Token.{Token}
use Rattle.js_tree.specs.declared.sign.Sign.TheVariants as sign
use Rattle.js_tree.specs.Tree.{StatementTree, Block, Empty, Evaluate, Debugger, Var, If, DoWhile, While, For, ForIn, Continue, Break, Return, Throw, Switch, Try, Declare, DeclareNumbered, Branches, no_branch, a_branch, OptionalStatement}
use Rattle.js_grammar.specs.declared.around.Around.{Around}
use Rattle.js_grammar.specs.Printing.{sign_token, more_branches, expression_tokens, statement_tokens, branches_tokens, otherwise_tokens}
use Rattle.js_law_readable.specs.Readable.{IsStatement}
use Rattle.js_law_spelling.proofs.Lines.{IsRow}

row_behind : (a : List Token) (t : Token) (b : List Token) → IsRow (a ++ t ∷ b)
row_behind [] t b = tt
row_behind (u ∷ a) t b = tt

if_row : (bs : Branches) (s : OptionalStatement) → more_branches bs ≡ true → IsRow (branches_tokens bs ++ otherwise_tokens s)
unfolding expression_tokens
if_row no_branch s h = cc
if_row (a_branch c s bs) o h = tt

pub statement_row : (a : Around) (s : StatementTree) → IsStatement a s → IsRow (statement_tokens s)
unfolding expression_tokens
statement_row a (Block p ss) is = tt
statement_row a (Empty p) is = tt
statement_row a (Evaluate p e) is = row_behind (expression_tokens e) (sign_token sign.Semicolon) []
statement_row a (Debugger p) is = tt
statement_row a (Var p ds) is = tt
statement_row a (If p bs s) is = if_row bs s is.0
statement_row a (DoWhile p s c) is = tt
statement_row a (While p c s) is = tt
statement_row a (For p b c e s) is = tt
statement_row a (ForIn p t e s) is = tt
statement_row a (Continue p) is = tt
statement_row a (Break p) is = tt
statement_row a (Return p o) is = tt
statement_row a (Throw p e) is = tt
statement_row a (Switch p e cs) is = tt
statement_row a (Try p s c f) is = tt
statement_row a (Declare p x f) is = tt
statement_row a (DeclareNumbered p x n) is = tt
