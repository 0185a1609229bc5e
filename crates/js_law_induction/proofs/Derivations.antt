-- How tokens spell expressions and statements, one constructor for each node and each of its forms (ECMA-262 5.1,
-- sections 11 to 14), over what holds of the parts. What holds of nodes whenever it holds of their parts stands in Rules.
use Rattle.std.proofs.Common.{◌≡◌, ℕ, List, [], ◌∷◌, ◌++◌, Option, Some, None, true}
use Rattle.js_tree.specs.declared.token.Token.{Token}
use Rattle.js_tree.specs.declared.token.TokenKind.TheVariants as token
use Rattle.js_tree.specs.declared.sign.Sign.{Sign}
use Rattle.js_tree.specs.declared.sign.Sign.TheVariants as sign
use Rattle.js_tree.specs.declared.bound.BoundName.{BoundName}
use Rattle.js_tree.specs.declared.keyword.Keyword.{Keyword}
use Rattle.js_tree.specs.declared.keyword.Keyword.TheVariants as word
use Rattle.js_tree.specs.declared.operators.UpdateForm.TheVariants.{Prefix, Postfix}
use Rattle.js_tree.specs.declared.expression.Property.{Property}
use Rattle.js_tree.specs.declared.expression.Suffix.{Suffix}
use Rattle.js_tree.specs.declared.expression.SuffixNode.TheVariants as suffix
use Rattle.js_tree.specs.declared.expression.Operand.{Operand}
use Rattle.js_tree.specs.declared.expression.Function.{Function as FunctionRecord}
use Rattle.js_tree.specs.declared.statement.Declared.{Declared}
use Rattle.js_tree.specs.declared.statement.Branch.{Branch}
use Rattle.js_tree.specs.declared.statement.Clause.{Clause}
use Rattle.js_tree.specs.declared.statement.Catch.{Catch}
use Rattle.js_tree.specs.Tree.{ExpressionTree, Number, Characters, Pattern, True, False, Null, This, Name, Array, Object, Function, New, Update, Unary, Conditional, Assign, StatementTree, Block, Empty, Evaluate, Debugger, Var, If, DoWhile, While, For, ForIn, Continue, Break, Return, Throw, Switch, Try, Declare, absent, present, StartTree, no_start, start_var, start_value, TargetTree, target_value, target_declared, optional_of, expressions_of, items_of, statements_of}
use Rattle.js_tree.specs.View.{properties_of, function_of, declarations_of, branches_of, clauses_of}
use Rattle.js_tree.specs.Parts.{statement_or_none, catch_or_none}
use Rattle.js_grammar.specs.declared.form.Form.{Form}
use Rattle.js_grammar.specs.declared.around.Around.{Around}
use Rattle.js_grammar.specs.Words.{keyword_of}
use Rattle.js_grammar.specs.Readers.{rest_of, unbound}
use Rattle.js_grammar.specs.Operators.{next_unary, next_update, next_postfix, next_binary, at_level, next_assign, is_target}
use Rattle.js_grammar.specs.Expressions.{joined, chained, suffixed_by, next_name, in_function}
use Rattle.js_grammar.specs.Statements.{inside, in_loop, in_switch, has_part}
use Rattle.js_law_induction.proofs.Alike.{Rel, Row, RowOf}
use Rattle.js_law_induction.proofs.Words.{Takes, Behind, Ends, Worded, Named, parted_row, closed_row, row_while, Listed}

-- what holds of expressions, and of statements by what stands around them
pub record Kept : Type 1 where
  pub expression : Rel ExpressionTree
  pub statement : Around → Rel StatementTree

module _ (k : Kept) where
  abbrev pub statements : Around → Row StatementTree
  statements around = row_while (k.statement around)

  -- ---- array and object literals (11.1.4, 11.1.5)

  pub data MoreItem : List Token → Option ExpressionTree → List Token → Type 0 where
    a_hole : {a b : _} → Takes sign.Comma a b → MoreItem a None b
    an_item : {a x b c : _} → k.expression a x b → Takes sign.Comma b c → MoreItem a (Some x) c

  pub data LastItem : List Token → Option ExpressionTree → List Token → Type 0 where
    last_item : {a x b c : _} → k.expression a x b → Takes sign.RightBracket b c → LastItem a (Some x) c

  abbrev pub items : Row (Option ExpressionTree)
  items = record { more = MoreItem; last = LastItem; ended = Takes sign.RightBracket }

  pub data AProperty : List Token → Property → List Token → Type 0 where
    property : {a w b x c : _} → next_name a ≡ Some w → Takes sign.Colon (rest_of a) b → k.expression b x c
        → AProperty a (record { name = w; value = x }) c

  abbrev pub properties : Row Property
  properties = closed_row sign.RightBrace AProperty

  -- ---- functions and `new` (11.2, 13)

  pub data AFunction : Option BoundName → List Token → FunctionRecord → List Token → Type 0 where
    a_function : {own a b xs c d ss e f : _} → Takes sign.LeftParenthesis a b → Listed Named b xs c
        → Takes sign.LeftBrace c d → RowOf (statements in_function) d ss e → Takes sign.RightBrace e f
        → AFunction own a (record { name = own; parameters = xs; names = []; body = ss }) f

  pub data FunctionValue : List Token → FunctionRecord → List Token → Type 0 where
    anonymous : {a f b : _} → AFunction None a f b → FunctionValue a f b
    named : {a x b f c : _} → Named a x b → AFunction (Some x) b f c → FunctionValue a f c

  pub data NewArguments : List Token → List ExpressionTree → List Token → Type 0 where
    given : {a b xs c : _} → Takes sign.LeftParenthesis a b → Listed k.expression b xs c → NewArguments a xs c
    left_out : {a : _} → NewArguments a [] a

  -- ---- members, indexes and calls, and operators of the level n (11.2, 11.5 to 11.11)

  pub data ASuffix : List Token → Suffix → List Token → Type 0 where
    member : {p a b w c : _} → Takes sign.Dot a b → Worded b w c → ASuffix a (record { place = p; node = suffix.Member w }) c
    index : {p a b x c d : _} → Takes sign.LeftBracket a b → k.expression b x c → Takes sign.RightBracket c d
        → ASuffix a (record { place = p; node = suffix.Index x }) d
    call : {p a b xs c : _} → Takes sign.LeftParenthesis a b → Listed k.expression b xs c
        → ASuffix a (record { place = p; node = suffix.Call xs }) c

  pub data AnOperand (form : Form) (n : ℕ) : List Token → Operand → List Token → Type 0 where
    operand : {p op a x b : _} → at_level n (next_binary form a) ≡ Some op → k.expression (rest_of a) x b
        → AnOperand form n a (record { place = p; op = op; value = x }) b

  -- ---- expressions (11)

  pub data Expression : List Token → ExpressionTree → List Token → Type 0 where
    number : {t : Token} {n ts : _} → t.kind ≡ token.Number n → Expression (t ∷ ts) (Number t.place n) ts
    characters : {t : Token} {x ts : _} → t.kind ≡ token.Text x → Expression (t ∷ ts) (Characters t.place x) ts
    pattern : {t : Token} {l ts : _} → t.kind ≡ token.Pattern l → Expression (t ∷ ts) (Pattern t.place l) ts
    name : {t : Token} {w ts : _} → t.kind ≡ token.Word w → keyword_of w ≡ None
        → Expression (t ∷ ts) (Name t.place (unbound w)) ts
    this : {p a b : _} → Behind word.This a b → Expression a (This p) b
    null : {p a b : _} → Behind word.Null a b → Expression a (Null p) b
    is_true : {p a b : _} → Behind word.True a b → Expression a (True p) b
    is_false : {p a b : _} → Behind word.False a b → Expression a (False p) b
    array : {p a b xs c : _} → Takes sign.LeftBracket a b → RowOf items b xs c → Expression a (Array p (items_of xs)) c
    object : {p a b xs c : _} → Takes sign.LeftBrace a b → RowOf properties b xs c
        → Expression a (Object p (properties_of xs)) c
    function : {p a b f c : _} → Behind word.Function a b → FunctionValue b f c → Expression a (Function p (function_of f)) c
    in_brackets : {a b x c d : _} → Takes sign.LeftParenthesis a b → k.expression b x c → Takes sign.RightParenthesis c d
        → Expression a x d
    new : {p a b x c xs d : _} → Behind word.New a b → k.expression b x c → NewArguments c xs d
        → Expression a (New p x (expressions_of xs)) d
    suffixed : (p : _) {a x b xs c : _} → k.expression a x b → RowOf (row_while ASuffix) b xs c
        → Expression a (suffixed_by p x xs) c
    postfix : {p op a x b : _} → k.expression a x b → next_postfix b ≡ Some op → is_target x ≡ true
        → Expression a (Update p Postfix op x) (rest_of b)
    prefix : {p op a x b : _} → next_update a ≡ Some op → k.expression (rest_of a) x b → is_target x ≡ true
        → Expression a (Update p Prefix op x) b
    unary : {p op a x b : _} → next_unary a ≡ Some op → k.expression (rest_of a) x b → Expression a (Unary p op x) b
    chain : (form : Form) (n : ℕ) (p : _) {a x b xs c : _} → k.expression a x b → RowOf (row_while (AnOperand form n)) b xs c
        → Expression a (chained p x xs) c
    conditional : {p a x b c v d e w f : _} → k.expression a x b → Takes sign.Question b c → k.expression c v d
        → Takes sign.Colon d e → k.expression e w f → Expression a (Conditional p x v w) f
    assign : {p op a x b v c : _} → k.expression a x b → next_assign b ≡ Some op → is_target x ≡ true
        → k.expression (rest_of b) v c → Expression a (Assign p x op v) c
    comma : (p : _) {a xs b : _} → RowOf (parted_row k.expression) a xs b → Expression a (joined p xs) b

  -- ---- declared names (12.2)

  pub data FirstValue : List Token → Option ExpressionTree → List Token → Type 0 where
    no_value : {a : _} → FirstValue a None a
    a_value : {a b x c : _} → Takes sign.Assign a b → k.expression b x c → FirstValue a (Some x) c

  pub data ADeclared : List Token → Declared → List Token → Type 0 where
    declared : {a x b v c : _} → Named a x b → FirstValue b v c → ADeclared a (record { name = x; value = v }) c

  abbrev pub Declarations : Rel (List Declared)
  Declarations = RowOf (parted_row ADeclared)

  -- ---- `if`, `else`, and `finally` (12.5, 12.14)

  pub data ABranch (around : Around) : List Token → Branch → List Token → Type 0 where
    branch : {a x b s c : _} → k.expression a x b → k.statement (inside around) b s c
        → ABranch around a (record { condition = x; body = s }) c

  pub data MoreBranch (around : Around) : List Token → Branch → List Token → Type 0 where
    else_if : {a x b c d : _} → ABranch around a x b → Behind word.Else b c → Behind word.If c d → MoreBranch around a x d

  abbrev pub branches : Around → Row Branch
  branches around = record { more = MoreBranch around; last = ABranch around; ended = λ a b. ⊥ }

  -- a statement behind a word, or none
  pub data MayFollow (w : Keyword) (around : Around) : List Token → Option StatementTree → List Token → Type 0 where
    nothing_follows : {a : _} → MayFollow w around a None a
    follows : {a b s c : _} → Behind w a b → k.statement (inside around) b s c → MayFollow w around a (Some s) c

  -- ---- the headers of `for` (12.6)

  pub data MayStand (close : Sign) : List Token → Option ExpressionTree → List Token → Type 0 where
    nothing_stands : {a b : _} → Takes close a b → MayStand close a None b
    stands : {a x b c : _} → k.expression a x b → Takes close b c → MayStand close a (Some x) c

  pub data Start : List Token → StartTree → List Token → Type 0 where
    nothing : {a : _} → Start a no_start a
    variables : {p a b xs c : _} → Behind word.Var a b → Declarations b xs c → Start a (start_var p (declarations_of xs)) c
    value : {a x b : _} → k.expression a x b → Start a (start_value x) b

  pub data Target : List Token → TargetTree → List Token → Type 0 where
    a_target : {a x b : _} → k.expression a x b → is_target x ≡ true → Target a (target_value x) b
    a_variable : {a b : _} {x : Declared} {c : _} → Behind word.Var a b → Declarations b (x ∷ []) c
        → Target a (target_declared x.name (optional_of x.value)) c

  -- ---- `switch` and `catch` (12.11, 12.14)

  pub data ClauseBehind (around : Around) (test : Option ExpressionTree) : List Token → Clause → List Token → Type 0 where
    clause : {a b ss c : _} → Takes sign.Colon a b → RowOf (statements around) b ss c
        → ClauseBehind around test a (record { test = test; body = ss }) c

  pub data ACase (around : Around) : List Token → Clause → List Token → Type 0 where
    case : {a b x c y d : _} → Behind word.Case a b → k.expression b x c → ClauseBehind around (Some x) c y d → ACase around a y d

  pub data Clauses (around : Around) : List Token → List Clause → List Token → Type 0 where
    cases : {a xs b : _} → RowOf (row_while (ACase around)) a xs b → Clauses around a xs b
    with_default : {a xs b c x d ys e : _} → RowOf (row_while (ACase around)) a xs b → Behind word.Default b c
        → ClauseBehind around None c x d → RowOf (row_while (ACase around)) d ys e → Clauses around a (xs ++ x ∷ ys) e

  pub data MayCatch (around : Around) : List Token → Option Catch → List Token → Type 0 where
    no_catch : {a : _} → MayCatch around a None a
    a_catch : {a b c x d e s f : _} → Behind word.Catch a b → Takes sign.LeftParenthesis b c → Named c x d
        → Takes sign.RightParenthesis d e → k.statement (inside around) e s f
        → MayCatch around a (Some (record { name = x; body = s })) f

  -- ---- statements (12)

  pub data Statement (around : Around) : List Token → StatementTree → List Token → Type 0 where
    block : {p a b ss c d : _} → Takes sign.LeftBrace a b → RowOf (statements (inside around)) b ss c
        → Takes sign.RightBrace c d → Statement around a (Block p (statements_of ss)) d
    var : {p a b xs c d : _} → Behind word.Var a b → Declarations b xs c → Ends c d
        → Statement around a (Var p (declarations_of xs)) d
    empty : {p a b : _} → Takes sign.Semicolon a b → Statement around a (Empty p) b
    evaluate : {p a x b c : _} → k.expression a x b → Ends b c → Statement around a (Evaluate p x) c
    if : {p a b xs c s d : _} → Behind word.If a b → RowOf (branches around) b xs c → MayFollow word.Else around c s d
        → Statement around a (If p (branches_of xs) (statement_or_none s)) d
    do_while : {p a b s c d x e f : _} → Behind word.Do a b → k.statement (in_loop around) b s c → Behind word.While c d
        → k.expression d x e → Ends e f → Statement around a (DoWhile p s x) f
    while : {p a b x c s d : _} → Behind word.While a b → k.expression b x c → k.statement (in_loop around) c s d
        → Statement around a (While p x s) d
    for : {p a b c u d e x f y g s h : _} → Behind word.For a b → Takes sign.LeftParenthesis b c → Start c u d
        → Takes sign.Semicolon d e → MayStand sign.Semicolon e x f → MayStand sign.RightParenthesis f y g
        → k.statement (in_loop around) g s h → Statement around a (For p u (optional_of x) (optional_of y) s) h
    for_in : {p a b c u d e x f g s h : _} → Behind word.For a b → Takes sign.LeftParenthesis b c → Target c u d
        → Behind word.In d e → k.expression e x f → Takes sign.RightParenthesis f g → k.statement (in_loop around) g s h
        → Statement around a (ForIn p u x s) h
    continue : {p a b c : _} → Behind word.Continue a b → around.in_loop ≡ true → Ends b c → Statement around a (Continue p) c
    break : {p a b c : _} → Behind word.Break a b → around.breakable ≡ true → Ends b c → Statement around a (Break p) c
    return : {p a b c : _} → Behind word.Return a b → around.in_function ≡ true → Ends b c
        → Statement around a (Return p absent) c
    return_value : {p a b x c d : _} → Behind word.Return a b → around.in_function ≡ true → k.expression b x c → Ends c d
        → Statement around a (Return p (present x)) d
    switch : {p a b x c d ys e f : _} → Behind word.Switch a b → k.expression b x c → Takes sign.LeftBrace c d
        → Clauses (in_switch around) d ys e → Takes sign.RightBrace e f → Statement around a (Switch p x (clauses_of ys)) f
    throw : {p a b x c d : _} → Behind word.Throw a b → k.expression b x c → Ends c d → Statement around a (Throw p x) d
    try : {p a b s c x d y e : _} → Behind word.Try a b → k.statement (inside around) b s c → MayCatch around c x d
        → MayFollow word.Finally around d y e → has_part x y ≡ true
        → Statement around a (Try p s (catch_or_none x) (statement_or_none y)) e
    debugger : {p a b c : _} → Behind word.Debugger a b → Ends b c → Statement around a (Debugger p) c
    declare : {p a b x c f d : _} → Behind word.Function a b → Named b x c → around.direct ≡ true → AFunction None c f d
        → Statement around a (Declare p x (function_of f)) d

  -- what holds of each node whose parts it holds of
  pub record Rules : Type 0 where
    pub expression : {a : List Token} {x : ExpressionTree} {b : List Token} → Expression a x b → k.expression a x b
    pub statement : {around : Around} {a : List Token} {s : StatementTree} {b : List Token} → Statement around a s b → k.statement around a s b

-- a relation that says nothing
abbrev pub anything : Kept
anything = record { expression = λ a x b. Unit {0}; statement = λ around a s b. Unit {0} }

pub any_rules : Rules anything
any_rules = record { expression = λ {a} {x} {b} is. tt; statement = λ {around} {a} {s} {b} is. tt }
