-- What the words of reading keep: tests on the next token, signs, names, semicolons and lists.
use Rattle.std.proofs.Common.{◌≡◌, ◌≤◌, ◌<◌, arith, ℕ, List, [], ◌∷◌, length, Option, Some, None, Bool, true, false, refl}
use Rattle.std.specs.Prelude.{map}
use Rattle.js_tree.specs.declared.place.Place.{Place}
use Rattle.js_tree.specs.declared.token.Token.{Token}
use Rattle.js_tree.specs.declared.token.TokenKind.{TokenKind}
use Rattle.js_tree.specs.declared.token.TokenKind.TheVariants as token
use Rattle.js_tree.specs.declared.sign.Sign.{Sign}
use Rattle.js_tree.specs.declared.sign.Sign.TheVariants as sign
use Rattle.js_tree.specs.declared.bound.BoundName.{BoundName}
use Rattle.js_tree.specs.declared.keyword.Keyword.{Keyword}
use Rattle.js_tree.specs.declared.operators.UnaryOp.{UnaryOp}
use Rattle.js_tree.specs.declared.operators.UpdateOp.{UpdateOp}
use Rattle.js_tree.specs.declared.operators.AssignOp.{AssignOp}
use Rattle.js_grammar.specs.declared.form.Form.{Form}
use Rattle.js_grammar.specs.Words.{keyword_of}
use Rattle.js_grammar.specs.Readers.{rest_of, sign_of, next_sign, next_keyword, is_sign, unbound, place_at, taken_if, expect, name_if, name_by, name, word_by, any_word, semicolon_by, semicolon, listed_by, listed, a_parameter, parameters_by, parameters, parted}
use Rattle.js_grammar.specs.Operators.{next_unary, next_update, next_postfix, next_binary, next_assign}
use Rattle.js_grammar.specs.Expressions.{next_name, is_accessor, closes}
use Rattle.js_grammar.specs.Statements.{ends, begins_line}
use Rattle.js_law_induction.proofs.Alike.{Rel, stays, Other, moved, moved_turn, Alike, gave, stops, Skips, skips, no_skip, Row, Turned, turn_more, turn_last, RowOf, skip, both, and_then, behind, so, Keep, KeepBy, row_keeps}

-- ---- tokens that are taken

abbrev pub Takes : Sign → List Token → List Token → Type 0
Takes s a b = (next_sign a ≡ Some s) × (b ≡ rest_of a)

abbrev pub Behind : Keyword → List Token → List Token → Type 0
Behind k a b = (next_keyword a ≡ Some k) × (b ≡ rest_of a)

-- a semicolon, or none where none is missed
pub data Ends : List Token → List Token → Type 0 where
  by_sign : {a b : List Token} → Takes sign.Semicolon a b → Ends a b
  by_itself : {a : List Token} → Ends a a

pub data Worded : List Token → List ℕ → List Token → Type 0 where
  a_word : {t : Token} {ts : List Token} {w : List ℕ} → t.kind ≡ token.Word w → Worded (t ∷ ts) w ts

pub data Named : List Token → BoundName → List Token → Type 0 where
  a_name : {t : Token} {ts : List Token} {w : List ℕ} → t.kind ≡ token.Word w → keyword_of w ≡ None → Named (t ∷ ts) (unbound w) ts

pub sign_shorter : (s : Sign) (a : List Token) → next_sign a ≡ Some s → length (rest_of a) < length a
sign_shorter s [] e = cc
sign_shorter s (t ∷ ts) e = omega arith

pub taken_shorter : {s : Sign} (a : List Token) {b : List Token} → Takes s a b → length b < length a
taken_shorter {s} a h = rw h.1 (sign_shorter s a h.0)

pub ended_less : {a b : List Token} → Ends a b → length b ≤ length a
ended_less (by_sign {a = a} takes) = omega (arith, taken_shorter a takes)
ended_less by_itself = omega arith

pub unary_shorter : {op : UnaryOp} (a : List Token) → next_unary a ≡ Some op → length (rest_of a) < length a
unary_shorter [] e = cc
unary_shorter (t ∷ ts) e = omega arith

pub update_shorter : {op : UpdateOp} (a : List Token) → next_update a ≡ Some op → length (rest_of a) < length a
update_shorter [] e = cc
update_shorter (t ∷ ts) e = omega arith

pub assign_shorter : {op : AssignOp} (a : List Token) → next_assign a ≡ Some op → length (rest_of a) < length a
assign_shorter [] e = cc
assign_shorter (t ∷ ts) e = omega arith

-- ---- rows

abbrev pub Then : {A : Type 0} → Rel A → Sign → Rel A
Then P s a x c = (b : List Token) × P a x b × Takes s b c

-- parts that commas part
abbrev pub parted_row : {A : Type 0} → Rel A → Row A
parted_row P = record { more = Then P sign.Comma; last = P; ended = λ a b. ⊥ }

-- the same, and a sign closes the last
abbrev pub listed_row : {A : Type 0} → Sign → Rel A → Row A
listed_row close P = record { more = Then P sign.Comma; last = Then P close; ended = λ a b. ⊥ }

-- the same, and the sign may also stand alone
abbrev pub closed_row : {A : Type 0} → Sign → Rel A → Row A
closed_row close P = record { more = Then P sign.Comma; last = Then P close; ended = Takes close }

-- parts up to what is no part
abbrev pub row_while : {A : Type 0} → Rel A → Row A
row_while P = record { more = P; last = λ a x b. ⊥; ended = λ a b. b ≡ a }

-- a list in round brackets, behind `(`
pub data Listed {A : Type 0} (P : Rel A) : List Token → List A → List Token → Type 0 where
  none_listed : {a b : List Token} → Takes sign.RightParenthesis a b → Listed P a [] b
  some_listed : {a : List Token} {xs : List A} {b : List Token} → RowOf (listed_row sign.RightParenthesis P) a xs b → Listed P a xs b

-- ---- the token that comes next

module _ (at : Place → Place) where
  pub rest_moved : (ts : List Token) → rest_of (moved at ts) ≡ moved at (rest_of ts)
  rest_moved [] = refl
  rest_moved (t ∷ ts) = refl

  pub sign_moved : (ts : List Token) → next_sign (moved at ts) ≡ next_sign ts
  sign_moved [] = refl
  sign_moved (t ∷ ts) = refl

  pub keyword_moved : (ts : List Token) → next_keyword (moved at ts) ≡ next_keyword ts
  keyword_moved [] = refl
  keyword_moved (t ∷ ts) = refl

  pub next_name_moved : (ts : List Token) → next_name (moved at ts) ≡ next_name ts
  next_name_moved [] = refl
  next_name_moved (t ∷ ts) = refl

  pub accessor_moved : (ts : List Token) → is_accessor (moved at ts) ≡ is_accessor ts
  accessor_moved [] = refl
  accessor_moved (t ∷ ts) = rw (next_name_moved ts) refl

  pub closes_moved : (ts : List Token) → closes (moved at ts) ≡ closes ts
  closes_moved [] = refl
  closes_moved (t ∷ ts) = refl

  pub ends_moved : (ts : List Token) → ends (moved at ts) ≡ ends ts
  ends_moved [] = refl
  ends_moved (t ∷ ts) = refl

  pub line_moved : (ts : List Token) → begins_line (moved at ts) ≡ begins_line ts
  line_moved [] = refl
  line_moved (t ∷ ts) = refl

  pub unary_moved : (ts : List Token) → next_unary (moved at ts) ≡ next_unary ts
  unary_moved [] = refl
  unary_moved (t ∷ ts) = refl

  pub update_moved : (ts : List Token) → next_update (moved at ts) ≡ next_update ts
  update_moved [] = refl
  update_moved (t ∷ ts) = refl

  pub postfix_moved : (ts : List Token) → next_postfix (moved at ts) ≡ next_postfix ts
  postfix_moved [] = refl
  postfix_moved (t ∷ ts) = refl

  pub binary_moved : (form : Form) (ts : List Token) → next_binary form (moved at ts) ≡ next_binary form ts
  binary_moved form [] = refl
  binary_moved form (t ∷ ts) = refl

  pub assign_moved : (ts : List Token) → next_assign (moved at ts) ≡ next_assign ts
  assign_moved [] = refl
  assign_moved (t ∷ ts) = refl

  pub place_moved : (end : Place) (ts : List Token) → place_at (at end) (moved at ts) ≡ at (place_at end ts)
  place_moved end [] = refl
  place_moved end (t ∷ ts) = refl

-- ---- signs and semicolons

pub is_the_sign : (s : Sign) (o : Option Sign) → is_sign s o ≡ true → o ≡ Some s
is_the_sign sign.LeftParenthesis (Some sign.LeftParenthesis) h = refl
is_the_sign sign.LeftParenthesis _ h = cc
is_the_sign sign.RightParenthesis (Some sign.RightParenthesis) h = refl
is_the_sign sign.RightParenthesis _ h = cc
is_the_sign sign.LeftBrace (Some sign.LeftBrace) h = refl
is_the_sign sign.LeftBrace _ h = cc
is_the_sign sign.RightBrace (Some sign.RightBrace) h = refl
is_the_sign sign.RightBrace _ h = cc
is_the_sign sign.RightBracket (Some sign.RightBracket) h = refl
is_the_sign sign.RightBracket _ h = cc
is_the_sign sign.Colon (Some sign.Colon) h = refl
is_the_sign sign.Colon _ h = cc
is_the_sign sign.Semicolon (Some sign.Semicolon) h = refl
is_the_sign sign.Semicolon _ h = cc
is_the_sign _ o h = cc

module _ (at : Place → Place) (end : Place) where
  taken_keeps : (b : Bool) (s : Sign) (ts : List Token) → is_sign s (next_sign ts) ≡ b
      → Skips at (length ts) (Takes s ts) (taken_if end b ts) (taken_if (at end) b (moved at ts))
  taken_keeps true s ts e =
      let takes : Takes s ts (rest_of ts) = (is_the_sign s (next_sign ts) e, refl) in
      rw (rest_moved at ts) (skips (rest_of ts) (omega (arith, taken_shorter ts takes)) takes)
  taken_keeps false s ts e = rw (place_moved at end ts) (no_skip _ (place_at end ts) refl)

  pub expect_keeps : (s : Sign) (ts : List Token) → Skips at (length ts) (Takes s ts) (expect end s ts) (expect (at end) s (moved at ts))
  unfolding expect
  expect_keeps s ts = rw (sign_moved at ts) (taken_keeps (is_sign s (next_sign ts)) s ts refl)

  semicolon_by_keeps : (s : Option Sign) (b : Bool) (t : Token) (ts : List Token) → next_sign (t ∷ ts) ≡ s
      → Skips at (length (t ∷ ts)) (Ends (t ∷ ts)) (semicolon_by end s b (t ∷ ts)) (semicolon_by (at end) s b (moved at (t ∷ ts)))
  semicolon_by_keeps (Some sign.Semicolon) b t ts e = skips ts (omega arith) (by_sign (e, refl))
  semicolon_by_keeps (Some sign.RightBrace) b t ts e = skips (t ∷ ts) (omega arith) by_itself
  semicolon_by_keeps _ true t ts e = skips (t ∷ ts) (omega arith) by_itself
  semicolon_by_keeps _ false t ts e = no_skip _ t.place refl

  pub semicolon_keeps : (ts : List Token) → Skips at (length ts) (Ends ts) (semicolon end ts) (semicolon (at end) (moved at ts))
  unfolding semicolon
  semicolon_keeps [] = skips [] (omega arith) by_itself
  semicolon_keeps (t ∷ ts) = semicolon_by_keeps (sign_of t.kind) t.after_line t ts refl

-- ---- names

module _ (o : Other) (s : ℕ) (end : Place) where
  name_if_keeps : (k : Option Keyword) (w : List ℕ) (t : Token) (ts : List Token) → t.kind ≡ token.Word w → keyword_of w ≡ k
      → Alike o stays s (length (t ∷ ts)) (Named (t ∷ ts)) (name_if end k w (t ∷ ts)) (name_if (o.at end) k w (moved o.at (t ∷ ts)))
  name_if_keeps None w t ts e h = gave (unbound w) ts (omega arith) (a_name e h)
  name_if_keeps (Some k) w t ts e h = stops _ t.place refl

  name_by_keeps : (k : TokenKind) (t : Token) (ts : List Token) → t.kind ≡ k
      → Alike o stays s (length (t ∷ ts)) (Named (t ∷ ts)) (name_by end k (t ∷ ts)) (name_by (o.at end) k (moved o.at (t ∷ ts)))
  name_by_keeps (token.Word w) t ts e = name_if_keeps (keyword_of w) w t ts e refl
  name_by_keeps _ t ts e = stops _ t.place refl

  pub name_keeps : Keep o stays s Named (name end) (name (o.at end))
  unfolding name
  name_keeps [] = stops _ end refl
  name_keeps (t ∷ ts) = name_by_keeps t.kind t ts refl

  word_by_keeps : (k : TokenKind) (t : Token) (ts : List Token) → t.kind ≡ k
      → Alike o stays s (length (t ∷ ts)) (Worded (t ∷ ts)) (word_by end k (t ∷ ts)) (word_by (o.at end) k (moved o.at (t ∷ ts)))
  word_by_keeps (token.Word w) t ts e = gave w ts (omega arith) (a_word e)
  word_by_keeps _ t ts e = stops _ t.place refl

  pub any_word_keeps : Keep o stays s Worded (any_word end) (any_word (o.at end))
  unfolding any_word
  any_word_keeps [] = stops _ end refl
  any_word_keeps (t ∷ ts) = word_by_keeps t.kind t ts refl

-- ---- lists

parted_by_keeps : {A : Type 0} {o : Other} {s : ℕ} (f : A → A) (P : Rel A) (z : Option Sign) (a : List Token) (x : A) (b : List Token)
    → next_sign b ≡ z → P a x b → Alike o (moved_turn f) s (length b) (Turned (parted_row P) a) (parted z x b) (parted z (f x) (moved o.at b))
parted_by_keeps {o = o} f P (Some sign.Comma) a x b e is = rw (rest_moved o.at b) (skip b (both (rest_of b) refl (turn_more (b, is, (e, refl)))))
parted_by_keeps f P _ a x b e is = both b refl (turn_last is)

pub parted_keeps : {A : Type 0} {o : Other} {s : ℕ} (f : A → A) (P : Rel A) (a : List Token) (x : A) (b : List Token)
    → P a x b → Alike o (moved_turn f) s (length b) (Turned (parted_row P) a) (parted (next_sign b) x b) (parted (next_sign (moved o.at b)) (f x) (moved o.at b))
parted_keeps {o = o} f P a x b is = rw (sign_moved o.at b) (parted_by_keeps f P (next_sign b) a x b refl is)

-- w: the row that holds the part where a comma stands behind it, and where the closing sign does
module _ {A : Type 0} (o : Other) (s : ℕ) (end : Place) (f : A → A) (w : Row A) (close : Sign) (a : List Token) (x : A) where
  listed_by_keeps : (z : Option Sign) (b : List Token) → next_sign b ≡ z → ((c : List Token) → Takes sign.Comma b c → w.more a x c)
      → ((c : List Token) → Takes close b c → w.last a x c)
      → Alike o (moved_turn f) s (length b) (Turned w a) (listed_by end close z x b) (listed_by (o.at end) close z (f x) (moved o.at b))
  listed_by_keeps (Some sign.Comma) b e more last = rw (rest_moved o.at b) (skip b (both (rest_of b) refl (turn_more (more (rest_of b) (e, refl)))))
  listed_by_keeps _ b e more last = behind _ _ (expect_keeps o.at end close b) (λ c takes. both c refl (turn_last (last c takes)))

  pub listed_keeps : (b : List Token) → ((c : List Token) → Takes sign.Comma b c → w.more a x c) → ((c : List Token) → Takes close b c → w.last a x c)
      → Alike o (moved_turn f) s (length b) (Turned w a) (listed end close x b) (listed (o.at end) close (f x) (moved o.at b))
  listed_keeps b more last = rw (sign_moved o.at b) (listed_by_keeps (next_sign b) b refl more last)

-- ---- the parameters of a function

pub map_same : {A : Type 0} (f : A → A) → ((x : A) → f x ≡ x) → (xs : List A) → map f xs ≡ xs
map_same f h [] = refl
map_same f h (x ∷ xs) = rw (h x, map_same f h xs) refl

pub all_stay : {A : Type 0} (xs : List A) → map stays xs ≡ xs
all_stay xs = map_same stays (λ x. refl) xs

module _ (o : Other) (s : ℕ) (end : Place) where
  a_parameter_keeps : Keep o (moved_turn stays) s (Turned (listed_row sign.RightParenthesis Named)) (a_parameter end) (a_parameter (o.at end))
  unfolding a_parameter
  a_parameter_keeps a = and_then _ _ (name_keeps o s end a) (λ x b is. listed_keeps o s end stays (listed_row sign.RightParenthesis Named) sign.RightParenthesis a x b (λ c takes. (b, is, takes)) (λ c takes. (b, is, takes)))

  parameters_by_keeps : KeepBy o (map stays) s (Listed Named) next_sign (parameters_by end) (parameters_by (o.at end))
  parameters_by_keeps (Some sign.RightParenthesis) a h = rw (rest_moved o.at a) (skip a (both (rest_of a) refl (none_listed (h, refl))))
  parameters_by_keeps _ a h = so (row_keeps stays (listed_row sign.RightParenthesis Named) _ _ a_parameter_keeps a) (λ xs b are. some_listed are)

  pub parameters_keep : Keep o (map stays) s (Listed Named) (parameters end) (parameters (o.at end))
  unfolding parameters
  parameters_keep a = rw (sign_moved o.at a) (parameters_by_keeps (next_sign a) a refl)
