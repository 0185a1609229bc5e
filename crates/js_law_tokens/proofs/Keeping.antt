-- How tokens that are printed stem from tokens that were read.
use Rattle.std.proofs.Common.{◌≡◌, ℕ, ◌≤◌, List, [], ◌∷◌, ◌++◌, length, Some, Bool, true, false, refl, sym, subst, arith}
use Rattle.std.proofs.lemmas.List.{append-nil}
use Rattle.js_tree.specs.declared.token.Token.{Token}
use Rattle.js_tree.specs.declared.token.TokenKind.{TokenKind}
use Rattle.js_tree.specs.declared.token.TokenKind.TheVariants as token
use Rattle.js_tree.specs.declared.sign.Sign.{Sign}
use Rattle.js_tree.specs.declared.sign.Sign.TheVariants as sign
use Rattle.js_grammar.specs.Expressions.{name_in}
use Rattle.js_grammar.specs.Printing.{printed, sign_token, in_round, comma_if}
use Rattle.js_law_tokens.specs.BareTokens.{bare_kind}

-- Of the tokens `before` those up to `rest` were read, and `out` is printed for them. Each printed token is one that
-- was read, or the text of a name that was read; tokens that are left out of bare ones come and go.
pub data Keeps : List Token → List Token → List Token → Type 0 where
  done : (ts : List Token) → Keeps [] ts ts
  kept : (k : TokenKind) (t : Token) (out before rest : List Token) → t.kind ≡ k → Keeps out before rest → Keeps (printed k ∷ out) (t ∷ before) rest
  named : (x : List ℕ) (t : Token) (out before rest : List Token) → name_in t.kind ≡ Some x → Keeps out before rest → Keeps (printed (token.Text x) ∷ out) (t ∷ before) rest
  added : (s : Sign) (out before rest : List Token) → bare_kind (token.Sign s) ≡ [] → Keeps out before rest → Keeps (sign_token s ∷ out) before rest
  left_out : (t : Token) (out before rest : List Token) → bare_kind t.kind ≡ [] → Keeps out before rest → Keeps out (t ∷ before) rest

-- ---- one part behind another

pub behind : {a b before mid rest : List Token} → Keeps a before mid → Keeps b mid rest → Keeps (a ++ b) before rest
behind (done ts) k = k
behind {b = b} (kept x t out before rest e h) k = kept x t (out ++ b) before _ e (behind h k)
behind {b = b} (named x t out before rest e h) k = named x t (out ++ b) before _ e (behind h k)
behind {b = b} (added x out before rest e h) k = added x (out ++ b) before _ e (behind h k)
behind {b = b} (left_out t out before rest e h) k = left_out t (out ++ b) before _ e (behind h k)

-- behind a part tokens are read that nothing is printed for
pub and_skips : {a before mid rest : List Token} → Keeps a before mid → Keeps [] mid rest → Keeps a before rest
and_skips {a = a} {before = before} {rest = rest} h k = subst (λ out. Keeps out before rest) (append-nil a) (behind h k)

pub without_nil : {a before rest : List Token} → Keeps a before rest → Keeps (a ++ []) before rest
without_nil {a = a} {before = before} {rest = rest} h = subst (λ out. Keeps out before rest) (sym (append-nil a)) h

-- reading gives back no token
pub no_longer : {a before rest : List Token} → Keeps a before rest → length rest ≤ length before
no_longer (done ts) = omega arith
no_longer (kept x t out before rest e h) = let more : length rest ≤ length before = no_longer h in omega arith
no_longer (named x t out before rest e h) = let more : length rest ≤ length before = no_longer h in omega arith
no_longer (added x out before rest e h) = no_longer h
no_longer (left_out t out before rest e h) = let more : length rest ≤ length before = no_longer h in omega arith

-- ---- signs that are printed where none was read

pub with_sign : {a before rest : List Token} (s : Sign) → bare_kind (token.Sign s) ≡ [] → Keeps a before rest → Keeps (sign_token s ∷ a) before rest
with_sign {a = a} {before = before} {rest = rest} s e h = added s a before rest e h

pub ends_with : {a before rest : List Token} (s : Sign) → bare_kind (token.Sign s) ≡ [] → Keeps a before rest → Keeps (a ++ sign_token s ∷ []) before rest
ends_with {rest = rest} s e h = behind h (with_sign s e (done rest))

pub round : {a before rest : List Token} → Keeps a before rest → Keeps (in_round a) before rest
round h = with_sign sign.LeftParenthesis refl (ends_with sign.RightParenthesis refl h)

pub semicolon_behind : {a before rest : List Token} → Keeps a before rest → Keeps (a ++ sign_token sign.Semicolon ∷ []) before rest
semicolon_behind h = ends_with sign.Semicolon refl h

pub comma_before : {a before rest : List Token} (b : Bool) → Keeps a before rest → Keeps (comma_if b ++ a) before rest
comma_before true h = with_sign sign.Comma refl h
comma_before false h = h
