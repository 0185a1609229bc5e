-- Reading loses, invents and reorders no token but round brackets, commas and semicolons.
use Rattle.std.proofs.Common.{◌≡◌, ℕ, List, [], ◌∷◌, ◌++◌, Some, refl, sym, ap, ◌∙◌, subst, append_assoc}
use Rattle.std.proofs.lemmas.List.{append-nil}
use Rattle.std.proofs.lemmas.List.Elements.{All-nil, All-cons, All-head, All-tail}
use Rattle.std.specs.List.{flat_map, All}
use Rattle.std.specs.Fmt.{signed_decimal}
use Rattle.js_tree.specs.declared.token.Token.{Token}
use Rattle.js_tree.specs.declared.token.TokenKind.{TokenKind}
use Rattle.js_tree.specs.declared.token.TokenKind.TheVariants as token
use Rattle.js_grammar.specs.Expressions.{name_in}
use Rattle.js_grammar.specs.Printing.{printed, statement_tokens}
use Rattle.js_law_tokens.specs.BareTokens.{a_text, bare_kind, bare_tokens}
use Rattle.js_law_tokens.specs.Laws.{ReadingKeepsTokens, HoldsOfNames, HoldsOfPrinted}
use Rattle.js_law_tokens.proofs.Keeping.{Keeps, done, kept, named, added, left_out}
use Rattle.js_law_tokens.proofs.Nodes.{script_kept}

-- a name is bare as its text
name_placeless : (k : TokenKind) (x : List ℕ) → name_in k ≡ Some x → bare_kind k ≡ a_text x ∷ []
name_placeless (token.Word w) x h = let e : w ≡ x = cc in ap (λ y. a_text y ∷ []) e
name_placeless (token.Text w) x h = let e : w ≡ x = cc in ap (λ y. a_text y ∷ []) e
name_placeless (token.Number n) x h = let e : signed_decimal n ≡ x = cc in ap (λ y. a_text y ∷ []) e
name_placeless (token.Pattern l) x h = cc
name_placeless (token.Sign s) x h = cc

keeps_bare : {out before rest : List Token} → Keeps out before rest → bare_tokens before ≡ bare_tokens out ++ bare_tokens rest
keeps_bare (done ts) = refl
keeps_bare {rest = rest} (kept k t out before r e h) = rw (e, keeps_bare h) (sym (append_assoc (bare_kind k) (bare_tokens out) (bare_tokens rest)))
keeps_bare {rest = rest} (named x t out before r e h) = rw (name_placeless t.kind x e, keeps_bare h) refl
keeps_bare {rest = rest} (added s out before r e h) = rw (e, keeps_bare h) refl
keeps_bare {rest = rest} (left_out t out before r e h) = rw (e, keeps_bare h) refl

pub reading_keeps : ReadingKeepsTokens
reading_keeps end room ts body e =
    sym (keeps_bare (script_kept end room ts body e) ∙ append-nil (bare_tokens (flat_map statement_tokens body)))

module _ (P : TokenKind → Type 0) (holds : HoldsOfNames P) where
  abbrev OfKind : Token → Type 0
  OfKind t = P t.kind

  keeps_holds : {out before rest : List Token} → Keeps out before rest → All OfKind before → All OfKind out
  keeps_holds (done ts) all = All-nil OfKind
  keeps_holds (kept k t out before r e h) all =
      All-cons OfKind (printed k) out (subst P e (All-head OfKind t before all)) (keeps_holds h (All-tail OfKind t before all))
  keeps_holds (named x t out before r e h) all =
      All-cons OfKind (printed (token.Text x)) out (holds.name t.kind x e (All-head OfKind t before all)) (keeps_holds h (All-tail OfKind t before all))
  keeps_holds (added s out before r e h) all = All-cons OfKind (printed (token.Sign s)) out (holds.sign s) (keeps_holds h all)
  keeps_holds (left_out t out before r e h) all = keeps_holds h (All-tail OfKind t before all)

  pub holds_of_printed : HoldsOfPrinted P
  holds_of_printed end room ts body e all = keeps_holds (script_kept end room ts body e) all
