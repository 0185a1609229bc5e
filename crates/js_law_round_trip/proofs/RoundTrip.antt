-- The two laws on texts, from their parts.
use Rattle.std.proofs.Common.{◌≡◌, ℕ, ◌+◌, List, [], ◌∷◌, ◌++◌, length, Result, Ok, Err, refl, sym, ap, ◌∙◌, subst}
use Rattle.std.specs.Prelude.{◌*◌, map}
use Rattle.std.specs.List.{flat_map}
use Rattle.std.proofs.lemmas.List.{length-map}
use Rattle.js_tree.specs.declared.place.Place.{Place}
use Rattle.js_tree.specs.declared.token.Token.{Token}
use Rattle.js_tree.specs.Tree.{StatementTree, statements_of}
use Rattle.js_grammar.specs.Reading.{Refusal, ◌>>=◌}
use Rattle.js_grammar.specs.Units.{place_after}
use Rattle.js_grammar.specs.Tokens.{tokens_of}
use Rattle.js_grammar.specs.Statements.{at_top, script_within, script_of, script_without_limit}
use Rattle.js_grammar.specs.Printing.{nowhere, statement_tokens}
use Rattle.js_grammar.specs.Spelling.{printed_bytes}
use Rattle.js_grammar.specs.Placeless.{placeless_statement}
use Rattle.js_law_readable.specs.Readable.{AreStatements}
use Rattle.js_law_readable.proofs.ReadScripts.{scripts_law as readable_law, texts_law}
use Rattle.js_law_tokens.specs.BareTokens.{bare_kind, bare_tokens}
use Rattle.js_law_tokens.proofs.KeptTokens.{reading_keeps}
use Rattle.js_law_places.specs.Placeless.{placeless_token, placeless}
use Rattle.js_law_places.specs.Laws.{put_aside}
use Rattle.js_law_places.proofs.AsideScripts.{places_aside}
use Rattle.js_law_spelling.proofs.Spellings.{each_is_read}
use Rattle.js_law_spelling.proofs.Lexed.{each_is_spellable}
use Rattle.js_law_spelling.specs.Lined.{behind_line, line_tokens, lined}
use Rattle.js_law_spelling.proofs.Scripts.{scripts_lexed}
use Rattle.utf16_text.specs.Units.{IsText}
use Rattle.js_law_round_trip.specs.Laws.{PrintingIsReadBack, TokensAreKept}
use Rattle.js_law_round_trip.proofs.Lined.{lined_again}
use Rattle.js_law_round_trip.proofs.SpellableTokens.{printed_spellable}

-- ---- bare tokens

bare_placeless : (ts : List Token) → bare_tokens (placeless ts) ≡ bare_tokens ts
bare_placeless [] = refl
bare_placeless (t ∷ ts) = ap (λ bs. bare_kind t.kind ++ bs) (bare_placeless ts)

bare_before : (ts us vs : List Token) → bare_tokens us ≡ bare_tokens vs → bare_tokens (ts ++ us) ≡ bare_tokens (ts ++ vs)
bare_before [] us vs e = e
bare_before (t ∷ ts) us vs e = ap (λ bs. bare_kind t.kind ++ bs) (bare_before ts us vs e)

bare_behind : (ts us : List Token) → bare_tokens (behind_line ts ++ us) ≡ bare_tokens (ts ++ us)
bare_behind [] us = refl
bare_behind (t ∷ ts) us = refl

bare_lines : (ss : List StatementTree) → bare_tokens (flat_map line_tokens ss) ≡ bare_tokens (flat_map statement_tokens ss)
bare_lines [] = refl
bare_lines (s ∷ ss) = bare_behind (statement_tokens s) (flat_map line_tokens ss) ∙ bare_before (statement_tokens s) _ _ (bare_lines ss)

bare_lined : (body : List StatementTree) → bare_tokens (lined body) ≡ bare_tokens (flat_map statement_tokens body)
bare_lined [] = refl
bare_lined (s ∷ ss) = bare_before (statement_tokens s) _ _ (bare_lines ss)

-- ---- the tokens of what is printed

-- the place behind the last unit of a text
abbrev end_of : List ℕ → Place
end_of us = place_after (record { line = 1; column = 1 }) us

-- the tokens that the bytes of a printed script are lexed as
record Printed (body : List StatementTree) : Type 0 where
  pub tokens : List Token
  pub lexed : tokens_of (printed_bytes body) ≡ Ok tokens
  pub in_lines : placeless tokens ≡ lined body

printed_tokens : (us : List ℕ) (ts : List Token) (body : List StatementTree) → IsText us → tokens_of us ≡ Ok ts → script_of (end_of us) ts ≡ Ok body → Printed body
printed_tokens us ts body text lexed read =
    let spellable = printed_spellable (end_of us) 200 ts body read (each_is_spellable us ts text lexed) in
    let found = scripts_lexed each_is_read body (readable_law (end_of us) 200 ts body read) spellable in
    record { tokens = found.0; lexed = found.1; in_lines = found.2 }

pub kept : TokensAreKept
kept us text ts body lexed whole =
    let read : script_of (end_of us) ts ≡ Ok body = subst (λ (m : Result (List Token) Refusal). (m >>= λ x. script_of (end_of us) x) ≡ Ok body) lexed whole in
    let p = printed_tokens us ts body text lexed read in
    let bare : bare_tokens p.tokens ≡ bare_tokens ts = sym (bare_placeless p.tokens) ∙ (ap bare_tokens p.in_lines ∙ (bare_lined body ∙ reading_keeps (end_of us) 200 ts body read)) in
    rw p.lexed (ap Ok bare)

-- ---- they are read back

-- what reading gives, places put aside
abbrev as_placeless : Result (List StatementTree) Refusal → Result (List StatementTree) Refusal
as_placeless m = m >>= λ again. Ok (map placeless_statement again)

aside_placeless : (m : Result (List StatementTree) Refusal) (bodies : List StatementTree) → put_aside (map placeless_statement) m ≡ Ok bodies → as_placeless m ≡ Ok bodies
aside_placeless (Ok again) bodies e = e
aside_placeless (Err r) bodies e = cc

-- tokens that are those of a printed script, places put aside, are read as that script
read_again : (body : List StatementTree) (ts : List Token) (end : Place) → AreStatements at_top (statements_of body) → placeless ts ≡ lined body → as_placeless (script_without_limit end ts) ≡ Ok (map placeless_statement body)
read_again body ts end are in_lines =
    let bare : script_without_limit nowhere (placeless ts) ≡ Ok (map placeless_statement body) = subst (λ (us : List Token). script_without_limit nowhere us ≡ Ok (map placeless_statement body)) (sym in_lines) (lined_again nowhere body are) in
    let same_room : script_within nowhere (2 * length ts + 2) (placeless ts) ≡ Ok (map placeless_statement body) = subst (λ (n : ℕ). script_within nowhere (2 * n + 2) (placeless ts) ≡ Ok (map placeless_statement body)) (length-map ts placeless_token) bare in
    aside_placeless (script_without_limit end ts) (map placeless_statement body) (sym (places_aside end (2 * length ts + 2) ts) ∙ same_room)

-- a step that gave something was taken
steps : {A B : Type 0} (m : Result A Refusal) (f : A → Result B Refusal) (y : B) → (m >>= f) ≡ Ok y → (x : A) × (m ≡ Ok x) × (f x ≡ Ok y)
steps (Ok x) f y e = (x, refl, e)
steps (Err r) f y e = cc

pub read_back : PrintingIsReadBack
read_back us text body whole =
    let first = steps (tokens_of us) (λ ts. script_of (end_of us) ts) body whole in
    let p = printed_tokens us first.0 body text first.1 first.2 in
    rw p.lexed (read_again body p.tokens (end_of (printed_bytes body)) (texts_law us body whole) p.in_lines)
