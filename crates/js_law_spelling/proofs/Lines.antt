-- A line of printed tokens is lexed as these tokens.
use Rattle.std.proofs.Common.{◌≡◌, ◌⊎◌, inl, inr, ℕ, List, [], ◌∷◌, ◌++◌, Bool, true, false, not, refl, subst, sym, ap, append_assoc}
use Rattle.std.specs.List.{All}
use Rattle.std.proofs.lemmas.List.Elements.{All-head, All-tail}
use Rattle.utf16_text.specs.Letters.{is_space_unit}
use Rattle.js_tree.specs.declared.place.Place.{Place}
use Rattle.js_tree.specs.declared.token.Token.{Token}
use Rattle.js_tree.specs.declared.token.TokenKind.{TokenKind}
use Rattle.js_tree.specs.declared.token.TokenKind.TheVariants as token
use Rattle.js_grammar.specs.Printing.{nowhere}
use Rattle.js_grammar.specs.Spelling.{spelling, line}
use Rattle.js_grammar.specs.Tokens.{divides, dot_first}
use Rattle.js_law_spelling.specs.Spellable.{is_spellable}
use Rattle.js_law_spelling.specs.Laws.{is_pattern, MayStand, SpellingsAreRead}
use Rattle.js_law_spelling.specs.Lined.{behind_line}
use Rattle.js_law_spelling.proofs.Standing.{Stand}
use Rattle.js_law_spelling.proofs.Pieces.{Lexed, with_kind, NoSpaceFirst, token_first, spellable_lexed, gap_lexed}

abbrev pub IsSpellable : Token → Type 0
IsSpellable t = is_spellable t.kind ≡ true

-- tokens in the first place, where the first of them stands behind a line's end or not
abbrev pub marked : Bool → List Token → List Token
marked after_line [] = []
marked after_line (t ∷ ts) = with_kind t.kind nowhere after_line ∷ ts

-- a row has a token
abbrev pub IsRow : List Token → Type 0
IsRow [] = ⊥
IsRow (t ∷ ts) = Unit {0}

pub marked_first : (ts : List Token) (dividing dot : Bool) → Stand dividing dot ts → marked false ts ≡ ts
marked_first [] dividing dot h = refl
marked_first (t ∷ ts) dividing dot h = ap (λ u. u ∷ ts) (sym h.0)

pub marked_behind : (ts : List Token) (dividing dot : Bool) → Stand dividing dot ts → marked true ts ≡ behind_line ts
marked_behind [] dividing dot h = refl
marked_behind (t ∷ ts) dividing dot h = ap (λ (u : Token). record u { after_line = true } ∷ ts) (sym h.0)

is_gap : (gap : ℕ) → (gap ≡ 32) ⊎ (gap ≡ 10) → is_space_unit gap ≡ true
is_gap gap (inl e) = rw e refl
is_gap gap (inr e) = rw e refl

-- each token may stand where a slash divides, or where none does
may_stand : (k : TokenKind) → MayStand (not (is_pattern k)) k
may_stand (token.Pattern l) = ((λ needs. cc), (λ is. refl))
may_stand (token.Word w) = ((λ needs. refl), (λ is. cc))
may_stand (token.Number n) = ((λ needs. refl), (λ is. cc))
may_stand (token.Text x) = ((λ needs. refl), (λ is. cc))
may_stand (token.Sign s) = ((λ needs. refl), (λ is. cc))

module _ (read : SpellingsAreRead) where
  spelling_first : (k : TokenKind) (more : List ℕ) → is_spellable k ≡ true → NoSpaceFirst (spelling k ++ more)
  spelling_first k more spellable = token_first (not (is_pattern k)) (spelling k) [] more k (read (not (is_pattern k)) k 32 [] spellable (may_stand k) (inl refl))

  pub line_first : (ts : List Token) (more : List ℕ) → IsRow ts → All IsSpellable ts → NoSpaceFirst (line ts ++ more)
  line_first [] more is spellable = absurd is
  line_first (t ∷ []) more is spellable = rw (append_assoc (spelling t.kind) (10 ∷ []) more) (spelling_first t.kind (10 ∷ more) (All-head IsSpellable t [] spellable))
  line_first (t ∷ u ∷ ts) more is spellable = rw (append_assoc (spelling t.kind) (32 ∷ line (u ∷ ts)) more) (spelling_first t.kind (32 ∷ (line (u ∷ ts) ++ more)) (All-head IsSpellable t (u ∷ ts) spellable))

  spelling_lexed : (k : TokenKind) (gap : ℕ) (rest : List ℕ) (after_line : Bool) (before wanted : List Token) → is_spellable k ≡ true → MayStand (divides before) k → (gap ≡ 32) ⊎ (gap ≡ 10)
      → ((place : Place) → Lexed false (with_kind k place after_line ∷ before) (gap ∷ rest) wanted)
      → Lexed after_line before (spelling k ++ gap ∷ rest) (with_kind k nowhere after_line ∷ wanted)
  spelling_lexed k gap rest after_line before wanted spellable needs is h =
      spellable_lexed (spelling k) (is_gap gap is) (read (divides before) k gap rest spellable needs is) h

  pub line_lexed : (ts : List Token) (after_line : Bool) (before wanted : List Token) (rest : List ℕ) → IsRow ts → All IsSpellable ts → Stand (divides before) (dot_first before) ts → NoSpaceFirst rest
      → ((behind : List Token) → Lexed true behind rest wanted)
      → Lexed after_line before (line ts ++ rest) (marked after_line ts ++ wanted)
  line_lexed [] after_line before wanted rest is spellable stand none h = absurd is
  line_lexed (t ∷ []) after_line before wanted rest is spellable stand none h =
      subst (λ us. Lexed after_line before us (with_kind t.kind nowhere after_line ∷ wanted)) (sym (append_assoc (spelling t.kind) (10 ∷ []) rest))
      (spelling_lexed t.kind 10 rest after_line before wanted (All-head IsSpellable t [] spellable) stand.1 (inr refl) (λ place. gap_lexed 10 refl none (h (with_kind t.kind place after_line ∷ before))))
  line_lexed (t ∷ u ∷ ts) after_line before wanted rest is spellable stand none h =
      let others = All-tail IsSpellable t (u ∷ ts) spellable in
      let first = line_first (u ∷ ts) rest tt others in
      let more = λ (place : Place). line_lexed (u ∷ ts) false (with_kind t.kind place after_line ∷ before) wanted rest tt others stand.2 none h in
      let plain = marked_first (u ∷ ts) _ _ stand.2 in
      subst (λ us. Lexed after_line before us (with_kind t.kind nowhere after_line ∷ (u ∷ ts ++ wanted))) (sym (append_assoc (spelling t.kind) (32 ∷ line (u ∷ ts)) rest))
      (spelling_lexed t.kind 32 (line (u ∷ ts) ++ rest) after_line before (u ∷ ts ++ wanted) (All-head IsSpellable t (u ∷ ts) spellable) stand.1 (inl refl)
      (λ place. gap_lexed 32 refl first (subst (λ vs. Lexed false (with_kind t.kind place after_line ∷ before) (line (u ∷ ts) ++ rest) (vs ++ wanted)) plain (more place))))
