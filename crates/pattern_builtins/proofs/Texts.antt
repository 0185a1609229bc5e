-- A text with its matches replaced is put together.
use Rattle.std.proofs.Common.{◌≡◌, ℕ, zero, suc, ◌<◌, ◌≤◌, Bool, true, false, cond, List, [], ◌∷◌, ◌++◌, map, drop, length, Option, Some, None, ap, sym, subst, ◌∙◌, arith, append_assoc, length-append}
use Rattle.std.proofs.lemmas.Bool.{le-leb, lt-leb}
use Rattle.std.proofs.lemmas.List.{append-nil}
use Rattle.std.specs.Prelude.{slice_get, slice_range}
use Rattle.js_pattern.specs.declared.span.Span.{Span}
use Rattle.js_pattern.specs.Within.{SpanWithin, SpansWithin}
use Rattle.js_regex.specs.declared.search.Match.{Match}
use Rattle.pattern_builtins.specs.Pieces.{found_in, InOrder}
use Rattle.pattern_builtins.specs.Putting.{Grows}
use Rattle.pattern_builtins.specs.Replacing.{expanded, replaced_from, made_text}
use Rattle.utf16_text.specs.declared.limits.TheConstants.{LONGEST_TEXT}

pub made_fits : (us : List ℕ) → length us ≤ LONGEST_TEXT → Some us ≡ made_text us
made_fits us h = ap (λ b. cond b (Some us) None) (sym (le-leb (length us) LONGEST_TEXT h))

made_long : (us : List ℕ) → LONGEST_TEXT < length us → None ≡ made_text us
made_long us h = ap (λ b. cond b (Some us) None) (sym (lt-leb (length us) LONGEST_TEXT h))

-- a text whose front is too long is too long
too_long : (front behind whole : List ℕ) → front ++ behind ≡ whole → LONGEST_TEXT < length front → None ≡ made_text whole
too_long front behind whole e h =
    made_long whole (let all = ap length e in omega (arith, length-append front behind))

grows : (piece old new : List ℕ) (b t : Bool) → Grows piece old b new → b ≡ t → Grows piece old t new
grows piece old new b t g e = subst (λ t. Grows piece old t new) e g

module _ (text by : List ℕ) (ms : List Match) where
  abbrev whole : List ℕ
  whole = replaced_from text by 0 (map found_in ms)

  -- what is put together already, and what is left
  pub record Making (all : List ℕ) (from : ℕ) (left : List Match) : Type 0 where
    pub same : all ++ replaced_from text by from (map found_in left) ≡ whole
    pub short : length all ≤ LONGEST_TEXT
    pub order : InOrder (length text) from left

  module _ (all : List ℕ) (from : ℕ) where
    pub making_ends : Making all from [] → (all ++ drop from text ≡ whole)
    making_ends h = h.same

    module _ (m : Match) (left : List Match) (h : Making all from (m ∷ left)) where
      abbrev between : List ℕ
      between = slice_range text from m.from

      abbrev behind : List ℕ
      behind = replaced_from text by m.to (map found_in left)

      split : all ++ between ++ expanded text (found_in m) by ++ behind ≡ whole
      split =
          append_assoc (all ++ between) (expanded text (found_in m) by) behind
          ∙ append_assoc all between (expanded text (found_in m) by ++ behind)
          ∙ ap (λ us. all ++ us) (sym (append_assoc between (expanded text (found_in m) by) behind))
          ∙ h.same

      pub long_before : (new : List ℕ) → Grows between all false new → None ≡ made_text whole
      long_before new g =
          too_long (all ++ between) (expanded text (found_in m) by ++ behind) whole
          (sym (append_assoc (all ++ between) (expanded text (found_in m) by) behind) ∙ split) g

      module _ (so_far : List ℕ) (fits : Bool) (grown : Grows between all fits so_far) (fit : fits ≡ true) where
        g : Grows between all true so_far
        g = grows between all so_far fits true grown fit

        longer : so_far ++ expanded text (found_in m) by ++ behind ≡ whole
        longer = ap (λ us. us ++ expanded text (found_in m) by ++ behind) (g.0) ∙ split

        pub long_within : (new : List ℕ) (b : Bool) → Grows (expanded text (found_in m) by) so_far b new → b ≡ false → None ≡ made_text whole
        long_within new b l e =
            too_long (so_far ++ expanded text (found_in m) by) behind whole longer (grows (expanded text (found_in m) by) so_far new b false l e)

        pub making_goes_on : (new : List ℕ) (b : Bool) → Grows (expanded text (found_in m) by) so_far b new → b ≡ true → Making new m.to left
        making_goes_on new b l e =
            let more = grows (expanded text (found_in m) by) so_far new b true l e in
            record {
              same = ap (λ us. us ++ behind) (more.0) ∙ longer;
              short = more.1;
              order = h.order.2;
            }

    pub long_behind : Making all from [] → (new : List ℕ) → Grows (drop from text) all false new → None ≡ made_text whole
    long_behind h new g =
        too_long (all ++ drop from text) [] whole (append-nil (all ++ drop from text) ∙ h.same) g

    pub made_all : Making all from [] → (new : List ℕ) → Grows (drop from text) all true new → Some new ≡ made_text whole
    made_all h new g =
        made_fits new (g.1) ∙ ap made_text (g.0 ∙ h.same)

-- a group that is set lies within the text
pub span_within : (end : ℕ) (gs : List (Option Span)) (n : ℕ) (s : Span) → SpansWithin end gs → slice_get gs n ≡ Some (Some s) → SpanWithin end (Some s)
span_within end [] n s h e = cc
span_within end (g ∷ gs) zero s h e = let same : g ≡ Some s = cc in subst (SpanWithin end) same (h.0)
span_within end (g ∷ gs) (suc n) s h e = span_within end gs n s (h.1) e
