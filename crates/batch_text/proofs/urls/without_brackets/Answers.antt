use Rattle.std.proofs.Common.{◌≡◌, ℕ, List, [], ◌∷◌, ◌++◌, Some, None, drop, lit<, sym, ap, ◌∙◌}
use Rattle.std.proofs.lemmas.List.{append_cancel_right}
use Rattle.std.proofs.lemmas.Str.Pattern.{strip_prefix_char, strip_suffix_char}
use Rattle.batch_text.proofs.urls.without_brackets.Goals as goal

-- the text behind `[`
behind_bracket : (text behind inside : List ℕ) → text ≡ 91 ∷ behind → text ≡ 91 ∷ (inside ++ 93 ∷ []) → behind ≡ inside ++ 93 ∷ []
behind_bracket text behind inside is e = ap (drop 1) (sym is ∙ e)

pub returns-in-Some-strip_suffix : goal.returns-in-Some-strip_suffix
returns-in-Some-strip_suffix c inside e =
    let is = strip_prefix_char 91 c.args.text.now (Some c.in-Some.behind) c.in-Some.ensures.cases (lit< tt) in
    let last = strip_suffix_char 93 c.in-Some.behind.now (Some c.in-Some-strip_suffix.inside) c.in-Some-strip_suffix.ensures.cases (lit< tt) in
    append_cancel_right _ inside (93 ∷ []) (sym last ∙ behind_bracket c.args.text.now c.in-Some.behind.now inside is e)

pub returns-in-None-strip_suffix : goal.returns-in-None-strip_suffix
returns-in-None-strip_suffix c inside e =
    let is = strip_prefix_char 91 c.args.text.now (Some c.in-Some.behind) c.in-Some.ensures.cases (lit< tt) in
    absurd (strip_suffix_char 93 c.in-Some.behind.now None c.in-None-strip_suffix.ensures.cases (lit< tt) inside (behind_bracket c.args.text.now c.in-Some.behind.now inside is e))

pub returns-in-None : goal.returns-in-None
returns-in-None c inside e = absurd (strip_prefix_char 91 c.args.text.now None c.in-None.ensures.cases (lit< tt) (inside ++ 93 ∷ []) e)
