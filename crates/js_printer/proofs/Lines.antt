-- Lines: the tokens of a statement, with a line feed in place of the last space.
use Rattle.std.proofs.Common.{◌≡◌, ℕ, ◌-◌, ◌≤◌, max, List, [], ◌∷◌, ◌++◌, length, take, refl, sym, ap, ◌∙◌, append_assoc, length-append, arith}
use Rattle.js_tree.specs.declared.token.Token.{Token}
use Rattle.js_tree.specs.Tree.{StatementTree}
use Rattle.js_grammar.specs.Printing.{statement_tokens}
use Rattle.js_grammar.specs.Spelling.{spelling, line, printed_bytes}
use Rattle.std.proofs.lemmas.List.{take_all}
use Rattle.js_printer.specs.Written.{written}

written_longer : (out : List ℕ) (ts : List Token) → length out ≤ length (written out ts)
unfolding written
written_longer out [] = omega arith
written_longer out (t ∷ ts) = omega (arith, written_longer (out ++ (spelling t.kind ++ 32 ∷ [])) ts, length-append out (spelling t.kind ++ 32 ∷ []))

-- at least one token: without the last space
line_of_some : (out : List ℕ) (t : Token) (ts : List Token) → take (length (written out (t ∷ ts)) - 1) (written out (t ∷ ts)) ++ 10 ∷ [] ≡ out ++ line (t ∷ ts)
unfolding written
line_of_some out t [] =
    let whole : out ++ (spelling t.kind ++ 32 ∷ []) ≡ (out ++ spelling t.kind) ++ 32 ∷ [] = sym (append_assoc out (spelling t.kind) (32 ∷ [])) in
    let size = length-append (out ++ spelling t.kind) (32 ∷ []) in
    let count : length ((out ++ spelling t.kind) ++ 32 ∷ []) - 1 ≡ length (out ++ spelling t.kind) = omega (arith, size) in
    let front : take (length (out ++ spelling t.kind)) ((out ++ spelling t.kind) ++ 32 ∷ []) ≡ out ++ spelling t.kind = take_front (out ++ spelling t.kind) (32 ∷ []) in
    rw (whole, count, front) (append_assoc out (spelling t.kind) (10 ∷ []))
  where
    take_front : (xs ys : List ℕ) → take (length xs) (xs ++ ys) ≡ xs
    take_front [] ys = refl
    take_front (x ∷ xs) ys = ap (λ zs. x ∷ zs) (take_front xs ys)
line_of_some out t (u ∷ us) =
    line_of_some (out ++ (spelling t.kind ++ 32 ∷ [])) u us ∙ append_assoc out (spelling t.kind ++ 32 ∷ []) (line (u ∷ us)) ∙ ap (λ xs. out ++ xs) (append_assoc (spelling t.kind) (32 ∷ []) (line (u ∷ us)))

pub line_written : (out : List ℕ) (ts : List Token) → take (max (length (written out ts) - 1) (length out)) (written out ts) ++ 10 ∷ [] ≡ out ++ line ts
unfolding written
line_written out [] =
    let count : max (length out - 1) (length out) ≡ length out = omega arith in
    rw count (ap (λ xs. xs ++ 10 ∷ []) (take_all (length out) out (omega arith)))
line_written out (t ∷ ts) =
    let more = written_longer (out ++ (spelling t.kind ++ 32 ∷ [])) ts in
    let size = length-append out (spelling t.kind ++ 32 ∷ []) in
    let size2 = length-append (spelling t.kind) (32 ∷ []) in
    let count : max (length (written out (t ∷ ts)) - 1) (length out) ≡ length (written out (t ∷ ts)) - 1 = omega (arith, more, size, size2) in
    rw count (line_of_some out t ts)

pub line_put : (out : List ℕ) (s : StatementTree) (ss : List StatementTree) → (out ++ line (statement_tokens s)) ++ printed_bytes ss ≡ out ++ printed_bytes (s ∷ ss)
line_put out s ss = append_assoc out (line (statement_tokens s)) (printed_bytes ss)
