-- Rows of parts are run in any grouping.
use Rattle.std.proofs.Common.{◌≡◌, ℕ, ◌-◌, ◌<◌, ◌≤◌, List, [], ◌∷◌, length, take, drop, get_or, refl, sym, ◌∙◌, ap, arith}
use Rattle.std.proofs.lemmas.Grind.{common_steps}
use Rattle.std.specs.Prelude.{Bool, true, false, ◌||◌}
use Rattle.js_tree.specs.declared.statement.Branch.{Branch}
use Rattle.js_tree.specs.Size.{statements_size, branches_size}
use Rattle.js_tree.specs.Tree.{StatementTree, statements_of}
use Rattle.js_tree.specs.View.{branches_of}
use Rattle.js_ends.specs.declared.ends.Ends.{Ends}
use Rattle.js_ends.specs.Ways.{no_end, completion, either, into, followed_by}
use Rattle.js_ends.specs.Ends.{ends_of_statement, ends_of_statements, ends_of_branches}

or_assoc : (a b c : Bool) → ((a || b) || c) ≡ (a || (b || c))
or_assoc true b c = refl
or_assoc false b c = refl

pub either_assoc : (a b c : Ends) → either (either a b) c ≡ either a (either b c)
unfolding either
either_assoc a b c = simp or_assoc

abbrev ends : Bool → Bool → Bool → Bool → Bool → Ends
ends completes breaks continues nothing value = record { completes = completes; breaks = breaks; continues = continues; returns_nothing = nothing; returns_value = value }

-- the same of parts by their ways, where it is known whether they complete
followed : (ac ab an ae av bc bb bn be bv : Bool) (c : Ends)
    → followed_by (followed_by (ends ac ab an ae av) (ends bc bb bn be bv)) c ≡ followed_by (ends ac ab an ae av) (followed_by (ends bc bb bn be bv) c)
unfolding either into followed_by
followed false ab an ae av bc bb bn be bv c = refl
followed true ab an ae av false bb bn be bv c = refl
followed true ab an ae av true bb bn be bv c = simp or_assoc

pub followed_assoc : (a b c : Ends) → followed_by (followed_by a b) c ≡ followed_by a (followed_by b c)
followed_assoc a b c =
    followed a.completes a.breaks a.continues a.returns_nothing a.returns_value b.completes b.breaks b.continues b.returns_nothing b.returns_value c

-- ---- nothing before and behind a row

or_false : (a : Bool) → (a || false) ≡ a
or_false true = refl
or_false false = refl

pub nothing_before : (a : Ends) → followed_by completion a ≡ a
unfolding either into followed_by
nothing_before a = refl

completed : (c b n e v : Bool) → followed_by (ends c b n e v) completion ≡ ends c b n e v
unfolding either into followed_by
completed true b n e v = simp or_false
completed false b n e v = refl

pub nothing_behind : (a : Ends) → followed_by a completion ≡ a
nothing_behind a = completed a.completes a.breaks a.continues a.returns_nothing a.returns_value

pub or_nothing : (a : Ends) → either a no_end ≡ a
unfolding either
or_nothing a = simp or_false

pub nothing_or : (a : Ends) → either no_end a ≡ a
unfolding either
nothing_or a = refl

-- ---- a row without its first part

take_whole : {X : Type 0} (xs : List X) (n : ℕ) → n ≡ length xs → take n xs ≡ xs
take_whole xs n e = grind (arith, common_steps)

rest_of : {X : Type 0} (y : X) (ys : List X) → take (length (y ∷ ys) - 1) (drop 1 (y ∷ ys)) ≡ ys
rest_of y ys = take_whole ys (length (y ∷ ys) - 1) (omega arith)

pub smaller_statements : (ss : List StatementTree) (n : ℕ) → 1 ≤ length ss → statements_size (statements_of ss) ≤ n
    → statements_size (statements_of (take (length ss - 1) (drop 1 ss))) ≤ n
smaller_statements [] n some h = absurd (omega arith)
smaller_statements (s ∷ ss) n some h = rw (rest_of s ss) (omega arith)

pub smaller_branches : (bs : List Branch) (n : ℕ) → 1 ≤ length bs → branches_size (branches_of bs) ≤ n
    → branches_size (branches_of (take (length bs - 1) (drop 1 bs))) ≤ n
smaller_branches [] n some h = absurd (omega arith)
smaller_branches (b ∷ bs) n some h = rw (rest_of b bs) (omega arith)

-- what a row comes to behind these ends is what its rest comes to behind these and its first part
pub statement_passed : (before one after whole : Ends) (s : StatementTree) (ss : List StatementTree) → s ≡ get_or ss 0 s → 1 ≤ length ss
    → one ≡ ends_of_statement s → after ≡ followed_by before one → followed_by before (ends_of_statements (statements_of ss)) ≡ whole
    → followed_by after (ends_of_statements (statements_of (take (length ss - 1) (drop 1 ss)))) ≡ whole
statement_passed before one after whole s [] first some one_is after_is same = absurd (omega arith)
statement_passed before one after whole s (t ∷ ts) first some one_is after_is same =
    let rest : Ends = ends_of_statements (statements_of ts) in
    rw (rest_of t ts)
    (ap (λ (e : Ends). followed_by e rest) (after_is ∙ ap (λ (e : Ends). followed_by before e) (one_is ∙ ap ends_of_statement first))
    ∙ (followed_assoc before (ends_of_statement t) rest ∙ same))

pub branch_passed : (before one after whole : Ends) (b : Branch) (bs : List Branch) → b ≡ get_or bs 0 b → 1 ≤ length bs
    → one ≡ ends_of_statement b.body → after ≡ either before one → either before (ends_of_branches (branches_of bs)) ≡ whole
    → either after (ends_of_branches (branches_of (take (length bs - 1) (drop 1 bs)))) ≡ whole
branch_passed before one after whole b [] first some one_is after_is same = absurd (omega arith)
branch_passed before one after whole b (c ∷ cs) first some one_is after_is same =
    let rest : Ends = ends_of_branches (branches_of cs) in
    rw (rest_of c cs)
    (ap (λ (e : Ends). either e rest) (after_is ∙ ap (λ (e : Ends). either before e) (one_is ∙ ap (λ (x : Branch). ends_of_statement x.body) first))
    ∙ (either_assoc before (ends_of_statement c.body) rest ∙ same))

-- nothing is left
pub statements_done : (before whole : Ends) (ss : List StatementTree) → length ss < 1
    → followed_by before (ends_of_statements (statements_of ss)) ≡ whole → before ≡ whole
statements_done before whole [] none same = sym (nothing_behind before) ∙ same
statements_done before whole (s ∷ ss) none same = absurd (omega arith)

pub branches_done : (before whole : Ends) (bs : List Branch) → length bs < 1
    → either before (ends_of_branches (branches_of bs)) ≡ whole → before ≡ whole
branches_done before whole [] none same = sym (or_nothing before) ∙ same
branches_done before whole (b ∷ bs) none same = absurd (omega arith)
