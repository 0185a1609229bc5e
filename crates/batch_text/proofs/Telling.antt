-- What is known of names that are told whole.
use Rattle.std.proofs.Common.{◌≡◌, ℕ, ◌+◌, refl, ap, sym, ◌∙◌, subst, List, [], ◌∷◌, ◌++◌, Bool, true, false, ◌||◌, map, Option, Some, None, is_some, Result, Ok, Err}
use Rattle.std.specs.Prelude.{cond, if◌then◌else◌}
use Rattle.std.specs.List.{list_any}
use Rattle.std.specs.Option.{option_or, unwrap_or}
use Rattle.std.specs.Ordering.{eq_by_cmp}
use Rattle.std.specs.FinMap as finite
use Rattle.std.specs.FinMap.{find}
use Rattle.pac_names.specs.declared.answer.Answer.{Answer}
use Rattle.pac_names.specs.declared.answer.Answer.TheVariants.{NoAddress}
use Rattle.pac_names.specs.declared.kind.NameKind.{NameKind}
use Rattle.pac_names.specs.declared.kind.NameKind.TheVariants.{V4, V6}
use Rattle.pac_names.specs.Names.{Name}
use Rattle.pac_names.specs.Comparing.{compare_names, names_total, names_apart, names_tie, one_name}
use Rattle.js_host.specs.Answers.{AnswerMap, answer_in}
use Rattle.batch_text.specs.Lines.{lines}
use Rattle.batch_text.specs.declared.names.NamesKind.TheVariants.{Twice}
use Rattle.batch_text.specs.Names.{NamesLine, Nothing, Entry, Bad, NamesRead, line_of, line_then, names_behind, names_in}
use Rattle.batch_text.specs.Told.{in_other_family, other_kind, other_has_none, told_whole, told_in, read_whole, with_other, with_other_of}

-- one name comes where the other one does
abbrev is_name : Name → Name → Bool
is_name a b = eq_by_cmp compare_names a b

-- no address, where so much is told
abbrev none_where : Bool → Option Answer
none_where b = cond b (Some NoAddress) None

-- the answer of a name that is told whole: that which is told, or none where something is told of the other family
abbrev pub told_answer : AnswerMap → Name → Option Answer
told_answer told name = option_or (finite.get told name) (none_where (is_some (finite.get told (in_other_family name))))

other_by_parts : (k l : NameKind) (s t : List ℕ)
    → is_name (record { kind = k; text = s }) (in_other_family (record { kind = l; text = t }))
    ≡ is_name (in_other_family (record { kind = k; text = s })) (record { kind = l; text = t })
other_by_parts V4 V4 s t = refl
other_by_parts V4 V6 s t = refl
other_by_parts V6 V4 s t = refl
other_by_parts V6 V6 s t = refl

is_other : (a b : Name) → is_name a (in_other_family b) ≡ is_name (in_other_family a) b
is_other a b = other_by_parts a.kind b.kind a.text b.text

find-appended : (name : Name) (es fs : List (Name × Answer))
    → find compare_names name (es ++ fs) ≡ option_or (find compare_names name es) (find compare_names name fs)
find-appended name [] fs = refl
find-appended name (e ∷ es) fs =
    elim (is_name name e.0) as (λ b. cond b (Some e.1) (find compare_names name (es ++ fs)) ≡ option_or (cond b (Some e.1) (find compare_names name es)) (find compare_names name fs)) [
      | true ↦ refl
      | false ↦ find-appended name es fs
    ]

find-others : (name : Name) (es : List (Name × Answer))
    → find compare_names name (map other_has_none es) ≡ none_where (is_some (find compare_names (in_other_family name) es))
find-others name [] = refl
find-others name (e ∷ es) =
    ap (λ b. cond b (Some NoAddress) (find compare_names name (map other_has_none es))) (is_other name e.0)
    ∙ elim (is_name (in_other_family name) e.0) as (λ b. cond b (Some NoAddress) (find compare_names name (map other_has_none es)) ≡ none_where (is_some (cond b (Some e.1) (find compare_names (in_other_family name) es)))) [
      | true ↦ refl
      | false ↦ find-others name es
    ]

pub whole_answer : (told : AnswerMap) (name : Name) → finite.get (told_whole told) name ≡ told_answer told name
whole_answer told name =
    let es : List (Name × Answer) = finite.entries told in
    finite.get-from_entries names_total (es ++ map other_has_none es) name
    ∙ find-appended name es (map other_has_none es)
    ∙ ap (option_or (find compare_names name es)) (find-others name es)
    ∙ ap (λ found. option_or found (none_where (is_some (find compare_names (in_other_family name) es)))) (sym (finite.get-entries told name))
    ∙ ap (λ found. option_or (finite.get told name) (none_where (is_some found))) (sym (finite.get-entries told (in_other_family name)))

-- ---- line by line

-- behind these lines
abbrev pub told_behind : AnswerMap → List NamesLine → AnswerMap
told_behind told [] = told
told_behind told (line ∷ lines) = told_behind (with_other_of told line) lines

-- a line has an answer for this name
abbrev says : Name → NamesLine → Bool
says name (Entry other answer) = is_name name other
says name Nothing = false
says name Bad = false

or_none : (found : Option Answer) → option_or found None ≡ found
or_none None = refl
or_none (Some answer) = refl

or_both : (found : Option Answer) (a b : Bool)
    → option_or (option_or found (none_where a)) (none_where b) ≡ option_or found (none_where (a || b))
or_both None true b = refl
or_both None false b = refl
or_both (Some answer) a b = refl

-- what has an answer keeps it
kept : (found : Option Answer) (more : Option Answer) → is_some found ≡ true → option_or found more ≡ found
kept None more is = cc
kept (Some answer) more is = refl

lacks : (found : Option Answer) → is_some found ≡ false → found ≡ None
lacks None is = refl
lacks (Some answer) is = cc

-- names that come at one place have one answer
at_one_place : (told : AnswerMap) (a b : Name) → is_name a b ≡ true → finite.get told a ≡ finite.get told b
at_one_place told a b same = ap (λ name. finite.get told name) ((one_name a b).0 (names_tie a b ∙ same))

where_told : (told : AnswerMap) (name other : Name) (b : Bool) → is_name name other ≡ b → is_some (finite.get told other) ≡ true
    → finite.get told name ≡ option_or (finite.get told name) (none_where b)
where_told told name other true same is =
    sym (kept (finite.get told name) (Some NoAddress) (ap is_some (at_one_place told name other same) ∙ is))
where_told told name other false same is = sym (or_none (finite.get told name))

where_untold : (told : AnswerMap) (name other : Name) (b : Bool) → is_name name other ≡ b → is_some (finite.get told other) ≡ false
    → cond b (Some NoAddress) (finite.get told name) ≡ option_or (finite.get told name) (none_where b)
where_untold told name other true same is =
    sym (ap (λ found. option_or found (Some NoAddress)) (at_one_place told name other same ∙ lacks (finite.get told other) is))
where_untold told name other false same is = sym (or_none (finite.get told name))

other_by : (told : AnswerMap) (name other : Name) (b : Bool) → is_some (finite.get told other) ≡ b
    → finite.get (if b then told else finite.insert told other NoAddress) name
    ≡ option_or (finite.get told name) (none_where (is_name name other))
other_by told name other true is = where_told told name other (is_name name other) refl is
other_by told name other false is =
    finite.get-insert names_total told other NoAddress name ∙ where_untold told name other (is_name name other) refl is

with_other_answer : (told : AnswerMap) (other name : Name)
    → finite.get (with_other told other) name ≡ option_or (finite.get told name) (none_where (is_name (in_other_family name) other))
with_other_answer told other name =
    other_by told name (in_other_family other) (is_some (finite.get told (in_other_family other))) refl
    ∙ ap (λ b. option_or (finite.get told name) (none_where b)) (is_other name other)

line_answer : (told : AnswerMap) (line : NamesLine) (name : Name)
    → finite.get (with_other_of told line) name ≡ option_or (finite.get told name) (none_where (says (in_other_family name) line))
line_answer told (Entry other answer) name = with_other_answer told other name
line_answer told Nothing name = sym (or_none (finite.get told name))
line_answer told Bad name = sym (or_none (finite.get told name))

behind_answer : (told : AnswerMap) (ls : List NamesLine) (name : Name)
    → finite.get (told_behind told ls) name
    ≡ option_or (finite.get told name) (none_where (list_any (says (in_other_family name)) ls))
behind_answer told [] name = sym (or_none (finite.get told name))
behind_answer told (line ∷ ls) name =
    behind_answer (with_other_of told line) ls name
    ∙ ap (λ found. option_or found (none_where (list_any (says (in_other_family name)) ls))) (line_answer told line name)
    ∙ or_both (finite.get told name) (says (in_other_family name) line) (list_any (says (in_other_family name)) ls)

-- ---- what is told stands in a line

abbrev is_read : AnswerMap → NamesRead
is_read told = Ok told

told_by_insert : (told : AnswerMap) (name other : Name) (answer : Answer)
    → is_some (finite.get (finite.insert told other answer) name) ≡ (is_some (finite.get told name) || is_name name other)
told_by_insert told name other answer =
    ap is_some (finite.get-insert names_total told other answer name) ∙ by_place (is_name name other) (finite.get told name)
  where
    by_place : (b : Bool) (found : Option Answer) → is_some (cond b (Some answer) found) ≡ (is_some found || b)
    by_place true (Some a) = refl
    by_place true None = refl
    by_place false (Some a) = refl
    by_place false None = refl

or_assoc : (a b c : Bool) → ((a || b) || c) ≡ (a || (b || c))
or_assoc true b c = refl
or_assoc false b c = refl

or_false : (a : Bool) → (a || false) ≡ a
or_false true = refl
or_false false = refl

abbrev Stands : AnswerMap → AnswerMap → List (List ℕ) → Type 0
Stands before told lines =
    (name : Name) → is_some (finite.get told name) ≡ (is_some (finite.get before name) || list_any (says name) (map line_of lines))

abbrev StandsWith : AnswerMap → AnswerMap → NamesLine → List (List ℕ) → Type 0
StandsWith before told line lines =
    (name : Name) → is_some (finite.get told name) ≡ (is_some (finite.get before name) || (says name line || list_any (says name) (map line_of lines)))

abbrev Next : ℕ → List (List ℕ) → AnswerMap → NamesRead
Next number lines = λ known. names_behind number known lines

same_told : (a b : AnswerMap) → is_read a ≡ is_read b → a ≡ b
same_told a b read = cc

-- whatever is entered, the lines behind stand so
abbrev StandsBehind : ℕ → AnswerMap → List (List ℕ) → Type 0
StandsBehind number told ls = (before : AnswerMap) → names_behind number before ls ≡ is_read told → Stands before told ls

stand_entry : (number : ℕ) (before told : AnswerMap) (other : Name) (answer : Answer) (ls : List (List ℕ)) (b : Bool)
    → StandsBehind number told ls
    → (if b then Err (Twice, number) else names_behind number (finite.insert before other answer) ls) ≡ is_read told
    → StandsWith before told (Entry other answer) ls
stand_entry number before told other answer ls true behind read name = cc
stand_entry number before told other answer ls false behind read name =
    behind (finite.insert before other answer) read name
    ∙ ap (λ b. b || list_any (says name) (map line_of ls)) (told_by_insert before name other answer)
    ∙ or_assoc (is_some (finite.get before name)) (is_name name other) (list_any (says name) (map line_of ls))

stand_line : (number : ℕ) (before told : AnswerMap) (said : NamesLine) (ls : List (List ℕ)) → StandsBehind number told ls
    → line_then before said number (Next number ls) ≡ is_read told → StandsWith before told said ls
stand_line number before told Nothing ls behind read name = behind before read name
stand_line number before told Bad ls behind read name = cc
stand_line number before told (Entry other answer) ls behind read name =
    stand_entry number before told other answer ls (is_some (finite.get before other)) behind read name

stand_behind : (number : ℕ) (told : AnswerMap) (ls : List (List ℕ)) → StandsBehind number told ls
stand_behind number told [] before read name =
    ap (λ known. is_some (finite.get known name)) (sym (same_told before told read)) ∙ sym (or_false (is_some (finite.get before name)))
stand_behind number told (line ∷ ls) before read name =
    stand_line (number + 1) before told (line_of line) ls (stand_behind (number + 1) told ls) read name

-- ---- the lines make the names whole

none_stands : (name : Name) → is_some (finite.get {X = Answer} (finite.empty {R = compare_names}) name) ≡ false
none_stands name = ap is_some (finite.get-empty compare_names name)

pub lines_make_whole : (told : AnswerMap) (ls : List (List ℕ)) → names_behind 0 finite.empty ls ≡ Ok told
    → told_behind told (map line_of ls) ≡ told_whole told
lines_make_whole told ls read =
    finite.same_map names_total names_apart _ _ (λ name.
    let other : Name = in_other_family name in
    let stands : is_some (finite.get told other) ≡ list_any (says other) (map line_of ls) =
    stand_behind 0 told ls finite.empty read other
    ∙ ap (λ b. b || list_any (says other) (map line_of ls)) (none_stands other) in
    behind_answer told (map line_of ls) name
    ∙ ap (λ b. option_or (finite.get told name) (none_where b)) (sym stands)
    ∙ sym (whole_answer told name))

-- what the lines have yet to tell behind those that were read
pub whole_by_lines : (bytes : List ℕ) (told : AnswerMap) → names_in bytes ≡ Ok told
    → told_in bytes ≡ Ok (told_behind told (map line_of (lines bytes)))
whole_by_lines bytes told read =
    ap read_whole read ∙ ap is_read (sym (lines_make_whole told (lines bytes) read))

-- ---- a name that is told whole

-- nothing is told of either family where no answer is there
nothing_told : (found : Option Answer) (b : Bool) → option_or found (none_where b) ≡ None → (found ≡ None) × (b ≡ false)
nothing_told None true is = cc
nothing_told None false is = (refl, refl)
nothing_told (Some answer) b is = cc

of_either_kind : (told : AnswerMap) (kind other : NameKind) (text : List ℕ)
    → finite.get told (record { kind = kind; text = text }) ≡ None
    → finite.get told (record { kind = other_kind kind; text = text }) ≡ None
    → finite.get told (record { kind = other; text = text }) ≡ None
of_either_kind told V4 V4 text one two = one
of_either_kind told V4 V6 text one two = two
of_either_kind told V6 V4 text one two = two
of_either_kind told V6 V6 text one two = one

-- of a name without an answer no line was told, of whatever kind
pub untold : (told : AnswerMap) (name : Name) (kind : NameKind) → finite.get (told_whole told) name ≡ None
    → finite.get told (record { kind = kind; text = name.text }) ≡ None
untold told name kind none =
    let other : Name = in_other_family name in
    let both = nothing_told (finite.get told name) (is_some (finite.get told other)) (sym (whole_answer told name) ∙ none) in
    of_either_kind told name.kind kind name.text both.0 (lacks (finite.get told other) both.1)

answers_alike : (found : Option Answer) (b : Bool)
    → unwrap_or (option_or found (none_where b)) NoAddress ≡ unwrap_or found NoAddress
answers_alike None true = refl
answers_alike None false = refl
answers_alike (Some answer) b = refl

-- each name is answered as before: one outside has no address
pub whole_answers_alike : (told : AnswerMap) (name : Name) → answer_in (told_whole told) name ≡ answer_in told name
whole_answers_alike told name =
    ap (λ found. unwrap_or found NoAddress) (whole_answer told name)
    ∙ answers_alike (finite.get told name) (is_some (finite.get told (in_other_family name)))
