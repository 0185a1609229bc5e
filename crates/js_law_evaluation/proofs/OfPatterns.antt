-- What is done with patterns has one end and asks nobody.
use Rattle.std.proofs.Common.{refl, ℕ, ℤ, pos, List, [], ◌∷◌, map, length, Bool, true, false, Option, Some, None, Result, Ok, Err}
use Rattle.std.specs.Prelude.{codes, is_some, nat_lt}
use Rattle.js_tree.specs.declared.place.Place.{Place}
use Rattle.js_pattern.specs.declared.span.Span.{Span}
use Rattle.js_pattern.specs.Pattern.{PatternTree}
use Rattle.js_pattern.specs.Search.{Found, match_from, cost_from}
use Rattle.js_pattern_reader.specs.declared.answer.PatternAnswer.{PatternAnswer}
use Rattle.js_pattern_reader.specs.Literal.{Literal, is_global}
use Rattle.js_pattern_reader.specs.Reading.{pattern_of}
use Rattle.pattern_builtins.specs.Pieces.{pieces_of, wholes}
use Rattle.pattern_builtins.specs.Matches.{all_searches, searches_of}
use Rattle.pattern_builtins.specs.Replacing.{made_text, replaced_from}
use Rattle.pattern_builtins.specs.Splitting.{splits_of}
use Rattle.text_builtins.specs.declared.call.TextMethod.TheVariants as method
use Rattle.heap_values.specs.declared.ids.ObjectId.{ObjectId}
use Rattle.heap_values.specs.declared.value.Value.{Value}
use Rattle.heap_values.specs.declared.value.Value.TheVariants as value
use Rattle.js_convert.specs.Texts.{text_of}
use Rattle.js_evaluation.specs.declared.native.PatternNative.{PatternNative}
use Rattle.js_evaluation.specs.declared.native.PatternNative.TheVariants as native
use Rattle.js_evaluation.specs.State.{Does}
use Rattle.js_evaluation.specs.Handed.{argument}
use Rattle.js_evaluation.specs.NativeWork.{literal_in}
use Rattle.js_evaluation.specs.Patterns as def
use Rattle.js_law_evaluation.proofs.OfState.{Ends, gives, fails, reads, ◌onto◌, ◌then◌, either, charges-ends, define-ends, spend-ends, test_text-ends}
use Rattle.js_law_evaluation.proofs.OfHanded.{gives_text-ends}
use Rattle.js_law_evaluation.proofs.OfObjects.{put-ends}
use Rattle.js_law_evaluation.proofs.OfNativeWork.{array_of-ends, text_work-ends}

-- ---- searches

with_tree-ends : {A : Type 0} (otherwise : A) (result : Result PatternTree PatternAnswer) (what : PatternTree → Does A)
    → ((p : PatternTree) → Ends (what p)) → Ends (def.with_tree otherwise result what)
with_tree-ends otherwise (Ok p) what has = has p
with_tree-ends otherwise (Err e) what has = gives otherwise

found_from-ends : (text : List ℕ) (from : ℤ) (place : Place) (p : PatternTree) → Ends (def.found_from text from place p)
found_from-ends text (pos from) place p = either (nat_lt (length text) from) (gives None)
    (charges-ends (cost_from p text from) place then gives (match_from p text from))
found_from-ends text from place p = gives None

all_found-ends : (text : List ℕ) (place : Place) (p : PatternTree) → Ends (def.all_found text place p)
all_found-ends text place p = charges-ends (all_searches p text).cost place then gives (all_searches p text).found

matches_found-ends : (text : List ℕ) (place : Place) (p : PatternTree) → Ends (def.matches_found text place p)
matches_found-ends text place p = charges-ends (searches_of p text).cost place then gives (searches_of p text).found

pieces_found-ends : (text : List ℕ) (limit : ℕ) (place : Place) (p : PatternTree) → Ends (def.pieces_found text limit place p)
pieces_found-ends text limit place p =
    charges-ends (splits_of p text limit).cost place then gives (splits_of p text limit).pieces

-- ---- `lastIndex`

set_last_index-ends : (pattern : ObjectId) (n : ℕ) (place : Place) → Ends (def.set_last_index pattern n place)
set_last_index-ends pattern n place = put-ends (value.Object pattern) (codes "lastIndex") (value.Number (pos n)) place

moved-ends : (pattern : ObjectId) (global : Bool) (m : Option Found) (place : Place) → Ends (def.moved pattern global m place)
moved-ends pattern global None place = set_last_index-ends pattern 0 place
moved-ends pattern true (Some m) place = set_last_index-ends pattern m.end.place place
moved-ends pattern false (Some m) place = gives tt

reset-ends : (pattern : ObjectId) (global : Bool) (found : List Found) (place : Place) → Ends (def.reset pattern global found place)
reset-ends pattern true found place = set_last_index-ends pattern 0 place
reset-ends pattern false [] place = set_last_index-ends pattern 0 place
reset-ends pattern false (m ∷ ms) place = gives tt

-- ---- what is given

spend_value-ends : (v : Value) (place : Place) → Ends (def.spend_value v place)
spend_value-ends (value.Text t) place = spend-ends t place
spend_value-ends v place = gives tt

spend_values-ends : (vs : List Value) (place : Place) → Ends (def.spend_values vs place)
spend_values-ends [] place = gives tt
spend_values-ends (v ∷ vs) place = spend_value-ends v place then spend_values-ends vs place

gives_values-ends : (vs : List Value) (place : Place) → Ends (def.gives_values vs place)
gives_values-ends vs place = spend_values-ends vs place then array_of-ends vs place

gives_pieces-ends : (text : List ℕ) (pieces : List (Option Span)) (place : Place) → Ends (def.gives_pieces text pieces place)
gives_pieces-ends text pieces place = gives_values-ends (map (def.piece_value text) pieces) place

with_match-ends : (v : Value) (text : List ℕ) (m : Found) (place : Place) → Ends (def.with_match v text m place)
with_match-ends (value.Object array) text m place =
    define-ends array (codes "index") (value.Number (pos m.from)) true true place
    then (define-ends array (codes "input") (value.Text text) true true place then gives (value.Object array))
with_match-ends v text m place = gives v

match_value-ends : (text : List ℕ) (m : Option Found) (place : Place) → Ends (def.match_value text m place)
match_value-ends text None place = gives value.Null
match_value-ends text (Some m) place = gives_pieces-ends text (pieces_of m) place onto (λ array. with_match-ends array text m place)

gives_matches-ends : (text : List ℕ) (pieces : List (Option Span)) (place : Place) → Ends (def.gives_matches text pieces place)
gives_matches-ends text [] place = gives value.Null
gives_matches-ends text (piece ∷ pieces) place = gives_pieces-ends text (piece ∷ pieces) place

replaced_value-ends : (text : Option (List ℕ)) (place : Place) → Ends (def.replaced_value text place)
replaced_value-ends None place = fails _ place
replaced_value-ends (Some text) place = gives_text-ends text place

-- ---- methods

module _ (pattern : ObjectId) (l : Literal) (place : Place) where
  searched-ends : (text : List ℕ) (begin : ℤ) → Ends (def.searched pattern l place text begin)
  searched-ends text begin =
      with_tree-ends None (pattern_of l.body l.flags) (def.found_from text (def.place_of (is_global l) begin) place)
      (found_from-ends text (def.place_of (is_global l) begin) place)
      onto (λ m. moved-ends pattern (is_global l) m place then gives m)

  exec-ends : (text : List ℕ) (begin : ℤ) → Ends (def.exec pattern l place text begin)
  exec-ends text begin = searched-ends text begin onto (λ m. match_value-ends text m place)

  test-ends : (text : List ℕ) (begin : ℤ) → Ends (def.test pattern l place text begin)
  test-ends text begin = searched-ends text begin onto (λ m. gives (value.Bool (is_some m)))

  match_all-ends : (text : List ℕ) → Ends (def.match_all pattern l place text)
  match_all-ends text = set_last_index-ends pattern 0 place
      then (with_tree-ends [] (pattern_of l.body l.flags) (def.all_found text place) (all_found-ends text place)
      onto (λ ms. gives_matches-ends text (wholes ms) place))

  match-ends : (text : List ℕ) (begin : ℤ) → Ends (def.match pattern l place text begin)
  match-ends text begin = either (is_global l) (match_all-ends text) (exec-ends text begin)

  search-ends : (text : List ℕ) → Ends (def.search pattern l place text)
  search-ends text =
      with_tree-ends None (pattern_of l.body l.flags) (def.found_from text (pos 0) place) (found_from-ends text (pos 0) place)
      onto (λ m. gives (def.from_of m))

  replace-ends : (text by : List ℕ) → Ends (def.replace pattern l place text by)
  replace-ends text by =
      with_tree-ends [] (pattern_of l.body l.flags) (def.matches_found text place) (matches_found-ends text place)
      onto (λ ms. reset-ends pattern (is_global l) ms place
      then replaced_value-ends (made_text (replaced_from text by 0 ms)) place)

  split-ends : (text : List ℕ) (limit : ℕ) → Ends (def.split pattern l place text limit)
  split-ends text limit =
      with_tree-ends [] (pattern_of l.body l.flags) (def.pieces_found text limit place) (pieces_found-ends text limit place)
      onto (λ pieces. gives_pieces-ends text pieces place)

-- ---- all of them

on_pattern-ends : (v : Value) (l : Option Literal) (what : ObjectId → Literal → Does Value) (otherwise : Does Value)
    → ((id : ObjectId) (l : Literal) → Ends (what id l)) → Ends otherwise → Ends (def.on_pattern v l what otherwise)
on_pattern-ends (value.Object id) (Some l) what otherwise has has_other = has id l
on_pattern-ends v l what otherwise has has_other = has_other

with_text-ends : (v : Value) (place : Place) (what : List ℕ → Does Value) → ((text : List ℕ) → Ends (what text))
    → Ends (def.with_text v place what)
with_text-ends v place what has = test_text-ends (text_of v) place then has (text_of v)

with_pattern-ends : (pattern text : Value) (place : Place) (what : ObjectId → Literal → List ℕ → Does Value) (otherwise : Does Value)
    → ((id : ObjectId) (l : Literal) (text : List ℕ) → Ends (what id l text)) → Ends otherwise
    → Ends (def.with_pattern pattern text place what otherwise)
with_pattern-ends pattern text place what otherwise has has_other = reads (λ m s. refl) (λ s.
    on_pattern-ends pattern (literal_in s.heap pattern) (λ id l. def.with_text text place (what id l)) otherwise
    (λ id l. with_text-ends text place (what id l) (has id l)) has_other)

pub pattern_work-ends : (n : PatternNative) (vs : List Value) (begin : Value) (place : Place)
    → Ends (def.pattern_work n vs begin place)
pattern_work-ends native.Exec vs begin place = with_pattern-ends (argument 0 vs) (argument 1 vs) place _ _
    (λ id l text. exec-ends id l place text (def.begin_in begin)) (gives value.Undefined)
pattern_work-ends native.Test vs begin place = with_pattern-ends (argument 0 vs) (argument 1 vs) place _ _
    (λ id l text. test-ends id l place text (def.begin_in begin)) (gives value.Undefined)
pattern_work-ends native.Match vs begin place = with_pattern-ends (argument 1 vs) (argument 0 vs) place _ _
    (λ id l text. match-ends id l place text (def.begin_in begin)) (gives value.Undefined)
pattern_work-ends native.Search vs begin place = with_pattern-ends (argument 1 vs) (argument 0 vs) place _ _
    (λ id l text. search-ends id l place text) (gives value.Undefined)
pattern_work-ends native.Replace vs begin place = with_pattern-ends (argument 1 vs) (argument 0 vs) place _ _
    (λ id l text. replace-ends id l place text (text_of (argument 2 vs))) (text_work-ends method.Replace vs place)
pattern_work-ends native.Split vs begin place = with_pattern-ends (argument 1 vs) (argument 0 vs) place _ _
    (λ id l text. split-ends id l place text (def.limit_in (argument 2 vs))) (text_work-ends method.Split vs place)
