-- What is done with patterns.
use Rattle.std.proofs.Common.{ℕ, ℤ, pos, List, [], ◌∷◌, map, length, Bool, true, false, Option, Some, None, Result, Ok, Err, refl}
use Rattle.std.specs.Prelude.{codes, is_some, nat_lt}
use Rattle.js_tree.specs.declared.place.Place.{Place}
use Rattle.js_pattern.specs.declared.span.Span.{Span}
use Rattle.js_pattern.specs.Pattern.{PatternTree}
use Rattle.js_pattern.specs.Search.{Found, match_from, cost_from}
use Rattle.js_pattern_reader.specs.declared.answer.PatternAnswer.{PatternAnswer}
use Rattle.js_pattern_reader.specs.Literal.{Literal, is_global}
use Rattle.js_pattern_reader.specs.Reading.{pattern_of}
use Rattle.pattern_builtins.specs.Pieces.{pieces_of, wholes}
use Rattle.pattern_builtins.specs.Matches.{all_searches, searches_of}
use Rattle.pattern_builtins.specs.Replacing.{made_text, replaced_from}
use Rattle.pattern_builtins.specs.Splitting.{splits_of}
use Rattle.text_builtins.specs.declared.call.TextMethod.TheVariants as method
use Rattle.heap_values.specs.declared.ids.ObjectId.{ObjectId}
use Rattle.heap_values.specs.declared.value.Value.{Value}
use Rattle.heap_values.specs.declared.value.Value.TheVariants as value
use Rattle.js_convert.specs.Texts.{text_of}
use Rattle.js_evaluation.specs.declared.native.PatternNative.{PatternNative}
use Rattle.js_evaluation.specs.declared.native.PatternNative.TheVariants as native
use Rattle.js_evaluation.specs.State.{RunState, Does}
use Rattle.js_evaluation.specs.Handed.{argument}
use Rattle.js_evaluation.specs.NativeWork.{literal_in}
use Rattle.js_evaluation.specs.Patterns as def
use Rattle.js_law_right.specs.Right.{Setting}
use Rattle.js_law_names.proofs.Agreeing.{Agrees, gives, fails, sees, ◌onto◌, ◌then◌, either}
use Rattle.js_law_names.proofs.OfState.{charges-agrees, define-agrees, spend-agrees, test_text-agrees}
use Rattle.js_law_names.proofs.OfObjects.{put-agrees}
use Rattle.js_law_names.proofs.OfHanded.{gives_text-agrees}
use Rattle.js_law_names.proofs.OfNativeWork.{array_of-agrees, text_work-agrees}

module _ {setting : ℕ → Setting} where
  -- ---- searches

  with_tree-agrees : {A : Type 0} {z : RunState} (otherwise : A) (result : Result PatternTree PatternAnswer) (what : PatternTree → Does A)
      → ((p : PatternTree) → Agrees setting z (what p) (what p))
      → Agrees setting z (def.with_tree otherwise result what) (def.with_tree otherwise result what)
  with_tree-agrees otherwise (Ok p) what agrees = agrees p
  with_tree-agrees otherwise (Err e) what agrees = gives otherwise

  found_from-agrees : {z : RunState} (text : List ℕ) (from : ℤ) (place : Place) (p : PatternTree)
      → Agrees setting z (def.found_from text from place p) (def.found_from text from place p)
  found_from-agrees text (pos from) place p = either (nat_lt (length text) from) (gives None)
      (charges-agrees (cost_from p text from) place then gives (match_from p text from))
  found_from-agrees text from place p = gives None

  all_found-agrees : {z : RunState} (text : List ℕ) (place : Place) (p : PatternTree)
      → Agrees setting z (def.all_found text place p) (def.all_found text place p)
  all_found-agrees text place p = charges-agrees (all_searches p text).cost place then gives (all_searches p text).found

  matches_found-agrees : {z : RunState} (text : List ℕ) (place : Place) (p : PatternTree)
      → Agrees setting z (def.matches_found text place p) (def.matches_found text place p)
  matches_found-agrees text place p = charges-agrees (searches_of p text).cost place then gives (searches_of p text).found

  pieces_found-agrees : {z : RunState} (text : List ℕ) (limit : ℕ) (place : Place) (p : PatternTree)
      → Agrees setting z (def.pieces_found text limit place p) (def.pieces_found text limit place p)
  pieces_found-agrees text limit place p =
      charges-agrees (splits_of p text limit).cost place then gives (splits_of p text limit).pieces

  -- ---- `lastIndex`

  set_last_index-agrees : {z : RunState} (pattern : ObjectId) (n : ℕ) (place : Place)
      → Agrees setting z (def.set_last_index pattern n place) (def.set_last_index pattern n place)
  set_last_index-agrees pattern n place = put-agrees (value.Object pattern) (codes "lastIndex") (value.Number (pos n)) place

  moved-agrees : {z : RunState} (pattern : ObjectId) (global : Bool) (m : Option Found) (place : Place)
      → Agrees setting z (def.moved pattern global m place) (def.moved pattern global m place)
  moved-agrees pattern global None place = set_last_index-agrees pattern 0 place
  moved-agrees pattern true (Some m) place = set_last_index-agrees pattern m.end.place place
  moved-agrees pattern false (Some m) place = gives tt

  reset-agrees : {z : RunState} (pattern : ObjectId) (global : Bool) (found : List Found) (place : Place)
      → Agrees setting z (def.reset pattern global found place) (def.reset pattern global found place)
  reset-agrees pattern true found place = set_last_index-agrees pattern 0 place
  reset-agrees pattern false [] place = set_last_index-agrees pattern 0 place
  reset-agrees pattern false (m ∷ ms) place = gives tt

  -- ---- what is given

  spend_value-agrees : {z : RunState} (v : Value) (place : Place)
      → Agrees setting z (def.spend_value v place) (def.spend_value v place)
  spend_value-agrees (value.Text t) place = spend-agrees t place
  spend_value-agrees v place = gives tt

  spend_values-agrees : {z : RunState} (vs : List Value) (place : Place)
      → Agrees setting z (def.spend_values vs place) (def.spend_values vs place)
  spend_values-agrees [] place = gives tt
  spend_values-agrees (v ∷ vs) place = spend_value-agrees v place then spend_values-agrees vs place

  gives_values-agrees : {z : RunState} (vs : List Value) (place : Place)
      → Agrees setting z (def.gives_values vs place) (def.gives_values vs place)
  gives_values-agrees vs place = spend_values-agrees vs place then array_of-agrees vs place

  gives_pieces-agrees : {z : RunState} (text : List ℕ) (pieces : List (Option Span)) (place : Place)
      → Agrees setting z (def.gives_pieces text pieces place) (def.gives_pieces text pieces place)
  gives_pieces-agrees text pieces place = gives_values-agrees (map (def.piece_value text) pieces) place

  with_match-agrees : {z : RunState} (v : Value) (text : List ℕ) (m : Found) (place : Place)
      → Agrees setting z (def.with_match v text m place) (def.with_match v text m place)
  with_match-agrees (value.Object array) text m place =
      define-agrees array (codes "index") (value.Number (pos m.from)) true true place
      then (define-agrees array (codes "input") (value.Text text) true true place then gives (value.Object array))
  with_match-agrees v text m place = gives v

  match_value-agrees : {z : RunState} (text : List ℕ) (m : Option Found) (place : Place)
      → Agrees setting z (def.match_value text m place) (def.match_value text m place)
  match_value-agrees text None place = gives value.Null
  match_value-agrees text (Some m) place =
      gives_pieces-agrees text (pieces_of m) place onto (λ array. with_match-agrees array text m place)

  gives_matches-agrees : {z : RunState} (text : List ℕ) (pieces : List (Option Span)) (place : Place)
      → Agrees setting z (def.gives_matches text pieces place) (def.gives_matches text pieces place)
  gives_matches-agrees text [] place = gives value.Null
  gives_matches-agrees text (piece ∷ pieces) place = gives_pieces-agrees text (piece ∷ pieces) place

  replaced_value-agrees : {z : RunState} (text : Option (List ℕ)) (place : Place)
      → Agrees setting z (def.replaced_value text place) (def.replaced_value text place)
  replaced_value-agrees None place = fails _ place
  replaced_value-agrees (Some text) place = gives_text-agrees text place

  -- ---- methods

  module _ (pattern : ObjectId) (l : Literal) (place : Place) where
    searched-agrees : {z : RunState} (text : List ℕ) (begin : ℤ)
        → Agrees setting z (def.searched pattern l place text begin) (def.searched pattern l place text begin)
    searched-agrees text begin =
        with_tree-agrees None (pattern_of l.body l.flags) (def.found_from text (def.place_of (is_global l) begin) place)
        (found_from-agrees text (def.place_of (is_global l) begin) place)
        onto (λ m. moved-agrees pattern (is_global l) m place then gives m)

    exec-agrees : {z : RunState} (text : List ℕ) (begin : ℤ)
        → Agrees setting z (def.exec pattern l place text begin) (def.exec pattern l place text begin)
    exec-agrees text begin = searched-agrees text begin onto (λ m. match_value-agrees text m place)

    test-agrees : {z : RunState} (text : List ℕ) (begin : ℤ)
        → Agrees setting z (def.test pattern l place text begin) (def.test pattern l place text begin)
    test-agrees text begin = searched-agrees text begin onto (λ m. gives (value.Bool (is_some m)))

    match_all-agrees : {z : RunState} (text : List ℕ)
        → Agrees setting z (def.match_all pattern l place text) (def.match_all pattern l place text)
    match_all-agrees text = set_last_index-agrees pattern 0 place
        then (with_tree-agrees [] (pattern_of l.body l.flags) (def.all_found text place) (all_found-agrees text place)
        onto (λ ms. gives_matches-agrees text (wholes ms) place))

    match-agrees : {z : RunState} (text : List ℕ) (begin : ℤ)
        → Agrees setting z (def.match pattern l place text begin) (def.match pattern l place text begin)
    match-agrees text begin = either (is_global l) (match_all-agrees text) (exec-agrees text begin)

    search-agrees : {z : RunState} (text : List ℕ)
        → Agrees setting z (def.search pattern l place text) (def.search pattern l place text)
    search-agrees text =
        with_tree-agrees None (pattern_of l.body l.flags) (def.found_from text (pos 0) place) (found_from-agrees text (pos 0) place)
        onto (λ m. gives (def.from_of m))

    replace-agrees : {z : RunState} (text by : List ℕ)
        → Agrees setting z (def.replace pattern l place text by) (def.replace pattern l place text by)
    replace-agrees text by =
        with_tree-agrees [] (pattern_of l.body l.flags) (def.matches_found text place) (matches_found-agrees text place)
        onto (λ ms. reset-agrees pattern (is_global l) ms place
        then replaced_value-agrees (made_text (replaced_from text by 0 ms)) place)

    split-agrees : {z : RunState} (text : List ℕ) (limit : ℕ)
        → Agrees setting z (def.split pattern l place text limit) (def.split pattern l place text limit)
    split-agrees text limit =
        with_tree-agrees [] (pattern_of l.body l.flags) (def.pieces_found text limit place) (pieces_found-agrees text limit place)
        onto (λ pieces. gives_pieces-agrees text pieces place)

  -- ---- all of them

  on_pattern-agrees : {z : RunState} (v : Value) (l : Option Literal) (what : ObjectId → Literal → Does Value) (otherwise : Does Value)
      → ((id : ObjectId) (l : Literal) → Agrees setting z (what id l) (what id l)) → Agrees setting z otherwise otherwise
      → Agrees setting z (def.on_pattern v l what otherwise) (def.on_pattern v l what otherwise)
  on_pattern-agrees (value.Object id) (Some l) what otherwise agrees other = agrees id l
  on_pattern-agrees v l what otherwise agrees other = other

  with_text-agrees : {z : RunState} (v : Value) (place : Place) (what : List ℕ → Does Value)
      → ((text : List ℕ) → Agrees setting z (what text) (what text))
      → Agrees setting z (def.with_text v place what) (def.with_text v place what)
  with_text-agrees v place what agrees = test_text-agrees (text_of v) place then agrees (text_of v)

  with_pattern-agrees : {z : RunState} (pattern text : Value) (place : Place) (what : ObjectId → Literal → List ℕ → Does Value) (otherwise : Does Value)
      → ((z : RunState) (id : ObjectId) (l : Literal) (text : List ℕ) → Agrees setting z (what id l text) (what id l text))
      → ((z : RunState) → Agrees setting z otherwise otherwise)
      → Agrees setting z (def.with_pattern pattern text place what otherwise) (def.with_pattern pattern text place what otherwise)
  with_pattern-agrees pattern text place what otherwise agrees other = sees (λ z _l _f. on_pattern-agrees pattern (literal_in z.heap pattern) (λ id l. def.with_text text place (what id l)) otherwise
      (λ id l. with_text-agrees text place (what id l) (agrees z id l)) (other z)) (λ z. refl)

  pub pattern_work-agrees : {z : RunState} (n : PatternNative) (vs : List Value) (begin : Value) (place : Place)
      → Agrees setting z (def.pattern_work n vs begin place) (def.pattern_work n vs begin place)
  pattern_work-agrees native.Exec vs begin place = with_pattern-agrees (argument 0 vs) (argument 1 vs) place _ _
      (λ _z id l text. exec-agrees id l place text (def.begin_in begin)) (λ _z. gives value.Undefined)
  pattern_work-agrees native.Test vs begin place = with_pattern-agrees (argument 0 vs) (argument 1 vs) place _ _
      (λ _z id l text. test-agrees id l place text (def.begin_in begin)) (λ _z. gives value.Undefined)
  pattern_work-agrees native.Match vs begin place = with_pattern-agrees (argument 1 vs) (argument 0 vs) place _ _
      (λ _z id l text. match-agrees id l place text (def.begin_in begin)) (λ _z. gives value.Undefined)
  pattern_work-agrees native.Search vs begin place = with_pattern-agrees (argument 1 vs) (argument 0 vs) place _ _
      (λ _z id l text. search-agrees id l place text) (λ _z. gives value.Undefined)
  pattern_work-agrees native.Replace vs begin place = with_pattern-agrees (argument 1 vs) (argument 0 vs) place _ _
      (λ _z id l text. replace-agrees id l place text (text_of (argument 2 vs))) (λ _z. text_work-agrees method.Replace vs place)
  pattern_work-agrees native.Split vs begin place = with_pattern-agrees (argument 1 vs) (argument 0 vs) place _ _
      (λ _z id l text. split-agrees id l place text (def.limit_in (argument 2 vs))) (λ _z. text_work-agrees method.Split vs place)
