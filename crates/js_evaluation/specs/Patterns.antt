-- What is done with patterns: the methods of patterns, and those of texts that take one (ECMA-262 5.1, sections 15.10.6
-- and 15.5.4). Each search is charged what it costs.
use Rattle.std.specs.Prelude.{ℕ, ℤ, pos, neg_ℤ, List, [], ◌∷◌, map, length, slice_range, Bool, true, false, if◌then◌else◌, Option, Some, None, is_some, nat_lt, Result, Ok, Err, codes}
use Rattle.js_tree.specs.declared.place.Place.{Place}
use Rattle.js_pattern.specs.declared.span.Span.{Span}
use Rattle.js_pattern.specs.Pattern.{PatternTree}
use Rattle.js_pattern.specs.Search.{Found, match_from, cost_from}
use Rattle.js_pattern_reader.specs.declared.answer.PatternAnswer.{PatternAnswer}
use Rattle.js_pattern_reader.specs.Literal.{Literal, is_global}
use Rattle.js_pattern_reader.specs.Reading.{pattern_of}
use Rattle.pattern_builtins.specs.Pieces.{pieces_of, wholes}
use Rattle.pattern_builtins.specs.Matches.{all_searches, searches_of}
use Rattle.pattern_builtins.specs.Replacing.{made_text, replaced_from}
use Rattle.pattern_builtins.specs.Splitting.{splits_of}
use Rattle.text_builtins.specs.declared.call.TextMethod.TheVariants as method
use Rattle.text_builtins.specs.Splitting.{limit_of}
use Rattle.heap_values.specs.declared.ids.ObjectId.{ObjectId}
use Rattle.heap_values.specs.declared.value.Value.{Value}
use Rattle.heap_values.specs.declared.value.Value.TheVariants as value
use Rattle.heap_values.specs.Views.{HeapView}
use Rattle.js_convert.specs.Texts.{text_of}
use Rattle.run_trees.specs.Runs.{pure, reading, ◌>>=◌, ◌>>◌}
use Rattle.js_evaluation.specs.declared.fault.FaultCode.TheVariants as code
use Rattle.js_evaluation.specs.declared.native.PatternNative.{PatternNative}
use Rattle.js_evaluation.specs.declared.native.PatternNative.TheVariants as native
use Rattle.js_evaluation.specs.State.{Does, charges, spend, define, fault, test_text}
use Rattle.js_evaluation.specs.Objects.{put}
use Rattle.js_evaluation.specs.Handed.{argument, gives_text}
use Rattle.js_evaluation.specs.NativeWork.{literal_in, text_work, array_of}

-- ---- which `lastIndex` is read before the search

-- that of a pattern which isn't global; the method sets that of a global one to 0 (15.5.4.10, step 8.a)
abbrev pub read_of_single : Value → Option Literal → Option ObjectId
read_of_single (value.Object id) (Some l) = if is_global l then None else Some id
read_of_single v l = None

-- that of the receiver
abbrev pub read_of_receiver : Value → Option ObjectId
read_of_receiver (value.Object id) = Some id
read_of_receiver v = None

abbrev pub read_by : PatternNative → HeapView → List Value → Option ObjectId
read_by native.Exec h vs = read_of_receiver (argument 0 vs)
read_by native.Test h vs = read_of_receiver (argument 0 vs)
read_by native.Match h vs = read_of_single (argument 1 vs) (literal_in h (argument 1 vs))
read_by native.Replace h vs = read_of_single (argument 1 vs) (literal_in h (argument 1 vs))
read_by native.Search h vs = None
read_by native.Split h vs = None

-- ---- searches

-- what is done with the pattern of a literal; each literal of a script has one
abbrev pub with_tree : {A : Type 0} → A → Result PatternTree PatternAnswer → (PatternTree → Does A) → Does A
with_tree otherwise (Ok p) what = what p
with_tree otherwise (Err e) what = pure otherwise

-- a pattern that isn't global is looked for from the front (15.10.6.2, step 7)
abbrev pub place_of : Bool → ℤ → ℤ
place_of true begin = begin
place_of false begin = pos 0

-- the first match at or behind a place; there is none outside of the text (15.10.6.2, steps 8 and 9)
abbrev pub found_from : List ℕ → ℤ → Place → PatternTree → Does (Option Found)
found_from text (pos from) place p =
    if nat_lt (length text) from then pure None
    else charges (cost_from p text from) place >> pure (match_from p text from)
found_from text from place p = pure None

-- all matches (15.5.4.10, step 8)
abbrev pub all_found : List ℕ → Place → PatternTree → Does (List Found)
all_found text place p = charges (all_searches p text).cost place >> pure (all_searches p text).found

-- all matches of a global pattern, and the first of another one (15.5.4.11)
abbrev pub matches_found : List ℕ → Place → PatternTree → Does (List Found)
matches_found text place p = charges (searches_of p text).cost place >> pure (searches_of p text).found

-- the pieces between matches (15.5.4.14)
abbrev pub pieces_found : List ℕ → ℕ → Place → PatternTree → Does (List (Option Span))
pieces_found text limit place p = charges (splits_of p text limit).cost place >> pure (splits_of p text limit).pieces

-- ---- `lastIndex`

abbrev pub set_last_index : ObjectId → ℕ → Place → Does (Unit {0})
set_last_index pattern n place = put (value.Object pattern) (codes "lastIndex") (value.Number (pos n)) place

-- behind one search: 0 where nothing was found, and the end of the match of a global pattern (15.10.6.2, steps 9.a and 11)
abbrev pub moved : ObjectId → Bool → Option Found → Place → Does (Unit {0})
moved pattern global None place = set_last_index pattern 0 place
moved pattern true (Some m) place = set_last_index pattern m.end.place place
moved pattern false (Some m) place = pure tt

-- behind all searches of a global pattern, and behind one that found nothing
abbrev pub reset : ObjectId → Bool → List Found → Place → Does (Unit {0})
reset pattern true found place = set_last_index pattern 0 place
reset pattern false [] place = set_last_index pattern 0 place
reset pattern false (m ∷ ms) place = pure tt

-- ---- what is given

abbrev pub piece_value : List ℕ → Option Span → Value
piece_value text None = value.Undefined
piece_value text (Some span) = value.Text (slice_range text span.from span.to)

-- the units of the texts among values are counted
abbrev pub spend_value : Value → Place → Does (Unit {0})
spend_value (value.Text t) place = spend t place
spend_value v place = pure tt

abbrev pub spend_values : List Value → Place → Does (Unit {0})
spend_values [] place = pure tt
spend_values (v ∷ vs) place = spend_value v place >> spend_values vs place

-- an array of values, whose texts are counted before it is made
abbrev pub gives_values : List Value → Place → Does Value
gives_values vs place = spend_values vs place >> array_of vs place

abbrev pub gives_pieces : List ℕ → List (Option Span) → Place → Does Value
gives_pieces text pieces place = gives_values (map (piece_value text) pieces) place

-- with the place of the match and the text (15.10.6.2, steps 13 to 20)
abbrev pub with_match : Value → List ℕ → Found → Place → Does Value
with_match (value.Object array) text m place =
    define array (codes "index") (value.Number (pos m.from)) true true place
    >> (define array (codes "input") (value.Text text) true true place >> pure (value.Object array))
with_match v text m place = pure v

abbrev pub match_value : List ℕ → Option Found → Place → Does Value
match_value text None place = pure value.Null
match_value text (Some m) place = gives_pieces text (pieces_of m) place >>= (λ array. with_match array text m place)

-- the pieces, or null where there is none
abbrev pub gives_matches : List ℕ → List (Option Span) → Place → Does Value
gives_matches text [] place = pure value.Null
gives_matches text pieces place = gives_pieces text pieces place

abbrev pub from_of : Option Found → Value
from_of None = value.Number (neg_ℤ (pos 1))
from_of (Some m) = value.Number (pos m.from)

abbrev pub replaced_value : Option (List ℕ) → Place → Does Value
replaced_value None place = fault code.StringTooLong place
replaced_value (Some text) place = gives_text text place

-- ---- methods

module _ (pattern : ObjectId) (l : Literal) (place : Place) where
  -- one search, as `exec` does it (15.10.6.2)
  abbrev pub searched : List ℕ → ℤ → Does (Option Found)
  searched text begin =
      with_tree None (pattern_of l.body l.flags) (found_from text (place_of (is_global l) begin) place)
      >>= (λ m. moved pattern (is_global l) m place >> pure m)

  abbrev pub exec : List ℕ → ℤ → Does Value
  exec text begin = searched text begin >>= (λ m. match_value text m place)

  -- (15.10.6.3)
  abbrev pub test : List ℕ → ℤ → Does Value
  test text begin = searched text begin >>= (λ m. pure (value.Bool (is_some m)))

  -- all matches, and `lastIndex` is 0 before and behind them (15.5.4.10, step 8)
  abbrev pub match_all : List ℕ → Does Value
  match_all text = set_last_index pattern 0 place >> (with_tree [] (pattern_of l.body l.flags) (all_found text place)
      >>= (λ ms. gives_matches text (wholes ms) place))

  -- (15.5.4.10)
  abbrev pub match : List ℕ → ℤ → Does Value
  match text begin = if is_global l then match_all text else exec text begin

  -- neither `lastIndex` nor whether the pattern is global counts (15.5.4.12)
  abbrev pub search : List ℕ → Does Value
  search text = with_tree None (pattern_of l.body l.flags) (found_from text (pos 0) place) >>= (λ m. pure (from_of m))

  -- (15.5.4.11)
  abbrev pub replace : List ℕ → List ℕ → Does Value
  replace text by = with_tree [] (pattern_of l.body l.flags) (matches_found text place)
      >>= (λ ms. reset pattern (is_global l) ms place >> replaced_value (made_text (replaced_from text by 0 ms)) place)

  -- (15.5.4.14)
  abbrev pub split : List ℕ → ℕ → Does Value
  split text limit = with_tree [] (pattern_of l.body l.flags) (pieces_found text limit place)
      >>= (λ pieces. gives_pieces text pieces place)

-- ---- all of them

-- what is done with a value that is a pattern, and what is done with any other
abbrev pub on_pattern : Value → Option Literal → (ObjectId → Literal → Does Value) → Does Value → Does Value
on_pattern (value.Object id) (Some l) what otherwise = what id l
on_pattern v l what otherwise = otherwise

-- each text of a run is short enough
abbrev pub with_text : Value → Place → (List ℕ → Does Value) → Does Value
with_text v place what = test_text (text_of v) place >> what (text_of v)

-- where a search begins, as it was read
abbrev pub begin_in : Value → ℤ
begin_in (value.Number n) = n
begin_in v = pos 0

-- how many pieces there may be
abbrev pub limit_in : Value → ℕ
limit_in (value.Number n) = limit_of (Some n)
limit_in v = limit_of None

-- what a method does with its pattern and a text, or without a pattern
abbrev pub with_pattern : Value → Value → Place → (ObjectId → Literal → List ℕ → Does Value) → Does Value → Does Value
with_pattern pattern text place what otherwise = reading (λ s.
    on_pattern pattern (literal_in s.heap pattern) (λ id l. with_text text place (what id l)) otherwise)

-- The work of a method on its values, which are converted; begin: where its search begins. Anything else than a pattern
-- was refused before, but by `replace` and `split`.
abbrev pub pattern_work : PatternNative → List Value → Value → Place → Does Value
pattern_work native.Exec vs begin place =
    with_pattern (argument 0 vs) (argument 1 vs) place (λ id l text. exec id l place text (begin_in begin)) (pure value.Undefined)
pattern_work native.Test vs begin place =
    with_pattern (argument 0 vs) (argument 1 vs) place (λ id l text. test id l place text (begin_in begin)) (pure value.Undefined)
pattern_work native.Match vs begin place =
    with_pattern (argument 1 vs) (argument 0 vs) place (λ id l text. match id l place text (begin_in begin)) (pure value.Undefined)
pattern_work native.Search vs begin place =
    with_pattern (argument 1 vs) (argument 0 vs) place (λ id l text. search id l place text) (pure value.Undefined)
pattern_work native.Replace vs begin place =
    with_pattern (argument 1 vs) (argument 0 vs) place (λ id l text. replace id l place text (text_of (argument 2 vs))) (text_work method.Replace vs place)
pattern_work native.Split vs begin place =
    with_pattern (argument 1 vs) (argument 0 vs) place (λ id l text. split id l place text (limit_in (argument 2 vs))) (text_work method.Split vs place)
