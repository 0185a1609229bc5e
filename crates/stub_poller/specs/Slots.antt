-- Questions in the order of asking, some of which have left, and an index of their places by number.
use Rattle.std.specs.Prelude.{◌≡◌, ℕ, suc, ◌<◌, ◌^◌, Bool, true, false, nat_eq, if◌then◌else◌, Option, Some, None, option_map, List, [], ◌∷◌, map, ⊤, Vec}
use Rattle.std.specs.Global.{Global}
use Rattle.std.specs.Option.{option_map_or}
use Rattle.std.specs.Ordering.{nat_cmp}
use Rattle.std.specs.BTreeMap.{BTreeMap, get}
use Rattle.pac_names.specs.declared.answer.Answer.{Answer}
use Rattle.pac_names.specs.Comparing.{same_name}
use Rattle.pac_names.specs.Names.{Name}
use Rattle.dns_message.specs.Truncation.{is_truncated}
use Rattle.poll_log.specs.declared.flight.Flight.{Flight}
use Rattle.poll_log.specs.declared.question.Question.{Question}
use Rattle.stub_poller.specs.declared.search.Found.{Found}
use Rattle.stub_poller.specs.declared.slot.Slot.{Slot}
use Rattle.stub_poller.specs.declared.slot.Slot.TheVariants.{Flying, Left}
use Rattle.stub_poller.specs.State.{aged, answer_to, is_over}

-- the questions in flight, in order
abbrev pub flying : List Slot → List Flight
flying [] = []
flying (Flying f ∷ slots) = f ∷ flying slots
flying (Left number ∷ slots) = flying slots

-- what flies at one place
abbrev pub flying_here : Slot → List Flight
flying_here (Flying f) = f ∷ []
flying_here (Left number) = []

abbrev pub flies : Slot → Bool
flies (Flying f) = true
flies (Left number) = false

-- the number that was drawn for the question
abbrev pub number_of : Slot → ℕ
number_of (Flying f) = f.question.id
number_of (Left number) = number

-- ---- one place

-- the name and the answer, where the datagram is a reply to what flies here
abbrev pub replied : List ℕ → Slot → Option (Name × Answer)
replied datagram (Flying f) = option_map (λ answer. (f.question.name, answer)) (answer_to datagram f)
replied datagram (Left number) = None

-- the question that flies here, where the datagram is its truncated response
abbrev pub cut_here : List ℕ → Slot → Option Question
cut_here datagram (Flying f) = if is_truncated datagram f.question.id f.question.name then Some f.question else None
cut_here datagram (Left number) = None

abbrev pub named_here : Name → Slot → Bool
named_here name (Flying f) = same_name f.question.name name
named_here name (Left number) = false

-- one beat older
abbrev pub older_here : Slot → Slot
older_here (Flying f) = Flying (aged f)
older_here (Left number) = Left number

abbrev pub left_if : Bool → Flight → Slot
left_if true f = Left f.question.id
left_if false f = Flying f

-- what is at the limit has left
abbrev pub young_here : ℕ → Slot → Slot
young_here limit (Flying f) = left_if (is_over limit f) f
young_here limit (Left number) = Left number

-- one beat more is no overflow
abbrev pub IsLow : Slot → Type 0
IsLow (Flying f) = f.age < 2 ^ 31
IsLow (Left number) = ⊤

-- ---- the first place with something

abbrev pub found_or : {A : Type 0} → ℕ → Option A → Option (Found A) → Option (Found A)
found_or at None rest = rest
found_or at (Some x) rest = Some (record { at = at; what = x })

-- one place further on
abbrev pub further : {A : Type 0} → Option (Found A) → Option (Found A)
further found = option_map (λ f. record { at = suc f.at; what = f.what }) found

-- the first place at which a look gives something, and what it gives
abbrev pub first_in : {A : Type 0} → (Slot → Option A) → List Slot → Option (Found A)
first_in look [] = None
first_in look (s ∷ slots) = found_or 0 (look s) (further (first_in look slots))

-- ---- the index

abbrev pub first_if : Bool → List ℕ → List ℕ
first_if true places = 0 ∷ places
first_if false places = places

-- the places of a number, in order
abbrev pub places_in : ℕ → List Slot → List ℕ
places_in number [] = []
places_in number (s ∷ slots) = first_if (nat_eq (number_of s) number) (map suc (places_in number slots))

abbrev pub items_of : Vec ℕ Global → List ℕ
items_of places = places.items

-- the places that an index holds for a number
abbrev pub places_at : BTreeMap ℕ (Vec ℕ Global) → ℕ → List ℕ
places_at index number = option_map_or items_of (get nat_cmp index number) []

-- it holds the places of each number
abbrev pub IsIndexOf : (ℕ → List ℕ) → List Slot → Type 0
IsIndexOf places slots = (number : ℕ) → places number ≡ places_in number slots
