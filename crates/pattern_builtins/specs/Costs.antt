-- What searches take from the fuel.
use Rattle.std.specs.Prelude.{ℕ, ◌≡◌, ◌+◌, ◌<◌, ◌≤◌, Result, Ok, Err}
use Rattle.js_regex.specs.declared.answer.FindAnswer.{FindAnswer}
use Rattle.js_regex.specs.declared.answer.FindAnswer.TheVariants as answer

-- the cost, what is said of an answer, the fuel before, the answer, and the fuel behind: an answer takes exactly the
-- cost, and Spent comes exactly where the cost is larger than the fuel
abbrev pub Takes : {A : Type 0} → ℕ → (A → Type 0) → ℕ → Result A FindAnswer → ℕ → Type 0
Takes cost right f (Ok x) g = right x × (cost + g ≡ f)
Takes cost right f (Err answer.Spent) g = (f < cost) × (g ≤ f)
Takes cost right f (Err answer.Memory) g = g ≤ f
