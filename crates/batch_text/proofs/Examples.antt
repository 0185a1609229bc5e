-- Batches by what their lines say.
use Rattle.std.proofs.Common.{◌≡◌, ℤ, pos, [], ◌∷◌, ◌++◌, replicate, Some, None, Ok, Err, refl}
use Rattle.batch_text.specs.declared.batch.BatchKind.TheVariants.{BadUrl, BackwardTime, TooMany}
use Rattle.batch_text.specs.View.{Seen}
use Rattle.proxy_list.specs.declared.proxy.Proxy.{Proxy}
use Rattle.batch_text.specs.Batch.{Asks, ProxyFailed, ProxyWorked, Nothing, At, Get, Fail, Good, Bad, batch_of}

-- before the first line `at` the moment is the one at the start
moments : (start : ℤ) (a b : Seen) → batch_of start (Get (Some a) ∷ Get (Some b) ∷ Nothing ∷ []) ≡ Ok (Asks start a ∷ Asks start b ∷ [])
moments start a b = refl

-- and from there on that of the last one, which may name the same moment twice
named_moments : (start : ℤ) (a b : Seen) → batch_of start (At (pos 5) ∷ Get (Some a) ∷ At (pos 5) ∷ At (pos 9) ∷ Get (Some b) ∷ []) ≡ Ok (Asks (pos 5) a ∷ Asks (pos 9) b ∷ [])
named_moments start a b = refl

-- no line goes back, also behind a URL and a comment; the first one may stand behind no URL, whatever it names
smaller : (start : ℤ) → batch_of start (At (pos 5) ∷ At (pos 4) ∷ Bad ∷ []) ≡ Err (BackwardTime, 2)
smaller start = refl

smaller_behind : (start : ℤ) (a : Seen) → batch_of start (At (pos 5) ∷ Get (Some a) ∷ Nothing ∷ At (pos 4) ∷ []) ≡ Err (BackwardTime, 4)
smaller_behind start a = refl

first_behind : (start moment : ℤ) (a : Seen) → batch_of start (Get (Some a) ∷ At moment ∷ []) ≡ Err (BackwardTime, 2)
first_behind start moment a = refl

-- what is told of proxies has its moment too, and no first line `at` stands behind it
told : (start : ℤ) (a : Seen) (p : Proxy) → batch_of start (Fail p ∷ Get (Some a) ∷ Good p ∷ []) ≡ Ok (ProxyFailed start p ∷ Asks start a ∷ ProxyWorked start p ∷ [])
told start a p = refl

first_behind_proxy : (start moment : ℤ) (p : Proxy) → batch_of start (Good p ∷ At moment ∷ []) ≡ Err (BackwardTime, 2)
first_behind_proxy start moment p = refl

-- there are 256 URLs at most, and a bad one behind them is one too many
one_too_many : (start : ℤ) (a : Seen) → batch_of start (replicate 257 (Get (Some a))) ≡ Err (TooMany, 257)
one_too_many start a = refl

bad_one_too_many : (start : ℤ) (a : Seen) → batch_of start (replicate 256 (Get (Some a)) ++ Get None ∷ []) ≡ Err (TooMany, 257)
bad_one_too_many start a = refl

last_one_bad : (start : ℤ) (a : Seen) → batch_of start (replicate 255 (Get (Some a)) ++ Get None ∷ Bad ∷ []) ≡ Err (BadUrl, 256)
last_one_bad start a = refl
