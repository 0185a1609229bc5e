-- What a lookup makes of a call that asks.
use Rattle.std.proofs.Common.{◌≡◌, ap, refl}
use Rattle.pac_names.specs.Names.{Name}
use Rattle.js_host.specs.Seen.{Seen, Lookup, Replies, Refused, looked_up}
use Rattle.run_trees.specs.RunTree.{Done, Ask, Ended, walk, with_lookup}
use Rattle.pac_functions.specs.Addresses.{AfterAnswer, AsksTooMany, replied}

-- a call that asks goes on with what the lookup comes to
pub asked : (name : Name) (next : AfterAnswer) (before : Seen) (lookup : Lookup) → looked_up before name ≡ lookup → walk (Ask name (replied next)) before ≡ with_lookup name (λ reply. walk (replied next reply)) lookup
unfolding walk
asked name next before lookup e = ap (with_lookup name (λ reply. walk (replied next reply))) e

-- a call that asks one name too many is at its end
pub refused : (name : Name) (next : AfterAnswer) (before after : Seen) → looked_up before name ≡ Replies Refused after → walk (Ask name (replied next)) before ≡ Ended AsksTooMany after
unfolding walk
refused name next before after e = ap (with_lookup name (λ reply. walk (replied next reply))) e
