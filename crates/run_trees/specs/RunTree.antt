-- A run as a tree of what it asks of its host. The tree knows no host and no answers: it says how the run goes on with
-- each.
use Rattle.std.specs.Prelude.{ℕ, List}
use Rattle.pac_names.specs.Names.{Name}
use Rattle.js_host.specs.Seen.{Seen, Reply, Lookup, Replies, Lacks, looked_up, alerted}

-- A run is at its end, or it asks for a name and goes on with the reply, or it tells the host a text and goes on.
pub data RunTree (End : Type 0) : Type 0 where
  Done : End → RunTree End
  Ask : Name → (Reply → RunTree End) → RunTree End
  Tell : List ℕ → RunTree End → RunTree End

-- ---- over a host

-- A run over a host comes to its end, or stops at a name that the host lacks; and the host's record then.
pub data Walked (End : Type 0) : Type 0 where
  Ended : End → Seen → Walked End
  Stopped : Name → Seen → Walked End

-- the run goes on with a reply, and stops where there is none
abbrev pub with_lookup : {End : Type 0} → Name → (Reply → Seen → Walked End) → Lookup → Walked End
with_lookup name go (Replies reply seen) = go reply seen
with_lookup name go (Lacks seen) = Stopped name seen

-- the run over a host with this record
unfoldable pub walk : {End : Type 0} → RunTree End → Seen → Walked End
walk (Done end) seen = Ended end seen
walk (Ask name next) seen = with_lookup name (λ reply. walk (next reply)) (looked_up seen name)
walk (Tell text next) seen = walk next (alerted seen text)
