-- What one receive of each socket gives, a tick where nothing came.
use Rattle.std.specs.Prelude.{◌≤◌, ℕ, ⊤}
use Rattle.pac_ports.specs.declared.link.Got.{Got}
use Rattle.pac_ports.specs.declared.link.Got.TheVariants as got

-- a datagram, which has at most 512 octets
abbrev pub IsOfSocket : Got → Type 0
IsOfSocket (got.Datagram n) = n ≤ 512
IsOfSocket got.Tick = ⊤
IsOfSocket (got.Piece n) = ⊥
IsOfSocket got.StreamEnd = ⊥

-- a piece, which has some octets and no more than are wanted, or the end
abbrev pub IsOfStream : ℕ → Got → Type 0
IsOfStream wanted (got.Datagram n) = ⊥
IsOfStream wanted got.Tick = ⊤
IsOfStream wanted (got.Piece n) = (1 ≤ n) × (n ≤ wanted)
IsOfStream wanted got.StreamEnd = ⊤
