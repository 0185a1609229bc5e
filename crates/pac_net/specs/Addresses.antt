-- Where servers are for the machine, and which datagrams are taken. Both rules are this project's own.
use Rattle.std.specs.Prelude.{◌≡◌, ℕ, ◌≤◌, ◌⊎◌, Option, Some, None}
use Rattle.std.specs.Int.{w32, from_be_bytes}
use Rattle.std.specs.declared.net.socket_addr.SocketAddr.{SocketAddr}
use Rattle.std.specs.declared.net.socket_addr.SocketAddr.TheVariants.{V4, V6}
use Rattle.std.specs.Net.Addr.{ipv4_octets}
use Rattle.std.specs.Net.Socket.{v4_ip, v4_port}
use Rattle.pac_ports.specs.declared.link.Server.{Server}
use Rattle.pac_ports.specs.declared.link.Servers.{Servers}
use Rattle.pac_ports.specs.declared.link.Which.{Which}
use Rattle.pac_ports.specs.declared.link.Which.TheVariants.{First, Second}

-- the server at an address, which is none where that isn't of IPv4
abbrev pub server_at : SocketAddr → Option Server
server_at (V4 place) = Some (record { address = from_be_bytes w32 (ipv4_octets (v4_ip place)); port = v4_port place })
server_at (V6 place) = None

-- the one of the servers that is meant
abbrev pub server_by : Which → Servers → Server
server_by First servers = servers.first
server_by Second servers = servers.second

-- whether one of the servers is there
abbrev pub IsOf : Servers → Option Server → Type 0
IsOf servers there = (there ≡ Some servers.first) ⊎ (there ≡ Some servers.second)

-- whether a datagram of so many octets is taken: where it isn't too long and one of the servers sent it
abbrev pub IsTaken : Servers → SocketAddr → ℕ → Type 0
IsTaken servers sender octets = (octets ≤ 512) × IsOf servers (server_at sender)
