-- The hosts of `net:`.
use Rattle.std.specs.Prelude.{ℕ, ◌≡◌, ◌==◌, ◌⊎◌, ◌++◌, if◌then◌else◌, Bool, Option, Some, None, List, [], ◌∷◌, codes}
use Rattle.std.specs.Io.KnownBytes.{prepend_known}
use Rattle.std.specs.Net.Addr.{ipv4_octets}
use Rattle.std.specs.Net.Grammar.{IsIpv4Text}
use Rattle.std.specs.declared.net.ipv4_addr.Ipv4Addr.{Ipv4Addr}
use Rattle.scanimage_cli.specs.declared.hosts.HostPoint.{HostPoint}
use Rattle.scanimage_cli.specs.declared.planning.Remote.{Remote}

-- **the address of a host (`IsAddressOf`)**: `localhost` is 127.0.0.1, and the text of an IPv4 address that address.
abbrev pub IsAddressOf : List ℕ → Ipv4Addr → Type 0
IsAddressOf host address = ((host ≡ codes "localhost") × (ipv4_octets address ≡ 127 ∷ 0 ∷ 0 ∷ 1 ∷ []))
    ⊎ IsIpv4Text host address

-- **the connection held for a port (`held_for`)**: of a connection that was made before it was asked for, with its
-- port: that one, where this is the port, else none.
abbrev pub held_for : {T : Type 0} → ℕ → Option (ℕ × T) → Option T
held_for port None = None
held_for port (Some held) = if held.0 == port then Some held.1 else None

-- **a control connection that was asked for (`host_entry`)**: in front of the ports that were told before, the newest
-- first, stand 65536, whether it was made, whether data connections are made as soon as their port is known, its port,
-- the four numbers of its address, and 65537. Neither of the two marks is a port.
abbrev pub host_bit : Bool → ℕ
host_bit is = if is then 1 else 0

abbrev pub host_entry : HostPoint → Bool → List ℕ
host_entry at is_made =
    65536 ∷ host_bit is_made ∷ host_bit at.is_first ∷ at.port ∷ (ipv4_octets at.address ++ 65537 ∷ [])

-- **the host of a plan was called (`IsHostCalled`)**: a control connection was asked for, once, to the address that the
-- host's name has and the port of the plan, with its way of data connections; and it was made, or not.
pub record IsHostCalled (remote : Remote) (is_made : Bool) (was now : Option (List ℕ)) : Type 0 where
  pub at : HostPoint
  pub address : IsAddressOf remote.host at.address
  pub port : at.port ≡ remote.port
  pub is_first : at.is_first ≡ remote.dial_first
  pub called : now ≡ prepend_known (host_entry at is_made) was

-- a host, a port and a way of data connections, for no device
abbrev pub remote_at : List ℕ → ℕ → Bool → Remote
remote_at host port dial_first = record { host = host; port = port; dial_first = dial_first; device = [] }

-- the ports that were told of a host's connections before a call, and behind it
pub record DialsBetween : Type 0 where
  pub was : Option (List ℕ)
  pub now : Option (List ℕ)

abbrev pub dials_between : Option (List ℕ) → Option (List ℕ) → DialsBetween
dials_between was now = record { was = was; now = now }
