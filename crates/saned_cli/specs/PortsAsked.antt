-- The ports that saned asks for.
use Rattle.std.specs.Prelude.{ℕ, Option, None, Some, Result, List, ◌∷◌}
use Rattle.std.specs.declared.io.ErrorKind.{ErrorKind}
use Rattle.saned_cli.specs.declared.data_ports.PortRange.{PortRange}

-- one asking for a port of control connections, or for any where it is 0, with data ports of these where some are
-- named: the port that is had, or what kind of fault there was
pub record PortAsked : Type 0 where
  pub port : ℕ
  pub data_ports : Option PortRange
  pub answer : Result ℕ ErrorKind

abbrev pub asked_port : ℕ → Option PortRange → Result ℕ ErrorKind → PortAsked
asked_port port data_ports answer = record { port = port; data_ports = data_ports; answer = answer }

-- one more was asked for, where what is asked for is told; the newest first
abbrev pub with_asked : PortAsked → Option (List PortAsked) → Option (List PortAsked)
with_asked asked None = None
with_asked asked (Some all) = Some (asked ∷ all)
