-- The ports at which data connections come.
use Rattle.std.specs.Prelude.{ℕ, ◌≡◌, ◌≤◌, Option, Some, None, List, ◌∷◌, ◌++◌, decimal}
use Rattle.saned_cli.specs.declared.data_ports.PortRange.{PortRange}

-- a text names ports as `FROM-TO`: two numbers of 1 to 65535 in decimal digits, without a sign or a leading zero, of
-- which the first is at most the second
pub record IsPortRange (text : List ℕ) (ports : PortRange) : Type 0 where
  pub spelled : text ≡ decimal ports.first ++ (45 ∷ decimal ports.last)
  pub least : 1 ≤ ports.first
  pub ordered : ports.first ≤ ports.last
  pub most : ports.last ≤ 65535

-- the ports that an option's text names; where there is no text, none are named
abbrev pub ArePortsOf : Option (List ℕ) → Option PortRange → Type 0
ArePortsOf None ports = ports ≡ None
ArePortsOf (Some text) None = ⊥
ArePortsOf (Some text) (Some ports) = IsPortRange text ports
