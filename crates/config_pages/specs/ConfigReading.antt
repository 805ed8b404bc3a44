-- The text of a config that is read.
use Rattle.std.specs.Prelude.{ℕ, ⊤, Option, None, Some, List}
use Rattle.dispatch.specs.ConfigLines.{HasConfigFault, TellsConfig}
use Rattle.dispatch.specs.declared.config_line.ConfigLine.{ConfigLine}
use Rattle.config_pages.specs.declared.config_reading.ConfigFailure.{ConfigFailure}
use Rattle.config_pages.specs.declared.config_reading.ConfigFailure.TheVariants.{Unread, NoMem, Refused}

-- the lines are all that the text tells of which was read
abbrev pub AreReadLines : Option (List ℕ) → List ConfigLine → Type 0
AreReadLines None lines = ⊥
AreReadLines (Some text) lines = TellsConfig text lines

-- **a config that is refused (`RefusesConfig`)**: the text that was read of it has the fault of its first bad line. Or
-- none was read: it cannot be opened or read, or memory ran out.
abbrev pub RefusesConfig : Option (List ℕ) → ConfigFailure → Type 0
RefusesConfig None Unread = ⊤
RefusesConfig None NoMem = ⊤
RefusesConfig None (Refused fault) = ⊥
RefusesConfig (Some text) Unread = ⊥
RefusesConfig (Some text) NoMem = ⊥
RefusesConfig (Some text) (Refused fault) = HasConfigFault text fault.line fault.reason
