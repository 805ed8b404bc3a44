-- The texts that saned reads.
use Rattle.std.specs.Prelude.{ℕ, ⊤, ◌≡◌, if◌then◌else◌, Option, Some, None, List, [], codes, option_map}
use Rattle.std.specs.Prelude.{string_bytes}
use Rattle.std.specs.Str.{bytes_eq}
use Rattle.dispatch.specs.ConfigLines.{HasConfigFault}
use Rattle.md5_auth.specs.UserLines.{HasLineFault, TellsUsers}
use Rattle.md5_auth.specs.declared.users.Entry.{Entry}
use Rattle.md5_auth.specs.declared.line_fault.LineFault.{LineFault}
use Rattle.config_pages.specs.InputTexts.{InputName, ReadsText, SeenInputs, text_read}
use Rattle.config_pages.specs.InputTexts.InputName.{StandardText, FileText}
use Rattle.saned_cli.specs.declared.daemon_ending.DaemonEnding.{DaemonEnding}
use Rattle.saned_cli.specs.declared.daemon_options.DaemonOptions.{DaemonOptions}
use Rattle.saned_cli.specs.declared.daemon_ending.DaemonEnding.TheVariants.{CannotRead, Config}
use Rattle.saned_cli.specs.declared.daemon_ending.DaemonEnding.TheVariants.{Users, NoMemory}

-- what is named so was not read: for want of memory, or it cannot be
abbrev pub IsUnreadFile : List ℕ → DaemonEnding → Type 0
IsUnreadFile name (CannotRead path) = string_bytes path ≡ name
IsUnreadFile name NoMemory = ⊤
IsUnreadFile name _ = ⊥

-- the fault of the first bad line of a config, or of users
abbrev pub IsConfigFault : List ℕ → DaemonEnding → Type 0
IsConfigFault text (Config fault) = HasConfigFault text fault.line fault.reason
IsConfigFault text _ = ⊥

abbrev pub IsUsersFault : List ℕ → DaemonEnding → Type 0
IsUsersFault text (Users fault) = HasLineFault text fault.line fault.reason
IsUsersFault text _ = ⊥

-- **texts that saned does not take (`RefusesDaemonConfig`, `RefusesUsers`)**: out of memory, or the file of that name
-- cannot be read, where nothing was; or the fault of the first bad line of what was read of it.
abbrev pub RefusesDaemonConfig : List ℕ → Option (List ℕ) → DaemonEnding → Type 0
RefusesDaemonConfig name None ending = IsUnreadFile name ending
RefusesDaemonConfig name (Some text) ending = IsConfigFault text ending

abbrev pub RefusesUsers : List ℕ → Option (List ℕ) → DaemonEnding → Type 0
RefusesUsers name None ending = IsUnreadFile name ending
RefusesUsers name (Some text) ending = IsUsersFault text ending

-- all that the text tells of which was read
abbrev pub AreReadUsers : Option (List ℕ) → List Entry → Type 0
AreReadUsers None users = ⊥
AreReadUsers (Some text) users = TellsUsers text users

-- where the config is read that the options name: `-` is standard input
abbrev pub config_name : DaemonOptions → InputName
config_name options =
    if bytes_eq (string_bytes options.config) (codes "-") then StandardText
    else FileText (string_bytes options.config)

-- a config that is not taken was read at most once, where it is named
pub record RefusesConfigIn (options : DaemonOptions) (was now : SeenInputs) (ending : DaemonEnding) : Type 0 where
  pub gave : Option (List ℕ)
  pub read : ReadsText (text_read (config_name options) 4194433 gave) was now
  pub why : RefusesDaemonConfig (string_bytes options.config) gave ending

-- the users of the file of that path
pub record AreFileUsers (path : List ℕ) (was now : SeenInputs) (users : List Entry) : Type 0 where
  pub text : List ℕ
  pub read : ReadsText (text_read (FileText path) 66049 (Some text)) was now
  pub tells : TellsUsers text users

pub record RefusesFileUsers (path : List ℕ) (was now : SeenInputs) (ending : DaemonEnding) : Type 0 where
  pub gave : Option (List ℕ)
  pub read : ReadsText (text_read (FileText path) 66049 gave) was now
  pub why : RefusesUsers path gave ending

abbrev pub AreUsersAt : Option (List ℕ) → SeenInputs → SeenInputs → List Entry → Type 0
AreUsersAt None was now users = (now ≡ was) × TellsUsers [] users
AreUsersAt (Some path) was now users = AreFileUsers path was now users

-- **the config and the users that are named (`config_name`, `AreUsersIn`, `RefusesConfigIn`, `RefusesUsersIn`)**: the
-- config is read on standard input, for `-`, or in the file of that path; the users are those of the text that was read
-- of the file that is named, of 66,049 bytes at most, and those of an empty text where none is; and the one or the
-- others are not taken, for what was read.
abbrev pub AreUsersIn : DaemonOptions → SeenInputs → SeenInputs → List Entry → Type 0
AreUsersIn options was now users = AreUsersAt (option_map string_bytes options.users) was now users

abbrev pub RefusesUsersAt : Option (List ℕ) → SeenInputs → SeenInputs → DaemonEnding → Type 0
RefusesUsersAt None was now ending =
    (now ≡ was) × ((fault : LineFault) × (ending ≡ Users fault) × HasLineFault [] fault.line fault.reason)
RefusesUsersAt (Some path) was now ending = RefusesFileUsers path was now ending

abbrev pub RefusesUsersIn : DaemonOptions → SeenInputs → SeenInputs → DaemonEnding → Type 0
RefusesUsersIn options was now ending = RefusesUsersAt (option_map string_bytes options.users) was now ending
