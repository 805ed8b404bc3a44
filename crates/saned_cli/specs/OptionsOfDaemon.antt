-- What the words of saned's command line make of its options.
use Rattle.std.specs.Prelude.{ℕ, ◌≡◌, ◌≤◌, ◌||◌, Bool, true, false, IsSome, List, [], ◌∷◌, Option, Some, None, codes}
use Rattle.std.specs.Prelude.{decimal, drop, option_map, string_bytes}
use Rattle.sane_fixed.specs.declared.byte_order.ByteOrder.{ByteOrder}
use Rattle.sane_fixed.specs.declared.byte_order.ByteOrder.TheVariants.{Little, Big}
use Rattle.saned_requests.specs.declared.session.StringSize.{StringSize}
use Rattle.saned_requests.specs.declared.session.StringSize.TheVariants.{OfText, OfOption}
use Rattle.saned_cli.specs.OptionWords.{words_joined, option_value_of, is_pad_strings}
use Rattle.saned_cli.specs.DataPorts.{ArePortsOf}
use Rattle.saned_cli.specs.declared.daemon_options.DaemonOptions.{DaemonOptions}

-- the number of an option between two others: the one that its text writes in decimal digits, without a sign or a
-- leading zero, and where there is no text the default
abbrev pub IsNumberOf : ℕ → ℕ → ℕ → Option (List ℕ) → ℕ → Type 0
IsNumberOf least most default None n = n ≡ default
IsNumberOf least most default (Some text) n = (text ≡ decimal n) × (least ≤ n) × (n ≤ most)

-- the order that a text names; where there is none the less significant byte goes first
abbrev pub IsOrderOf : Option (List ℕ) → ByteOrder → Type 0
IsOrderOf None order = order ≡ Little
IsOrderOf (Some text) Little = text ≡ codes "little"
IsOrderOf (Some text) Big = text ≡ codes "big"

-- the flag is among the options
abbrev pub has_pad_strings : List (List ℕ) → Bool
has_pad_strings [] = false
has_pad_strings (option ∷ options) = is_pad_strings option || has_pad_strings options

-- string values are filled up where it is
abbrev pub string_size_by : Bool → StringSize
string_size_by true = OfOption
string_size_by false = OfText

-- The options `--NAME=VALUE` give each its value, and the numbers are within their bounds: a port of 6566, no end by
-- sessions, one behind 10,000,000 idle turns, and data ports of any number where nothing is said; where there are users
-- there is a seed.
pub record AreNamed (named : List (List ℕ)) (options : DaemonOptions) : Type 0 where
  pub config : option_value_of (codes "--config=") named ≡ Some (string_bytes options.config)
  pub users : option_value_of (codes "--users=") named ≡ option_map string_bytes options.users
  pub seed : option_value_of (codes "--seed=") named ≡ option_map string_bytes options.seed
  pub port : IsNumberOf 0 65535 6566 (option_value_of (codes "--port=") named) options.port
  pub data_ports : ArePortsOf (option_value_of (codes "--data-ports=") named) options.data_ports
  pub byte_order : IsOrderOf (option_value_of (codes "--byte-order=") named) options.byte_order
  pub sessions : IsNumberOf 0 1000000000 0 (option_value_of (codes "--sessions=") named) options.sessions
  pub idle_turns : IsNumberOf 1 1000000000 10000000 (option_value_of (codes "--idle-turns=") named) options.idle_turns
  pub strings : options.strings ≡ string_size_by (has_pad_strings named)
  pub seeded : IsSome options.users → IsSome options.seed

-- **saned's options and endings (`AreDaemonOptions`, `AreNamed`, `IsNumberOf`, `daemon_exit_status`)**: each option has
-- the value that stands behind its name among the options that the words are joined to; a number is the one that its
-- text writes, or the default where there is none; sessions at most 1,000,000,000, idle turns 1 to that, and a seed
-- where there are users; 64 for the command line, 65 for what it names, 9 for a port that cannot be had, 10 for lack of
-- memory.
--
-- so the words behind the program's name do
abbrev pub AreDaemonOptions : List (List ℕ) → DaemonOptions → Type 0
AreDaemonOptions words options = (named : List (List ℕ)) × (words_joined (drop 1 words) ≡ Some named)
    × AreNamed named options
