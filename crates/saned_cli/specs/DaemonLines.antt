-- The lines that tell how saned ended.
use Rattle.std.specs.Prelude.{ℕ, ◌++◌, List, codes, decimal, string_bytes}
use Rattle.md5_auth.specs.Reasons.{reason_text}
use Rattle.dispatch.specs.ConfigReasons.{config_reason_text}
use Rattle.config_pages.specs.Texts.{no_page_text}
use Rattle.saned_cli.specs.declared.daemon_ending.DaemonEnding.{DaemonEnding}
use Rattle.saned_cli.specs.declared.daemon_ending.DaemonEnding.TheVariants.{BadCommandLine, BadSeed, CannotRead, Config}
use Rattle.saned_cli.specs.declared.daemon_ending.DaemonEnding.TheVariants.{Page, Users, CannotListen}
use Rattle.saned_cli.specs.declared.daemon_ending.DaemonEnding.TheVariants.{NoMemory, CannotWrite}

-- which line is refused, and why
abbrev pub refusal_text : List ℕ → ℕ → List ℕ → List ℕ
refusal_text start line reason = start ++ (decimal line ++ (codes ": " ++ (reason ++ codes "\n")))

-- **the line of an ending (`daemon_ending_line`)**: that the command line or its seed is bad; the file that cannot be
-- read; the line of the config or of the users that is refused, and why, or whose page is not there; that the port
-- cannot be had; that there is no memory; or that a text of its own cannot be written.
abbrev pub daemon_ending_line : DaemonEnding → List ℕ
daemon_ending_line BadCommandLine = codes "saned: bad command line\n"
daemon_ending_line BadSeed = codes "saned: bad seed\n"
daemon_ending_line (CannotRead path) = codes "saned: cannot read " ++ (string_bytes path ++ codes "\n")
daemon_ending_line (Config fault) =
    refusal_text (codes "saned: config line ") fault.line (config_reason_text fault.reason)
daemon_ending_line (Page line why) = refusal_text (codes "saned: config line ") line (no_page_text why)
daemon_ending_line (Users fault) = refusal_text (codes "saned: users line ") fault.line (reason_text fault.reason)
daemon_ending_line CannotListen = codes "saned: cannot listen\n"
daemon_ending_line NoMemory = codes "saned: out of memory\n"
daemon_ending_line CannotWrite = codes "saned: cannot write\n"
