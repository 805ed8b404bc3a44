use Rattle.std.proofs.Common.{◌≡◌, drop}
use Rattle.std.specs.Prelude.{map, string_bytes}
use Rattle.saned_cli.specs.OptionsOfDaemon.{has_pad_strings}
use Rattle.saned_cli.proofs.daemon_options.has_pad_strings.Given as goal

abbrev pub invariant-loop-option : goal.invariant-loop-option
invariant-loop-option l = has_pad_strings (map string_bytes (drop l.option-index l.options)) ≡ has_pad_strings (map string_bytes l.options)
