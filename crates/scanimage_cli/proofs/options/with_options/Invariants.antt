use Rattle.std.proofs.Common.{◌≡◌, drop, map}
use Rattle.clap.specs.Words.{app_of}
use Rattle.scanimage_cli.specs.KnownOptions.{seen_option, with_options}
use Rattle.scanimage_cli.proofs.options.with_options.Given as goal

abbrev pub invariant-loop-option : goal.invariant-loop-option
invariant-loop-option l = with_options (app_of l.command) (drop l.option-index (map seen_option l.options)) ≡ with_options (app_of l.fn.start) (map seen_option l.options)
