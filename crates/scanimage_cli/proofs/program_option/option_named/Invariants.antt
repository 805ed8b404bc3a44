use Rattle.std.proofs.Common.{◌≡◌, drop}
use Rattle.std.specs.Prelude.{find}
use Rattle.scanimage_cli.specs.WordCut.{is_name_of, all_options, option_named}
use Rattle.scanimage_cli.proofs.program_option.option_named.Given as goal

abbrev pub invariant-loop-option : goal.invariant-loop-option
invariant-loop-option l = find (λ option. is_name_of option l.word) (drop l.option-index all_options) ≡ option_named l.word
