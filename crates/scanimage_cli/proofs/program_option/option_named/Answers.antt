use Rattle.std.proofs.Common.{◌∙◌, arith, sym}
use Rattle.scanimage_cli.specs.WordCut.{is_name_of, all_options, option_named}
use Rattle.scanimage_cli.proofs.Finds.{find_more}
use Rattle.scanimage_cli.proofs.program_option.option_named.Goals as goal

pub loop-option-preserved : goal.loop-option-preserved
loop-option-preserved c =
    find_more (λ o. is_name_of o c.args.word.now) all_options c.loop-option.option-index _ (option_named c.args.word.now) (omega arith) (sym c.is_name_of.ensures ∙ c.if-is_name_of.false) c.loop-option.invariant
