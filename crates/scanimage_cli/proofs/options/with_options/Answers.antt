use Rattle.scanimage_cli.proofs.OptionSteps.{next_at}
use Rattle.scanimage_cli.proofs.options.with_options.Goals as goal

pub loop-option-preserved : goal.loop-option-preserved
loop-option-preserved c = next_at c.args.options.now c.loop-option.option-index _ _ _ _ c.loop-option-test.true c.in_ok-command.ensures c.loop-option.invariant
