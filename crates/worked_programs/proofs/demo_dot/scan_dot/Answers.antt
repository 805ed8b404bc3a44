use Rattle.std.proofs.Common.{◌∙◌, ap, refl, Some}
use Rattle.worked_programs.proofs.Basics.{some_is}
use Rattle.worked_programs.proofs.DotMissed.{scan_missed}
use Rattle.worked_programs.proofs.DotPrinted.{scan_printed}
use Rattle.worked_programs.proofs.demo_dot.scan_dot.Goals as goal

pub returns-clause-well : goal.returns-clause-well
returns-clause-well c = λ well.
    some_is _ _ (scan_printed _ _ _ (c.as_slice.ensures.value ∙ c.in_ok-words.ensures) refl (ap Some c.new.ensures.items)
    (ap Some c.new-2.ensures.items) (c.exit_code-status.ensures.well well))

pub returns-clause-otherwise : goal.returns-clause-otherwise
returns-clause-otherwise c = λ other more holds.
    scan_missed _ _ _ _ _ (c.as_slice.ensures.value ∙ c.in_ok-words.ensures) (ap Some c.new.ensures.items) (ap Some c.new-2.ensures.items)
    (c.exit_code-status.ensures.otherwise other) more (ap Some holds)
