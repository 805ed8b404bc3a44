use Rattle.std.proofs.Common.{rules}
use Rattle.virtual_scanner.proofs.Limits.{held_on}
use Rattle.virtual_scanner.proofs.tray.see_limits.Goals as goal

pub loop-page-preserved : goal.loop-page-preserved
loop-page-preserved c = λ rest.
    c.loop-page.invariant
    (held_on c.args.tray.now c.loop-page.page-index c.page-item.result (search rules) (search rules) (record { shape = c.size-size.ensures.limits; view = c.size-size.ensures.page_view }) rest)
