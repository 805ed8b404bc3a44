use Rattle.std.proofs.Common.{◌≡◌, ◌++◌, ◌<◌, ◌+◌, List, ℕ, Bool, ◌||◌, suc, add-one, ap, subst, sym, ◌∙◌, arith, get_or, set, take, drop, length}
use Rattle.std.specs.Prelude.{map}
use Rattle.saned_cli.specs.Inside.{marked_by}
use Rattle.saned_cli.specs.declared.table_reading.Newcomer.{Newcomer}
use Rattle.saned_cli.proofs.MarkLaws.{next_place}
use Rattle.saned_cli.proofs.table_reading.mark.Goals as goal

pub loop-newcomer-preserved : goal.loop-newcomer-preserved
loop-newcomer-preserved g c =
    let i : ℕ = c.loop-newcomer.newcomer-index in
    rw (add-one, c.is_of_peer.ensures, c.loop-newcomer.invariant) (next_place (marked_by c.args.line.now) c.args.newcomers.now i c.newcomer-item.result (omega arith))
