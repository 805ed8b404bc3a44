use Rattle.worked_worlds.proofs.Trays.{given_copy}
use Rattle.worked_worlds.proofs.tray.first_files.Goals as goal

pub returns : goal.returns
returns g c = (
  given_copy _ 1 _ _ c.in_ok-first.ensures c.in_ok-file_at.ensures.kept c.in_ok-file_at.ensures.tray,
  given_copy _ 2 _ _ c.in_ok-second.ensures c.in_ok-file_at-2.ensures.kept c.in_ok-file_at-2.ensures.tray,
)
