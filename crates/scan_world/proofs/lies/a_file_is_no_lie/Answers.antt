use Rattle.scan_world.proofs.Refused.{aside, filed, missing, paged, tray_page, unchanged, whole}
use Rattle.scan_world.proofs.lies.a_file_is_no_lie.Goals as goal

pub returns : goal.returns
returns c = record { filed = filed; paged = paged; unchanged = unchanged; aside = aside; tray = tray_page; whole = whole; missing = missing }
