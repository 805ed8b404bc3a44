use Rattle.event_world.proofs.FilesSay.{none_tells, page_none_tells, page_tells, scan_tells, short_tells}
use Rattle.event_world.proofs.laws.files_tell.Goals as goal

pub returns : goal.returns
returns c = record { page = page_tells; scan = scan_tells; short = short_tells; none = none_tells; no_page = page_none_tells }
