use Rattle.scan_laws.proofs.Places.{start_begins, read_gives, read_ends}
use Rattle.scan_laws.proofs.device_laws.a_scan_goes_frame_by_frame.Goals as goal

pub returns-clause-start : goal.returns-clause-start
returns-clause-start c = start_begins

pub returns-clause-read : goal.returns-clause-read
returns-clause-read c = read_gives

pub returns-clause-end : goal.returns-clause-end
returns-clause-end c = read_ends
