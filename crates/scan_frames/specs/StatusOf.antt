-- The status that answers a frame's refusal (SANE Standard 1.06, "sane_start" and "sane_read").
use Rattle.sane_fixed.specs.declared.status.Status.{Status}
use Rattle.sane_fixed.specs.declared.status.Status.TheVariants.{Inval, Eof, IoError, NoMem}
use Rattle.scan_frames.specs.declared.faults.BeginFault.{BeginFault}
use Rattle.scan_frames.specs.declared.faults.BeginFault.TheVariants.{NoPicture, SourceFailed, NoMem as WantOfMemory}
use Rattle.scan_frames.specs.declared.faults.ReadEnd.{ReadEnd}
use Rattle.scan_frames.specs.declared.faults.ReadEnd.TheVariants.{End, SourceFailed as SourceFailedIn}

abbrev pub begin_status : BeginFault → Status
begin_status NoPicture = Inval
begin_status SourceFailed = IoError
begin_status WantOfMemory = NoMem

abbrev pub end_status : ReadEnd → Status
end_status End = Eof
end_status SourceFailedIn = IoError
