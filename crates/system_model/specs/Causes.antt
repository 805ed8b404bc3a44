-- What explains that a job ended with a status and a why.
use Rattle.std.specs.Prelude.{◌≡◌, ◌≢◌, ◌⊎◌, List, [], ◌∷◌}
use Rattle.scan_job.specs.declared.outcome.Why.{Why}
use Rattle.scan_job.specs.declared.outcome.Why.TheVariants.{Answer, Cancelled, Lost, Short, Setting, Memory}
use Rattle.sane_fixed.specs.declared.status.Status.{Status}
use Rattle.sane_fixed.specs.declared.status.Status.TheVariants.{DeviceBusy, Inval, Eof, NoDocs, IoError, NoMem}
use Rattle.sane_fixed.specs.declared.status.Status.TheVariants.{AccessDenied}
use Rattle.sane_fixed.specs.declared.status.Status.TheVariants as statuses

-- **causes (`Cause`, `Explains`, `HaveGrounds`)**: why a job may end: the table of statuses and whys, and what a cause
-- means where a request is answered.
pub data Cause : Type 0 where
  -- the job was cancelled; a link was lost; a growth was refused on a link, in the session or for the file
  GaveUp : Cause
  LinkLost : Cause
  LinkOutOfMemory : Cause
  -- a reply to it passed a limit of the wire, or had no spelling: its session was over then, which by itself explains
  -- no ending
  WasUnsaid : Cause
  -- the page source of its device failed; the option `read-return-value` names EOF, or another status
  SourceFailed : Cause
  NamesEof : Cause
  Names : (status : Status) → Cause
  -- no options have the settings in force; the device is not listed; the page and the options of a start at rest mean
  -- no picture
  Unforced : Cause
  WasUnlisted : Cause
  HadNoPicture : Cause
  -- another client holds the device; the user and password are not allowed for the challenge
  WasHeld : Cause
  Disallowed : Cause
  -- the tray was empty at the first start; at a later one, which explains no ending
  TrayWasEmpty : Cause
  TrayRanOut : Cause
  -- out of memory at the client
  ClientOutOfMemory : Cause

-- the table of causes
abbrev pub Explains : Cause → Status → Why → Type 0
Explains GaveUp s w = (s ≡ statuses.Cancelled) × (w ≡ Cancelled)
Explains LinkLost s w = (s ≡ IoError) × (w ≡ Lost)
Explains LinkOutOfMemory s w = (s ≡ IoError) × (w ≡ Lost)
Explains WasUnsaid s w = ⊥
Explains SourceFailed s w = (s ≡ IoError) × (w ≡ Answer)
Explains NamesEof s w = (s ≡ IoError) × (w ≡ Short)
Explains (Names status) s w = (s ≡ status) × (status ≢ Eof) × (w ≡ Answer)
Explains Unforced s w = (s ≡ Inval) × ((w ≡ Setting) ⊎ (w ≡ Answer))
Explains WasUnlisted s w = (s ≡ Inval) × (w ≡ Answer)
Explains HadNoPicture s w = (s ≡ Inval) × (w ≡ Answer)
Explains WasHeld s w = (s ≡ DeviceBusy) × (w ≡ Answer)
Explains Disallowed s w = (s ≡ AccessDenied) × (w ≡ Answer)
Explains TrayWasEmpty s w = (s ≡ NoDocs) × (w ≡ Answer)
Explains TrayRanOut s w = ⊥
Explains ClientOutOfMemory s w = (s ≡ NoMem) × (w ≡ Memory)

-- one of these explains it
abbrev pub IsExplained : Status → Why → List Cause → Type 0
IsExplained s w [] = ⊥
IsExplained s w (c ∷ met) = Explains c s w ⊎ IsExplained s w met

-- this is one of these
abbrev pub IsCauseAmong : Cause → List Cause → Type 0
IsCauseAmong cause [] = ⊥
IsCauseAmong cause (c ∷ met) = (cause ≡ c) ⊎ IsCauseAmong cause met
