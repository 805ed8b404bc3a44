-- What ends a scan whose settings mean a picture on the page: the cause of each status and why.
use Rattle.std.specs.Prelude.{ℕ, ◌≡◌, ◌≢◌, ◌⊎◌, Some, true, false}
use Rattle.sane_fixed.specs.declared.status.Status.{Status}
use Rattle.sane_fixed.specs.declared.status.Status.TheVariants.{Eof, IoError, NoMem}
use Rattle.page_picture.specs.Source.{CountsFailure}
use Rattle.device_api.specs.State.{DeviceState, with_failure_count, failures_of, feeds, is_infallible, is_at_rest}
use Rattle.device_api.specs.State.{left_behind}
use Rattle.scan_job.specs.declared.outcome.Why.{Why}
use Rattle.scan_job.specs.declared.outcome.Why.TheVariants.{Answer, Cancelled, Lost, Malformed, Short, Long, Setting}
use Rattle.scan_job.specs.declared.outcome.Why.TheVariants.{Plain, Memory, Sink}
use Rattle.scan_job.specs.declared.stop.Stop.{Stop}

-- the source of the page that is scanned, one that can fail, did so, and that was counted; a feeder may have let go of
-- the page then
pub record HasFailedSource (old new : DeviceState) : Type 0 where
  pub can_fail : is_infallible old ≡ false
  pub failures : ℕ
  pub counts : CountsFailure (failures_of old) failures
  pub rests : is_at_rest new.phase ≡ true
  pub pages : (new.pages ≡ with_failure_count failures old.pages)
      ⊎ (new.pages ≡ left_behind (feeds old) (with_failure_count failures old.pages))

-- the scanner answered what `read-return-value` names, or its page's source failed, which was counted
abbrev pub ScannerAnswers : DeviceState → DeviceState → Status → Type 0
ScannerAnswers old new status = ((old.setup.told ≡ Some status) × (status ≢ Eof))
    ⊎ ((status ≡ IoError) × HasFailedSource old new)

-- Out of memory; an output that did not take what it was given; a frame that ended before its first byte, as
-- `read-return-value` says; or what the scanner answered. Nothing else ends such a scan.
abbrev pub IsCause : Why → Status → DeviceState → DeviceState → Type 0
IsCause Memory status old new = status ≡ NoMem
IsCause Sink status old new = status ≡ IoError
IsCause Short status old new = (status ≡ IoError) × (old.setup.told ≡ Some Eof)
IsCause Answer status old new = ScannerAnswers old new status
IsCause _ status old new = ⊥

-- **cause (`ScanHasCause`, `IsCause`)**: what ends a scan whose settings mean a picture, by its why: out of memory
-- (NO_MEM); an output that did not take what it was given (IO_ERROR); a frame that is short because `read-return-value`
-- says EOF (IO_ERROR); the scanner's answer, which is what `read-return-value` names, or IO_ERROR if a failure of the
-- page's source was counted in the job. There is no other.
abbrev pub ScanHasCause : Stop → DeviceState → DeviceState → Type 0
ScanHasCause stop old new = IsCause stop.why stop.status old new
