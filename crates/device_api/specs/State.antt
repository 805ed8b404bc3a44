-- What a device is to its callers, and what each call does to it.
use Rattle.std.specs.Prelude.{ℕ, ◌+◌, ◌-◌, ◌<◌, ◌≤◌, ◌≡◌, nat_lt, ◌==◌, ◌&&◌, ◌||◌, not, Bool, true, false}
use Rattle.std.specs.Prelude.{if◌then◌else◌, Option, Some, None, Result, Ok, Err, List, [], ◌∷◌, ◌++◌, take, drop, min}
use Rattle.std.specs.Prelude.{length}
use Rattle.sane_fixed.specs.declared.info.Info.{Info}
use Rattle.sane_fixed.specs.declared.params.Params.{Params}
use Rattle.sane_fixed.specs.declared.status.Status.{Status}
use Rattle.sane_fixed.specs.declared.status.Status.TheVariants.{Good, Unsupported, Cancelled, DeviceBusy, Inval, Eof}
use Rattle.sane_fixed.specs.declared.status.Status.TheVariants.{Jammed, NoDocs, CoverOpen, IoError, NoMem, AccessDenied}
use Rattle.option_desc.specs.declared.value.Value.{Value}
use Rattle.page_picture.specs.Page.{PageView}
use Rattle.page_picture.specs.Source.{SourceState, CountsFailure}
use Rattle.scan_frames.specs.Frames.{has_picture, last_pass, payload, pass_length, params_at, params_without}
use Rattle.scan_frames.specs.declared.setup.Setup.{Setup}
use Rattle.sane_fixed.specs.declared.device_info.DeviceInfo.{DeviceInfo}
use Rattle.device_api.specs.Kinds.{is_feeder}
use Rattle.device_api.specs.Values.{defaults, option_got, option_set, setup_after}

-- where a device is in a scan
pub data Phase : Type 0 where
  -- no scan is under way; whether the last one was cancelled
  AtRest : Bool → Phase
  -- so many passes of a scan have ended, and the next one has not begun
  Between : ℕ → Phase
  -- of the pass of that number, from 0, so many bytes were given
  Reading : ℕ → ℕ → Phase

-- a page in a device: whether its source shows it at each pass, whether that can fail, and how often it did
pub record HeldPage : Type 0 where
  pub page : PageView
  pub steady : Bool
  pub infallible : Bool
  pub failures : ℕ

abbrev pub held_from : SourceState → HeldPage
held_from source =
    record { page = source.page; steady = source.steady; infallible = source.infallible; failures = source.failures }

-- **state of a scanner (`DeviceState`, `HeldPage`, `Phase`)**: what it is, its setup, its pages, and where a scan is.
-- Of each page: whether its source is steady, whether that can fail at all (`infallible`), and how often it did. A scan
-- is at rest (after a cancelled scan or not), between passes, or reading a pass with so many bytes given.
--
-- What a device is to its callers. Its kind is that of the setup's scene; that, the byte order and the info never
-- change. The first page is the one that is scanned, or that a start would scan. A scanner that is no feeder has one
-- and keeps it; a feeder lets go of the first when its scan is over.
pub record DeviceState : Type 0 where
  pub info : DeviceInfo
  pub setup : Setup
  pub pages : List HeldPage
  pub phase : Phase

abbrev pub feeds : DeviceState → Bool
feeds s = is_feeder s.setup.scene.kind

-- the most pages that lie in a feeder's tray
abbrev pub tray_room : ℕ
tray_room = 16

-- what stands for the first page where there is none
abbrev pub no_page : HeldPage
no_page =
    record {
      page = record { width = 0; height = 0; dpi = 0; samples = [] };
      steady = false;
      infallible = false;
      failures = 0;
    }

abbrev pub first_page : List HeldPage → HeldPage
first_page [] = no_page
first_page (held ∷ _) = held

-- **the first page (`page_of`, `steady_of`, `is_infallible`, `failures_of`)**: the one that is scanned, or that a start
-- would scan. A feeder lets go of it when it comes to rest (`state_at_rest`, `left_behind`); any other scanner has one
-- and keeps it.
--
-- the first page, whether its source shows it at each pass, whether that can fail, and how often it did
abbrev pub page_of : DeviceState → PageView
page_of s = (first_page s.pages).page

abbrev pub steady_of : DeviceState → Bool
steady_of s = (first_page s.pages).steady

abbrev pub is_infallible : DeviceState → Bool
is_infallible s = (first_page s.pages).infallible

abbrev pub failures_of : DeviceState → ℕ
failures_of s = (first_page s.pages).failures

abbrev pub is_at_rest : Phase → Bool
is_at_rest (AtRest _) = true
is_at_rest (Between _) = false
is_at_rest (Reading _ _) = false

abbrev pub is_reading : Phase → Bool
is_reading (AtRest _) = false
is_reading (Between _) = false
is_reading (Reading _ _) = true

abbrev pub with_phase : DeviceState → Phase → DeviceState
with_phase s phase = record s { phase = phase }

abbrev pub with_setup : DeviceState → Setup → DeviceState
with_setup s setup = record s { setup = setup }

-- what a get answers, out of memory aside; it works during a scan
abbrev pub get_answer : DeviceState → ℕ → Result Value Status
get_answer s n = option_got s.setup n

-- what a set answers, out of memory aside, and the state that it leaves where it gave a value
abbrev pub set_answer : DeviceState → ℕ → Value → Result (Value × Info) Status
set_answer s n asked = if is_at_rest s.phase then option_set s.setup n asked else Err DeviceBusy

abbrev pub after_set : DeviceState → ℕ → Value → DeviceState
after_set s n given = with_setup s (setup_after s.setup n given)

-- the pages that are left once a scan is over
abbrev pub left_behind : {A : Type 0} → Bool → List A → List A
left_behind false pages = pages
left_behind true [] = []
left_behind true (_ ∷ pages) = pages

-- a scan is over; whether it was cancelled
abbrev pub state_at_rest : DeviceState → Bool → DeviceState
state_at_rest s cancelled = record s { pages = left_behind (feeds s) s.pages; phase = AtRest cancelled }

-- a pass is over: the next one is awaited, or the scan is over
abbrev pub goes_to : DeviceState → Phase → DeviceState
goes_to s (AtRest cancelled) = state_at_rest s cancelled
goes_to s (Between ended) = with_phase s (Between ended)
goes_to s (Reading pass given) = with_phase s (Reading pass given)

-- what is told of the frame that was started last, and at rest of the first one that a start would give
abbrev pub reported_pass : Phase → ℕ
reported_pass (AtRest _) = 0
reported_pass (Between ended) = ended - 1
reported_pass (Reading pass _) = pass

abbrev pub params_in : List HeldPage → Setup → ℕ → Params
params_in [] setup pass = params_without setup pass
params_in (held ∷ _) setup pass = params_at setup held.page pass

abbrev pub params_of : DeviceState → Params
params_of s = params_in s.pages s.setup (reported_pass s.phase)

-- a cancel at rest does nothing
abbrev pub cancelled_in : Phase → DeviceState → DeviceState
cancelled_in (AtRest _) s = s
cancelled_in (Between _) s = state_at_rest s true
cancelled_in (Reading _ _) s = state_at_rest s true

abbrev pub after_cancel : DeviceState → DeviceState
after_cancel s = cancelled_in s.phase s

-- all options at their defaults, and no scan was cancelled
abbrev pub with_defaults : DeviceState → DeviceState
with_defaults s = record s { setup = defaults s.setup.scene.kind s.setup.order; phase = AtRest false }

-- a scan under way is over; all other pages are kept
abbrev pub after_reset : DeviceState → DeviceState
after_reset s = with_defaults (after_cancel s)

-- **what a load makes (`takes_page`, `after_load`)**: a device takes a page at rest, a feeder only while it has fewer
-- than 16. A feeder's new page is its last. Another device's new page takes the place of its old one.
abbrev pub takes_page : DeviceState → Bool
takes_page s = is_at_rest s.phase && (not (feeds s) || nat_lt (length s.pages) tray_room)

-- a feeder's new page is its last; that of another takes the place of the one it had
abbrev pub pages_with : {A : Type 0} → Bool → List A → A → List A
pages_with false pages page = page ∷ []
pages_with true pages page = pages ++ page ∷ []

abbrev pub after_load : DeviceState → SourceState → DeviceState
after_load s source = record s { pages = pages_with (feeds s) s.pages (held_from source) }

-- the first page with another count of failures
abbrev pub with_failure_count : ℕ → List HeldPage → List HeldPage
with_failure_count n [] = []
with_failure_count n (held ∷ pages) = record held { failures = n } ∷ pages

abbrev pub with_failures : DeviceState → ℕ → DeviceState
with_failures s n = record s { pages = with_failure_count n s.pages }

-- a start that did not succeed leaves all pages at rest; between passes and in a pass the scan is over
abbrev pub stopped_in : Phase → DeviceState → DeviceState
stopped_in (AtRest _) s = with_phase s (AtRest false)
stopped_in (Between _) s = state_at_rest s false
stopped_in (Reading _ _) s = state_at_rest s false

abbrev pub after_stop : DeviceState → DeviceState
after_stop s = stopped_in s.phase s

-- **stopped (`HasStopped`, `after_stop`)**: the first page's source, one that can fail, failed once more; a start at
-- rest leaves all pages, else the scan is over.
--
-- the source of the first page, one that can fail, did so; that was counted, and no scan is under way
pub record HasStopped (old new : DeviceState) : Type 0 where
  pub can_fail : is_infallible old ≡ false
  pub failures : ℕ
  pub counted : CountsFailure (failures_of old) failures
  pub after : new ≡ after_stop (with_failures old failures)

-- the pass that a start begins
abbrev pub next_pass : Phase → ℕ
next_pass (AtRest _) = 0
next_pass (Between ended) = ended
next_pass (Reading pass _) = pass

-- a frame is begun, and what stands in the way of that
abbrev pub StartsFrame : DeviceState → Result Unit Status → DeviceState → Type 0
StartsFrame old (Ok _) new = (has_picture old.setup (page_of old) ≡ true)
    × (new ≡ with_phase old (Reading (next_pass old.phase) 0))
StartsFrame old (Err Inval) new = (has_picture old.setup (page_of old) ≡ false) × (new ≡ after_stop old)
StartsFrame old (Err IoError) new = (has_picture old.setup (page_of old) ≡ true) × HasStopped old new
StartsFrame old (Err NoMem) new = (has_picture old.setup (page_of old) ≡ true) × (new ≡ after_stop old)
StartsFrame old (Err _) new = ⊥

-- where no page is left, there is nothing to scan
abbrev pub StartsOn : List HeldPage → DeviceState → Result Unit Status → DeviceState → Type 0
StartsOn [] old result new = (result ≡ Err NoDocs) × (new ≡ after_stop old)
StartsOn (_ ∷ _) old result new = StartsFrame old result new

abbrev pub StartsIn : Phase → DeviceState → Result Unit Status → DeviceState → Type 0
StartsIn (AtRest _) old result new = StartsOn old.pages old result new
StartsIn (Between _) old result new = StartsOn old.pages old result new
StartsIn (Reading _ _) old result new = (result ≡ Err DeviceBusy) × (new ≡ old)

-- **starts, reads (`Starts`, `Reads`)**: what a start and a read may answer and leave. The phase decides first, then
-- whether there is a page, then `read-return-value`, then the answer.
abbrev pub Starts : DeviceState → Result Unit Status → DeviceState → Type 0
Starts old result new = StartsIn old.phase old result new

-- the phase after the last byte of a pass
abbrev pub after_pass : Setup → ℕ → Phase
after_pass setup pass = if nat_lt pass (last_pass setup) then Between (pass + 1) else AtRest false

-- the phase after a first read that answered what `read-return-value` says
abbrev pub after_read_status : Setup → ℕ → Status → Phase
after_read_status setup pass Eof = after_pass setup pass
after_read_status setup pass _ = AtRest false

-- n bytes were written: those of the pass that follow the ones given before, all that are left, but no more than the
-- buffer holds, nor than one read gives
pub record GivesBytes (old : DeviceState) (pass given n : ℕ) (new : DeviceState) (buf : List ℕ) : Type 0 where
  pub count : n ≡ min (pass_length old.setup (page_of old) pass - given) (min (length buf) old.setup.limit)
  pub some : 0 < n
  pub room : n ≤ length buf
  pub limit : n ≤ old.setup.limit
  pub left : given + n ≤ pass_length old.setup (page_of old) pass
  pub bytes : steady_of old ≡ true → take n buf ≡ take n (drop given (payload old.setup (page_of old) pass))
  pub after : new ≡ with_phase old (Reading pass (given + n))

-- a read inside a pass: bytes, the end of the pass, or, before its last byte, a failure of the source
abbrev pub ReadsOn : DeviceState → ℕ → ℕ → Result ℕ Status → DeviceState → List ℕ → Type 0
ReadsOn old pass given (Ok n) new buf = GivesBytes old pass given n new buf
ReadsOn old pass given (Err Eof) new buf = (given ≡ pass_length old.setup (page_of old) pass)
    × (new ≡ goes_to old (after_pass old.setup pass))
ReadsOn old pass given (Err IoError) new buf = (given < pass_length old.setup (page_of old) pass) × HasStopped old new
ReadsOn old pass given (Err _) new buf = ⊥

-- what `read-return-value` says stands in the way of the first read of a frame alone
abbrev pub read_status_at : Option Status → ℕ → Option Status
read_status_at told given = if given == 0 then told else None

abbrev pub FrameReads : Option Status → DeviceState → ℕ → ℕ → Result ℕ Status → DeviceState → List ℕ → Type 0
FrameReads None old pass given result new buf = ReadsOn old pass given result new buf
FrameReads (Some status) old pass given result new buf = (result ≡ Err status)
    × (new ≡ goes_to old (after_read_status old.setup pass status))

abbrev pub ReadsIn : Phase → DeviceState → Result ℕ Status → DeviceState → List ℕ → Type 0
ReadsIn (AtRest cancelled) old result new buf = (result ≡ Err (if cancelled then Cancelled else Inval)) × (new ≡ old)
ReadsIn (Between _) old result new buf = (result ≡ Err Inval) × (new ≡ old)
ReadsIn (Reading pass given) old result new buf =
    FrameReads (read_status_at old.setup.told given) old pass given result new buf

-- what a read answers, what it leaves, and what it wrote
abbrev pub Reads : DeviceState → Result ℕ Status → DeviceState → List ℕ → Type 0
Reads old result new buf = ReadsIn old.phase old result new buf
