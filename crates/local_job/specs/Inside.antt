-- What private functions promise of a job on a scanner: of its settings, of the frames on their way from the scanner to
-- the output, and of the pages of a batch.
use Rattle.std.specs.Prelude.{ℕ, Option, Some, None, Result, Ok, Err, List, [], ◌∷◌, ◌++◌, slice_get, suc, ◌+◌, ◌≡◌}
use Rattle.std.specs.Prelude.{◌≤◌, ◌≢◌, ◌⊎◌, take, length, Bool, true, false}
use Rattle.std.specs.Option.{option_map_or}
use Rattle.std.specs.Io.KnownBytes.{Appends}
use Rattle.sane_fixed.specs.declared.status.Status.{Status}
use Rattle.sane_fixed.specs.declared.status.Status.TheVariants.{IoError, NoMem, Eof}
use Rattle.scan_job.specs.declared.outcome.Why.TheVariants.{Answer, Malformed, Short, Long}
use Rattle.frame_join.specs.declared.join_stage.JoinFault.{JoinFault}
use Rattle.scan_job.specs.declared.stop.Stop.{Stop}
use Rattle.scan_job.specs.Stops.{no_memory, failed_output}
use Rattle.local_job.specs.LocalStops.{bad_setting, stop_by_status}
use Rattle.sane_fixed.specs.declared.info.Info.{Info}
use Rattle.sane_fixed.specs.declared.kind.Kind.{Kind}
use Rattle.option_desc.specs.declared.value.Value.{Value}
use Rattle.scan_frames.specs.declared.setup.Setup.{Setup}
use Rattle.device_api.specs.Options.{descriptors_of}
use Rattle.device_api.specs.Values.{option_set, setup_after}
use Rattle.device_api.specs.InForce.{number_named}
use Rattle.scan_job.specs.declared.report.Report.{Report}
use Rattle.local_job.specs.Putting.{value_of_setting}
use Rattle.netpbm.specs.Picture.{Picture}
use Rattle.netpbm.specs.NoFile.{HoldsNoFile}
use Rattle.page_picture.specs.Shows.{Frame, ShowsFrames}
use Rattle.frame_join.specs.FrameHistory.{JoinHistory, IsJoined, after_pull, is_full, is_joined}
use Rattle.frame_join.specs.AloneFrame.{most_bytes}
use Rattle.frame_join.specs.JoinStates.{JoinState, Represents}
use Rattle.page_picture.specs.Page.{PageView}
use Rattle.scan_frames.specs.Frames.{has_picture, payload, pass_length, params_at, last_pass}
use Rattle.device_api.specs.State.{DeviceState, AtRest, Between, Reading, page_of, params_of, next_pass}
use Rattle.device_api.specs.State.{steady_of, with_setup}
use Rattle.frame_join.specs.declared.join_stage.JoinFault.TheVariants.{Short as JoinShort}
use Rattle.local_job.specs.FrameReading.{IsScanned}
use Rattle.local_job.specs.ScanCauses.{ScanHasCause}
use Rattle.scan_job.specs.Shelves.{Stock, ReturnedOutput}
use Rattle.scan_job.specs.FileOutputs.{AreLeft, TakesBack, returned_output}
use Rattle.local_job.specs.LocalPages.{IsFileOfFirstPage}
use Rattle.scan_laws.specs.Stays.{AreSamePages, LetsGo}
use Rattle.frame_join.specs.declared.join_stage.JoinFault.TheVariants as fault
use Rattle.sane_fixed.specs.declared.kind.Kind.TheVariants as kinds
use Rattle.frame_join.specs.PictureText.{IsPictureFile}

-- ---- what ends a job

-- a read takes no memory, so what it refuses with is its answer
abbrev pub read_refused : Status → Stop
read_refused status = record { status = status; why = Answer }

-- a text that does not read
abbrev pub stop_unread : Status → Stop
stop_unread NoMem = no_memory
stop_unread _ = bad_setting

-- frames that make no picture
abbrev pub stop_of_join : JoinFault → Stop
stop_of_join fault.Shape = record { status = IoError; why = Malformed }
stop_of_join fault.Long = record { status = IoError; why = Long }
stop_of_join fault.Short = record { status = IoError; why = Short }
stop_of_join fault.NoMem = no_memory

-- frames that are none, or not those of a picture
abbrev pub malformed_frames : Stop
malformed_frames = record { status = IoError; why = Malformed }

-- ---- settings, each put after those before it

-- the kind of the option of that number; where there is none, none is asked for
abbrev pub option_kind_at : Setup → ℕ → Kind
option_kind_at s n = option_map_or (λ desc. desc.kind) (slice_get (descriptors_of s) n) kinds.Group

-- a setting put, or what ends the job, out of memory aside
abbrev pub put_answered : Setup → List ℕ → ℕ → Value → Result (Value × Info) Status → Result (Setup × Report) Stop
put_answered s name n asked (Err status) = Err (stop_by_status status)
put_answered s name n asked (Ok got) =
    Ok (
      setup_after s n got.0,
      record { name = name; kind = option_kind_at s n; asked = asked; given = got.0; info = got.1 },
    )

abbrev pub put_read : Setup → List ℕ → ℕ → Option Value → Result (Setup × Report) Stop
put_read s name n None = Err bad_setting
put_read s name n (Some asked) = put_answered s name n asked (option_set s n asked)

abbrev pub put_found : Setup → List ℕ × List ℕ → Option ℕ → Result (Setup × Report) Stop
put_found s setting None = Err bad_setting
put_found s setting (Some n) = put_read s setting.0 n (value_of_setting s n setting.1)

-- **settings put (`put_one`, `put_all`)**: the same one after another, as the code does it, with what ends the job at
-- the first that fails; proved to be the settings in force.
--
-- the option of the setting's name is found, its text is read, and the value is set
unfoldable pub put_one : Setup → List ℕ × List ℕ → Result (Setup × Report) Stop
put_one s setting = put_found s setting (number_named setting.0 (descriptors_of s))

abbrev pub with_first : Report → Result (Setup × List Report) Stop → Result (Setup × List Report) Stop
with_first report (Ok more) = Ok (more.0, report ∷ more.1)
with_first report (Err stop) = Err stop

abbrev pub then_more : Result (Setup × Report) Stop → (Setup → Result (Setup × List Report) Stop)
    → Result (Setup × List Report) Stop
then_more (Err stop) more = Err stop
then_more (Ok first) more = with_first first.1 (more first.0)

-- the setup in force after all settings, and a report of each, or what ends the job at the first that fails
unfoldable pub put_all : Setup → List (List ℕ × List ℕ) → Result (Setup × List Report) Stop
put_all s [] = Ok (s, [])
put_all s (setting ∷ settings) = then_more (put_one s setting) (λ next. put_all next settings)

-- the same after reports of settings before them
abbrev pub with_done : List Report → Result (Setup × List Report) Stop → Result (Setup × List Report) Stop
with_done done (Ok more) = Ok (more.0, done ++ more.1)
with_done done (Err stop) = Err stop

-- ---- the bytes of a file on their way from a join to the output

-- **drained (`JoinIsDrainedTo`), stops short (`StopsShort`)**: the output took all that was given so far, which denotes
-- the picture once that is whole; the output took bytes of which no front is a whole file.
pub record JoinIsDrainedTo (past : JoinHistory) (first : Option (List ℕ)) (join : JoinState)
    (contents : Option (List ℕ)) : Type 0 where
  pub bytes : List ℕ
  pub stands : Represents (after_pull bytes past) join
  pub taken : Appends first contents (past.given ++ bytes)
  pub denotes : IsJoined past → (p : Picture) → ShowsFrames past.ended p → IsPictureFile (past.given ++ bytes) p

-- bytes came into the frame under way, and the output took what was given
pub record FeedsJoin (past : JoinHistory) (frame : Frame) (first : Option (List ℕ)) (join : JoinState)
    (contents : Option (List ℕ)) : Type 0 where
  pub given : List ℕ
  pub stands : Represents (record past { under = Some frame; given = given }) join
  pub taken : Appends first contents given

-- ---- frames on their way from the scanner to the join

-- the join is between two frames of a picture that is not whole, and no fault stands
pub record JoinIsBetween (past : JoinHistory) (join : JoinState) : Type 0 where
  pub stands : Represents past join
  pub no_fault : past.fault ≡ None
  pub none_under : past.under ≡ None
  pub not_whole : is_joined past.ended ≡ false

-- the join is inside this frame, no fault stands, and the output took what was given
pub record JoinIsInside (past : JoinHistory) (frame : Frame) (first : Option (List ℕ)) (join : JoinState)
    (contents : Option (List ℕ)) : Type 0 where
  pub stands : Represents past join
  pub no_fault : past.fault ≡ None
  pub under : past.under ≡ Some frame
  pub taken : Appends first contents past.given

-- **read to (`FrameUnderWay`, `IsReadTo`), ends the frame (`JoinsFrame`), joined (`HasJoined`), scanned
-- (`IsScanned`)**: so many bytes of a frame came; the frame had all its bytes, and the output took what was given; so
-- many passes were joined, and one more is to come; the output took the whole file of a picture. Where the source is
-- steady, the bytes are a front of the pass's, each pass has its own bytes, and the picture is the scene's meaning on
-- the page.
--
-- a frame under way: what was told to the join, the frame, and what the output held first
pub record FrameUnderWay : Type 0 where
  pub past : JoinHistory
  pub frame : Frame
  pub first : Option (List ℕ)

-- a join, and what its output holds
pub record JoinAndOutput : Type 0 where
  pub join : JoinState
  pub contents : Option (List ℕ)

abbrev pub join_and_output : JoinState → Option (List ℕ) → JoinAndOutput
join_and_output join contents = record { join = join; contents = contents }

-- whichever frame the join is inside: this holds of what is under way
abbrev pub IfInside : JoinAndOutput → (FrameUnderWay → Type 0) → Type 0
IfInside was P = (first : Option (List ℕ)) (past : JoinHistory) (frame : Frame)
    → JoinIsInside past frame first was.join was.contents → P (record { past = past; frame = frame; first = first })

-- these bytes came into the frame under way, and the output took what was given
abbrev pub HasTakenMore : FrameUnderWay → List ℕ → JoinAndOutput → Type 0
HasTakenMore under bytes now =
    FeedsJoin under.past (record under.frame { payload = under.frame.payload ++ bytes }) under.first now.join
    now.contents

-- the frame under way has room for these bytes
abbrev pub HasRoomForMore : FrameUnderWay → List ℕ → Type 0
HasRoomForMore under bytes = length under.frame.payload + length bytes ≤ most_bytes under.frame.params

-- a frame of the pass that a scanner reads, before its first byte
abbrev pub new_frame : DeviceState → Frame
new_frame s = record { params = params_of s; order = s.setup.order; payload = [] }

-- a frame has begun, on the scanner and in the join
pub record FrameHasBegun (s : DeviceState) (pass : ℕ) (under : FrameUnderWay) (now : JoinAndOutput) : Type 0 where
  pub at : s.phase ≡ Reading pass 0
  pub inside : JoinIsInside under.past under.frame under.first now.join now.contents
  pub empty : under.frame.payload ≡ []

-- whichever frame has begun: this holds of its pass, and of what was under way
abbrev pub IfBegun : DeviceState → JoinAndOutput → (ℕ → FrameUnderWay → Type 0) → Type 0
IfBegun s was P = (pass : ℕ) (under : FrameUnderWay) → FrameHasBegun s pass under was → P pass under

-- what ends the scan in a frame has a cause, where the frame has room for all bytes of its pass
abbrev pub FrameHasCause : Stop → DeviceState → DeviceState → ℕ → FrameUnderWay → Type 0
FrameHasCause stop old new pass under = pass_length old.setup (page_of old) pass ≤ most_bytes under.frame.params
    → ScanHasCause stop old new

-- of the frame under way so many bytes came; they are the front of the pass's bytes where the page's source is steady
pub record IsReadTo (s : DeviceState) (pass given : ℕ) (under : FrameUnderWay) (now : JoinAndOutput) : Type 0 where
  pub bytes : List ℕ
  pub count : length bytes ≡ given
  pub feeds : FeedsJoin under.past (record under.frame { payload = bytes }) under.first now.join now.contents
  pub right : (steady_of s) ≡ true → bytes ≡ take given (payload s.setup (page_of s) pass)

-- the frame of a pass with the bytes that came of it
abbrev pub bytes_of_pass : Setup → PageView → ℕ → List ℕ → Frame
bytes_of_pass s page pass bytes = record { params = params_at s page pass; order = s.order; payload = bytes }

-- the frames of passes from that number on, each with the bytes that came of it
abbrev pub frames_came : Setup → PageView → ℕ → List (List ℕ) → List Frame
frames_came s page pass [] = []
frames_came s page pass (bytes ∷ more) = bytes_of_pass s page pass bytes ∷ frames_came s page (suc pass) more

-- the bytes that came of passes from that number on are those of the passes where the page's source is steady
abbrev pub AreOfPasses : DeviceState → ℕ → List (List ℕ) → Type 0
AreOfPasses s pass [] = Unit {0}
AreOfPasses s pass (bytes ∷ more) = ((steady_of s) ≡ true → bytes ≡ payload s.setup (page_of s) pass)
    × AreOfPasses s (suc pass) more

-- so many passes were joined, there is one more to come, and the output took what was given
pub record HasJoined (s : DeviceState) (pass : ℕ) (first : Option (List ℕ)) (join : JoinState)
    (contents : Option (List ℕ)) : Type 0 where
  pub passes : List (List ℕ)
  pub count : length passes ≡ pass
  pub more : pass ≤ last_pass s.setup
  pub right : AreOfPasses s 0 passes
  pub given : List ℕ
  pub stands
      : Represents
      (record { ended = frames_came s.setup (page_of s) 0 passes; under = None; fault = None; given = given }) join
  pub taken : Appends first contents given

-- so many bytes are all of a pass, or none, where `read-return-value` tells of its end
abbrev pub IsAllOrNone : DeviceState → ℕ → ℕ → Type 0
IsAllOrNone s pass given = (given ≡ pass_length s.setup (page_of s) pass) ⊎ ((given ≡ 0) × (s.setup.told ≡ Some Eof))

-- of the frame under way all bytes of its pass came, or none, where `read-return-value` tells of its end
abbrev pub IsReadThrough : DeviceState → ℕ → FrameUnderWay → JoinAndOutput → Type 0
IsReadThrough s pass under now = (given : ℕ) × IsAllOrNone s pass given × IsReadTo s pass given under now

-- the frame had all its bytes, and the output took what was given; the picture is whole or not
pub record JoinsFrame (past : JoinHistory) (frame : Frame) (is_whole : Bool) (first : Option (List ℕ))
    (now : JoinAndOutput) : Type 0 where
  pub full : is_full frame ≡ true
  pub joined : is_joined (past.ended ++ frame ∷ []) ≡ is_whole
  pub drained
      : JoinIsDrainedTo (record past { ended = past.ended ++ frame ∷ []; under = None }) first now.join now.contents

-- a scanner, the join of its scan, and what the output holds
pub record ScanState : Type 0 where
  pub device : DeviceState
  pub join : JoinState
  pub contents : Option (List ℕ)

abbrev pub scan_state : DeviceState → JoinState → Option (List ℕ) → ScanState
scan_state device join contents = record { device = device; join = join; contents = contents }

-- whatever the output held first: where the passes before the next one are joined, this holds of it
abbrev pub IfJoined : ScanState → (Option (List ℕ) → Type 0) → Type 0
IfJoined was P = (first : Option (List ℕ))
    → HasJoined was.device (next_pass was.device.phase) first was.join was.contents → P first

-- what ends the scan of a page of which the options mean a picture has a cause
abbrev pub MeantHasCause : Stop → DeviceState → DeviceState → Type 0
MeantHasCause stop old new = old.pages ≢ [] → has_picture old.setup (page_of old) ≡ true → ScanHasCause stop old new

-- The pass of that number was read and joined: the picture is whole, its file went out and the scanner is at rest, or
-- the scanner waits for the next pass.
abbrev pub HasScannedPass : DeviceState → ℕ → Bool → Option (List ℕ) → ScanState → Type 0
HasScannedPass s pass true first now = (now.device.phase ≡ AtRest false) × IsScanned s first now.contents
HasScannedPass s pass false first now = (now.device.phase ≡ Between (pass + 1))
    × HasJoined s (pass + 1) first now.join now.contents

-- the next pass was, behind those that are joined
abbrev pub ScansNextPass : ScanState → Bool → ScanState → Type 0
ScansNextPass was is_whole now =
    IfJoined was (λ first. HasScannedPass was.device (next_pass was.device.phase) is_whole first now)

-- where the end of a frame is refused: one that has all its bytes, by the output alone, and another is short
abbrev pub FrameEndsAs : Bool → Stop → Type 0
FrameEndsAs true stop = stop ≡ failed_output
FrameEndsAs false stop = stop ≡ stop_of_join JoinShort

-- ---- a page of a batch

-- the page of that number was scanned and its output given back, and the shelf kept or refused it
pub record FilesPage (s : DeviceState) (k : ℕ) (kept : Bool) (before after : Option Stock) : Type 0 where
  pub text : List ℕ
  pub file : IsFileOfFirstPage s text
  pub outputs : TakesBack before (returned_output k text kept ∷ []) after

-- it was not, and no front of what is left of it is a whole file
pub record LeavesPage (k : ℕ) (before after : Option Stock) : Type 0 where
  pub text : List ℕ
  pub none : HoldsNoFile text
  pub left : List ReturnedOutput
  pub is_left : AreLeft k text left
  pub outputs : TakesBack before left after

-- ---- the device of a job

-- of a device that was reset only the options, the phase and the count of failures changed, and a feeder that is at
-- rest let go of its first page
pub record KeepsPages (old new : DeviceState) : Type 0 where
  pub info : new.info ≡ old.info
  pub pages : AreSamePages old.pages new.pages ⊎ LetsGo (with_setup old new.setup) new
