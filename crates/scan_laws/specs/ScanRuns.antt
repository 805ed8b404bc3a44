-- A scan as its caller sees it, over any calls.
use Rattle.std.specs.Prelude.{ℕ, ◌-◌, ◌≡◌, ◌⊎◌, Bool, true, false, List, [], ◌∷◌, ◌++◌, take, Option, Some, Result, Ok}
use Rattle.std.specs.Prelude.{Err, slice_get}
use Rattle.sane_fixed.specs.declared.info.Info.{Info}
use Rattle.sane_fixed.specs.declared.status.Status.{Status}
use Rattle.sane_fixed.specs.declared.status.Status.TheVariants.{Eof}
use Rattle.option_desc.specs.declared.value.Value.{Value}
use Rattle.netpbm.specs.Picture.{Picture}
use Rattle.page_picture.specs.Meaning.{meaning_of}
use Rattle.page_picture.specs.Shows.{Frame, ShowsFrames}
use Rattle.page_picture.specs.Source.{SourceState}
use Rattle.scan_frames.specs.Frames.{format_at}
use Rattle.scan_frames.specs.Filler.{EndsInZeros}
use Rattle.device_api.specs.State.{DeviceState, Phase, Starts, Reads, after_cancel, after_load, after_reset, after_set}
use Rattle.device_api.specs.State.{is_at_rest, page_of, params_of, set_answer, takes_page}
use Rattle.device_api.specs.State.Phase.{AtRest, Between, Reading}

-- **a run of calls (`DeviceCall`, `ScanGoesOn`), a scan in one sentence (`ShowsOne`)**: any calls in which the scanner
-- did not come to rest. There is one list of frames and one picture, the meaning of the first start's scene on its
-- page, and the frames show it. Whatever is called, what is told is of the frame started last, and what was read since
-- is a front of its bytes. Its end comes behind the last of them, or, if the options tell of it, in place of the first.
--
-- a call that may change a scanner, with what it answered; of a read also the buffer behind it
pub data DeviceCall : Type 0 where
  Start : Result Unit Status → DeviceCall
  Read : Result ℕ Status → List ℕ → DeviceCall
  Set : ℕ → Value → Result (Value × Info) Status → DeviceCall
  Load : SourceState → (taken : Bool) → DeviceCall
  Cancel : DeviceCall
  Reset : DeviceCall

-- what the call did, as the contract of a scanner says
abbrev pub Makes : DeviceState → DeviceCall → DeviceState → Type 0
Makes s (Start result) t = Starts s result t
Makes s (Read result buf) t = Reads s result t buf
Makes s (Set n asked (Ok given)) t = (set_answer s n asked ≡ Ok given) × (t ≡ after_set s n given.0)
Makes s (Set n asked (Err _)) t = t ≡ s
Makes s (Load source true) t = (takes_page s ≡ true) × (t ≡ after_load s source)
Makes s (Load source false) t = (takes_page s ≡ false) × (t ≡ s)
Makes s Cancel t = t ≡ after_cancel s
Makes s Reset t = t ≡ after_reset s

-- these calls were made one after another, and the scanner came to rest in none of them
abbrev pub ScanGoesOn : DeviceState → List DeviceCall → DeviceState → Type 0
ScanGoesOn s [] t = t ≡ s
ScanGoesOn s (call ∷ calls) t = (now : DeviceState) × Makes s call now × (is_at_rest now.phase ≡ false)
    × ScanGoesOn now calls t

-- the bytes that reads gave since the last start
abbrev pub heard_after : List ℕ → DeviceCall → List ℕ
heard_after heard (Start (Ok _)) = []
heard_after heard (Start (Err _)) = heard
heard_after heard (Read (Ok n) buf) = heard ++ take n buf
heard_after heard (Read (Err _) buf) = heard
heard_after heard (Set n asked result) = heard
heard_after heard (Load source taken) = heard
heard_after heard Cancel = heard
heard_after heard Reset = heard

abbrev pub heard_in : List ℕ → List DeviceCall → List ℕ
heard_in heard [] = heard
heard_in heard (call ∷ calls) = heard_in (heard_after heard call) calls

-- a front of the frame's bytes was heard
abbrev pub IsFrontOf : List ℕ → List ℕ → Type 0
IsFrontOf heard payload = (rest : List ℕ) × (heard ++ rest ≡ payload)

-- what was heard of the frame that was started last: while it is read a front of it; behind its end all of it, or, if
-- the options tell of an end in place of its bytes, none
abbrev pub IsHeardIn : Phase → Option Status → List ℕ → Frame → Type 0
IsHeardIn (AtRest _) told heard f = ⊥
IsHeardIn (Between ended) told heard f = (heard ≡ f.payload) ⊎ ((told ≡ Some Eof) × (heard ≡ []))
IsHeardIn (Reading pass given) told heard f = IsFrontOf heard f.payload

-- the number of the frame that was started last
abbrev pub last_started : Phase → ℕ
last_started (AtRest _) = 0
last_started (Between ended) = ended - 1
last_started (Reading pass given) = pass

-- what is told now, and what was heard of the frame that was started last
pub record IsOfScan (frames : List Frame) (now : DeviceState) (heard : List ℕ) : Type 0 where
  pub frame : Frame
  pub in_place : slice_get frames (last_started now.phase) ≡ Some frame
  pub told : params_of now ≡ frame.params
  pub order : now.setup.order ≡ frame.order
  pub is_heard : IsHeardIn now.phase now.setup.told heard frame

-- A frame ended: all of its bytes were heard, or none if the options tell of an end in their place. The scan waits for
-- its next frame, or it was the last and the scanner is at rest.
pub record FrameIsHeard (frames : List Frame) (now after : DeviceState) (heard : List ℕ) : Type 0 where
  pub frame : Frame
  pub in_place : slice_get frames (last_started now.phase) ≡ Some frame
  pub is_heard : (heard ≡ frame.payload) ⊎ ((now.setup.told ≡ Some Eof) × (heard ≡ []))
  pub rests : is_at_rest after.phase ≡ frame.params.last_frame

-- The scan that began from `first` has one list of frames. They show the picture that the scene means on the page; each
-- is of the color that the options tell for its pass, and zero behind its pixels. Whatever is called until the scanner
-- rests, what is told and heard is of one of them.
pub record ShowsOne (first begun : DeviceState) : Type 0 where
  pub frames : List Frame
  pub picture : Picture
  pub means : meaning_of (page_of first) first.setup.scene ≡ Some picture
  pub shows : ShowsFrames frames picture
  pub passes : (pass : ℕ) (f : Frame) → slice_get frames pass ≡ Some f → f.params.format ≡ format_at first.setup pass
  pub zeros : (pass : ℕ) → EndsInZeros first.setup (page_of first) pass
  pub so_far : (now : DeviceState) (calls : List DeviceCall) → ScanGoesOn begun calls now
      → IsOfScan frames now (heard_in [] calls)
  pub ends : (now after : DeviceState) (calls : List DeviceCall) (buf : List ℕ) → ScanGoesOn begun calls now
      → Reads now (Err Eof) after buf → FrameIsHeard frames now after (heard_in [] calls)
