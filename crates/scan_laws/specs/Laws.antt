-- What laws of this crate say.
use Rattle.std.specs.Prelude.{◌≡◌, ℕ, List, slice_get, Some, Err, true, ◌++◌, ◌∷◌, Bool, [], None}
use Rattle.sane_fixed.specs.declared.byte_order.ByteOrder.{ByteOrder}
use Rattle.sane_fixed.specs.declared.status.Status.{Status}
use Rattle.option_desc.specs.declared.value.Value.{Value}
use Rattle.page_picture.specs.declared.scene.DeviceKind.{DeviceKind}
use Rattle.scan_frames.specs.declared.setup.Setup.{Setup}
use Rattle.device_api.specs.Values.{defaults, option_set}
use Rattle.option_desc.specs.declared.descriptor.Descriptor.{Descriptor}
use Rattle.option_desc.specs.Put.{Puts}
use Rattle.device_api.specs.InForce.{Placement, in_force, may_be_set}
use Rattle.device_api.specs.Options.{descriptors_of}
use Rattle.scan_laws.specs.NearestSet.{PutAllNearest}
use Rattle.netpbm.specs.Picture.{Picture}
use Rattle.page_picture.specs.Page.{PageView, IsPageView}
use Rattle.page_picture.specs.Meaning.{meaning_of}
use Rattle.page_picture.specs.Shows.{Frame, ShowsFrames}
use Rattle.scan_frames.specs.Frames.{frames_of, has_picture}
use Rattle.device_api.specs.ScannerLimits.{IsAllowed}
use Rattle.frame_join.specs.FrameFile.{AllGone}
use Rattle.frame_join.specs.FrameHistory.{JoinHistory, after_begin, after_end, after_feed}
use Rattle.frame_join.specs.JoinStates.{JoinState, Represents}
use Rattle.scan_laws.specs.Joins.{IsOpenJoin, JoinTakes, with_frame_begun, with_bytes}
use Rattle.frame_join.specs.PictureText.{IsPictureFile}

-- a set refuses no value for which there is an admitted one
abbrev pub RefusesOnlyWhereNoneIs : Type 0
RefusesOnlyWhereNoneIs = (s : Setup) (n : ℕ) (asked given : Value) (status : Status) (desc : Descriptor)
    → option_set s n asked ≡ Err status → slice_get (descriptors_of s) n ≡ Some desc → may_be_set desc ≡ true
    → Puts desc asked given → ⊥

-- each setting of a job is put as the nearest admitted value
abbrev pub SettingsAreNearest : Type 0
SettingsAreNearest =
    (kind : DeviceKind) (order : ByteOrder) (settings : List (List ℕ × List ℕ)) (forced : Setup × List Placement)
    → in_force kind order settings ≡ Some forced → PutAllNearest (defaults kind order) settings forced.1 forced.0

-- a join that may take a frame begins it
abbrev pub FrameBegins : Type 0
FrameBegins = (ended more : List Frame) (f : Frame) (past : JoinHistory) (starved : Bool) → JoinTakes ended f more
    → IsOpenJoin ended None past
    → after_begin f.params f.order starved past ≡ with_frame_begun starved (with_bytes f []) past

-- a join takes the bytes of a frame in whatever pieces
abbrev pub FrameGoesOn : Type 0
FrameGoesOn = (ended more : List Frame) (f : Frame) (past : JoinHistory) (starved : Bool) (heard bytes rest : List ℕ)
    → JoinTakes ended f more → IsOpenJoin ended (Some (with_bytes f heard)) past → (heard ++ bytes) ++ rest ≡ f.payload
    → after_feed bytes starved past ≡ with_frame_begun starved (with_bytes f (heard ++ bytes)) past

-- a join whose frame has come ends it
abbrev pub FrameEnds : Type 0
FrameEnds = (ended more : List Frame) (f : Frame) (past : JoinHistory) → JoinTakes ended f more
    → IsOpenJoin ended (Some f) past → after_end past ≡ record past { ended = ended ++ f ∷ []; under = None }

-- the frames of a scan show the picture that its scene means on its page
abbrev pub FramesShowTheMeaning : Type 0
FramesShowTheMeaning = (setup : Setup) (page : PageView) → IsAllowed setup → IsPageView page
    → has_picture setup page ≡ true
    → (p : Picture) × (meaning_of page setup.scene ≡ Some p) × ShowsFrames (frames_of setup page) p

-- what a join gave of all frames of a scan denotes the picture that its scene means on its page
abbrev pub FileDenotesTheMeaning : Type 0
FileDenotesTheMeaning = (setup : Setup) (page : PageView) (past : JoinHistory) (join : JoinState) (p : Picture)
    → IsAllowed setup → IsPageView page → meaning_of page setup.scene ≡ Some p → Represents past join
    → past.ended ≡ frames_of setup page → past.under ≡ None → past.fault ≡ None
    → AllGone past.under past.ended past.given → IsPictureFile past.given p
