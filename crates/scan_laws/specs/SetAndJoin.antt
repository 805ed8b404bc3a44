-- What the model takes from scanners and from joins: an accepted setting, the frames of a scan, and the join's
-- word on them.
use Rattle.std.specs.Prelude.{ℕ, nat_lt, Bool, if◌then◌else◌, Option, Some, None, Result, Ok, Err, List, [], ◌∷◌, ◌++◌}
use Rattle.std.specs.Prelude.{length}
use Rattle.sane_fixed.specs.declared.info.Info.{Info}
use Rattle.sane_fixed.specs.declared.params.Params.{Params}
use Rattle.sane_fixed.specs.declared.status.Status.{Status}
use Rattle.option_desc.specs.declared.value.Value.{Value}
use Rattle.page_picture.specs.Page.{PageView}
use Rattle.page_picture.specs.Shows.{Frame}
use Rattle.scan_frames.specs.Frames.{frames_of, has_picture}
use Rattle.scan_frames.specs.declared.setup.Setup.{Setup}
use Rattle.device_api.specs.Values.{option_set, setup_after}
use Rattle.frame_join.specs.AloneFrame.{most_bytes}
use Rattle.frame_join.specs.FrameHistory.{is_full_at}
use Rattle.scan_laws.specs.Joins.{JoinTakes}

-- a setting that was accepted: the value given, what was told of it, and the options in force behind it
pub record AcceptedSet : Type 0 where
  pub given : Value
  pub info : Info
  pub setup : Setup

abbrev pub accepted_set_by : Setup → ℕ → Result (Value × Info) Status → Option AcceptedSet
accepted_set_by s n (Ok answer) = Some (record { given = answer.0; info = answer.1; setup = setup_after s n answer.0 })
accepted_set_by s n (Err _) = None

unfoldable pub accept_set : Setup → ℕ → Value → Option AcceptedSet
accept_set s n asked = accepted_set_by s n (option_set s n asked)

-- the frames that a scan gives: none where there is no picture
unfoldable pub frames_given : Setup → PageView → List Frame
frames_given s page = if has_picture s page then frames_of s page else []

-- these bytes are more than a frame of these parameters has; and they are all of it
abbrev pub overflows : Params → List ℕ → Bool
overflows params bytes = nat_lt (most_bytes params) (length bytes)

abbrev pub fills : Params → List ℕ → Bool
fills params bytes = is_full_at params.lines params.bytes_per_line (length bytes)

-- a join that these frames ended takes those, each behind those before it
abbrev pub AreTakenInOrder : List Frame → List Frame → Type 0
AreTakenInOrder ended [] = Unit {0}
AreTakenInOrder ended (f ∷ more) = JoinTakes ended f more × AreTakenInOrder (ended ++ f ∷ []) more
