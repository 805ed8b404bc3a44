-- Where a scanner is in the list of a scan's frames.
use Rattle.std.specs.Prelude.{ℕ, ◌≤◌, ◌≡◌, ◌≢◌, ◌-◌, true, false, None, List, [], ◌∷◌, ◌++◌, drop}
use Rattle.page_picture.specs.Page.{PageView}
use Rattle.page_picture.specs.Shows.{Frame}
use Rattle.scan_frames.specs.Frames.{has_picture, frames_of, last_pass, pass_length}
use Rattle.scan_frames.specs.declared.setup.Setup.{Setup}
use Rattle.device_api.specs.State.{DeviceState, Phase, is_at_rest, page_of}
use Rattle.device_api.specs.State.Phase.{AtRest, Between, Reading}

-- A phase that a scan of this setup on this page comes to. Where a status is told in place of the bytes, none of them
-- is ever given.
abbrev pub IsPhaseOf : Phase → Setup → PageView → Type 0
IsPhaseOf (AtRest _) setup page = Unit {0}
IsPhaseOf (Between ended) setup page = (has_picture setup page ≡ true) × (1 ≤ ended) × (ended ≤ last_pass setup)
IsPhaseOf (Reading pass given) setup page =
    (has_picture setup page ≡ true) × (pass ≤ last_pass setup) × (given ≤ pass_length setup page pass)
    × (setup.told ≢ None → given ≡ 0)

-- **in a scan (`IsInScan`), place (`ScanPlace`, `place_of`)**: a phase that a scan of this setup on this page comes to:
-- passes counted up to the last, bytes up to their number, none if a status is told in their place, and a page while a
-- scan is under way. A scanner's place in the list of a scan's frames: at rest; the frame that ended last and those to
-- be started; the frame that is read, its bytes not given yet, and the frames after it.
pub record IsInScan (s : DeviceState) : Type 0 where
  pub phase : IsPhaseOf s.phase s.setup (page_of s)
  pub page : is_at_rest s.phase ≡ false → s.pages ≢ []

-- where a scanner is, by the frames that are still to come
pub data ScanPlace : Type 0 where
  Resting : ScanPlace
  -- the frame that ended last, and the frames that are to be started
  Waiting : Frame → List Frame → ScanPlace
  -- the frame that is read, those of its bytes that were not given, and the frames after it
  Giving : Frame → List ℕ → List Frame → ScanPlace

-- a scan begins its next frame, or is at its end
abbrev pub place_at_begin : List Frame → ScanPlace
place_at_begin [] = Resting
place_at_begin (f ∷ more) = Giving f f.payload more

abbrev pub place_waiting : Frame → List Frame → ScanPlace
place_waiting last [] = Resting
place_waiting last (f ∷ more) = Waiting last (f ∷ more)

-- the first of these frames has ended
abbrev pub ended_first : List Frame → ScanPlace
ended_first [] = Resting
ended_first (last ∷ more) = place_waiting last more

-- the first of these frames is read, and so many of its bytes were given
abbrev pub place_giving : List Frame → ℕ → ScanPlace
place_giving [] given = Resting
place_giving (f ∷ more) given = Giving f (drop given f.payload) more

abbrev pub scan_place_in : Phase → List Frame → ScanPlace
scan_place_in (AtRest _) frames = Resting
scan_place_in (Between ended) frames = ended_first (drop (ended - 1) frames)
scan_place_in (Reading pass given) frames = place_giving (drop pass frames) given

abbrev pub place_of : DeviceState → ScanPlace
place_of s = scan_place_in s.phase (frames_of s.setup (page_of s))

-- a start at that place begins this scan's first frame, or the next one
abbrev pub BeginsFrame : ScanPlace → List Frame → ScanPlace → Type 0
BeginsFrame Resting frames new = new ≡ place_at_begin frames
BeginsFrame (Waiting last fs) frames new = new ≡ place_at_begin fs
BeginsFrame (Giving f rest more) frames new = ⊥

-- bytes of the frame were given
abbrev pub GivesOn : ScanPlace → List ℕ → ScanPlace → Type 0
GivesOn Resting bytes new = ⊥
GivesOn (Waiting last fs) bytes new = ⊥
GivesOn (Giving f rest more) bytes new = (left : List ℕ) × (rest ≡ bytes ++ left) × (new ≡ Giving f left more)

-- the frame ended behind its last byte
abbrev pub EndsWhole : ScanPlace → ScanPlace → Type 0
EndsWhole Resting new = ⊥
EndsWhole (Waiting last fs) new = ⊥
EndsWhole (Giving f rest more) new = (rest ≡ []) × (new ≡ place_waiting f more)

-- the frame ended before its first byte, as `read-return-value` tells
abbrev pub EndsEmpty : ScanPlace → ScanPlace → Type 0
EndsEmpty Resting new = ⊥
EndsEmpty (Waiting last fs) new = ⊥
EndsEmpty (Giving f rest more) new = (rest ≡ f.payload) × (new ≡ place_waiting f more)
