-- The frames of a scan are those of its passes.
use Rattle.std.proofs.Common.{◌≡◌, ℕ, zero, suc, ◌+◌, ◌≤◌, Bool, true, false, List, [], ◌∷◌, length, arith, refl}
use Rattle.std.specs.Prelude.{Some, slice_get, if◌then◌else◌}
use Rattle.page_picture.specs.Page.{PageView}
use Rattle.page_picture.specs.Shows.{Frame}
use Rattle.scan_frames.specs.declared.setup.Setup.{Setup}
use Rattle.scan_frames.specs.Frames.{frame_of, frames_of, last_pass, takes_colors}

-- three or one
abbrev passes : Bool → (ℕ → Frame) → List Frame
passes three f = if three then f 0 ∷ f 1 ∷ f 2 ∷ [] else f 0 ∷ []

abbrev last : Bool → ℕ
last three = if three then 2 else 0

pub count : (setup : Setup) (page : PageView) → length (frames_of setup page) ≡ last_pass setup + 1
count setup page =
    elim (takes_colors setup.scene.kind setup.scene.mode) as (λ t. length (passes t (frame_of setup page)) ≡ last t + 1) [ true ↦ refl | false ↦ refl ]

nth : (three : Bool) (f : ℕ → Frame) (pass : ℕ) → pass ≤ last three → slice_get (passes three f) pass ≡ Some (f pass)
nth true f zero h = refl
nth true f (suc zero) h = refl
nth true f (suc (suc zero)) h = refl
nth true f (suc (suc (suc pass))) h = absurd (omega arith)
nth false f zero h = refl
nth false f (suc pass) h = absurd (omega arith)

pub each : (setup : Setup) (page : PageView) (pass : ℕ) → pass ≤ last_pass setup → slice_get (frames_of setup page) pass ≡ Some (frame_of setup page pass)
each setup page pass h = nth (takes_colors setup.scene.kind setup.scene.mode) (frame_of setup page) pass h
