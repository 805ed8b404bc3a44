-- THE MARKS OF A HISTORY are those of its steps, one after another.
use Rattle.std.proofs.Common.{◌≡◌, ℕ, List, [], ◌∷◌, ◌++◌, Bool, true, false, refl, sym, subst, ap, cond, eqb, eqb-true}
use Rattle.system_model.specs.Devices.{Make}
use Rattle.system_model.specs.SystemStates.{SystemState}
use Rattle.system_model.specs.Transitions.{Transition, By, Loads, Unplugs, Uses, IsEnabled, after_transition, after_all}
use Rattle.system_model.specs.Invariants.{Invariant}
use Rattle.system_model.specs.Marks.{Mark, DeviceView, MarksLead, view_after_mark, device_view}
use Rattle.system_model.specs.StepMarks.{marks, touched_device}
use Rattle.system_model.specs.MoveRuns.{all_marks, marks_at, HistoryMarksAreEnabled}
use Rattle.system_model.proofs.InvariantAfter.{sound_after}
use Rattle.system_model.proofs.EnabledMarks.{marks_legal}

pub goes_then : (ms ns : List Mark) (s t u : DeviceView) → MarksLead s ms t → MarksLead t ns u → MarksLead s (ms ++ ns) u
goes_then [] ns s t u e g = subst (λ (x : DeviceView). MarksLead x ns u) (sym e) g
goes_then (m ∷ ms) ns s t u e g = (e.0, goes_then ms ns (view_after_mark s m) t u e.1 g)

make_stays : (s : SystemState) (x : Transition) → (after_transition s x).make ≡ s.make
make_stays s (By i x) = refl
make_stays s (Loads d page) = refl
make_stays s (Unplugs d) = refl
make_stays s (Uses i d shown left) = refl

-- a step leaves the devices that it does not come to
device_stays : (s : SystemState) (x : Transition) (d : ℕ) → eqb d (touched_device s x) ≡ false → (after_transition s x).device d ≡ s.device d
device_stays s (By i x) d e = rw e refl
device_stays s (Loads l page) d e = rw e refl
device_stays s (Unplugs l) d e = rw e refl
device_stays s (Uses i l shown left) d e = rw e refl

step_legal : (d : ℕ) (s : SystemState) (x : Transition) (b : Bool) → eqb d (touched_device s x) ≡ b → Invariant s → IsEnabled s x →
    MarksLead (device_view (s.make d) (s.device d)) (cond b (marks s x) []) (device_view (s.make d) ((after_transition s x).device d))
step_legal d s x true e h l =
    subst (λ (n : ℕ). MarksLead (device_view (s.make n) (s.device n)) (marks s x) (device_view (s.make n) ((after_transition s x).device n))) (sym (eqb-true d (touched_device s x) e)) (marks_legal s x h l)
step_legal d s x false e h l = ap (λ dev. device_view (s.make d) dev) (sym (device_stays s x d e))

pub histories_legal : HistoryMarksAreEnabled
histories_legal d s [] h l = refl
histories_legal d s (x ∷ xs) h l =
    goes_then (marks_at d s x) (all_marks d (after_transition s x) xs) _ _ _ (step_legal d s x _ refl h l.0)
    (subst (λ (make : ℕ → Make). MarksLead (device_view (make d) ((after_transition s x).device d)) (all_marks d (after_transition s x) xs) (device_view (make d) ((after_all (after_transition s x) xs).device d))) (make_stays s x)
    (histories_legal d (after_transition s x) xs (sound_after s x h l.0) l.1))
