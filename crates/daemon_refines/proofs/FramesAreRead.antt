-- A frame that waits or streams is of a device that is read, whatever changes beside it.
use Rattle.std.proofs.Common.{◌≡◌, ◌≢◌, ◌∙◌, ◌+◌, ℕ, List, [], ◌∷◌, Bool, true, false, Option, Some, None, refl, sym, ap, subst, eqb, eqb-true}
use Rattle.std.specs.Prelude.{Result, Ok, Err, if◌then◌else◌}
use Rattle.std.proofs.lemmas.Bool.{eqb-false}
use Rattle.sane_fixed.specs.declared.status.Status.{Status as Code}
use Rattle.sane_fixed.specs.declared.status.Status.TheVariants as code
use Rattle.device_api.specs.State.{DeviceState, FrameReads, HeldPage as Pages, Phase as AnyPhase, Reads, ReadsIn, Starts, StartsIn, StartsOn, is_at_rest, next_pass, read_status_at}
use Rattle.device_api.specs.State.Phase.{AtRest as Rest, Between as Amid, Reading as Read}
use Rattle.dispatch.specs.declared.table.place.Lease.{Lease}
use Rattle.saned_requests.specs.declared.session.DataPhase.{DataPhase as WordCarriage}
use Rattle.saned_requests.specs.declared.session.DataPhase.TheVariants as word
use Rattle.saned_requests.specs.Holding.{held_by, on_word, with_device}
use Rattle.saned_requests.specs.RequestAnswers.{RequestContext, data_phase_off, start_answer}
use Rattle.saned_core.specs.DaemonStates.{data_phase_connected}
use Rattle.saned_core.specs.Turns.{data_phase_after}
use Rattle.daemon_refines.specs.ContextRefinement.{FrameIsRead, IsReadBy}
use Rattle.daemon_refines.proofs.Changes.{Held}
use Rattle.daemon_refines.proofs.Moved.{unsome}

-- ---- words that stand for what they stood for

pub all_same : (old new : Held) (w : ℕ) (l : Lease DeviceState) → held_by old w ≡ Some l → held_by new w ≡ Some l → ((v : ℕ) → v ≢ w → held_by new v ≡ held_by old v) → (v : ℕ) → held_by new v ≡ held_by old v
all_same old new w l was is others v = by_word (eqb v w) refl
  where
    by_word : (b : Bool) → eqb v w ≡ b → held_by new v ≡ held_by old v
    by_word true e = let here = eqb-true v w e in ap (held_by new) here ∙ is ∙ sym was ∙ sym (ap (held_by old) here)
    by_word false e = others v (eqb-false v w e)

read_still : (old new : Held) (v : ℕ) → held_by new v ≡ held_by old v → IsReadBy old v → IsReadBy new v
read_still old new v e h = record { lease = h.lease; stands = e ∙ h.stands; pass = h.pass; given = h.given; phase = h.phase }

pub frame_still : (c : WordCarriage) (old new : Held) → ((v : ℕ) → held_by new v ≡ held_by old v) → FrameIsRead c old → FrameIsRead c new
frame_still word.Quiet old new same h = h
frame_still (word.Waiting v) old new same h = read_still old new v (same v) h
frame_still (word.Streaming v) old new same h = read_still old new v (same v) h
frame_still word.Ending old new same h = h

-- ---- a word that the frame is not of

pub frame_apart : (c : WordCarriage) (old new : Held) (w : ℕ) → (IsReadBy old w → ⊥) → ((v : ℕ) → v ≢ w → held_by new v ≡ held_by old v) → FrameIsRead c old → FrameIsRead c new
frame_apart word.Quiet old new w none others h = h
frame_apart (word.Waiting v) old new w none others h = read_still old new v (others v (λ e. none (subst (λ (n : ℕ). IsReadBy old n) e h))) h
frame_apart (word.Streaming v) old new w none others h = read_still old new v (others v (λ e. none (subst (λ (n : ℕ). IsReadBy old n) e h))) h
frame_apart word.Ending old new w none others h = h

-- its device is at rest
resting_no_read : (phase : AnyPhase) (pass given : ℕ) → is_at_rest phase ≡ true → phase ≡ Read pass given → ⊥
resting_no_read phase pass given rest e = let clash : true ≡ false = sym rest ∙ ap is_at_rest e in absurd (cc)

pub frame_but : (c : WordCarriage) (old new : Held) (w : ℕ) (l : Lease DeviceState) → held_by old w ≡ Some l → is_at_rest l.device.phase ≡ true → ((v : ℕ) → v ≢ w → held_by new v ≡ held_by old v) → FrameIsRead c old → FrameIsRead c new
frame_but c old new w l stands rest others h =
    frame_apart c old new w (λ r. resting_no_read l.device.phase r.pass r.given rest (ap (λ (x : Lease DeviceState). x.device.phase) (unsome l r.lease (sym stands ∙ r.stands)) ∙ r.phase)) others h

-- it stood for nothing
pub frame_beside : (c : WordCarriage) (old new : Held) (w : ℕ) → held_by old w ≡ None → ((v : ℕ) → v ≢ w → held_by new v ≡ held_by old v) → FrameIsRead c old → FrameIsRead c new
frame_beside c old new w none others h = frame_apart c old new w (λ r. let clash : None ≡ Some r.lease = sym none ∙ r.stands in absurd (cc)) others h

-- ---- a frame that ends where it is one of the word

read_cut : (old new : Held) (v w : ℕ) (off on : WordCarriage) (b : Bool) → eqb v w ≡ b → FrameIsRead off new → (IsReadBy new v → FrameIsRead on new) → ((u : ℕ) → u ≢ w → held_by new u ≡ held_by old u) → IsReadBy old v → FrameIsRead (if b then off else on) new
read_cut old new v w off on true e ended stays others h = ended
read_cut old new v w off on false e ended stays others h = stays (read_still old new v (others v (eqb-false v w e)) h)

pub frame_cut : (c : WordCarriage) (old new : Held) (w : ℕ) → ((v : ℕ) → v ≢ w → held_by new v ≡ held_by old v) → FrameIsRead c old → FrameIsRead (data_phase_off c w) new
frame_cut word.Quiet old new w others h = h
frame_cut (word.Waiting v) old new w others h = read_cut old new v w word.Quiet (word.Waiting v) (eqb v w) refl tt (λ r. r) others h
frame_cut (word.Streaming v) old new w others h = read_cut old new v w word.Ending (word.Streaming v) (eqb v w) refl tt (λ r. r) others h
frame_cut word.Ending old new w others h = h

-- ---- a frame that begins, is dialled, or goes on

pub frame_dialled : (c : WordCarriage) (held : Held) → FrameIsRead c held → FrameIsRead (data_phase_connected c) held
frame_dialled word.Quiet held h = h
frame_dialled (word.Waiting v) held h = h
frame_dialled (word.Streaming v) held h = h
frame_dialled word.Ending held h = h

abbrev IsRead : DeviceState → Type 0
IsRead s = (pass : ℕ) × (given : ℕ) × (s.phase ≡ Read pass given)

begun_on : (pages : List Pages) (s after : DeviceState) → StartsOn pages s (Ok tt) after → IsRead after
begun_on [] s after h = absurd (let clash : Ok tt ≡ Err code.NoDocs = h.0 in cc)
begun_on (held ∷ pages) s after h = (next_pass s.phase, 0, ap (λ (d : DeviceState). d.phase) h.1)

begun_in : (phase : AnyPhase) (s after : DeviceState) → StartsIn phase s (Ok tt) after → IsRead after
begun_in (Rest c) s after h = begun_on s.pages s after h
begun_in (Amid ended) s after h = begun_on s.pages s after h
begun_in (Read pass given) s after h = absurd (let clash : Ok tt ≡ Err code.DeviceBusy = h.0 in cc)

-- behind a start
pub frame_begun : (d : RequestContext) (w : ℕ) (l : Lease DeviceState) (answer : Result Unit Code) (after : DeviceState) → held_by (on_word (λ _. with_device l after) d.session.held w) w ≡ with_device l after → Starts l.device answer after →
    FrameIsRead (start_answer word.Quiet d.session.port w l.device.setup.order answer).1 (on_word (λ _. with_device l after) d.session.held w)
frame_begun d w l (Ok u) after is h =
    let read = begun_in l.device.phase l.device after h in
    record { lease = record l { device = after }; stands = is; pass = read.0; given = read.1; phase = read.2 }
frame_begun d w l (Err y) after is h = tt

read_on : (told : Option Code) (s after : DeviceState) (pass given n : ℕ) (window : List ℕ) → FrameReads told s pass given (Ok n) after window → IsRead after
read_on None s after pass given n window h = (pass, given + n, ap (λ (d : DeviceState). d.phase) h.after)
read_on (Some status) s after pass given n window h = absurd (let clash : Ok n ≡ Err status = h.0 in cc)

-- behind a read
pub frame_behind : (answer : Result ℕ Code) (d : RequestContext) (w : ℕ) (l : Lease DeviceState) (after : DeviceState) (pass given : ℕ) (window : List ℕ) → held_by (on_word (λ _. with_device l after) d.session.held w) w ≡ with_device l after → l.device.phase ≡ Read pass given → Reads l.device answer after window →
    FrameIsRead (data_phase_after (word.Streaming w) answer) (on_word (λ _. with_device l after) d.session.held w)
frame_behind (Ok n) d w l after pass given window is at h =
    let read = read_on (read_status_at l.device.setup.told given) l.device after pass given n window (subst (λ (q : AnyPhase). ReadsIn q l.device (Ok n) after window) at h) in
    record { lease = record l { device = after }; stands = is; pass = read.0; given = read.1; phase = read.2 }
frame_behind (Err y) d w l after pass given window is at h = tt
