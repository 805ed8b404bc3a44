-- A device that is read stays true to its pages.
use Rattle.std.specs.Prelude.{Result, Ok, Err}
use Rattle.std.specs.List.{AllByRecursion}
use Rattle.std.proofs.Common.{◌≡◌, ℕ, zero, suc, List, [], ◌∷◌, Option, Some, None, sym, subst}
use Rattle.sane_fixed.specs.declared.status.Status.{Status as Code}
use Rattle.sane_fixed.specs.declared.status.Status.TheVariants as code
use Rattle.device_api.specs.State.{DeviceState, FrameReads, HasStopped, HeldPage, Phase, Reads, ReadsIn, ReadsOn, after_pass, after_read_status, with_failure_count, feeds, goes_to, stopped_in, read_status_at, with_failures}
use Rattle.device_api.specs.State.Phase.{AtRest, Between, Reading}
use Rattle.dispatch.specs.declared.table.place.Lease.{Lease}
use Rattle.saned_requests.specs.declared.session.DataPhase.{DataPhase as WordCarriage}
use Rattle.saned_requests.specs.declared.session.DataPhase.TheVariants as word
use Rattle.saned_requests.specs.declared.session.Session.{Session as RequestSession}
use Rattle.saned_requests.specs.Holding.{held_by, with_device}
use Rattle.saned_core.specs.declared.session_slot.DataStep.{DataStep}
use Rattle.saned_core.specs.Turns.{StreamsFrom, StreamsIn}
use Rattle.world_refines.specs.WorldRefinement.{IsFaithful, IsFaithfulLease, IsFaithfulPage}
use Rattle.world_refines.proofs.state.Faithful.{left_true, word_true}

-- ---- a read

pub same_true : (s t : DeviceState) → t ≡ s → IsFaithful s → IsFaithful t
same_true s t e h = subst IsFaithful (sym e) h

goes_true : (phase : Phase) (s : DeviceState) → IsFaithful s → IsFaithful (goes_to s phase)
goes_true (AtRest c) s h = left_true (feeds s) s.pages h
goes_true (Between n) s h = h
goes_true (Reading pass given) s h = h

counted_true : (n : ℕ) (pages : List HeldPage) → AllByRecursion IsFaithfulPage pages → AllByRecursion IsFaithfulPage (with_failure_count n pages)
counted_true n [] h = h
counted_true n (held ∷ pages) h = (h.0, h.1)

pub stopped_true : (phase : Phase) (s : DeviceState) → IsFaithful s → IsFaithful (stopped_in phase s)
stopped_true (AtRest c) s h = h
stopped_true (Between n) s h = left_true (feeds s) s.pages h
stopped_true (Reading pass given) s h = left_true (feeds s) s.pages h

pub failed_true : (s t : DeviceState) → HasStopped s t → IsFaithful s → IsFaithful t
failed_true s t f h = same_true (stopped_in s.phase (with_failures s f.failures)) t f.after (stopped_true s.phase (with_failures s f.failures) (counted_true f.failures s.pages h))

on_true : (s t : DeviceState) (pass given : ℕ) (r : Result ℕ Code) (buf : List ℕ) → ReadsOn s pass given r t buf → IsFaithful s → IsFaithful t
on_true s t pass given (Ok n) buf r h = subst IsFaithful (sym r.after) h
on_true s t pass given (Err code.Eof) buf r h = same_true (goes_to s (after_pass s.setup pass)) t r.1 (goes_true (after_pass s.setup pass) s h)
on_true s t pass given (Err code.IoError) buf r h = failed_true s t r.1 h
on_true s t pass given (Err code.Good) buf r h = absurd r
on_true s t pass given (Err code.Unsupported) buf r h = absurd r
on_true s t pass given (Err code.Cancelled) buf r h = absurd r
on_true s t pass given (Err code.DeviceBusy) buf r h = absurd r
on_true s t pass given (Err code.Inval) buf r h = absurd r
on_true s t pass given (Err code.Jammed) buf r h = absurd r
on_true s t pass given (Err code.NoDocs) buf r h = absurd r
on_true s t pass given (Err code.CoverOpen) buf r h = absurd r
on_true s t pass given (Err code.NoMem) buf r h = absurd r
on_true s t pass given (Err code.AccessDenied) buf r h = absurd r

frame_true : (told : Option Code) (s t : DeviceState) (pass given : ℕ) (r : Result ℕ Code) (buf : List ℕ) → FrameReads told s pass given r t buf → IsFaithful s → IsFaithful t
frame_true None s t pass given r buf f h = on_true s t pass given r buf f h
frame_true (Some status) s t pass given r buf f h = same_true (goes_to s (after_read_status s.setup pass status)) t f.1 (goes_true (after_read_status s.setup pass status) s h)

in_true : (phase : Phase) (s t : DeviceState) (r : Result ℕ Code) (buf : List ℕ) → ReadsIn phase s r t buf → IsFaithful s → IsFaithful t
in_true (AtRest c) s t r buf f h = same_true s t f.1 h
in_true (Between n) s t r buf f h = same_true s t f.1 h
in_true (Reading pass given) s t r buf f h = frame_true (read_status_at s.setup.told given) s t pass given r buf f h

pub read_true : (s t : DeviceState) (r : Result ℕ Code) (buf : List ℕ) → Reads s r t buf → IsFaithful s → IsFaithful t
read_true s t r buf f h = in_true s.phase s t r buf f h

-- ---- a session that is read from

pub lease_at : (held : List (Option (Lease DeviceState))) (w : ℕ) → AllByRecursion IsFaithfulLease held → IsFaithfulLease (held_by held w)
unfolding held_by
lease_at [] w h = tt
lease_at (o ∷ held) zero h = h.0
lease_at (o ∷ held) (suc w) h = lease_at held w h.1

pub held_true : (held : List (Option (Lease DeviceState))) (w : ℕ) (l : Lease DeviceState) → held_by held w ≡ Some l → AllByRecursion IsFaithfulLease held → IsFaithful l.device
held_true held w l e h = subst IsFaithfulLease e (lease_at held w h)

from_true : (o : Option (Lease DeviceState)) (w : ℕ) (old new : RequestSession DeviceState) (step : DataStep) (buf : List ℕ) → IsFaithfulLease o → StreamsFrom o w old step new buf → AllByRecursion IsFaithfulLease old.held → AllByRecursion IsFaithfulLease new.held
from_true None w old new step buf l g h = subst (λ (s : RequestSession DeviceState). AllByRecursion IsFaithfulLease s.held) (sym g.1) h
from_true (Some lease) w old new step buf l g h =
    subst (λ (s : RequestSession DeviceState). AllByRecursion IsFaithfulLease s.held) (sym g.new_is)
    (word_true (λ _. with_device lease g.after) old.held w (λ o f. read_true lease.device g.after g.answer g.window g.reads l) h)

pub stream_true : (c : WordCarriage) (old new : RequestSession DeviceState) (step : DataStep) (buf : List ℕ) → StreamsIn c old step new buf → AllByRecursion IsFaithfulLease old.held → AllByRecursion IsFaithfulLease new.held
stream_true word.Quiet old new step buf g h = subst (λ (s : RequestSession DeviceState). AllByRecursion IsFaithfulLease s.held) (sym g.1) h
stream_true (word.Waiting w) old new step buf g h = subst (λ (s : RequestSession DeviceState). AllByRecursion IsFaithfulLease s.held) (sym g.1) h
stream_true (word.Streaming w) old new step buf g h = from_true (held_by old.held w) w old new step buf (lease_at old.held w h) g h
stream_true word.Ending old new step buf g h = subst (λ (s : RequestSession DeviceState). AllByRecursion IsFaithfulLease s.held) (sym g.1) h
