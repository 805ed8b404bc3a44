-- What a daemon's contract says of replies and of records, as calls.
use Rattle.std.proofs.Common.{◌≡◌, ◌≢◌, true, false, [], ◌≤◌, ◌⊎◌, ℕ, suc, ◌+◌, ◌-◌, List, ◌++◌, Option, Some, None, Result, Ok, Err, take, drop, length, slice_range, sym, ap, ◌∙◌, subst, arith}
use Rattle.std.proofs.lemmas.List.{length-take}
use Rattle.std.specs.Int.{w32, to_be_bytes}
use Rattle.sane_fixed.specs.declared.status.Status.{Status}
use Rattle.device_api.specs.State.{DeviceState, Phase, Reads, ReadsIn, FrameReads, read_status_at}
use Rattle.device_api.specs.State.Phase.{AtRest, Between, Reading}
use Rattle.dispatch.specs.declared.table.place.Lease.{Lease}
use Rattle.saned_requests.specs.declared.session.DataPhase.{DataPhase}
use Rattle.saned_requests.specs.declared.session.DataPhase.TheVariants.{Quiet, Waiting, Streaming, Ending}
use Rattle.saned_requests.specs.declared.session.Session.{Session}
use Rattle.saned_requests.specs.Holding.{held_by}
use Rattle.saned_core.specs.declared.session_slot.SessionSlot.{SessionSlot}
use Rattle.saned_core.specs.declared.session_slot.DataStep.{DataStep}
use Rattle.saned_core.specs.declared.session_slot.DataStep.TheVariants.{Idle}
use Rattle.saned_core.specs.DaemonStates.{Core, replies_of, after_taken, on_session_slot, session_slot_of, session_in}
use Rattle.saned_core.specs.Turns.{Turns, TurnsSessions, StreamsIn, StreamsFrom, Records}
use Rattle.saned_serve.specs.SessionActions.{AreRepliesTaken, IsTurned, written_by, is_idle}
use Rattle.saned_serve.proofs.SlotGreeting.{take_front}

from_start : (n : ℕ) (xs : List ℕ) → slice_range xs 0 n ≡ take n xs
from_start n xs = ap (λ (k : ℕ). take k xs) (let e : n - 0 ≡ n = omega arith in e)

-- a buffer that is all of a room, and is given back to it
pub written_back : (buf items : List ℕ) (len : ℕ) → length buf ≡ len → take len (buf ++ drop (length buf) items) ≡ buf
written_back buf items len e = ap (λ (k : ℕ). take k (buf ++ drop (length buf) items)) (sym e) ∙ take_front buf (drop (length buf) items)

-- ---- replies

pub is_taken : (d e : Core) (number n : ℕ) (old new : List ℕ) → n ≤ length old → n ≤ length (replies_of d number)
    → (n ≡ length old) ⊎ (n ≡ length (replies_of d number)) → new ≡ take n (replies_of d number) ++ drop n old
    → e ≡ record d { slots = on_session_slot (after_taken n) number d.slots } → AreRepliesTaken d number (length old) (slice_range new 0 n) e
is_taken d e number n old new within all most bytes after =
    let replies = replies_of d number in
    let len : length (take n replies) ≡ n = omega (arith, length-take n replies, all) in
    let same : take n new ≡ take n replies = ap (take n) bytes ∙ ap (λ (k : ℕ). take k (take n replies ++ drop n old)) (sym len) ∙ take_front (take n replies) (drop n old) in
    let count : length (take n new) ≡ n = ap length same ∙ len in
    subst (λ (xs : List ℕ). AreRepliesTaken d number (length old) xs e) (sym (from_start n new)) (record {
      front = same ∙ ap (λ (k : ℕ). take k replies) (sym count);
      most = subst (λ (k : ℕ). (k ≡ length old) ⊎ (k ≡ length replies)) (sym count) most;
      after = subst (λ (k : ℕ). e ≡ record d { slots = on_session_slot (after_taken k) number d.slots }) (sym count) after;
    })

-- ---- records

-- a read gives no more than the window has
reads_fit : (n : ℕ) (old new : DeviceState) (window : List ℕ) (phase : Phase) → ReadsIn phase old (Ok n) new window → n ≤ length window
reads_fit n old new window (AtRest cancelled) reads = absurd (let wrong = reads.0 in cc)
reads_fit n old new window (Between pass) reads = absurd (let wrong = reads.0 in cc)
reads_fit n old new window (Reading pass given) reads = frame_fits (read_status_at old.setup.told given) reads
  where
    frame_fits : (told : Option Status) → FrameReads told old pass given (Ok n) new window → n ≤ length window
    frame_fits None reads = reads.room
    frame_fits (Some status) reads = absurd (let wrong = reads.0 in cc)

record_fits : (n : ℕ) (window buf : List ℕ) → n ≤ length window → take (4 + n) buf ≡ to_be_bytes w32 n ++ take n window → 4 + n ≤ length buf
record_fits n window buf h e =
    let len : length (take (4 + n) buf) ≡ suc (suc (suc (suc (length (take n window))))) = ap length e in
    omega (arith, len, length-take (4 + n) buf, length-take n window, h)

fits : (answer : Result ℕ Status) (old new : DeviceState) (window : List ℕ) (step : DataStep) (buf : List ℕ) → 8 ≤ length buf → Reads old answer new window → Records answer window step buf → written_by step ≤ length buf
fits (Ok n) old new window step buf h reads records = subst (λ (s : DataStep). written_by s ≤ length buf) (sym records.0) (record_fits n window buf (reads_fit n old new window old.phase reads) records.1)
fits (Err status) old new window step buf h reads records = subst (λ (s : DataStep). written_by s ≤ length buf) (sym records.0) (omega (arith, h))

idle_fits : (step : DataStep) (buf : List ℕ) → step ≡ Idle → written_by step ≤ length buf
idle_fits step buf e = subst (λ (s : DataStep). written_by s ≤ length buf) (sym e) (omega arith)

from_fits : (lease : Option (Lease DeviceState)) (word : ℕ) (old : Session DeviceState) (step : DataStep) (new : Session DeviceState) (buf : List ℕ) → 8 ≤ length buf → StreamsFrom lease word old step new buf → written_by step ≤ length buf
from_fits None word old step new buf h streams = idle_fits step buf streams.0
from_fits (Some lease) word old step new buf h streams = fits streams.answer lease.device streams.after streams.window step buf h streams.reads streams.written

streams_fit : (c : DataPhase) (old : Session DeviceState) (step : DataStep) (new : Session DeviceState) (buf : List ℕ) → 8 ≤ length buf → StreamsIn c old step new buf → written_by step ≤ length buf
streams_fit Quiet old step new buf h streams = idle_fits step buf streams.0
streams_fit (Waiting word) old step new buf h streams = idle_fits step buf streams.0
streams_fit (Streaming word) old step new buf h streams = from_fits (held_by old.held word) word old step new buf h streams
streams_fit Ending old step new buf h streams = subst (λ (s : DataStep). written_by s ≤ length buf) (sym streams.0.0) (omega (arith, h))

turns_fit : (o : Option (Session DeviceState)) (n : ℕ) (old : List (Option (SessionSlot DeviceState))) (step : DataStep) (new : List (Option (SessionSlot DeviceState))) (buf : List ℕ) → 8 ≤ length buf → TurnsSessions o n old step new buf → written_by step ≤ length buf
turns_fit None n old step new buf h turns = idle_fits step buf turns.0
turns_fit (Some s) n old step new buf h turns = streams_fit s.transfer s step turns.0 buf h turns.1

pub turn_fits : (d e : Core) (number : ℕ) (step : DataStep) (buf : List ℕ) → 8 ≤ length buf → Turns number d step e buf → written_by step ≤ length buf
turn_fits d e number step buf h turns = turns_fit (session_in (session_slot_of d.slots number)) number d.slots step e.slots buf h turns.slots

pub is_turned : (d e : Core) (number room : ℕ) (step : DataStep) (buf : List ℕ) → length buf ≡ room → 8 ≤ length buf → Turns number d step e buf → IsTurned d number room step (slice_range buf 0 (written_by step)) e
is_turned d e number room step buf size h turns = record { buffer = buf; size = size; turns = turns; fits = turn_fits d e number step buf h turns; front = from_start (written_by step) buf }

-- ---- a record has four bytes or more

no_record : (step : DataStep) → step ≡ Idle → is_idle step ≡ false → 4 ≤ written_by step
no_record step e some = absurd (let wrong : true ≡ false = sym (ap is_idle e) ∙ some in cc)

records_some : (answer : Result ℕ Status) (window : List ℕ) (step : DataStep) (buf : List ℕ) → Records answer window step buf → 4 ≤ written_by step
records_some (Ok n) window step buf records = subst (λ (s : DataStep). 4 ≤ written_by s) (sym records.0) (let most : 4 ≤ 4 + n = omega arith in most)
records_some (Err status) window step buf records = subst (λ (s : DataStep). 4 ≤ written_by s) (sym records.0) (let most : 4 ≤ 5 = omega arith in most)

from_some : (lease : Option (Lease DeviceState)) (word : ℕ) (old : Session DeviceState) (step : DataStep) (new : Session DeviceState) (buf : List ℕ) → is_idle step ≡ false → StreamsFrom lease word old step new buf → 4 ≤ written_by step
from_some None word old step new buf some streams = no_record step streams.0 some
from_some (Some lease) word old step new buf some streams = records_some streams.answer streams.window step buf streams.written

streams_some : (c : DataPhase) (old : Session DeviceState) (step : DataStep) (new : Session DeviceState) (buf : List ℕ) → is_idle step ≡ false → StreamsIn c old step new buf → 4 ≤ written_by step
streams_some Quiet old step new buf some streams = no_record step streams.0 some
streams_some (Waiting word) old step new buf some streams = no_record step streams.0 some
streams_some (Streaming word) old step new buf some streams = from_some (held_by old.held word) word old step new buf some streams
streams_some Ending old step new buf some streams = subst (λ (s : DataStep). 4 ≤ written_by s) (sym streams.0.0) (let most : 4 ≤ 5 = omega arith in most)

turns_some : (o : Option (Session DeviceState)) (n : ℕ) (old : List (Option (SessionSlot DeviceState))) (step : DataStep) (new : List (Option (SessionSlot DeviceState))) (buf : List ℕ) → is_idle step ≡ false → TurnsSessions o n old step new buf → 4 ≤ written_by step
turns_some None n old step new buf some turns = no_record step turns.0 some
turns_some (Some s) n old step new buf some turns = streams_some s.transfer s step turns.0 buf some turns.1

pub record_some : (d e : Core) (number room : ℕ) (step : DataStep) (bytes : List ℕ) → IsTurned d number room step bytes e → is_idle step ≡ false → bytes ≢ []
record_some d e number room step bytes turned some none =
    let four = turns_some (session_in (session_slot_of d.slots number)) number d.slots step e.slots turned.buffer some turned.turns.slots in
    let empty : length bytes ≡ 0 = ap length none in
    let len = ap length turned.front in
    let fits = turned.fits in
    omega (arith, len, length-take (written_by step) turned.buffer, four, fits, empty)
