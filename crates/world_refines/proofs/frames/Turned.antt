-- A turn of a session's data connection, as one of six actions of the model, and what it leaves of the job and of its device.
use Rattle.std.specs.Int.{w32, to_be_bytes}
use Rattle.std.specs.Prelude.{Result, Ok, Err}
use Rattle.std.proofs.Common.{◌≡◌, ◌∙◌, ℕ, ◌+◌, ◌≤◌, ◌<◌, List, ◌∷◌, ◌++◌, Option, Some, None, Bool, true, false, refl, sym, ap, subst, length, take, drop, arith}
use Rattle.std.proofs.lemmas.List.{length-take}
use Rattle.sane_fixed.specs.declared.status.Status.TheVariants.{Cancelled, Eof, IoError}
use Rattle.sane_fixed.specs.declared.status.Status.{Status}
use Rattle.sane_fixed.specs.declared.status.Status.TheVariants as codes
use Rattle.sane_fixed.specs.Status.{status_code}
use Rattle.data_records.specs.Records.{counted_record, end_record}
use Rattle.device_api.specs.State.{DeviceState}
use Rattle.dispatch.specs.declared.table.place.Lease.{Lease}
use Rattle.saned_requests.specs.declared.session.DataPhase.{DataPhase as WordCarriage}
use Rattle.saned_requests.specs.declared.session.DataPhase.TheVariants as word
use Rattle.saned_requests.specs.declared.session.Session.{Session as RequestSession}
use Rattle.saned_requests.specs.Holding.{held_by}
use Rattle.saned_core.specs.declared.session_slot.DataStep.{DataStep}
use Rattle.saned_core.specs.declared.session_slot.DataStep.TheVariants as did
use Rattle.saned_core.specs.DaemonStates.{Core}
use Rattle.saned_core.specs.Turns.{Records, StreamsFrom, StreamsIn}
use Rattle.saned_core.proofs.Streaming.{window_short}
use Rattle.system_model.specs.Causes.{Cause, Names, NamesEof, SourceFailed}
use Rattle.system_model.specs.Daemon.{TransferState, FailureCounts, Quiet}
use Rattle.system_model.specs.Actions as actions
use Rattle.system_model.specs.Actions.{Action, device_after, job_after_action}
use Rattle.system_model.specs.Devices.{Make}
use Rattle.system_model.specs.AbstractDevices.{AbstractDevice, ScanPhase, Resting, ended_phase, read_on}
use Rattle.system_model.specs.SystemStates.{SessionView, JobState}
use Rattle.daemon_refines.specs.Streams.{SendsAs}
use Rattle.event_world.specs.declared.endpoint.Endpoint.{Endpoint}
use Rattle.event_world.specs.JobEvents as world
use Rattle.world_refines.specs.GhostEvents.{IsRecordOf}

pub data Turn : Type 0 where
  Gives : (bytes : List ℕ) → Turn
  Whole : Turn
  Named : (code : Status) → Turn
  Short : Turn
  Failed : (fault : FailureCounts) → Turn
  Off : Turn

abbrev pub action_of : Turn → Action
action_of (Gives bytes) = actions.Turns bytes
action_of Whole = actions.TurnsLast
action_of (Named code) = actions.TurnsNamed code
action_of Short = actions.TurnsShort
action_of (Failed fault) = actions.TurnsFault fault
action_of Off = actions.TurnsOff

-- the status in its end, and its record
abbrev pub text_of : Turn → List ℕ
text_of (Gives bytes) = counted_record bytes
text_of Whole = end_record (status_code codes.Eof)
text_of (Named code) = end_record (status_code code)
text_of Short = end_record (status_code codes.Eof)
text_of (Failed fault) = end_record (status_code codes.IoError)
text_of Off = end_record (status_code codes.Cancelled)

abbrev pub is_end : Turn → Bool
is_end (Gives bytes) = false
is_end Whole = true
is_end (Named code) = true
is_end Short = true
is_end (Failed fault) = true
is_end Off = true

abbrev pub IsShortRecord : Turn → Type 0
IsShortRecord (Gives bytes) = length bytes < 4294967295
IsShortRecord Whole = Unit {0}
IsShortRecord (Named code) = Unit {0}
IsShortRecord Short = Unit {0}
IsShortRecord (Failed fault) = Unit {0}
IsShortRecord Off = Unit {0}

pub record_of : (turn : Turn) → IsRecordOf (action_of turn) (text_of turn)
record_of (Gives bytes) = refl
record_of Whole = refl
record_of (Named code) = (code, refl, refl)
record_of Short = refl
record_of (Failed fault) = refl
record_of Off = refl

-- ---- what it leaves of the job

abbrev pub flight_after : Turn → List ℕ → List ℕ
flight_after (Gives bytes) flight = flight ++ bytes
flight_after Whole flight = flight
flight_after (Named code) flight = flight
flight_after Short flight = flight
flight_after (Failed fault) flight = flight
flight_after Off flight = flight

abbrev pub ending_after : Turn → Option Status → Option Status
ending_after (Gives bytes) old = old
ending_after Whole old = Some Eof
ending_after (Named code) old = Some code
ending_after Short old = Some Eof
ending_after (Failed fault) old = Some IoError
ending_after Off old = Some Cancelled

abbrev pub carriage_after : Turn → TransferState → TransferState
carriage_after (Gives bytes) c = c
carriage_after Whole c = Quiet
carriage_after (Named code) c = Quiet
carriage_after Short c = Quiet
carriage_after (Failed fault) c = Quiet
carriage_after Off c = Quiet

abbrev pub met_after : Turn → List Cause → List Cause
met_after (Gives bytes) met = met
met_after Whole met = met
met_after (Named code) met = Names code ∷ met
met_after Short met = NamesEof ∷ met
met_after (Failed fault) met = SourceFailed ∷ met
met_after Off met = met

abbrev pub base_after : Turn → SessionView → SessionView
base_after turn b = record b { flight = flight_after turn b.flight; ending = ending_after turn b.ending; transfer = carriage_after turn b.transfer; met = met_after turn b.met }

abbrev pub job_after : Turn → JobState → JobState
job_after turn p = record p { session = base_after turn p.session }

pub party_is : (turn : Turn) (i : ℕ) (k : Make) (listed : List ℕ) (p : JobState) (dev : AbstractDevice) → job_after_action i k listed p dev (action_of turn) ≡ job_after turn p
party_is (Gives bytes) i k listed p dev = refl
party_is Whole i k listed p dev = refl
party_is (Named code) i k listed p dev = refl
party_is Short i k listed p dev = refl
party_is (Failed fault) i k listed p dev = refl
party_is Off i k listed p dev = refl

-- ---- and of its device

abbrev pub phase_after : Turn → ScanPhase → ScanPhase
phase_after (Gives bytes) phase = read_on phase bytes
phase_after Whole phase = ended_phase phase
phase_after (Named code) phase = Resting
phase_after Short phase = ended_phase phase
phase_after (Failed fault) phase = Resting
phase_after Off phase = phase

abbrev pub dev_after : Turn → AbstractDevice → AbstractDevice
dev_after turn dev = record dev { phase = phase_after turn dev.phase }

pub device_is : (turn : Turn) (i : ℕ) (k : Make) (listed : List ℕ) (p : JobState) (dev : AbstractDevice) → device_after i k listed p dev (action_of turn) ≡ dev_after turn dev
device_is (Gives bytes) i k listed p dev = refl
device_is Whole i k listed p dev = refl
device_is (Named code) i k listed p dev = refl
device_is Short i k listed p dev = refl
device_is (Failed fault) i k listed p dev = refl
device_is Off i k listed p dev = refl

-- ---- which action it is

-- what is sent is the record of that action
pub record IsTurn (action : Action) (step : DataStep) (buf : List ℕ) : Type 0 where
  pub turn : Turn
  pub action_is : action ≡ action_of turn
  pub sends : (n : ℕ) (d : Core) (p : Endpoint) (e : Core) (q : Endpoint) → world.SendsStep n step buf d p e q → world.SendsRecord n (text_of turn) (is_end turn) d p e q

gives_step : (bytes : List ℕ) (step : DataStep) (buf : List ℕ) (n : ℕ) (d : Core) (p : Endpoint) (e : Core) (q : Endpoint) → SendsAs step buf (actions.Turns bytes) → world.SendsStep n step buf d p e q → world.SendsRecord n (counted_record bytes) false d p e q
gives_step bytes step buf n d p e q s h = subst (λ (text : List ℕ). world.SendsRecord n text false d p e q) s.1 (subst (λ (x : DataStep). world.SendsStep n x buf d p e q) s.0 h)

end_step : (status : Status) (step : DataStep) (buf : List ℕ) (n : ℕ) (d : Core) (p : Endpoint) (e : Core) (q : Endpoint) → (step ≡ did.Last 5) × (take 5 buf ≡ end_record (status_code status)) → world.SendsStep n step buf d p e q → world.SendsRecord n (end_record (status_code status)) true d p e q
end_step status step buf n d p e q s h = subst (λ (text : List ℕ). world.SendsRecord n text true d p e q) s.1 (subst (λ (x : DataStep). world.SendsStep n x buf d p e q) s.0 h)

pub is_turn : (action : Action) (step : DataStep) (buf : List ℕ) → SendsAs step buf action → IsTurn action step buf
is_turn (actions.Turns bytes) step buf s = record { turn = Gives bytes; action_is = refl; sends = λ n d p e q h. gives_step bytes step buf n d p e q s h }
is_turn actions.TurnsLast step buf s = record { turn = Whole; action_is = refl; sends = λ n d p e q h. end_step codes.Eof step buf n d p e q s h }
is_turn (actions.TurnsNamed name) step buf s = record { turn = Named s.0; action_is = ap (λ (x : Status). actions.TurnsNamed x) s.1; sends = λ n d p e q h. end_step s.0 step buf n d p e q s.2 h }
is_turn actions.TurnsShort step buf s = record { turn = Short; action_is = refl; sends = λ n d p e q h. end_step codes.Eof step buf n d p e q s h }
is_turn (actions.TurnsFault fault) step buf s = record { turn = Failed fault; action_is = refl; sends = λ n d p e q h. end_step codes.IoError step buf n d p e q s h }
is_turn actions.TurnsOff step buf s = record { turn = Off; action_is = refl; sends = λ n d p e q h. end_step codes.Cancelled step buf n d p e q s h }
is_turn actions.Connects step buf s = absurd s
is_turn (actions.Answers challenge fault) step buf s = absurd s
is_turn (actions.Hears r) step buf s = absurd s
is_turn actions.Dials step buf s = absurd s
is_turn (actions.Reads bytes) step buf s = absurd s
is_turn (actions.Finishes status) step buf s = absurd s
is_turn (actions.Loses memory) step buf s = absurd s
is_turn (actions.LosesImage memory) step buf s = absurd s
is_turn (actions.Breaks memory) step buf s = absurd s
is_turn actions.RunsOutOfMemory step buf s = absurd s
is_turn actions.Stops step buf s = absurd s

-- ---- its record is short

abbrev size_of : DataStep → ℕ
size_of did.Idle = 0
size_of (did.Bytes n) = n
size_of (did.Last n) = n

short_bytes : (n : ℕ) (window bytes buf : List ℕ) → length window ≤ 65536 → n ≡ length bytes → take (4 + n) buf ≡ to_be_bytes w32 n ++ take n window → take (4 + length bytes) buf ≡ to_be_bytes w32 (length bytes) ++ bytes → length bytes < 4294967295
short_bytes n window bytes buf most e a b =
    let whole : to_be_bytes w32 n ++ take n window ≡ to_be_bytes w32 (length bytes) ++ bytes = sym a ∙ (ap (λ (k : ℕ). take (4 + k) buf) e ∙ b) in
    let same : take n window ≡ bytes = ap (drop 4) whole in
    let long : length (take n window) ≡ length bytes = ap (λ (x : List ℕ). length x) same in
    omega (arith, most, long, length-take n window)

short_records : (answer : Result ℕ Status) (window bytes : List ℕ) (step : DataStep) (buf : List ℕ) → length window ≤ 65536 → Records answer window step buf → SendsAs step buf (actions.Turns bytes) → length bytes < 4294967295
short_records (Ok n) window bytes step buf most r s =
    let sizes : 4 + n ≡ 4 + length bytes = ap size_of (sym r.0 ∙ s.0) in
    short_bytes n window bytes buf most (omega (arith, sizes)) r.1 s.1
short_records (Err status) window bytes step buf most r s = absurd (let clash : did.Last 5 ≡ did.Bytes (4 + length bytes) = sym r.0 ∙ s.0 in cc)

idle_bytes : (step : DataStep) (n : ℕ) → step ≡ did.Idle → step ≡ did.Bytes n → ⊥
idle_bytes step n e f = let clash : did.Idle ≡ did.Bytes n = sym e ∙ f in absurd (cc)

short_from : (o : Option (Lease DeviceState)) (w : ℕ) (old new : RequestSession DeviceState) (bytes : List ℕ) (step : DataStep) (buf : List ℕ) → StreamsFrom o w old step new buf → SendsAs step buf (actions.Turns bytes) → length bytes < 4294967295
short_from None w old new bytes step buf g s = absurd (idle_bytes step _ g.0 s.0)
short_from (Some lease) w old new bytes step buf g s = short_records g.answer g.window bytes step buf (window_short g.window buf g.whole) g.written s

short_in : (c : WordCarriage) (old new : RequestSession DeviceState) (bytes : List ℕ) (step : DataStep) (buf : List ℕ) → StreamsIn c old step new buf → SendsAs step buf (actions.Turns bytes) → length bytes < 4294967295
short_in word.Quiet old new bytes step buf g s = absurd (idle_bytes step _ g.0 s.0)
short_in (word.Waiting w) old new bytes step buf g s = absurd (idle_bytes step _ g.0 s.0)
short_in (word.Streaming w) old new bytes step buf g s = short_from (held_by old.held w) w old new bytes step buf g s
short_in word.Ending old new bytes step buf g s = absurd (let clash : did.Last 5 ≡ did.Bytes (4 + length bytes) = sym g.0.0 ∙ s.0 in cc)

pub short_turn : (turn : Turn) (c : WordCarriage) (old new : RequestSession DeviceState) (step : DataStep) (buf : List ℕ) → StreamsIn c old step new buf → SendsAs step buf (action_of turn) → IsShortRecord turn
short_turn (Gives bytes) c old new step buf g s = short_in c old new bytes step buf g s
short_turn Whole c old new step buf g s = tt
short_turn (Named code) c old new step buf g s = tt
short_turn Short c old new step buf g s = tt
short_turn (Failed fault) c old new step buf g s = tt
short_turn Off c old new step buf g s = tt
