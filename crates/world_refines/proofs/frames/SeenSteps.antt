-- Steps that the client of a job takes alone: bytes and the end of its frame, and out of memory.
use Rattle.std.proofs.Common.{◌≡◌, ◌≢◌, ◌∙◌, ℕ, List, [], ◌∷◌, ◌++◌, Some, Bool, false, refl, sym, ap, subst, append-nil}
use Rattle.scan_job.specs.declared.outcome.Why.TheVariants.{Memory}
use Rattle.sane_fixed.specs.declared.status.Status.TheVariants.{NoMem}
use Rattle.sane_fixed.specs.declared.params.Params.{Params}
use Rattle.frame_join.specs.FrameHistory.{JoinHistory}
use Rattle.system_model.specs.Devices.{Make, frame_overflows}
use Rattle.system_model.specs.Client.{Imaging, ClientView, Running, JobStage}
use Rattle.system_model.specs.ClientReplies.{client_after_bytes, reads_on, client_after_stop}
use Rattle.system_model.specs.Causes.{ClientOutOfMemory}
use Rattle.system_model.specs.AbstractDevices.{AbstractDevice, without_prefix}
use Rattle.system_model.specs.Actions as actions
use Rattle.system_model.specs.Actions.{Action, device_after, job_after_frame_end, job_after_action, with_cause, with_flight}
use Rattle.system_model.specs.SystemStates.{JobState, SystemState, listed_devices, make_for, device_for, wanted_place}
use Rattle.system_model.specs.Transitions.{By, IsHistory, IsImaging, IsRunning, IsActionEnabled, after_transition, after_all}
use Rattle.daemon_refines.proofs.Moved.{put_elsewhere, put_there}
use Rattle.world_refines.specs.GhostStates.{Ghost, Wires, ghost_after}
use Rattle.world_refines.specs.DataDeliveries.{by_all, read_actions}
use Rattle.world_refines.proofs.state.Changing.{IsChange}
use Rattle.world_refines.proofs.state.Taking.{put_self}

-- ---- one of them

-- what it makes of the job
abbrev pub after_one : JobState → Action → JobState
after_one p (actions.Reads bytes) = record p { client = client_after_bytes p.client.stage p.client bytes; session = with_flight p.session (without_prefix bytes p.session.flight) }
after_one p (actions.Finishes status) = job_after_frame_end p status
after_one p actions.RunsOutOfMemory = record p { client = client_after_stop NoMem Memory p.client; session = with_cause p.session ClientOutOfMemory }
after_one p action = p

abbrev pub MaySee : JobState → Action → Type 0
MaySee p (actions.Reads bytes) = IsImaging p.client.stage × ((left : List ℕ) × (p.session.flight ≡ bytes ++ left)) × (bytes ≢ [])
MaySee p (actions.Finishes status) = IsImaging p.client.stage × (p.session.flight ≡ []) × (p.session.ending ≡ Some status)
MaySee p actions.RunsOutOfMemory = IsRunning p.client.stage
MaySee p action = ⊥

party_one : (action : Action) (i : ℕ) (k : Make) (shown : List ℕ) (p : JobState) (dev : AbstractDevice) → MaySee p action → job_after_action i k shown p dev action ≡ after_one p action
party_one (actions.Reads bytes) i k shown p dev m = refl
party_one (actions.Finishes status) i k shown p dev m = refl
party_one actions.RunsOutOfMemory i k shown p dev m = refl
party_one action i k shown p dev m = absurd m

device_one : (action : Action) (i : ℕ) (k : Make) (shown : List ℕ) (p : JobState) (dev : AbstractDevice) → MaySee p action → device_after i k shown p dev action ≡ dev
device_one (actions.Reads bytes) i k shown p dev m = refl
device_one (actions.Finishes status) i k shown p dev m = refl
device_one actions.RunsOutOfMemory i k shown p dev m = refl
device_one action i k shown p dev m = absurd m

may_one : (action : Action) (i : ℕ) (k : Make) (p : JobState) (dev : AbstractDevice) → MaySee p action → IsActionEnabled i k p dev action
may_one (actions.Reads bytes) i k p dev m = m
may_one (actions.Finishes status) i k p dev m = m
may_one actions.RunsOutOfMemory i k p dev m = m
may_one action i k p dev m = absurd m

-- ---- one behind the other

abbrev pub after_each : JobState → List Action → JobState
after_each p [] = p
after_each p (action ∷ more) = after_each (after_one p action) more

abbrev pub MayAll : JobState → List Action → Type 0
MayAll p [] = Unit {0}
MayAll p (action ∷ more) = MaySee p action × MayAll (after_one p action) more

party_step : (s : SystemState) (i : ℕ) (action : Action) → MaySee (s.job i) action → (after_transition s (By i action)).job i ≡ after_one (s.job i) action
party_step s i action m = put_there s.job i (job_after_action i (make_for s i) (listed_devices s) (s.job i) (device_for s i) action) ∙ party_one action i (make_for s i) (listed_devices s) (s.job i) (device_for s i) m

may_rest : (s : SystemState) (i : ℕ) (action : Action) (more : List Action) → MayAll (s.job i) (action ∷ more) → MayAll ((after_transition s (By i action)).job i) more
may_rest s i action more m = subst (λ (p : JobState). MayAll p more) (sym (party_step s i action m.0)) m.1

pub party_all : (s : SystemState) (i : ℕ) (come : List Action) → MayAll (s.job i) come → (after_all s (by_all i come)).job i ≡ after_each (s.job i) come
party_all s i [] m = refl
party_all s i (action ∷ more) m = party_all (after_transition s (By i action)) i more (may_rest s i action more m) ∙ ap (λ (p : JobState). after_each p more) (party_step s i action m.0)

pub device_all : (s : SystemState) (i : ℕ) (come : List Action) → MayAll (s.job i) come → (k : ℕ) → (after_all s (by_all i come)).device k ≡ s.device k
device_all s i [] m k = refl
device_all s i (action ∷ more) m k =
    device_all (after_transition s (By i action)) i more (may_rest s i action more m) k
    ∙ put_self s.device (wanted_place s i) (device_after i (make_for s i) (listed_devices s) (s.job i) (device_for s i) action) (device_one action i (make_for s i) (listed_devices s) (s.job i) (device_for s i) m.0) k

pub legal_all : (s : SystemState) (i : ℕ) (come : List Action) → MayAll (s.job i) come → IsHistory s (by_all i come)
legal_all s i [] m = tt
legal_all s i (action ∷ more) m = (may_one action i (make_for s i) (s.job i) (device_for s i) m.0, legal_all (after_transition s (By i action)) i more (may_rest s i action more m))

pub make_all : (s : SystemState) (i : ℕ) (come : List Action) → (after_all s (by_all i come)).make ≡ s.make
make_all s i [] = refl
make_all s i (action ∷ more) = make_all (after_transition s (By i action)) i more

places_all : (s : SystemState) (i : ℕ) (come : List Action) → (after_all s (by_all i come)).places ≡ s.places
places_all s i [] = refl
places_all s i (action ∷ more) = places_all (after_transition s (By i action)) i more

others_all : (s : SystemState) (i : ℕ) (come : List Action) (j : ℕ) → j ≢ i → (after_all s (by_all i come)).job j ≡ s.job j
others_all s i [] j n = refl
others_all s i (action ∷ more) j n = others_all (after_transition s (By i action)) i more j n ∙ put_elsewhere s.job i (job_after_action i (make_for s i) (listed_devices s) (s.job i) (device_for s i) action) j n

pub change_all : (t : Ghost) (i : ℕ) (come : List Action) (bytes : Wires) (past : JoinHistory) (pages : List JoinHistory) → IsChange i t (ghost_after t i (by_all i come) bytes past pages)
change_all t i come bytes past pages =
    record {
      users = refl;
      infos = refl;
      count = refl;
      jobs = refl;
      make = make_all t.system i come;
      places = places_all t.system i come;
      job = λ j n. others_all t.system i come j n;
      wires = λ j n. put_elsewhere t.wires i bytes j n;
      history = λ j n. put_elsewhere t.history i past j n;
      pages = λ j n. put_elsewhere t.pages i pages j n;
    }

pub each_then : (p : JobState) (a b : List Action) → after_each p (a ++ b) ≡ after_each (after_each p a) b
each_then p [] b = refl
each_then p (action ∷ a) b = each_then (after_one p action) a b

pub may_then : (p : JobState) (a b : List Action) → MayAll p a → MayAll (after_each p a) b → MayAll p (a ++ b)
may_then p [] b m n = n
may_then p (action ∷ a) b m n = (m.0, may_then (after_one p action) a b m.1 n)

-- ---- bytes that are read

-- the job that has heard so much of a frame, of which so much is on the way
abbrev pub reading : JobState → Params → List ℕ → List ℕ → JobState
reading p params heard left = record p { client = record p.client { stage = Running (Imaging params heard) }; session = with_flight p.session left }

without_front : (xs ys : List ℕ) → without_prefix xs (xs ++ ys) ≡ ys
without_front [] ys = refl
without_front (x ∷ xs) ys = without_front xs ys

pub read_is : (m : ClientView) (params : Params) (heard given : List ℕ) → m.stage ≡ Running (Imaging params heard) → frame_overflows params (heard ++ given) ≡ false → client_after_bytes m.stage m given ≡ record m { stage = Running (Imaging params (heard ++ given)) }
read_is m params heard given e o = ap (λ (st : JobStage). client_after_bytes st m given) e ∙ ap (λ (b : Bool). record m { stage = reads_on b params (heard ++ given) }) o

pub party_reads : (p : JobState) (params : Params) (heard given left : List ℕ) → p.client.stage ≡ Running (Imaging params heard) → p.session.flight ≡ given ++ left → frame_overflows params (heard ++ given) ≡ false →
    after_each p (read_actions given) ≡ reading p params (heard ++ given) left
party_reads p params heard [] left e f o =
    ap (λ (st : JobStage). record p { client = record p.client { stage = st } }) (e ∙ ap (λ (l : List ℕ). Running (Imaging params l)) (sym (append-nil heard)))
    ∙ ap (λ (l : List ℕ). record p { client = record p.client { stage = Running (Imaging params (heard ++ [])) }; session = with_flight p.session l }) f
party_reads p params heard (b ∷ bytes) left e f o =
    ap (λ (m : ClientView). record p { client = m; session = with_flight p.session (without_prefix (b ∷ bytes) p.session.flight) }) (read_is p.client params heard (b ∷ bytes) e o)
    ∙ ap (λ (l : List ℕ). record p { client = record p.client { stage = Running (Imaging params (heard ++ b ∷ bytes)) }; session = with_flight p.session l }) (ap (without_prefix (b ∷ bytes)) f ∙ without_front (b ∷ bytes) left)

pub may_read : (p : JobState) (given left : List ℕ) → IsImaging p.client.stage → p.session.flight ≡ given ++ left → MayAll p (read_actions given)
may_read p [] left is f = tt
may_read p (b ∷ bytes) left is f = ((is, (left, f), λ none. let clash : b ∷ bytes ≡ [] = none in absurd (cc)), tt)
