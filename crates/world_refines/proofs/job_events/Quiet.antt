-- No source fails in the steps of any event but a delivery to the daemon and a turn.
use Rattle.std.specs.List.{AllByRecursion}
use Rattle.std.proofs.Common.{◌≡◌, ◌⊎◌, inl, inr, ℕ, List, [], ◌∷◌, ◌++◌, true, sym, subst}
use Rattle.data_records.specs.declared.records.RecordPhase.{RecordPhase}
use Rattle.system_model.specs.Actions.{Action as Ruled}
use Rattle.system_model.specs.Actions as actions
use Rattle.system_model.specs.Client.{Done, Ended, Idle, JobStage, Running}
use Rattle.system_model.specs.Transitions.{By, IsUnderWay, Transition}
use Rattle.world_refines.specs.GhostStates.{Ghost, job_state}
use Rattle.world_refines.specs.GhostEvents.{GhostConnects}
use Rattle.world_refines.specs.ClientDeliveries.{GhostHears}
use Rattle.world_refines.specs.DataDeliveries.{GhostReadsEnd, GhostSees, ReadsBytes, ReadsShort, by_all, read_actions}
use Rattle.world_refines.proofs.state.Failing.{IsQuiet}

abbrev pub AreQuiet : List Transition → Type 0
AreQuiet steps = AllByRecursion IsQuiet steps

pub quiet_by : (xs ys : List Transition) → xs ≡ ys → AreQuiet ys → AreQuiet xs
quiet_by xs ys e q = subst AreQuiet (sym e) q

pub connects_quiet : (t : Ghost) (i : ℕ) (steps : List Transition) (u : Ghost) → GhostConnects t i steps u → AreQuiet steps
connects_quiet t i steps u (inl h) = quiet_by steps (By i actions.Connects ∷ []) h.0 (tt, tt)
connects_quiet t i steps u (inr h) = quiet_by steps (By i actions.Connects ∷ By i (actions.Loses true) ∷ []) h.0 (tt, (tt, tt))

pub hears_quiet : (n : ℕ) (t : Ghost) (i : ℕ) (steps : List Transition) (u : Ghost) → GhostHears n t i steps u → AreQuiet steps
hears_quiet n t i steps u (inl h) = quiet_by steps [] h.steps_are tt
hears_quiet n t i steps u (inr (under, inl h)) = quiet_by steps [] h.steps_are tt
hears_quiet n t i steps u (inr (under, inr (inl h))) = quiet_by steps (By i (actions.Hears h.reply) ∷ []) h.steps_are (tt, tt)
hears_quiet n t i steps u (inr (under, inr (inr (inl h)))) = quiet_by steps (By i actions.RunsOutOfMemory ∷ []) h.steps_are (tt, tt)
hears_quiet n t i steps u (inr (under, inr (inr (inr h)))) = quiet_by steps (By i (actions.Hears h.reply) ∷ By i actions.RunsOutOfMemory ∷ []) h.steps_are (tt, (tt, tt))

-- ---- a frame's data

come_quiet : (i : ℕ) (come : List Ruled) → AllByRecursion (λ (x : Ruled). IsQuiet (By i x)) come → AreQuiet (by_all i come)
come_quiet i [] q = tt
come_quiet i (x ∷ come) q = (q.0, come_quiet i come q.1)

read_quiet : (i : ℕ) (bytes : List ℕ) (last : List Ruled) → AllByRecursion (λ (x : Ruled). IsQuiet (By i x)) last → AllByRecursion (λ (x : Ruled). IsQuiet (By i x)) (read_actions bytes ++ last)
read_quiet i [] last q = q
read_quiet i (b ∷ bytes) last q = (tt, q)

reads_quiet : (i : ℕ) (bytes : List ℕ) → AllByRecursion (λ (x : Ruled). IsQuiet (By i x)) (read_actions bytes)
reads_quiet i [] = tt
reads_quiet i (b ∷ bytes) = (tt, tt)

all_quiet : (i : ℕ) (xs ys : List Ruled) → xs ≡ ys → AllByRecursion (λ (x : Ruled). IsQuiet (By i x)) ys → AllByRecursion (λ (x : Ruled). IsQuiet (By i x)) xs
all_quiet i xs ys e q = subst (AllByRecursion (λ (x : Ruled). IsQuiet (By i x))) (sym e) q

by_reads : (t : Ghost) (i : ℕ) (u : Ghost) (come : List Ruled) (piece sent : List ℕ) (phase : RecordPhase) → ReadsBytes phase piece come sent ⊎ (GhostReadsEnd phase piece come t i u sent ⊎ ReadsShort phase piece come sent) → AllByRecursion (λ (x : Ruled). IsQuiet (By i x)) come
by_reads t i u come piece sent phase (inl h) = all_quiet i come (read_actions h.given) h.steps_are (reads_quiet i h.given)
by_reads t i u come piece sent phase (inr (inl h)) = all_quiet i come _ h.steps_are (read_quiet i h.given _ (tt, tt))
by_reads t i u come piece sent phase (inr (inr h)) = all_quiet i come _ h.steps_are (read_quiet i h.given _ (tt, tt))

under_way : (stage : JobStage) → IsUnderWay stage ⊎ (IsUnderWay stage → ⊥)
under_way Idle = inl tt
under_way (Running g) = inl tt
under_way Done = inr (λ e. e)
under_way (Ended status why) = inr (λ e. e)

pub sees_quiet : (n : ℕ) (t : Ghost) (i : ℕ) (steps : List Transition) (u : Ghost) → GhostSees n t i steps u → AreQuiet steps
sees_quiet n t i steps u h = quiet_by steps (by_all i h.come) h.steps_are (come_quiet i h.come (by_stage (under_way (job_state t i).client.stage)))
  where
    by_stage : IsUnderWay (job_state t i).client.stage ⊎ (IsUnderWay (job_state t i).client.stage → ⊥) → AllByRecursion (λ (x : Ruled). IsQuiet (By i x)) h.come
    by_stage (inl on) = let r = h.reads_on on in by_reads t i u h.come _ h.sent r.phase r.comes
    by_stage (inr off) = all_quiet i h.come [] (h.ignores off).0 tt
