-- What steps of one job make of what stands: none, one, or two one behind the other.
use Rattle.std.proofs.Common.{◌≡◌, ◌∙◌, ℕ, List, [], ◌∷◌, refl, sym, ap, subst}
use Rattle.scan_job.specs.declared.outcome.Why.TheVariants.{Memory}
use Rattle.sane_fixed.specs.declared.status.Status.TheVariants.{NoMem}
use Rattle.frame_join.specs.FrameHistory.{JoinHistory}
use Rattle.system_model.specs.AbstractMessages.{AbstractReply}
use Rattle.system_model.specs.Causes.{ClientOutOfMemory}
use Rattle.system_model.specs.ClientReplies.{client_after_stop}
use Rattle.system_model.specs.Actions as actions
use Rattle.system_model.specs.Actions.{job_after_reply, with_cause}
use Rattle.system_model.specs.SystemStates.{JobState, SystemState, device_for, wanted_place}
use Rattle.system_model.specs.Transitions.{By, IsHistory, IsRunning, Transition, after_transition}
use Rattle.daemon_refines.proofs.Moved.{put_elsewhere, put_there}
use Rattle.world_refines.specs.GhostStates.{Ghost, Wires, job_state, ghost_after}
use Rattle.world_refines.proofs.state.Changing.{IsChange}
use Rattle.world_refines.proofs.state.Taking.{one_change, one_party, put_self}

-- the job is this behind them, and devices are as they were
pub record StepsTo (t : Ghost) (i : ℕ) (steps : List Transition) (x : Wires) (past : JoinHistory) (pages : List JoinHistory) (p : JobState) : Type 0 where
  pub legal : IsHistory t.system steps
  pub change : IsChange i t (ghost_after t i steps x past pages)
  pub job : (ghost_after t i steps x past pages).system.job i ≡ p
  pub devices : (k : ℕ) → (ghost_after t i steps x past pages).system.device k ≡ t.system.device k

pub by_none : (t : Ghost) (i : ℕ) (x : Wires) (past : JoinHistory) (pages : List JoinHistory) → StepsTo t i [] x past pages (job_state t i)
by_none t i x past pages =
    record {
      legal = tt;
      change = record {
        users = refl;
        infos = refl;
        count = refl;
        jobs = refl;
        make = refl;
        places = refl;
        job = λ j n. refl;
        wires = λ j n. put_elsewhere t.wires i x j n;
        history = λ j n. put_elsewhere t.history i past j n;
        pages = λ j n. put_elsewhere t.pages i pages j n;
      };
      job = refl;
      devices = λ k. refl;
    }

-- the client hears its reply
pub by_hearing : (t : Ghost) (i : ℕ) (r : AbstractReply) (x : Wires) (past : JoinHistory) (pages : List JoinHistory) → IsRunning (job_state t i).client.stage → (job_state t i).due ≡ r ∷ [] → StepsTo t i (By i (actions.Hears r) ∷ []) x past pages (job_after_reply (job_state t i) r)
by_hearing t i r x past pages runs due =
    record {
      legal = ((runs, ([], due)), tt);
      change = one_change t i (actions.Hears r) x past pages;
      job = one_party t i (actions.Hears r) x past pages;
      devices = put_self t.system.device (wanted_place t.system i) (device_for t.system i) refl;
    }

-- or has no memory
abbrev pub choked : JobState → JobState
choked p = record p { client = client_after_stop NoMem Memory p.client; session = with_cause p.session ClientOutOfMemory }

pub by_choking : (t : Ghost) (i : ℕ) (x : Wires) (past : JoinHistory) (pages : List JoinHistory) → IsRunning (job_state t i).client.stage → StepsTo t i (By i actions.RunsOutOfMemory ∷ []) x past pages (choked (job_state t i))
by_choking t i x past pages runs =
    record {
      legal = (runs, tt);
      change = one_change t i actions.RunsOutOfMemory x past pages;
      job = one_party t i actions.RunsOutOfMemory x past pages;
      devices = put_self t.system.device (wanted_place t.system i) (device_for t.system i) refl;
    }

-- the one behind the other

abbrev heard_then : Ghost → ℕ → AbstractReply → SystemState
heard_then t i r = after_transition t.system (By i (actions.Hears r))

pub by_both : (t : Ghost) (i : ℕ) (r : AbstractReply) (x : Wires) (past : JoinHistory) (pages : List JoinHistory) → IsRunning (job_state t i).client.stage → (job_state t i).due ≡ r ∷ [] → IsRunning (job_after_reply (job_state t i) r).client.stage →
    StepsTo t i (By i (actions.Hears r) ∷ By i actions.RunsOutOfMemory ∷ []) x past pages (choked (job_after_reply (job_state t i) r))
by_both t i r x past pages runs due still =
    let s = heard_then t i r in
    let me : s.job i ≡ job_after_reply (job_state t i) r = put_there t.system.job i (job_after_reply (job_state t i) r) in
    record {
      legal = ((runs, ([], due)), (subst (λ (p : JobState). IsRunning p.client.stage) (sym me) still, tt));
      change = record {
        users = refl;
        infos = refl;
        count = refl;
        jobs = refl;
        make = refl;
        places = refl;
        job = λ j n. put_elsewhere s.job i (choked (s.job i)) j n ∙ put_elsewhere t.system.job i (job_after_reply (job_state t i) r) j n;
        wires = λ j n. put_elsewhere t.wires i x j n;
        history = λ j n. put_elsewhere t.history i past j n;
        pages = λ j n. put_elsewhere t.pages i pages j n;
      };
      job = put_there s.job i (choked (s.job i)) ∙ ap choked me;
      devices = λ k. put_self s.device (wanted_place s i) (device_for s i) refl k ∙ put_self t.system.device (wanted_place t.system i) (device_for t.system i) refl k;
    }
