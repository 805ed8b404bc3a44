-- What a world promises of jobs among strangers, of the programs.
use Rattle.std.proofs.Common.{◌≡◌, ℕ, Bool, true, false, Some, None, List, [], ◌∷◌, ◌++◌, refl, sym, ap, subst, length}
use Rattle.page_sources.specs.SourceView.{source_state}
use Rattle.netpbm.specs.Pnm.{IsWhole}
use Rattle.device_api.specs.State.{DeviceState}
use Rattle.dispatch.specs.Table.{fresh_table}
use Rattle.scan_job.specs.declared.job.Job.{Job}
use Rattle.client_replies.specs.ProtocolStates.{is_running}
use Rattle.frame_join.proofs.GivenKept.{whole_front}
use Rattle.net_client.specs.ClientStates.{ClientState}
use Rattle.net_jobs.specs.JobSteps.{given_by_steps}
use Rattle.saned_core.specs.DaemonStates.{Core}
use Rattle.interleaving.specs.Interleavings.{job_journal}
use Rattle.interleaving.specs.HandingOn.{Owner}
use Rattle.event_world.specs.JobEvents.{is_done}
use Rattle.event_world.specs.Worlds.{WorldCore}
use Rattle.world_refines.specs.NewWorlds.{IsNewDaemon}
use Rattle.strangers.specs.Together.{AllIsKeptAmongStrangers, JointEvent, events_among}
use Rattle.scan_world.specs.Histories.{History, LedTo, of_jobs}
use Rattle.scan_world.specs.Laws.{AllIsRight}
use Rattle.scan_world.proofs.Elsewhere.{elsewhere, unnamed}
use Rattle.programs_refine.specs.AmongStrangers.{LeadsAmong}
use Rattle.programs_refine.specs.Keeping.{AreFit, LoopIsKept, StoppedIsKept}
use Rattle.programs_refine.specs.KeepingAmong.{AreKnown, stranger_acts}
use Rattle.programs_refine.specs.Programs.{Acts, IsWorldOf}
use Rattle.programs_refine.specs.ToldAmong.{AllAreKnown, AllLoopsAreToldAmong, NoneIsToldWhole, ProgramsKeepAllAmongStrangers, StrangerComesIsTold, joint_history}
use Rattle.programs_refine.specs.WorkedRuns.{new_core}
use Rattle.programs_refine.proofs.Keeping.{any_source, have_any, kept_by, losses_of_connections, no_loads, stopped_by}
use Rattle.programs_refine.proofs.KeepingAmong.{are_then, keep_turn, runs_after, theirs_then, undone_went_out}
use Rattle.programs_refine.proofs.Outgoing.{never_both}
use Rattle.programs_refine.proofs.Programs.{programs_among}
use Rattle.programs_refine.proofs.StrangerComes.{stranger_comes}
use Rattle.programs_refine.proofs.WorkedRuns.{new_is_fit}
use Rattle.md5_auth.specs.Challenges.{HasGiven}

some_known : (devices : List DeviceState) (job : Job) → AreKnown any_source (elsewhere devices job) devices
some_known devices job = record { have = have_any devices; unnamed = unnamed devices job }

pub all_known : AllAreKnown
all_known devices job = record { sources = any_source; other = elsewhere devices job; known = some_known devices job }

led_among : (devices : List DeviceState) (jobs : List Job) (d : Core) (first v : WorldCore) (events : List JointEvent) → (fit : AreFit devices jobs d) → IsWorldOf d jobs first → LeadsAmong source_state first events v → LedTo (joint_history devices fit.seed jobs d events) v
led_among devices jobs d first v events fit is l = record {
  first = first;
  endpoints = is.endpoints;
  daemon = subst (IsNewDaemon devices) (sym is.daemon) fit.daemon;
  users_are = ap (λ (x : Core). x.users) is.daemon;
  seeded = subst (λ (x : Core). HasGiven fit.seed 0 x.stream) (sym is.daemon) fit.seeded;
  names = fit.names;
  limits = fit.limits;
  fit = fit.fit;
  loads = no_loads (events_among events) l.are;
  runs = l.runs;
}

-- of no job
told_none : (devices : List DeviceState) (owner : Owner) (d : Core) (acts : Acts) (last : ℕ → ClientState) → AreFit devices [] d → AllLoopsAreToldAmong devices [] owner d acts last
told_none devices owner d acts last fit =
    let w : WorldCore = record { daemon = d; endpoints = [] } in
    record {
      seed = fit.seed;
      events = [];
      are = tt;
      strangers = tt;
      v = w;
      led = led_among devices [] d w w [] fit (record { daemon = refl; endpoints = tt }) (record { are = tt; runs = refl });
      each = λ i job at over. absurd (let wrong : None ≡ Some job = at in cc);
      stopped = λ i job at runs. absurd (let wrong : None ≡ Some job = at in cc);
    }

pub all_told : AllIsKeptAmongStrangers → AllIsRight → ProgramsKeepAllAmongStrangers
all_told kept right devices [] owner d acts last fit r = told_none devices owner d acts last fit
all_told kept right devices (job ∷ jobs) owner d acts last fit r =
    let a = programs_among source_state (job ∷ jobs) owner d acts last r (λ w is. keep_turn kept any_source (elsewhere devices job) devices (job ∷ jobs) d w fit (some_known devices job) is) in
    let x = a.leads_on in
    let events = x.serves.events ++ of_jobs x.losses in
    let leads : LeadsAmong source_state a.w events x.v =
    record { are = are_then x.serves.events x.losses x.serves.leads.are (losses_of_connections x.losses x.are); runs = runs_after x.serves.events x.losses a.w x.serves.v x.v x.serves.leads.runs x.leads_on }
    in
    let led = led_among devices (job ∷ jobs) d a.w x.v events fit a.is_of leads in
    let h = joint_history devices fit.seed (job ∷ jobs) d events in
    record {
      seed = fit.seed;
      events = events;
      are = leads.are;
      strangers = theirs_then owner x.serves.events x.losses x.serves.strangers;
      v = x.v;
      led = led;
      each = λ i other at over. kept_by right h x.v acts i other (last i) led at over (x.jobs_are i other at over);
      stopped = λ i other at runs. stopped_by right h x.v acts i other led at (x.stopped_are i other at runs);
    }

-- ---- the lie

pub kept_completes_none : (h : History) (v : WorldCore) (i : ℕ) (job : Job) (acts : Acts) (last : ClientState) → (is_running last.outcome ≡ false → LoopIsKept h v i job acts last) → (is_running last.outcome ≡ true → StoppedIsKept h v i job acts)
    → is_done last.outcome ≡ false → IsWhole (given_by_steps (job_journal i acts)) → ⊥
kept_completes_none h v i job acts last each stopped undone whole = by (is_running last.outcome) refl
  where
    by : (b : Bool) → is_running last.outcome ≡ b → ⊥
    by true runs = (stopped runs).not_whole whole
    by false over =
        let x = each over in
        let went = undone_went_out _ _ _ _ _ (λ done. never_both (is_done last.outcome) done.1 undone) x.ends.went_out in
        let told = x.file.whole x.ends.text (length x.ends.text) refl (whole_front x.ends.text (subst IsWhole (sym went) whole)) in
        never_both (is_done last.outcome) (ap is_done told.2) undone

pub none_whole : NoneIsToldWhole
none_whole devices jobs owner d acts last k i job at undone whole = kept_completes_none _ k.v i job acts (last i) (k.each i job at) (k.stopped i job at) undone whole

-- ---- a run

pub stranger_told : ProgramsKeepAllAmongStrangers → StrangerComesIsTold
stranger_told all devices job c users strings stream seed port byte seeded names limits fit new =
    all devices (job ∷ []) _ (new_core (fresh_table devices) users strings stream) (stranger_acts port byte) _ (new_is_fit devices job users strings stream seed seeded names limits fit)
    (stranger_comes job c (fresh_table devices) users strings stream port byte new fit.1).0
