-- That both programs' contracts lead into the law on loops.
use Rattle.std.specs.Prelude.{length, option_map, slice_get, slice_index_or, ◌<◌}
use Rattle.std.proofs.Common.{◌≡◌, ◌∙◌, ℕ, zero, suc, Some, None, List, [], ◌∷◌, arith, refl, sym, ap, subst}
use Rattle.std.proofs.lemmas.Option.{slice_get-map}
use Rattle.scan_job.specs.declared.job.Job.{Job}
use Rattle.event_world.specs.Worlds.{IsFitJob}
use Rattle.net_client.specs.ClientStates.{ClientState}
use Rattle.interleaving.specs.Interleavings.{job_journal}
use Rattle.programs_refine.specs.AmongStrangers.{LoopsLeadIntoRunsAmong}
use Rattle.programs_refine.specs.Keeping.{AreFit}
use Rattle.programs_refine.specs.LedInto.{LoopLeads}
use Rattle.programs_refine.specs.Programs.{Acts}
use Rattle.programs_refine.specs.ToldAmong.{ProgramsKeepAllAmongStrangers}
use Rattle.dispatch.specs.Table.{fresh_table}
use Rattle.config_pages.specs.Devices.{calls_of_lines}
use Rattle.config_pages.specs.InputTexts.{with_calls}
use Rattle.scanimage_cli.specs.Whole.{IsDoneAt, ProgramState}
use Rattle.programs_lead.specs.ExitLaws.{AreLastClients, ExitsInterleave, ExitsLead, WellAtHostsAreExits, begun_of, ended_of, limits_of}
use Rattle.programs_lead.specs.Exits.{ActTogether, DaemonExit, NetExit, jobs_of}

pub at_hosts : WellAtHostsAreExits
at_hosts words was now ran remote at = record {
  exit = record {
    words = words;
    was = was;
    now = now;
    ran = ran;
    remote = remote;
    at_host = at;
    done = subst (λ location. IsDoneAt location (fresh_table ran.devices) ran.plan.job ran.carried.password read now) at ran.carried.does;
  };
  words_are = refl;
  begun = refl;
  ended = refl;
  host = refl;
}
  where
    read : ProgramState
    read = record was { inputs = with_calls (calls_of_lines ran.lines) ran.configured }

-- the job of a place is that of a run
record JobOf (exits : List NetExit) (i : ℕ) (job : Job) : Type 0 where
  pub exit : NetExit
  pub at : slice_get exits i ≡ Some exit
  pub is : exit.done.job ≡ job

job_at : (exits : List NetExit) (i : ℕ) (job : Job) → slice_get (jobs_of exits) i ≡ Some job → JobOf exits i job
job_at [] i job e = absurd (let clash : None ≡ Some job = e in cc)
job_at (x ∷ exits) zero job e = record { exit = x; at = refl; is = (let same : Some x.done.job ≡ Some job = e in cc) }
job_at (x ∷ exits) (suc i) job e = let r = job_at exits i job e in record { exit = r.exit; at = r.at; is = r.is }

pub job_there : (exits : List NetExit) (i : ℕ) (e : NetExit) → slice_get exits i ≡ Some e → slice_get (jobs_of exits) i ≡ Some e.done.job
job_there exits i e at = slice_get-map (λ (x : NetExit). x.done.job) exits i ∙ ap (option_map (λ (x : NetExit). x.done.job)) at

loop_of : (daemon : DaemonExit) (exits : List NetExit) (acts : Acts) (last : ℕ → ClientState) → ActTogether daemon exits acts → AreLastClients exits last → (i : ℕ) (job : Job) → JobOf exits i job → LoopLeads job (job_journal i acts) (last i)
loop_of daemon exits acts last act ends i job r =
    let loop = r.exit.done.ran.loop in
    subst (λ j. LoopLeads j (job_journal i acts) (last i)) r.is
    (subst (λ steps. LoopLeads r.exit.done.job steps (last i)) (sym (act.loops i r.exit r.at))
    (subst (λ c. LoopLeads r.exit.done.job loop.steps.steps c) (sym (ends i r.exit r.at))
    (record { first = loop.first; fresh = loop.fresh; leads = loop.steps.lead })))

pub interleave : ExitsInterleave
interleave daemon exits acts last act ends = record {
  served = daemon.served.serves.served;
  server = act.server;
  loops = λ i job at. loop_of daemon exits acts last act ends i job (job_at exits i job at);
}

fit_at : (exits : List NetExit) (k : ℕ) (d : Job) → k < length (jobs_of exits) → IsFitJob (slice_index_or (jobs_of exits) k d)
fit_at [] k d low = absurd (omega (arith, low))
fit_at (x ∷ exits) zero d low = x.done.fits
fit_at (x ∷ exits) (suc k) d low = fit_at exits k d (omega (arith, low))

pub fit : (daemon : DaemonExit) (exits : List NetExit) → AreFit daemon.served.devices (jobs_of exits) daemon.served.first
fit daemon exits =
    let b = daemon.served.begun in
    record {
      daemon = record { registry = b.registry; slots = b.none; opened = b.opened };
      seed = daemon.served.plan.seed;
      seeded = b.seed;
      names = b.names;
      limits = b.limits;
      fit = λ k d low. fit_at exits k d low;
    }

pub lead : ExitsInterleave → LoopsLeadIntoRunsAmong → ProgramsKeepAllAmongStrangers → ExitsLead
lead weave runs keep daemon exits owner acts last act connected ends =
    let b = daemon.served.begun in
    keep daemon.served.devices (jobs_of exits) owner daemon.served.first acts last (fit daemon exits)
    (runs (limits_of daemon) (begun_of daemon) (ended_of daemon) daemon.served.serves.end (jobs_of exits) owner acts last
    (weave daemon exits acts last act ends) (record { slots = b.none; opened = b.opened }) connected.owns
    (λ k d low. (fit_at exits k d low).1) connected.hands_on connected.from_daemon)
