-- A server that has no memory for a turn, beside a job whose connection is lost.
use Rattle.std.proofs.Common.{[], ◌∷◌, refl}
use Rattle.std.proofs.lemmas.List.Elements.{All-from_recursion}
use Rattle.scan_job.specs.declared.job.Job.{Job}
use Rattle.scan_job.specs.JobSize.{HasCount}
use Rattle.saned_serve.specs.Journal.{projection_of}
use Rattle.saned_serve.specs.declared.serving.ServeEnd.TheVariants as endings
use Rattle.interleaving.specs.Interleavings.{job_journal, server_journal}
use Rattle.interleaving.specs.AmongStrangers.{owned_by_none}
use Rattle.interleaving.specs.Parts.{ControlHandsOn, DataIsFromDaemon}
use Rattle.programs_refine.specs.LedInto.{LoopLeads, LoopsLeadIntoRuns}
use Rattle.programs_refine.specs.WorkedRuns.{StoppedInterleaves, StoppedIsARun, lost_client, new_core, new_server, stopped_acts}
use Rattle.programs_refine.proofs.WorkedRuns.{loses_leads, none_owned, one_job}

pub stopped_interleaves : StoppedInterleaves
unfolding server_journal job_journal projection_of
stopped_interleaves limits job c registry users strings stream new = record {
  served = record {
    turns = [];
    journal = _;
    closing = ([], tt, refl);
    leads = record { is_journal = (tt, tt); run = (new_core registry users strings stream, refl, refl); net = refl; unused = λ id low. refl };
    over = record { gone = λ id. refl; dark = λ id. refl };
    ends = refl;
  };
  server = refl;
  loops = λ i other at. one_job job other i (λ k j. LoopLeads j (job_journal k stopped_acts) (lost_client c)) at (record { first = c; fresh = new; leads = loses_leads job c new });
}

pub stopped_run : LoopsLeadIntoRuns → StoppedIsARun
unfolding ControlHandsOn DataIsFromDaemon
stopped_run lead limits job c registry users strings stream new count =
    lead limits (new_server registry users strings stream) (new_server registry users strings stream) endings.NoMem (job ∷ []) owned_by_none stopped_acts (λ i. lost_client c)
    (stopped_interleaves limits job c registry users strings stream new)
    (record { slots = refl; opened = refl })
    (none_owned (job ∷ []))
    (All-from_recursion (λ (j : Job). HasCount j.task) (job ∷ []) (count, tt))
    ((tt, tt), tt)
    (tt, tt)
