-- A run in which the loop of one job is killed within a step, and no stranger speaks.
use Rattle.std.proofs.Common.{◌≡◌, ◌∙◌, ℕ, zero, suc, false, true, [], ◌∷◌, refl, ap}
use Rattle.std.proofs.lemmas.List.Elements.{All-from_recursion}
use Rattle.scan_job.specs.declared.job.Job.{Job}
use Rattle.scan_job.specs.JobSize.{HasCount}
use Rattle.net_client.specs.ClientStates.{ClientState, IsNewClient}
use Rattle.net_jobs.specs.JobSteps.{StepsLead}
use Rattle.dispatch.specs.Table.{fresh_table}
use Rattle.interleaving.specs.Interleavings.{job_journal, server_journal}
use Rattle.interleaving.specs.AmongStrangers.{owned_by_none}
use Rattle.interleaving.specs.Parts.{ControlHandsOn, DataIsFromDaemon}
use Rattle.programs_refine.specs.KilledAlone.{KilledIsARun, KilledIsKept, killed_alone}
use Rattle.programs_refine.specs.StoppedAmong.{but_the_second, looks_once_more, lost_or_killed}
use Rattle.programs_refine.specs.StoppedLoops.{ProgramsKeepEach, StopsWithin}
use Rattle.programs_refine.specs.WorkedRuns.{lost_client, new_core}
use Rattle.programs_refine.proofs.KilledAmong.{first_of, killed_is_fit, two_jobs}
use Rattle.programs_refine.proofs.WorkedRuns.{loses_leads, lost_at_once, none_owned}

second_stops : (c b : ClientState) (i : ℕ) → but_the_second i ≡ false → StopsWithin (first_of c b i) (job_journal i killed_alone) (lost_or_killed c b i)
unfolding job_journal
second_stops c b zero e = absurd (let clash : true ≡ false = e in cc)
second_stops c b (suc zero) e = record { step = looks_once_more; before = []; steps_are = refl; came = tt; leads = refl }
second_stops c b (suc (suc i)) e = absurd (let clash : true ≡ false = e in cc)

first_leads : (one : Job) (c : ClientState) → IsNewClient one c → StepsLead c (job_journal 0 killed_alone) (lost_client c)
unfolding job_journal
first_leads one c new = loses_leads one c new

-- nothing came to a new client, so nothing came too soon
never_looks : (two : Job) (b last : ClientState) → IsNewClient two b → StepsLead b (job_journal 1 killed_alone) last → ⊥
unfolding job_journal
never_looks two b last new leads = leads.3.early.1 (ap (λ (z : ClientState). z.input.rest) leads.1 ∙ ap (λ (z : ClientState). z.input.rest) new.value)

pub killed_beside : KilledIsARun
unfolding server_journal job_journal ControlHandsOn DataIsFromDaemon
killed_beside one two c b registry users strings stream new newer count more =
    let alone = lost_at_once one c registry users strings stream new count in (
      record {
        new = alone.new;
        owns = none_owned (one ∷ two ∷ []);
        counts = All-from_recursion (λ (j : Job). HasCount j.task) (one ∷ two ∷ []) (count, (more, tt));
        loops = record {
          first = first_of c b;
          fresh = λ i job at. two_jobs one two job i (λ k j. IsNewClient j (first_of c b k)) at new newer;
          loops = λ i job at. two_jobs one two job i (λ k j. but_the_second k ≡ true → StepsLead (first_of c b k) (job_journal k killed_alone) (lost_or_killed c b k)) at (λ on. first_leads one c new) (λ on. absurd (let clash : false ≡ true = on in cc));
          stops = second_stops c b;
        };
        end = alone.end;
        before = alone.before;
        after = alone.after;
        serves = alone.serves;
        hands_on = ((tt, tt), tt);
        from_daemon = ((tt, tt), tt);
      },
      λ last r. never_looks two (r.loops.first 1) (last 1) (r.loops.fresh 1 two refl) (r.loops.loops 1 two refl),
    )

pub killed_alone_kept : ProgramsKeepEach → KilledIsKept
killed_alone_kept all devices one two c b users strings stream seed seeded names limits fit fitter new newer =
    all devices (one ∷ two ∷ []) owned_by_none (new_core (fresh_table devices) users strings stream) but_the_second killed_alone (lost_or_killed c b)
    (killed_is_fit devices one two users strings stream seed seeded names limits fit fitter)
    (killed_beside one two c b (fresh_table devices) users strings stream new newer fit.1 fitter.1).0
