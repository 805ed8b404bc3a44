-- A run in which a stranger speaks.
use Rattle.std.proofs.Common.{◌≡◌, inl, inr, false, true, Some, None, [], ◌∷◌, refl, arith}
use Rattle.std.proofs.lemmas.List.Elements.{All-from_recursion}
use Rattle.dispatch.specs.Table.{fresh_table}
use Rattle.scan_job.specs.declared.job.Job.{Job}
use Rattle.scan_job.specs.JobSize.{HasCount}
use Rattle.net_client.specs.ClientStates.{IsNewClient}
use Rattle.net_jobs.specs.JobSteps.{StepsLead}
use Rattle.saned_core.specs.DaemonStates.{on_session_slot, session_slot_of, with_session_slot}
use Rattle.saned_serve.specs.Journal.{projection_of}
use Rattle.interleaving.specs.Interleavings.{bytes_heard, bytes_sent, connections_accepted, connections_made, job_journal, server_journal}
use Rattle.interleaving.specs.HandingOn.{HandsOn}
use Rattle.interleaving.specs.Parts.{ControlHandsOnAmong, DataIsFromDaemon}
use Rattle.programs_refine.specs.KeepingAmong.{ProgramsKeepAmongStrangers, StrangerComesIsARun, StrangerComesIsKept, stranger_acts}
use Rattle.programs_refine.specs.WorkedRuns.{lost_client, new_core}
use Rattle.programs_refine.proofs.WorkedRuns.{core_1, core_2, core_3, loses_leads, new_is_fit, none_owned, one_job, starves, unused_behind}

pub stranger_comes : StrangerComesIsARun
unfolding server_journal job_journal HandsOn ControlHandsOnAmong DataIsFromDaemon projection_of session_slot_of on_session_slot with_session_slot bytes_sent bytes_heard connections_accepted connections_made
stranger_comes job c registry users strings stream port byte new count = (
  record {
    new = record { slots = refl; opened = refl };
    owns = none_owned (job ∷ []);
    counts = All-from_recursion (λ (j : Job). HasCount j.task) (job ∷ []) (count, tt);
    loops = record {
      first = λ i. c;
      fresh = λ i other e. one_job job other i (λ k j. IsNewClient j c) e new;
      loops = λ i other e. one_job job other i (λ k j. StepsLead c (job_journal k (stranger_acts port byte)) (lost_client c)) e (loses_leads job c new);
    };
    end = core_3 registry users strings stream port;
    before = None;
    after = None;
    serves = record {
      is_journal = ((((tt, (refl, λ e. (refl, omega arith))), ((refl, refl, refl, refl), λ e. absurd (let clash : false ≡ true = e in cc))), ((refl, refl, refl, refl, refl, refl), λ e. absurd (let clash : false ≡ true = e in cc))), ((refl, refl, (λ e. let clash : byte ∷ [] ≡ [] = e in absurd (cc)), omega arith), λ e. absurd (let clash : false ≡ true = e in cc)));
      run = (core_2 registry users strings stream port, (core_2 registry users strings stream port, (core_1 registry users strings stream port, (new_core registry users strings stream, refl, record { room = refl; numbered = refl; after = refl }), record { front = refl; most = inr refl; after = refl }), refl), (starves registry users strings stream port byte, refl));
      net = refl;
      unused = λ id low. unused_behind id port byte low;
    };
    hands_on = (((((tt, inl refl), inl refl), inl refl), inl refl), tt);
    from_daemon = (tt, tt);
  },
  λ h. let own = h.0.0.0.0.1 in let clash : None ≡ Some own.0 = own.1 in cc,
)

pub stranger_kept : ProgramsKeepAmongStrangers → StrangerComesIsKept
stranger_kept all sources other devices job c users strings stream seed port byte seeded names limits fit new known =
    all sources other devices (job ∷ []) _ (new_core (fresh_table devices) users strings stream) (stranger_acts port byte) _ (new_is_fit devices job users strings stream seed seeded names limits fit) known
    (stranger_comes job c (fresh_table devices) users strings stream port byte new fit.1).0
