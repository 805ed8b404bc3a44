-- A run in which a stranger speaks, and the loop of one job is killed within a step.
use Rattle.std.proofs.Common.{◌≡◌, ◌∙◌, ℕ, zero, suc, false, true, Some, None, List, [], ◌∷◌, All, slice_get, refl, ap, subst}
use Rattle.std.proofs.lemmas.List.Elements.{All-from_recursion}
use Rattle.rand_chacha.specs.ChaCha.{ChaCha}
use Rattle.md5_auth.specs.declared.users.Entry.{Entry}
use Rattle.device_api.specs.ScannerLimits.{HasLimits}
use Rattle.device_api.specs.State.{DeviceState}
use Rattle.dispatch.specs.RegistryFault.{HaveOwnNames}
use Rattle.dispatch.specs.Table.{fresh_table}
use Rattle.scan_job.specs.declared.job.Job.{Job}
use Rattle.scan_job.specs.JobSize.{HasCount}
use Rattle.net_client.specs.ClientStates.{ClientState, IsNewClient}
use Rattle.net_jobs.specs.JobSteps.{StepsLead}
use Rattle.saned_requests.specs.declared.session.StringSize.{StringSize}
use Rattle.interleaving.specs.Interleavings.{job_journal, server_journal}
use Rattle.interleaving.specs.AmongStrangers.{owned_by_none}
use Rattle.interleaving.specs.Parts.{ControlHandsOnAmong, DataIsFromDaemon}
use Rattle.event_world.specs.Worlds.{IsFitJob}
use Rattle.programs_refine.specs.Keeping.{AreFit}
use Rattle.programs_refine.specs.StoppedLoops.{StopsWithin}
use Rattle.programs_refine.specs.StoppedAmong.{KilledAmongIsARun, KilledAmongIsKept, ProgramsKeepEachAmongStrangers, but_the_second, killed_acts, looks_once_more, lost_or_killed}
use Rattle.programs_refine.specs.ToldOfEach.{KilledAmongIsTold, ProgramsTellEachAmongStrangers}
use Rattle.programs_refine.specs.WorkedRuns.{lost_client, new_core}
use Rattle.programs_refine.proofs.StrangerComes.{stranger_comes}
use Rattle.programs_refine.proofs.WorkedRuns.{loses_leads, none_owned}
use Rattle.md5_auth.specs.Challenges.{HasGiven}

-- ---- of two jobs

pub two_jobs : (one two job : Job) (i : ℕ) (P : ℕ → Job → Type 0) → slice_get (one ∷ two ∷ []) i ≡ Some job → P 0 one → P 1 two → P i job
two_jobs one two job zero P e p q = let same : Some one ≡ Some job = e in let is : one ≡ job = cc in subst (P 0) is p
two_jobs one two job (suc zero) P e p q = let same : Some two ≡ Some job = e in let is : two ≡ job = cc in subst (P 1) is q
two_jobs one two job (suc (suc i)) P e p q = absurd (let clash : None ≡ Some job = e in cc)

abbrev pub first_of : ClientState → ClientState → ℕ → ClientState
first_of c b zero = c
first_of c b (suc i) = b

-- the second alone stops, and within its first step
second_stops : (c b : ClientState) (port byte i : ℕ) → but_the_second i ≡ false → StopsWithin (first_of c b i) (job_journal i (killed_acts port byte)) (lost_or_killed c b i)
unfolding job_journal
second_stops c b port byte zero e = absurd (let clash : true ≡ false = e in cc)
second_stops c b port byte (suc zero) e = record { step = looks_once_more; before = []; steps_are = refl; came = tt; leads = refl }
second_stops c b port byte (suc (suc i)) e = absurd (let clash : true ≡ false = e in cc)

first_leads : (one : Job) (c : ClientState) (port byte : ℕ) → IsNewClient one c → StepsLead c (job_journal 0 (killed_acts port byte)) (lost_client c)
unfolding job_journal
first_leads one c port byte new = loses_leads one c new

-- nothing came to a new client, so nothing came too soon
never_looks : (two : Job) (b last : ClientState) (port byte : ℕ) → IsNewClient two b → StepsLead b (job_journal 1 (killed_acts port byte)) last → ⊥
unfolding job_journal
never_looks two b last port byte new leads = leads.3.early.1 (ap (λ (z : ClientState). z.input.rest) leads.1 ∙ ap (λ (z : ClientState). z.input.rest) new.value)

pub killed_run : KilledAmongIsARun
unfolding server_journal job_journal ControlHandsOnAmong DataIsFromDaemon
killed_run one two c b registry users strings stream port byte new newer count more =
    let alone = (stranger_comes one c registry users strings stream port byte new count).0 in (
      record {
        new = alone.new;
        owns = none_owned (one ∷ two ∷ []);
        counts = All-from_recursion (λ (j : Job). HasCount j.task) (one ∷ two ∷ []) (count, (more, tt));
        loops = record {
          first = first_of c b;
          fresh = λ i job at. two_jobs one two job i (λ k j. IsNewClient j (first_of c b k)) at new newer;
          loops = λ i job at. two_jobs one two job i (λ k j. but_the_second k ≡ true → StepsLead (first_of c b k) (job_journal k (killed_acts port byte)) (lost_or_killed c b k)) at (λ on. first_leads one c port byte new) (λ on. absurd (let clash : false ≡ true = on in cc));
          stops = second_stops c b port byte;
        };
        end = alone.end;
        before = alone.before;
        after = alone.after;
        serves = alone.serves;
        hands_on = (alone.hands_on, tt);
        from_daemon = (alone.from_daemon, tt);
      },
      λ last r. never_looks two (r.loops.first 1) (last 1) port byte (r.loops.fresh 1 two refl) (r.loops.loops 1 two refl),
    )

-- what a world takes of devices and jobs it takes of these
pub killed_is_fit : (devices : List DeviceState) (one two : Job) (users : List Entry) (strings : StringSize) (stream : ChaCha) (seed : List ℕ) → HasGiven seed 0 stream → HaveOwnNames devices → All HasLimits devices → IsFitJob one → IsFitJob two → AreFit devices (one ∷ two ∷ []) (new_core (fresh_table devices) users strings stream)
killed_is_fit devices one two users strings stream seed seeded names limits fit fitter = record { daemon = record { registry = refl; slots = refl; opened = refl }; seed = seed; seeded = seeded; names = names; limits = limits; fit = All-from_recursion (λ (j : Job). IsFitJob j) (one ∷ two ∷ []) (fit, (fitter, tt)) }

pub killed_told : ProgramsTellEachAmongStrangers → KilledAmongIsTold
killed_told all devices one two c b users strings stream seed port byte seeded names limits fit fitter new newer =
    all devices (one ∷ two ∷ []) owned_by_none (new_core (fresh_table devices) users strings stream) but_the_second (killed_acts port byte) (lost_or_killed c b)
    (killed_is_fit devices one two users strings stream seed seeded names limits fit fitter) (killed_run one two c b (fresh_table devices) users strings stream port byte new newer fit.1 fitter.1).0

pub killed_kept : ProgramsKeepEachAmongStrangers → KilledAmongIsKept
killed_kept all sources other devices one two c b users strings stream seed port byte seeded names limits fit fitter new newer known =
    all sources other devices (one ∷ two ∷ []) owned_by_none (new_core (fresh_table devices) users strings stream) but_the_second (killed_acts port byte) (lost_or_killed c b)
    (killed_is_fit devices one two users strings stream seed seeded names limits fit fitter)
    known
    (killed_run one two c b (fresh_table devices) users strings stream port byte new newer fit.1 fitter.1).0
