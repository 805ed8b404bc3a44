-- The files of a job stand behind each event.
use Rattle.std.proofs.Common.{◌≡◌, ◌∙◌, ℕ, ◌+◌, ◌<◌, ◌≤◌, ◌⊎◌, Bool, true, false, Some, List, [], ◌∷◌, ◌++◌, length, slice_get, nat_lt, if◌then◌else◌, refl, sym, ap, subst, arith, inl, inr, length-append}
use Rattle.std.specs.Prelude.{◌&&◌}
use Rattle.std.proofs.lemmas.Bool.Decides.{nat_tests}
use Rattle.frame_join.specs.FrameHistory.{JoinHistory, IsJoined, empty_history, after_pull}
use Rattle.frame_join.proofs.EndSteps.{whole_shows}
use Rattle.scan_job.specs.declared.job.Task.{Task}
use Rattle.scan_job.specs.declared.job.Task.TheVariants as tasks
use Rattle.scan_job.specs.declared.outcome.Outcome.{Outcome}
use Rattle.scan_job.specs.declared.outcome.Outcome.TheVariants.{Running, Done, Ended}
use Rattle.client_replies.specs.declared.progress.JobTarget.{JobTarget}
use Rattle.client_replies.specs.declared.progress.Progress.{Progress}
use Rattle.client_replies.specs.declared.progress.Progress.TheVariants as stages
use Rattle.client_replies.specs.ProtocolStates.{HistoryFits, is_batch, is_ended, is_running, is_turning, next_file, scans, turns}
use Rattle.net_client.specs.ClientStates.{ClientState, ClientRepresents}
use Rattle.event_world.specs.declared.endpoint.Endpoint.{Endpoint}
use Rattle.event_world.specs.Endpoints.{laid_by}
use Rattle.event_world.specs.JobEvents.{with_last_page, is_done}
use Rattle.event_world.specs.FileDraining.{HasDrained, Drains, HasFiles, KeepsFile, HasPlace, HoldsHistory, RunsDry, TurnsTo}
use Rattle.event_world.specs.FileInvariant.{ArePages, FilesRepresent, Underway, AllLaid, HasMore, HasNumber, IsAmong, IsPage, FileIsUnderWay}
use Rattle.event_world.proofs.PageNumbers.{number_at}
use Rattle.event_world.proofs.Pulls.{files_laid, laid_as, snoc_at}

-- ---- what was told of a client that ran

-- The client goes on from a history to another, of which as much was given.
pub record IsTold (old : ClientState) (past : JoinHistory) (new : ClientState) : Type 0 where
  pub now : JoinHistory
  pub given : now.given ≡ past.given
  pub serves : ClientRepresents now new
  pub target : new.target ≡ old.target
  pub number : (pages : ℕ) → HasNumber old.target.task old.outcome old.progress old.notes.file pages → HasNumber old.target.task new.outcome new.progress new.notes.file pages

-- ---- what is drained

done_runs : (o : Outcome) → is_done o ≡ true → is_ended o ≡ false
done_runs Running e = refl
done_runs (Done reports) e = refl
done_runs (Ended status why) e = absurd (let clash : false ≡ true = e in cc)

done_is_over : (o : Outcome) → is_done o ≡ true → is_running o ≡ false
done_is_over Running e = absurd (let clash : false ≡ true = e in cc)
done_is_over (Done reports) e = refl
done_is_over (Ended status why) e = refl

turns_running : (o : Outcome) (progress : Progress) → turns o progress ≡ true → is_running o ≡ true
turns_running Running progress e = refl
turns_running (Done reports) progress e = e
turns_running (Ended status why) progress e = e

turns_turning : (o : Outcome) (progress : Progress) → turns o progress ≡ true → is_turning progress ≡ true
turns_turning Running progress e = e
turns_turning (Done reports) progress e = absurd (let clash : false ≡ true = e in cc)
turns_turning (Ended status why) progress e = absurd (let clash : false ≡ true = e in cc)

running_is_not_done : (o : Outcome) → is_running o ≡ true → is_done o ≡ true → ⊥
running_is_not_done Running r e = let clash : false ≡ true = e in cc
running_is_not_done (Done reports) r e = let clash : false ≡ true = r in cc
running_is_not_done (Ended status why) r e = let clash : false ≡ true = r in cc

-- a job without files that is done has no picture
unjoined : (task : Task) (o : Outcome) (progress : Progress) (past : JoinHistory) → scans task ≡ false → is_done o ≡ true → HistoryFits task o progress past → IsJoined past → ⊥
unjoined task Running progress past s d f = absurd (let clash : false ≡ true = d in cc)
unjoined task (Ended status why) progress past s d f = absurd (let clash : false ≡ true = d in cc)
unjoined tasks.List (Done reports) progress past s d f = f
unjoined tasks.Show (Done reports) progress past s d f = f
unjoined tasks.SetOnly (Done reports) progress past s d f = f
unjoined tasks.Scan (Done reports) progress past s d f = absurd (let clash : true ≡ false = s in cc)
unjoined (tasks.Batch count) (Done reports) progress past s d f = absurd (let clash : true ≡ false = s in cc)

few_pages : (count file pages : ℕ) → file ≡ pages + 1 → file ≤ count → count ≤ 16 → pages < 16
few_pages count file pages e most few = omega (arith, e, most, few)

-- where a page is turned there is a place for it
pub place_for : (task : Task) (file pages : ℕ) → file ≡ pages + 1 → IsAmong task file → pages < 16
place_for (tasks.Batch count) file pages e among = few_pages count file pages e among.0 among.1
place_for tasks.List file pages e among = omega (arith, e, among)
place_for tasks.Show file pages e among = omega (arith, e, among)
place_for tasks.SetOnly file pages e among = omega (arith, e, among)
place_for tasks.Scan file pages e among = omega (arith, e, among)

next_is : (file : ℕ) → file < 4294967295 → next_file file ≡ file + 1
next_is file small = by_test (nat_lt file 4294967295) (below file small)
  where
    below : (file : ℕ) → file < 4294967295 → nat_lt file 4294967295 ≡ true
    below file small = grind (arith, nat_tests)

    by_test : (b : Bool) → b ≡ true → (if b then file + 1 else file) ≡ file + 1
    by_test true e = refl
    by_test false e = absurd (let clash : false ≡ true = e in cc)

turned_number : (task : Task) (file next pages : ℕ) → file ≡ pages + 1 → IsAmong task file → HasMore task file → next ≡ file + 1 → (next ≡ (pages + 1) + 1) × IsAmong task next × (false ≡ true → HasMore task next)
turned_number (tasks.Batch count) file next pages e among more n = (omega (arith, e, n), (omega (arith, n, more), among.1), λ clash. absurd (cc))
turned_number tasks.List file next pages e among more n = absurd more
turned_number tasks.Show file next pages e among more n = absurd more
turned_number tasks.SetOnly file next pages e among more n = absurd more
turned_number tasks.Scan file next pages e among more n = absurd more

small_file : (task : Task) (file pages : ℕ) → file ≡ pages + 1 → IsAmong task file → file < 4294967295
small_file task file pages e among = omega (arith, e, place_for task file pages e among)

running_as : (task : Task) (o : Outcome) (progress : Progress) (file pages : ℕ) → is_running o ≡ true → is_turning progress ≡ false → (file ≡ pages + 1) × IsAmong task file × (false ≡ true → HasMore task file) → HasNumber task o progress file pages
running_as task Running progress file pages r still n = (n.0, n.1, λ on. absurd (let clash : true ≡ false = sym on ∙ still in cc))
running_as task (Done reports) progress file pages r still n = tt
running_as task (Ended status why) progress file pages r still n = tt

pages_more : (pages : List JoinHistory) (x : JoinHistory) → ArePages pages → IsPage x → ArePages (pages ++ x ∷ [])
pages_more pages x are is = λ k q at. by_place (snoc_at pages x q k at)
  where
    by_place : {k : ℕ} {q : JoinHistory} → ((slice_get pages k ≡ Some q) ⊎ ((k ≡ length pages) × (q ≡ x))) → IsPage q
    by_place {k = k} {q = q} (inl e) = are k q e
    by_place {k = k} {q = q} (inr e) = subst IsPage (sym e.1) is

-- ---- behind a drain

-- the endpoint behind a drain of what was told
pub record IsDrained (told : JoinHistory) (pages : List JoinHistory) (was : Outcome) (p : Endpoint) : Type 0 where
  pub history : JoinHistory
  pub laid : List JoinHistory
  pub under : FileIsUnderWay history laid p
  pub joined : is_done p.client.outcome ≡ true → IsJoined told → IsJoined history
  pub same : is_done p.client.outcome ≡ true → laid ≡ pages
  pub before : is_done p.client.outcome ≡ true → is_done was ≡ true

after_turn : (told : JoinHistory) (pages : List JoinHistory) (p q : Endpoint) → ArePages pages → HasNumber p.task p.client.outcome p.client.progress p.client.notes.file (length pages) → TurnsTo told pages p q → IsDrained told pages p.client.outcome q
after_turn told pages p q are number t =
    let running = turns_running p.client.outcome p.client.progress t.turned in
    let at = number_at p.task p.client.outcome p.client.progress p.client.notes.file (length pages) running number in
    let more = at.2 (turns_turning p.client.outcome p.client.progress t.turned) in
    let page = after_pull t.bytes told in
    let task : q.task ≡ p.task = ap (λ (x : Endpoint). x.task) t.rest in
    let outcome : q.client.outcome ≡ p.client.outcome = ap (λ (v : ClientState). v.outcome) t.client.rest in
    let progress : q.client.progress ≡ stages.Starting true = ap (λ (v : ClientState). v.progress) t.client.rest in
    let file : q.client.notes.file ≡ p.client.notes.file + 1 = ap (λ (v : ClientState). v.notes.file) t.client.rest ∙ next_is p.client.notes.file (small_file p.task p.client.notes.file (length pages) at.0 at.1) in
    let count : length (pages ++ page ∷ []) ≡ length pages + 1 = length-append pages (page ∷ []) in
    let runs : is_running q.client.outcome ≡ true = ap is_running outcome ∙ running in
    let n = turned_number p.task p.client.notes.file q.client.notes.file (length pages) at.0 at.1 more file in
    let numbered : HasNumber p.task q.client.outcome q.client.progress q.client.notes.file (length pages + 1) = running_as p.task q.client.outcome q.client.progress q.client.notes.file (length pages + 1) runs (ap is_turning progress) n in
    record {
      history = empty_history;
      laid = pages ++ page ∷ [];
      under = record {
        holds = t.holds;
        number = subst (λ (k : ℕ). HasNumber q.task q.client.outcome q.client.progress q.client.notes.file k) (sym count) (subst (λ (x : Task). HasNumber x q.client.outcome q.client.progress q.client.notes.file (length pages + 1)) (sym task) numbered);
        pages_are = pages_more pages page are (record { whole = t.whole; denotes = t.denotes });
        done = λ d. absurd (running_is_not_done q.client.outcome runs d);
      };
      joined = λ d. absurd (running_is_not_done q.client.outcome runs d);
      same = λ d. absurd (running_is_not_done q.client.outcome runs d);
      before = λ d. absurd (running_is_not_done q.client.outcome runs d);
    }

after_dry : (told : JoinHistory) (pages : List JoinHistory) (p q : Endpoint) → ArePages pages → HasNumber p.task p.client.outcome p.client.progress p.client.notes.file (length pages) → RunsDry told pages p q → IsDrained told pages p.client.outcome q
after_dry told pages p q are number d =
    let task : q.task ≡ p.task = ap (λ (x : Endpoint). x.task) d.given.rest in
    let same : is_done q.client.outcome ≡ is_done p.client.outcome = ap (λ (v : ClientState). is_done v.outcome) d.given.client in
    record {
      history = after_pull d.bytes told;
      laid = pages;
      under = record {
        holds = d.holds;
        number = subst (λ (x : Task). HasNumber x q.client.outcome q.client.progress q.client.notes.file (length pages)) (sym task)
            (subst (λ (v : ClientState). HasNumber p.task v.outcome v.progress v.notes.file (length pages)) (sym d.given.client) number);
        pages_are = are;
        done = λ done. d.denotes (done_runs p.client.outcome (sym same ∙ done));
      };
      joined = λ done joined. joined;
      same = λ done. refl;
      before = λ done. sym same ∙ done;
    }

by_turn : (b : Bool) (told : JoinHistory) (pages : List JoinHistory) (p q : Endpoint) → ArePages pages → HasNumber p.task p.client.outcome p.client.progress p.client.notes.file (length pages) → HasDrained b told pages p q → IsDrained told pages p.client.outcome q
by_turn true told pages p q are number d = after_turn told pages p q are number d
by_turn false told pages p q are number d = after_dry told pages p q are number d

place_at : (told : JoinHistory) (pages : List JoinHistory) (p : Endpoint) → HasNumber p.task p.client.outcome p.client.progress p.client.notes.file (length pages) → HasPlace p pages
place_at told pages p number = λ on.
    let at = number_at p.task p.client.outcome p.client.progress p.client.notes.file (length pages) (turns_running p.client.outcome p.client.progress on) number in
    place_for p.task p.client.notes.file (length pages) at.0 at.1

by_task : (b : Bool) (told : JoinHistory) (pages : List JoinHistory) (p q : Endpoint) → scans p.task ≡ b → HoldsHistory told pages p → ArePages pages → HasNumber p.task p.client.outcome p.client.progress p.client.notes.file (length pages) → Drains p q → IsDrained told pages p.client.outcome q
by_task true told pages p q scan holds are number d =
    by_turn (turns p.client.outcome p.client.progress) told pages p q are number (d.drains told pages scan (place_at told pages p number) holds)
by_task false told pages p q scan holds are number d =
    subst (λ (x : Endpoint). IsDrained told pages p.client.outcome x) (sym (d.none scan))
    (record {
      history = told;
      laid = pages;
      under = record {
        holds = holds;
        number = number;
        pages_are = are;
        done = λ done joined. absurd (unjoined p.client.target.task p.client.outcome p.client.progress told (ap scans (sym holds.task) ∙ scan) done holds.serves.fits joined);
      };
      joined = λ done joined. joined;
      same = λ done. refl;
      before = λ done. done;
    })

pub drained : (past : JoinHistory) (pages : List JoinHistory) (p q : Endpoint) (c : ClientState) → FileIsUnderWay past pages p → (t : IsTold p.client past c) → Drains (record p { client = c }) q → IsDrained t.now pages c.outcome q
drained past pages p q c u t d =
    let mid : Endpoint = record p { client = c } in
    let task : p.task ≡ c.target.task = u.holds.task ∙ sym (ap (λ (e : JobTarget). e.task) t.target) in
    let files : HasFiles t.now.given pages mid = record {
      file = subst (λ (l : List ℕ). KeepsFile p.out_of_memory l p.file) (sym t.given) u.holds.files.file;
      each = u.holds.files.each;
      count = u.holds.files.count;
      room = u.holds.files.room;
    } in
    let was : HasNumber p.client.target.task p.client.outcome p.client.progress p.client.notes.file (length pages) = subst (λ (x : Task). HasNumber x p.client.outcome p.client.progress p.client.notes.file (length pages)) u.holds.task u.number in
    let number : HasNumber p.task c.outcome c.progress c.notes.file (length pages) = subst (λ (x : Task). HasNumber x c.outcome c.progress c.notes.file (length pages)) (sym u.holds.task) (t.number (length pages) was) in
    by_task (scans p.task) t.now pages mid q refl (record { task = task; serves = t.serves; files = files }) u.pages_are number d

-- ---- the last page of a batch

pub last_page : (past : JoinHistory) (pages : List JoinHistory) (p : Endpoint) → FileIsUnderWay past pages p → is_done p.client.outcome ≡ true → IsJoined past → IsPage past
last_page past pages p u done joined =
    let shown = whole_shows past p.client.join u.holds.serves.stands joined in
    let denotes = u.done done joined in
    record { whole = (shown.0, (denotes shown.0 shown.1).denotes); denotes = denotes }

all_laid : (past : JoinHistory) (pages : List JoinHistory) (p : Endpoint) → FileIsUnderWay past pages p → is_done p.client.outcome ≡ true → IsJoined past → length pages < 16 → p.task ≡ tasks.Batch (length pages + 1) → FilesRepresent (laid_by p)
all_laid past pages p u done joined less all =
    let x = pages ++ past ∷ [] in
    let count : length x ≡ length pages + 1 = length-append pages (past ∷ []) in
    let is = laid_as p (omega (arith, u.holds.files.count, less)) in
    AllLaid x (record {
      done = ap (λ (q : Endpoint). is_done q.client.outcome) is ∙ done;
      all = ap (λ (q : Endpoint). q.task) is ∙ all ∙ ap (λ (k : ℕ). tasks.Batch k) (sym count);
      files = files_laid past pages p less u.holds.files;
      pages_are = pages_more pages past u.pages_are (last_page past pages p u done joined);
    })

by_end : (b : Bool) (told : JoinHistory) (pages : List JoinHistory) (was : Outcome) (p : Endpoint) → (is_done p.client.outcome && is_batch p.task) ≡ b → IsDrained told pages was p
    → (is_done p.client.outcome ≡ true → is_batch p.task ≡ true → IsJoined told × (length pages < 16) × (p.task ≡ tasks.Batch (length pages + 1))) → FilesRepresent (if b then laid_by p else p)
by_end false told pages was p e d last = Underway d.history d.laid d.under
by_end true told pages was p e d last =
    let done = and_left (is_done p.client.outcome) (is_batch p.task) e in
    let l = last done (and_right (is_done p.client.outcome) (is_batch p.task) e) in
    let u : FileIsUnderWay d.history pages p = subst (λ (x : List JoinHistory). FileIsUnderWay d.history x p) (d.same done) d.under in
    all_laid d.history pages p u done (d.joined done l.0) l.1 l.2
  where
    and_left : (a b : Bool) → (a && b) ≡ true → a ≡ true
    and_left true b e = refl
    and_left false b e = absurd (let clash : false ≡ true = e in cc)

    and_right : (a b : Bool) → (a && b) ≡ true → b ≡ true
    and_right true b e = e
    and_right false b e = absurd (let clash : false ≡ true = e in cc)

pub finished_stands : (told : JoinHistory) (pages : List JoinHistory) (was : Outcome) (p : Endpoint) → IsDrained told pages was p
    → (is_done p.client.outcome ≡ true → is_batch p.task ≡ true → IsJoined told × (length pages < 16) × (p.task ≡ tasks.Batch (length pages + 1))) → FilesRepresent (with_last_page p)
finished_stands told pages was p d last = by_end (is_done p.client.outcome && is_batch p.task) told pages was p refl d last
