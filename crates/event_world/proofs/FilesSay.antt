-- What the files of a job tell, where they stand.
use Rattle.std.proofs.Common.{◌≡◌, ◌∙◌, ℕ, ◌-◌, ◌<◌, ◌≤◌, Bool, true, false, Option, Some, None, List, [], length, slice_get, nat_lt, if◌then◌else◌, refl, sym, subst, arith}
use Rattle.std.specs.Prelude.{◌==◌, ◌||◌, slice_index_or}
use Rattle.std.proofs.lemmas.Bool.Decides.{nat_tests}
use Rattle.std.proofs.lemmas.Option.{get_or_from_slice_get, slice_get-get_or}
use Rattle.netpbm.specs.Pnm.{IsWhole}
use Rattle.netpbm.specs.NoFile.{HoldsNoFile}
use Rattle.frame_join.specs.FrameHistory.{JoinHistory, IsJoined, empty_history}
use Rattle.frame_join.specs.JoinStates.{JoinState, Represents}
use Rattle.frame_join.proofs.EndSteps.{holds_no_file}
use Rattle.scan_job.specs.declared.job.Task.{Task}
use Rattle.scan_job.specs.declared.job.Task.TheVariants as tasks
use Rattle.scan_job.specs.declared.outcome.Outcome.{Outcome}
use Rattle.scan_job.specs.declared.outcome.Outcome.TheVariants.{Running, Done, Ended}
use Rattle.client_replies.specs.declared.progress.Progress.{Progress}
use Rattle.client_replies.specs.ProtocolStates.{HistoryFits, FitsEnded}
use Rattle.client_replies.proofs.Fitting.{may_end}
use Rattle.event_world.specs.declared.endpoint.Endpoint.{Endpoint}
use Rattle.event_world.specs.Endpoints.{finished_page}
use Rattle.event_world.specs.JobEvents.{is_done}
use Rattle.event_world.specs.FileDraining.{HasFiles, KeepsFile}
use Rattle.event_world.specs.FileInvariant.{AllLaid, ArePages, FilesRepresent, IsFileOf, Underway}
use Rattle.event_world.proofs.FileInvariant.{last_page}

-- ---- the files of pages

-- there is no finished page of that number
abbrev is_outside : ℕ → ℕ → Bool
is_outside finished k = ((k == 0) || nat_lt finished k) || nat_lt 16 k

page_by : (out : Bool) (pages : List (Option (List ℕ))) (k : ℕ) (file : List ℕ) → (if out then None else slice_index_or pages (k - 1) None) ≡ Some file → (out ≡ false) × (slice_index_or pages (k - 1) None ≡ Some file)
page_by true pages k file e = absurd (let clash : None ≡ Some file = e in cc)
page_by false pages k file e = (refl, e)

within_pages : (finished k : ℕ) → is_outside finished k ≡ false → (0 < k) × (k ≤ finished)
within_pages finished k e = (positive finished k e, most finished k e)
  where
    positive : (finished k : ℕ) → is_outside finished k ≡ false → 0 < k
    positive finished k e = grind (arith, nat_tests)

    most : (finished k : ℕ) → is_outside finished k ≡ false → k ≤ finished
    most finished k e = grind (arith, nat_tests)

kept_some : (starved : Bool) (given : List ℕ) (o : Option (List ℕ)) (file : List ℕ) → KeepsFile starved given o → o ≡ Some file → file ≡ given
kept_some starved given None file k e = absurd (let clash : None ≡ Some file = e in cc)
kept_some starved given (Some f) file k e = let same : f ≡ file = only f file e in sym same ∙ k
  where
    only : (a b : List ℕ) → Some a ≡ Some b → a ≡ b
    only a b e = cc

kept_none : (starved : Bool) (given : List ℕ) (o : Option (List ℕ)) → KeepsFile starved given o → o ≡ None → starved ≡ true
kept_none starved given None k e = k
kept_none starved given (Some f) k e = absurd (let clash : Some f ≡ None = e in cc)

page_at : (given : List ℕ) (pages : List JoinHistory) (p : Endpoint) (k : ℕ) → HasFiles given pages p → ArePages pages → 0 < k → k ≤ p.finished
    → (page : JoinHistory) × (slice_get pages (k - 1) ≡ Some page) × KeepsFile p.out_of_memory page.given (slice_index_or p.pages (k - 1) None)
page_at given pages p k h are positive most =
    let less : k - 1 < length pages = omega (arith, positive, most, h.count) in
    let at = slice_get-get_or pages (k - 1) empty_history less in
    let f = h.each (k - 1) (slice_index_or pages (k - 1) empty_history) at in
    (slice_index_or pages (k - 1) empty_history, at, subst (λ (o : Option (List ℕ)). KeepsFile p.out_of_memory (slice_index_or pages (k - 1) empty_history).given o) (sym (get_or_from_slice_get p.pages (k - 1) f.0 None f.1)) f.2)

page_told : (given : List ℕ) (pages : List JoinHistory) (p : Endpoint) (k : ℕ) (file : List ℕ) → HasFiles given pages p → ArePages pages → finished_page p k ≡ Some file → IsFileOf file
page_told given pages p k file h are e =
    let at = page_by (is_outside p.finished k) p.pages k file e in
    let within = within_pages p.finished k at.0 in
    let there = page_at given pages p k h are within.0 within.1 in
    record { page = there.0; given = kept_some p.out_of_memory there.0.given (slice_index_or p.pages (k - 1) None) file there.2 at.1; is = are (k - 1) there.0 there.1 }

pub page_tells : (p : Endpoint) (k : ℕ) (file : List ℕ) → FilesRepresent p → finished_page p k ≡ Some file → IsFileOf file
page_tells p k file (Underway past pages u) e = page_told past.given pages p k file u.holds.files u.pages_are e
page_tells p k file (AllLaid pages a) e = page_told [] pages p k file a.files a.pages_are e

-- ---- the file under way

scan_joined : (task : Task) (o : Outcome) (progress : Progress) (past : JoinHistory) → task ≡ tasks.Scan → is_done o ≡ true → HistoryFits task o progress past → IsJoined past
scan_joined task Running progress past e d f = absurd (let clash : false ≡ true = d in cc)
scan_joined task (Ended status why) progress past e d f = absurd (let clash : false ≡ true = d in cc)
scan_joined task (Done reports) progress past e d f = subst (λ (t : Task). HistoryFits t (Done reports) progress past) e f

pub scan_tells : (p : Endpoint) (file : List ℕ) → FilesRepresent p → p.task ≡ tasks.Scan → is_done p.client.outcome ≡ true → p.file ≡ Some file → IsFileOf file
scan_tells p file (Underway past pages u) scan done e =
    let joined = scan_joined p.client.target.task p.client.outcome p.client.progress past (sym u.holds.task ∙ scan) done u.holds.serves.fits in
    record { page = past; given = kept_some p.out_of_memory past.given p.file file u.holds.files.file e; is = last_page past pages p u done joined }
scan_tells p file (AllLaid pages a) scan done e = absurd (let clash : tasks.Scan ≡ tasks.Batch (length pages) = sym scan ∙ a.all in cc)

ends_as : (task : Task) (o : Outcome) (progress : Progress) (past : JoinHistory) → is_done o ≡ false → HistoryFits task o progress past → FitsEnded task past
ends_as task Running progress past d f = may_end task progress past f.0 f.1
ends_as task (Done reports) progress past d f = absurd (let clash : true ≡ false = d in cc)
ends_as task (Ended status why) progress past d f = f

part_yet : (task : Task) (past : JoinHistory) → FitsEnded task past → IsJoined past → IsWhole past.given → ⊥
part_yet (tasks.Batch count) past ended joined = ended joined
part_yet tasks.List past ended joined = absurd (ended joined)
part_yet tasks.Show past ended joined = absurd (ended joined)
part_yet tasks.SetOnly past ended joined = absurd (ended joined)
part_yet tasks.Scan past ended joined = absurd (ended joined)

pub short_tells : (p : Endpoint) (file : List ℕ) → FilesRepresent p → is_done p.client.outcome ≡ false → p.file ≡ Some file → HoldsNoFile file
short_tells p file (Underway past pages u) not_done e =
    let ended = ends_as p.client.target.task p.client.outcome p.client.progress past not_done u.holds.serves.fits in
    let same : file ≡ past.given = kept_some p.out_of_memory past.given p.file file u.holds.files.file e in
    subst HoldsNoFile (sym same) (holds_no_file past p.client.join u.holds.serves.stands (part_yet p.client.target.task past ended))
short_tells p file (AllLaid pages a) not_done e = absurd (let clash : true ≡ false = sym a.done ∙ not_done in cc)

-- ---- no file

pub none_tells : (p : Endpoint) → FilesRepresent p → p.file ≡ None → p.out_of_memory ≡ true
none_tells p (Underway past pages u) e = kept_none p.out_of_memory past.given p.file u.holds.files.file e
none_tells p (AllLaid pages a) e = kept_none p.out_of_memory [] p.file a.files.file e

none_by : (out : Bool) (pages : List (Option (List ℕ))) (k : ℕ) → out ≡ false → (if out then None else slice_index_or pages (k - 1) None) ≡ None → slice_index_or pages (k - 1) None ≡ None
none_by true pages k no_page e = absurd (let clash : true ≡ false = no_page in cc)
none_by false pages k no_page e = e

is_there : (finished k : ℕ) → 0 < k → k ≤ finished → k ≤ 16 → is_outside finished k ≡ false
is_there finished k positive most few = grind (arith, nat_tests)

page_lost : (given : List ℕ) (pages : List JoinHistory) (p : Endpoint) (k : ℕ) → HasFiles given pages p → ArePages pages → 0 < k → k ≤ p.finished → k ≤ 16 → finished_page p k ≡ None → p.out_of_memory ≡ true
page_lost given pages p k h are positive most few e =
    let there = page_at given pages p k h are positive most in
    kept_none p.out_of_memory there.0.given (slice_index_or p.pages (k - 1) None) there.2 (none_by (is_outside p.finished k) p.pages k (is_there p.finished k positive most few) e)

pub page_none_tells : (p : Endpoint) (k : ℕ) → FilesRepresent p → 0 < k → k ≤ p.finished → k ≤ 16 → finished_page p k ≡ None → p.out_of_memory ≡ true
page_none_tells p k (Underway past pages u) positive most few e = page_lost past.given pages p k u.holds.files u.pages_are positive most few e
page_none_tells p k (AllLaid pages a) positive most few e = page_lost [] pages p k a.files a.pages_are positive most few e
