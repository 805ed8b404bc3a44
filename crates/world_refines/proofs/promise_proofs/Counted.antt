-- How many pages a batch that is done has finished.
use Rattle.std.specs.Prelude.{◌<◌, ◌-◌}
use Rattle.std.proofs.Common.{◌≡◌, ◌≢◌, ◌⊎◌, inl, inr, ◌∙◌, ℕ, suc, ◌≤◌, ◌+◌, List, [], ◌∷◌, ◌++◌, Some, Bool, true, false, cond, refl, sym, ap, subst, map, length, slice_get, arith, append-nil}
use Rattle.std.proofs.lemmas.List.{length-append, length-map}
use Rattle.page_picture.specs.Shows.{Frame}
use Rattle.frame_join.specs.FrameHistory.{JoinHistory, is_joined}
use Rattle.scan_job.specs.JobSize.{HasCount}
use Rattle.scan_job.specs.declared.job.Task.{Task}
use Rattle.scan_job.specs.declared.job.Task.TheVariants as tasks
use Rattle.scan_job.specs.declared.outcome.Outcome.{Outcome}
use Rattle.client_replies.specs.ProtocolStates.{is_batch}
use Rattle.system_model.specs.Causes.{IsCauseAmong, TrayRanOut}
use Rattle.system_model.proofs.JobPromises.{batches_counted}
use Rattle.client_refines.specs.ClientRefinement.{task_of, wholes}
use Rattle.event_world.specs.declared.endpoint.Endpoint.{Endpoint}
use Rattle.event_world.specs.JobEvents.{is_done}
use Rattle.event_world.specs.Worlds.{WorldCore}
use Rattle.world_refines.specs.GhostStates.{Ghost}
use Rattle.world_refines.specs.WorldRefinement.{KeepsFiles, WorldRefines, is_laid}
use Rattle.world_refines.specs.WorldPromises.{BatchesAreCounted, PagesAreCounted}
use Rattle.world_refines.proofs.frames.Paged.{woken_pages}
use Rattle.world_refines.proofs.promise_proofs.PromiseProofs.{kept_promise, task_is}

-- the files that are laid by are those of the pages that the model has
laid_count : (joined : Bool) (past : JoinHistory) (pages : List JoinHistory) (endpoint : Endpoint) → is_joined past.ended ≡ joined → KeepsFiles joined past pages endpoint → endpoint.finished ≡ length (map (λ (q : JoinHistory). q.ended) pages ++ wholes past.ended)
laid_count true past pages endpoint e h =
    let whole : wholes past.ended ≡ past.ended ∷ [] = ap (λ (b : Bool). cond b (past.ended ∷ []) []) e in
    let a : length (pages ++ past ∷ []) ≡ length pages + 1 = length-append pages (past ∷ []) in
    let b : length (map (λ (q : JoinHistory). q.ended) pages ++ past.ended ∷ []) ≡ length (map (λ (q : JoinHistory). q.ended) pages) + 1 = length-append (map (λ (q : JoinHistory). q.ended) pages) (past.ended ∷ []) in
    let c : length (map (λ (q : JoinHistory). q.ended) pages) ≡ length pages = length-map pages (λ (q : JoinHistory). q.ended) in
    let count : endpoint.finished ≡ length (pages ++ past ∷ []) = h.count in
    (let same : endpoint.finished ≡ length (map (λ (q : JoinHistory). q.ended) pages ++ past.ended ∷ []) = omega (arith, a, b, c, count) in same) ∙ ap (λ (x : List (List Frame)). length (map (λ (q : JoinHistory). q.ended) pages ++ x)) (sym whole)
laid_count false past pages endpoint e h =
    let none : wholes past.ended ≡ [] = ap (λ (b : Bool). cond b (past.ended ∷ []) []) e in
    h.count ∙ (sym (length-map pages (λ (q : JoinHistory). q.ended)) ∙ (ap (λ (x : List (List Frame)). length x) (sym (append-nil (map (λ (q : JoinHistory). q.ended) pages))) ∙ ap (λ (x : List (List Frame)). length (map (λ (q : JoinHistory). q.ended) pages ++ x)) (sym none)))

laid_by : (task : Task) (o : Outcome) (past : JoinHistory) → is_done o ≡ true → is_batch task ≡ true → is_laid task o past ≡ is_joined past.ended
laid_by task o past d b = ap (λ (x : Bool). cond x (cond (is_batch task) (is_joined past.ended) false) false) d ∙ ap (λ (x : Bool). cond x (is_joined past.ended) false) b

pub pages_count : (t : Ghost) (w : WorldCore) (i : ℕ) (endpoint : Endpoint) → WorldRefines t w → slice_get w.endpoints i ≡ Some endpoint → is_done endpoint.client.outcome ≡ true → is_batch (t.jobs i).task ≡ true → endpoint.finished ≡ length (t.system.job i).client.pages
pages_count t w i endpoint h at done batch =
    let s = h.endpoints i endpoint at in
    let me = t.system.job i in
    let past = t.history i in
    let files = subst (λ (b : Bool). KeepsFiles b past (t.pages i) endpoint) (laid_by (t.jobs i).task endpoint.client.outcome past done batch) s.exchanges.files in
    laid_count (is_joined past.ended) past (t.pages i) endpoint refl files ∙ ap (λ (x : List (List Frame)). length x) (sym (sym (woken_pages me.client.stage me.client) ∙ s.exchanges.reads.files.all))

some_page : {X : Type 0} (xs : List X) → xs ≢ [] → 0 < length xs
some_page [] n = absurd (n refl)
some_page (x ∷ xs) n = omega arith

counted_by : (t : Ghost) (i count : ℕ) (endpoint : Endpoint) (pages : List (List Frame)) → 1 ≤ count → endpoint.finished ≡ length pages → (length pages ≡ suc (count - 1)) ⊎ ((pages ≢ []) × (length pages ≤ count - 1) × IsCauseAmong TrayRanOut (t.system.job i).session.met) → PagesAreCounted t i count endpoint
counted_by t i count endpoint pages some is (inl e) = inl (omega (arith, is, e, some))
counted_by t i count endpoint pages some is (inr f) =
    let more : 0 < length pages = some_page pages f.0 in
    let few : length pages ≤ count - 1 = f.1 in
    inr (omega (arith, more, is), omega (arith, few, is, some), f.2)

pub batches_are_counted : BatchesAreCounted
batches_are_counted t w i count endpoint reports h low at task done =
    let promise = kept_promise t w i endpoint reports h at done in
    let ruled = task_is t w i endpoint h at ∙ ap task_of task in
    let fit : HasCount (tasks.Batch count) = subst HasCount task (h.is_of.counts i low) in
    counted_by t i count endpoint (t.system.job i).client.pages fit.0 (pages_count t w i endpoint h at (ap is_done done) (ap is_batch task)) (batches_counted t.system i (count - 1) h.sound promise.stage ruled)
