-- What a batch that does not end well leaves on its shelf.
use Rattle.std.specs.Prelude.{All, length, nat_lt, ◌<◌, ◌≤◌, ◌+◌, ⊤}
use Rattle.std.proofs.Common.{ℕ, suc, arith, ◌≡◌, ◌⊎◌, inl, inr, ◌∙◌, ap, sym, refl, subst, Bool, true, false, Option, Some, None, List, [], ◌∷◌, ◌++◌, Result, Ok, Err, IfErr, OnErr}
use Rattle.std.proofs.lemmas.Bool.Decides.{nat_tests}
use Rattle.std.proofs.lemmas.List.{append-nil}
use Rattle.std.proofs.lemmas.List.Elements.{All-cons, All-head, All-nil, All-pop, All-tail}
use Rattle.netpbm.specs.Pnm.{IsWhole}
use Rattle.netpbm.specs.NoFile.{HoldsNoFile}
use Rattle.frame_join.specs.FrameHistory.{JoinHistory}
use Rattle.frame_join.proofs.StreamLaws.{nothing_holds_none}
use Rattle.device_api.specs.InForce.{Placement, in_force}
use Rattle.device_api.specs.State.{after_reset, with_setup}
use Rattle.scan_frames.specs.declared.setup.Setup.{Setup}
use Rattle.scan_job.specs.FileOutputs.{AreLeft, TakesBack, refused_output}
use Rattle.scan_job.specs.JobSize.{HasCount, HasJobFault, HasJobSize, IsJobText}
use Rattle.scan_job.specs.Shelves.{Stock}
use Rattle.scan_job.specs.Stops.{failed_output, no_memory}
use Rattle.scan_job.specs.declared.job.Job.{Job}
use Rattle.scan_job.specs.declared.job.Task.{Task}
use Rattle.scan_job.specs.declared.job.Task.TheVariants.{List as ListTask, Show, SetOnly, Scan, Batch}
use Rattle.scan_job.specs.declared.stop.Stop.{Stop}
use Rattle.net_jobs.specs.Batches.{IsPageFile, KeepsAllPages, RefusesLastPage, StopsBatch}
use Rattle.net_jobs.specs.Outputs.{texts_of}
use Rattle.net_jobs.specs.RunPromises.{JobStreams, StreamViews}
use Rattle.local_job.specs.LocalBatch.{IsBatchEndedBy, ScansNothing}
use Rattle.local_job.specs.LocalPages.{ArePageFiles, DeviceAndShelf, EndsBehind, RefusesLast, StopsAt, outputs_from}
use Rattle.local_job.specs.LocalRun.{settings_put}
use Rattle.scanimage_cli.specs.Doing.{EndsBatch}
use Rattle.scanimage_cli.specs.JobOutputs.{LeavesPages}
use Rattle.scanimage_cli.specs.NetDoing.{EndsNetBatch}
use Rattle.scanimage_cli.specs.declared.ending.Ending.{Ending}
use Rattle.scanimage_cli.proofs.PageTexts.{all_whole, outputs_of_pages, pages_whole}

-- ---- nothing was given back

pub no_more_back : (stock : Option Stock) → TakesBack stock [] stock
no_more_back None = tt
no_more_back (Some stock) = sym (append-nil stock.taken)

nothing_left : (was now : Option Stock) → TakesBack was [] now → LeavesPages was now
nothing_left was now back = record { texts = []; whole = All-nil IsWhole; last = []; left = []; is_left = refl; unfinished = inl nothing_holds_none; outputs = back }

pub same_pages_left : (stock : Option Stock) → LeavesPages stock stock
same_pages_left stock = nothing_left stock stock (no_more_back stock)

-- ---- what a job's size is

abbrev IsDecided : Type 0 → Type 0
IsDecided P = P ⊎ (P → ⊥)

decide_le : (a b : ℕ) → IsDecided (a ≤ b)
decide_le a b = by (nat_lt b a) refl
  where
    by : (v : Bool) → nat_lt b a ≡ v → IsDecided (a ≤ b)
    by true e = inr (λ le. grind (arith, nat_tests))
    by false e = inl (grind (arith, nat_tests))

decide_both : {P Q : Type 0} → IsDecided P → IsDecided Q → IsDecided (P × Q)
decide_both (inl p) (inl q) = inl (p, q)
decide_both (inl p) (inr not_so) = inr (λ x. not_so x.1)
decide_both (inr not_so) q = inr (λ x. not_so x.0)

decide_all : {X : Type 0} (P : X → Type 0) → ((x : X) → IsDecided (P x)) → (xs : List X) → IsDecided (All P xs)
decide_all P decide [] = inl (All-nil P)
decide_all P decide (x ∷ more) = by (decide x) (decide_all P decide more)
  where
    by : IsDecided (P x) → IsDecided (All P more) → IsDecided (All P (x ∷ more))
    by (inl p) (inl all) = inl (All-cons P x more p all)
    by (inl p) (inr not_so) = inr (λ all. not_so (All-tail P x more all))
    by (inr not_so) rest = inr (λ all. not_so (All-head P x more all))

decide_size : (job : Job) → IsDecided (HasJobSize job)
decide_size job = by (decide_both (decide_le (length job.settings.items) 64) (decide_both (decide_le (length job.user) 1023) (decide_both (decide_le (length job.password) 1023) (decide_both (decide_le (length job.device) 1023)
    (decide_all (λ setting. IsJobText setting.0 × IsJobText setting.1) (λ setting. decide_both (decide_le (length setting.0) 1023) (decide_le (length setting.1) 1023)) job.settings.items)))))
  where
    by : IsDecided ((length job.settings.items ≤ 64) × (IsJobText job.user × (IsJobText job.password × (IsJobText job.device × All (λ setting. IsJobText setting.0 × IsJobText setting.1) job.settings.items)))) → IsDecided (HasJobSize job)
    by (inl x) = inl (record { few = x.0; user = x.1.0; password = x.1.1.0; device = x.1.1.1.0; settings = x.1.1.1.1 })
    by (inr not_so) = inr (λ x. not_so (x.few, (x.user, (x.password, (x.device, x.settings)))))

decide_count : (task : Task) → IsDecided (HasCount task)
decide_count ListTask = inl tt
decide_count Show = inl tt
decide_count SetOnly = inl tt
decide_count Scan = inl tt
decide_count (Batch count) = decide_both (decide_le 1 count) (decide_le count 16)

-- ---- left here

behind : (was now : DeviceAndShelf) (files : List (List ℕ)) (stop : Stop) → ArePageFiles was.device files → EndsBehind files was now stop → LeavesPages was.stock now.stock
behind was now files stop are x = record { texts = files; whole = all_whole was.device files are; last = x.text; left = x.left; is_left = x.is_left; unfinished = inl x.none; outputs = x.outputs }

refused : (was now : DeviceAndShelf) (files : List (List ℕ)) (stop : Stop) → ArePageFiles was.device files → RefusesLast files was now stop → LeavesPages was.stock now.stock
refused was now files stop are x = record {
  texts = x.shelved;
  whole = (All-pop IsWhole files x.shelved (Some x.last) x.files_are (all_whole was.device files are)).0;
  last = x.last;
  left = refused_output (length x.shelved + 1) x.last ∷ [];
  is_left = (false, refl);
  unfinished = inr refl;
  outputs = x.outputs;
}

stopped : (count : ℕ) (was now : DeviceAndShelf) (stop : Stop) → StopsAt count was now stop → LeavesPages was.stock now.stock
stopped count was now stop x = by x.ended
  where
    by : RefusesLast x.files was now stop ⊎ ((length x.files < count) × EndsBehind x.files was now stop) → LeavesPages was.stock now.stock
    by (inl last) = refused was now x.files stop x.pages last
    by (inr left) = behind was now x.files stop x.pages left.1

abbrev IsSome : {A : Type 0} → Option A → Type 0
IsSome None = ⊥
IsSome (Some value) = ⊤

none_or_some : {A : Type 0} (o : Option A) → (o ≡ None) ⊎ ((value : A) × (o ≡ Some value))
none_or_some None = inl refl
none_or_some (Some value) = inr (value, refl)

put_left : (job : Job) (was now : DeviceAndShelf) (stop : Stop) (count : ℕ) (from : DeviceAndShelf) → from.stock ≡ was.stock → ((stop ≡ no_memory) × ScansNothing was.device was.stock now.stock now.device) ⊎ StopsAt count from now stop → LeavesPages was.stock now.stock
put_left job was now stop count from same (inl x) = nothing_left was.stock now.stock x.1.outputs
put_left job was now stop count from same (inr x) = subst (λ (s : Option Stock). LeavesPages s now.stock) same (stopped count from now stop x)

abbrev forced_by : Job → DeviceAndShelf → Option (Setup × List Placement)
forced_by job was = in_force was.device.setup.scene.kind was.device.setup.order (settings_put job.task job.settings.items)

batch_left : (job : Job) (was now : DeviceAndShelf) (stop : Stop) → IsBatchEndedBy job was now stop → LeavesPages was.stock now.stock
batch_left job was now stop ended = by (decide_both (decide_size job) (decide_count job.task)) (none_or_some (forced_by job was))
  where
    by : IsDecided (HasJobFault job None) → (forced_by job was ≡ None) ⊎ ((forced : Setup × List Placement) × (forced_by job was ≡ Some forced)) → LeavesPages was.stock now.stock
    by (inr not_so) found = nothing_left was.stock now.stock (ended.none (λ forced put. not_so put.taken)).outputs
    by (inl taken) (inl none) = nothing_left was.stock now.stock (ended.none (λ forced put. subst IsSome (sym put.put ∙ none) tt)).outputs
    by (inl taken) (inr found) = put_left job was now stop _ (record was { device = with_setup (after_reset was.device) found.0.0 }) refl (ended.put found.0 (record { taken = taken; put = found.1 }))

pub pages_left : {A : Type 0} (job : Job) (was now : DeviceAndShelf) (result : Result A Ending) → IfErr result (EndsBatch job was now) → OnErr result (LeavesPages was.stock now.stock)
pages_left job was now (Ok value) ended = tt
pages_left job was now (Err ending) ended = batch_left job was now ended.stop ended.reason

-- ---- left over the net

length_texts : (pages : List JoinHistory) → length (texts_of pages) ≡ length pages
length_texts [] = refl
length_texts (page ∷ more) = ap suc (length_texts more)

kept_left : (pages : List JoinHistory) (text : List ℕ) (was now : Option Stock) → All IsPageFile pages → HoldsNoFile text → KeepsAllPages pages text was now → LeavesPages was now
kept_left pages text was now files none x = record {
  texts = texts_of pages;
  whole = pages_whole pages files;
  last = text;
  left = x.left;
  is_left = subst (λ n. AreLeft (n + 1) text x.left) (sym (length_texts pages)) x.is_left;
  unfinished = inl none;
  outputs = subst (λ o. TakesBack was (o ++ x.left) now) (outputs_of_pages 1 pages) x.outputs;
}

refused_left : (pages : List JoinHistory) (was now : Option Stock) → All IsPageFile pages → RefusesLastPage pages was now → LeavesPages was now
refused_left pages was now files x =
    let n : length x.shelved ≡ length (texts_of x.shelved) = sym (length_texts x.shelved) in
    record {
      texts = texts_of x.shelved;
      whole = pages_whole x.shelved (All-pop IsPageFile pages x.shelved (Some x.last) x.pages_are files).0;
      last = x.last.given;
      left = refused_output (length (texts_of x.shelved) + 1) x.last.given ∷ [];
      is_left = (false, refl);
      unfinished = inr refl;
      outputs = subst (λ k. TakesBack was (outputs_from 1 (texts_of x.shelved) ++ refused_output (k + 1) x.last.given ∷ []) now) n
          (subst (λ o. TakesBack was (o ++ refused_output (length x.shelved + 1) x.last.given ∷ []) now) (outputs_of_pages 1 x.shelved) x.outputs);
    }

shelf_left : (pages trace_pages : List JoinHistory) (text : List ℕ) (stop : Stop) (was now : Option Stock) → All IsPageFile pages → HoldsNoFile text
    → ((pages ≡ trace_pages) × KeepsAllPages pages text was now) ⊎ ((stop ≡ failed_output) × (text ≡ []) × RefusesLastPage pages was now) → LeavesPages was now
shelf_left pages trace_pages text stop was now files none (inl kept) = kept_left pages text was now files none kept.1
shelf_left pages trace_pages text stop was now files none (inr last) = refused_left pages was now files last.2

net_batch_left : {C D S : Type 0} (views : StreamViews C D S (Option Stock)) (job : Job) (was now : JobStreams C D S) (stop : Stop) → StopsBatch views job was now stop → LeavesPages (views.output was.output) (views.output now.output)
net_batch_left {C} {D} {S} views job was now stop (inl x) = subst (λ (s : JobStreams C D S). LeavesPages (views.output was.output) (views.output s.output)) (sym x.same) (same_pages_left (views.output was.output))
net_batch_left views job was now stop (inr x) = shelf_left x.pages x.ran.trace.pages x.text stop (views.output was.output) (views.output now.output) x.files x.none x.shelf

pub net_pages_left : {A C D S : Type 0} (views : StreamViews C D S (Option Stock)) (job : Job) (was now : JobStreams C D S) (result : Result A Ending) → IfErr result (EndsNetBatch views job was now) → OnErr result (LeavesPages (views.output was.output) (views.output now.output))
net_pages_left views job was now (Ok value) ended = tt
net_pages_left views job was now (Err ending) ended = net_batch_left views job was now ended.stop ended.reason
