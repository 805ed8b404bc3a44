-- The files of a batch's pages.
use Rattle.std.proofs.Common.{ℕ, suc, arith, ◌≡◌, refl, ap, List, [], ◌∷◌}
use Rattle.std.proofs.lemmas.List.Elements.{All-append, All-nil, All-from_recursion}
use Rattle.std.specs.Prelude.{All, false}
use Rattle.netpbm.specs.Pnm.{IsWhole}
use Rattle.device_api.specs.State.{DeviceState, state_at_rest}
use Rattle.scan_job.specs.FileOutputs.{output_of}
use Rattle.scan_job.specs.Shelves.{ReturnedOutput}
use Rattle.frame_join.specs.FrameHistory.{JoinHistory}
use Rattle.net_jobs.specs.Batches.{IsPageFile}
use Rattle.net_jobs.specs.Outputs.{page_outputs_from, texts_of}
use Rattle.local_job.specs.LocalPages.{ArePageFiles, outputs_from}

pub all_whole : (s : DeviceState) (texts : List (List ℕ)) → ArePageFiles s texts → All IsWhole texts
all_whole s [] are = All-nil IsWhole
all_whole s (text ∷ more) are = All-append IsWhole (text ∷ []) more (All-from_recursion IsWhole (text ∷ []) (are.0.whole, tt)) (all_whole (state_at_rest s false) more are.1)

pub pages_whole : (pages : List JoinHistory) → All IsPageFile pages → All IsWhole (texts_of pages)
pages_whole [] are = All-nil IsWhole
pages_whole (page ∷ more) are =
    let first = are 0 page (omega arith) in
    All-append IsWhole (page.given ∷ []) (texts_of more) (All-from_recursion IsWhole (page.given ∷ []) ((first.picture, first.file.denotes), tt)) (pages_whole more (λ k d inside. are (suc k) d (omega (arith, inside))))

pub outputs_of_pages : (k : ℕ) (pages : List JoinHistory) → page_outputs_from k pages ≡ outputs_from k (texts_of pages)
outputs_of_pages k [] = refl
outputs_of_pages k (page ∷ more) = ap (λ (rest : List ReturnedOutput). output_of k page.given ∷ rest) (outputs_of_pages (suc k) more)
