-- What a page leaves on a shelf that was asked for its output at the first byte.
use Rattle.std.proofs.Common.{◌≡◌, ◌∙◌, refl, sym, ap, subst, ℕ, Bool, true, List, [], ◌∷◌, ◌++◌, Option, Some, None}
use Rattle.std.specs.Io.KnownBytes.{Appends}
use Rattle.std.proofs.lemmas.List.{append-nil}
use Rattle.netpbm.specs.Pnm.{IsWhole}
use Rattle.frame_join.proofs.StreamLaws.{nothing_holds_none, nothing_is_not_whole}
use Rattle.device_api.specs.State.{DeviceState}
use Rattle.scan_job.specs.Shelves.{Stock, ReturnedOutput, Shelves}
use Rattle.local_job.specs.OutputRequests.{IsAsked, bytes_held}
use Rattle.scan_job.specs.FileOutputs.{GivesBack, StopsShort, AreLeft, TakesBack, returned_output}
use Rattle.local_job.specs.FrameReading.{IsScanned}
use Rattle.local_job.specs.LocalPages.{IsFileOfFirstPage}
use Rattle.local_job.specs.Inside.{FilesPage, LeavesPage}

-- before it, the shelf was asked for nothing
pub asked_none : (before : Option Stock) (k : ℕ) → IsAsked before None k before
asked_none None k = tt
asked_none (Some b) k = refl

-- where there is no output nothing is given back
pub given_none : (mid after : Option Stock) (out : Option (Option (List ℕ))) (kept : Bool) → out ≡ None → GivesBack mid out kept after → after ≡ mid
given_none mid after out kept none back = let P : Option (Option (List ℕ)) → Type 0 = λ o. GivesBack mid o kept after in (subst P none back).0

-- an output of that number came back
came_back : (b m : Stock) (k : ℕ) (bytes text : List ℕ) (kept : Bool) (after : Option Stock) → (m.taken ≡ b.taken) × (m.number ≡ k) → bytes ≡ text → Shelves (Some m) (Some bytes) kept after
    → TakesBack (Some b) (returned_output k text kept ∷ []) after
came_back b m k bytes text kept after asked same is =
    subst (λ (a : Option Stock). TakesBack (Some b) (returned_output k text kept ∷ []) a) (sym is)
    (ap (λ (t : List ReturnedOutput). t ++ returned_output m.number bytes kept ∷ []) asked.0
    ∙ ap (λ (n : ℕ). b.taken ++ returned_output n bytes kept ∷ []) asked.1
    ∙ ap (λ (t : List ℕ). b.taken ++ returned_output k t kept ∷ []) same)

none_back : (b m : Stock) (after : Option Stock) → m.taken ≡ b.taken → after ≡ Some m → TakesBack (Some b) [] after
none_back b m after same is = subst (λ (a : Option Stock). TakesBack (Some b) [] a) (sym is) (same ∙ sym (append-nil b.taken))

-- ---- a page that was scanned

file_of : (s : DeviceState) (first contents : Option (List ℕ)) → (is : IsScanned s first contents) → IsFileOfFirstPage s is.text
file_of s first contents is = record { whole = is.whole; picture = is.picture }

filed_on : (s : DeviceState) (k : ℕ) (kept : Bool) (b m : Stock) (after : Option Stock) (out : Option (Option (List ℕ))) → IsAsked (Some b) out k (Some m) → GivesBack (Some m) out kept after
    → IsScanned s (Some []) (bytes_held (Some m) out) → FilesPage s k kept (Some b) after
filed_on s k kept b m after None asked back is = absurd (nothing_is_not_whole (subst IsWhole (sym is.taken) is.whole))
filed_on s k kept b m after (Some None) asked back is = absurd is.taken
filed_on s k kept b m after (Some (Some bytes)) asked back is = record { text = is.text; file = file_of s (Some []) (Some bytes) is; outputs = came_back b m k bytes is.text kept after asked is.taken back }

pub page_filed : (s : DeviceState) (k : ℕ) (kept : Bool) (before mid after : Option Stock) (out : Option (Option (List ℕ))) → IsAsked before out k mid → GivesBack mid out kept after
    → ((first : Option (List ℕ)) → Appends first (bytes_held before None) [] → IsScanned s first (bytes_held mid out)) → FilesPage s k kept before after
page_filed s k kept None mid after out asked back scanned =
    let is = scanned None tt in
    record { text = is.text; file = file_of s None _ is; outputs = tt }
page_filed s k kept (Some b) None after out asked back scanned = absurd asked
page_filed s k kept (Some b) (Some m) after out asked back scanned = filed_on s k kept b m after out asked back (scanned (Some []) refl)

-- ---- a page that was not

left_on : (k : ℕ) (kept : Bool) (b m : Stock) (after : Option Stock) (out : Option (Option (List ℕ))) → IsAsked (Some b) out k (Some m) → GivesBack (Some m) out kept after
    → StopsShort (Some []) (bytes_held (Some m) out) → LeavesPage k (Some b) after
left_on k kept b m after None asked back is = record { text = []; none = nothing_holds_none; left = []; is_left = refl; outputs = none_back b m after asked back.0 }
left_on k kept b m after (Some None) asked back is = absurd is.taken
left_on k kept b m after (Some (Some bytes)) asked back is = record {
  text = is.text;
  none = is.none;
  left = returned_output k is.text kept ∷ [];
  is_left = (kept, refl);
  outputs = came_back b m k bytes is.text kept after asked is.taken back;
}

pub page_left : (k : ℕ) (kept : Bool) (before mid after : Option Stock) (out : Option (Option (List ℕ))) → IsAsked before out k mid → GivesBack mid out kept after
    → ((first : Option (List ℕ)) → Appends first (bytes_held before None) [] → StopsShort first (bytes_held mid out)) → LeavesPage k before after
page_left k kept None mid after out asked back short = record { text = []; none = nothing_holds_none; left = []; is_left = refl; outputs = tt }
page_left k kept (Some b) None after out asked back short = absurd asked
page_left k kept (Some b) (Some m) after out asked back short = left_on k kept b m after out asked back (short (Some []) refl)
