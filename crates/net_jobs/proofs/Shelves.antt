-- Outputs that are given back to a shelf, and where none is under way.
use Rattle.std.proofs.Common.{◌≡◌, ◌≢◌, ◌∙◌, ℕ, suc, ◌+◌, Bool, true, Option, Some, None, List, [], ◌∷◌, ◌++◌, length, refl, sym, ap, subst, arith, append_assoc}
use Rattle.std.proofs.KnownBytes.{Appends-nil}
use Rattle.std.proofs.lemmas.List.{append-nil}
use Rattle.scan_job.specs.Shelves.{Stock, ReturnedOutput, Shelves}
use Rattle.frame_join.specs.FrameHistory.{JoinHistory}
use Rattle.net_jobs.specs.Outputs.{page_outputs_from}
use Rattle.net_jobs.specs.Inside.{HasShelved, HasTaken, HasTakenBack, HoldsNone, SinkState}
use Rattle.net_jobs.specs.Inside.SinkState.{OneOutput, OnShelf}
use Rattle.scan_job.specs.FileOutputs.{TakesBack, AreLeft, GivesBack, output_of, returned_output}

-- an output is taken back
back_on : (b m : Stock) (new : Option Stock) (outputs : List ReturnedOutput) (k : ℕ) (text : List ℕ) (contents : Option (List ℕ)) (kept : Bool) → (m.taken ≡ b.taken ++ outputs) × ((m.number ≡ k) × (contents ≡ Some text)) → Shelves (Some m) contents kept new
    → TakesBack (Some b) (outputs ++ returned_output k text kept ∷ []) new
back_on b m new outputs k text contents kept h e =
    subst (λ (o : Option Stock). TakesBack (Some b) (outputs ++ returned_output k text kept ∷ []) o) (sym e)
    (ap (λ (l : List ReturnedOutput). l ++ record { number = m.number; text = contents; kept = kept } ∷ []) h.0
    ∙ append_assoc b.taken outputs (record { number = m.number; text = contents; kept = kept } ∷ [])
    ∙ ap (λ (n : ℕ). b.taken ++ (outputs ++ record { number = n; text = contents; kept = kept } ∷ [])) h.1.0
    ∙ ap (λ (t : Option (List ℕ)). b.taken ++ (outputs ++ record { number = k; text = t; kept = kept } ∷ [])) h.1.1)

pub given_back : (before was new : Option Stock) (outputs : List ReturnedOutput) (k : ℕ) (text : List ℕ) (out : Option (Option (List ℕ))) (kept : Bool) → text ≢ [] → HasShelved before outputs was out k text → GivesBack was out kept new
    → TakesBack before (outputs ++ returned_output k text kept ∷ []) new
given_back None was new outputs k text out kept some h e = tt
given_back (Some b) None new outputs k text out kept some h e = absurd h
given_back (Some b) (Some m) new outputs k text None kept some h e = absurd (some h.1)
given_back (Some b) (Some m) new outputs k text (Some contents) kept some h e = back_on b m new outputs k text contents kept h e

-- ---- what was taken back in all

-- no output is under way
none_shelved : (before now : Option Stock) (outputs : List ReturnedOutput) (k : ℕ) → TakesBack before outputs now → HasShelved before outputs now None k []
none_shelved None now outputs k t = tt
none_shelved (Some b) None outputs k t = absurd t
none_shelved (Some b) (Some m) outputs k t = (t, refl)

pub none_under_way : (before now : SinkState) (outputs : List ReturnedOutput) (k : ℕ) → HasTakenBack before outputs now → HoldsNone now → HasTaken before outputs now k []
none_under_way (OneOutput was) (OneOutput now) outputs k back none = λ e. absurd (back e)
none_under_way (OnShelf was under) (OnShelf now out) outputs k back none = subst (λ (o : Option (Option (List ℕ))). HasShelved was outputs now o k []) (sym none) (none_shelved was now outputs k back)
none_under_way (OneOutput was) (OnShelf now out) outputs k back none = absurd back
none_under_way (OnShelf was under) (OneOutput now) outputs k back none = absurd back

nothing_back : (before : Option Stock) → TakesBack before [] before
nothing_back None = tt
nothing_back (Some b) = sym (append-nil b.taken)

pub begins_with_none : (before : SinkState) (k : ℕ) → HoldsNone before → HasTaken before [] before k []
begins_with_none (OneOutput held) k none = λ e. Appends-nil held
begins_with_none (OnShelf stock out) k none = none_under_way (OnShelf stock out) (OnShelf stock out) [] k (nothing_back stock) none

none_on_back : (b m : Stock) (new : Option Stock) (outputs : List ReturnedOutput) → m.taken ≡ b.taken ++ outputs → new ≡ Some m → TakesBack (Some b) outputs new
none_on_back b m new outputs h e = subst (λ (o : Option Stock). TakesBack (Some b) outputs o) (sym e) h

pub none_back : (before was new : Option Stock) (outputs : List ReturnedOutput) (k : ℕ) (bytes : List ℕ) (out : Option (Option (List ℕ))) (kept : Bool) → out ≡ None → HasShelved before outputs was out k bytes → GivesBack was out kept new → TakesBack before outputs new
none_back None was new outputs k bytes out kept none h e = tt
none_back (Some b) None new outputs k bytes out kept none h e = absurd h
none_back (Some b) (Some m) new outputs k bytes out kept none h e = none_on_back b m new outputs h.0 (let P : Option (Option (List ℕ)) → Type 0 = λ o. GivesBack (Some m) o kept new in (subst P none e).0)

-- where there is no output none is refused
pub none_kept : (was new : Option Stock) (out : Option (Option (List ℕ))) (kept : Bool) → out ≡ None → GivesBack was out kept new → kept ≡ true
none_kept was new out kept none e = let P : Option (Option (List ℕ)) → Type 0 = λ o. GivesBack was o kept new in (subst P none e).1

pub none_same : (was new : Option Stock) (out : Option (Option (List ℕ))) (kept : Bool) → out ≡ None → GivesBack was out kept new → new ≡ was
none_same was new out kept none e = let P : Option (Option (List ℕ)) → Type 0 = λ o. GivesBack was o kept new in (subst P none e).0

-- what was under way is given back as the job ends otherwise
pub left_behind : (before was new : Option Stock) (outputs : List ReturnedOutput) (k : ℕ) (text : List ℕ) (out : Option (Option (List ℕ))) (kept : Bool) → HasShelved before outputs was out k text → GivesBack was out kept new
    → (left : List ReturnedOutput) × AreLeft k text left × TakesBack before (outputs ++ left) new
left_behind None was new outputs k text out kept h e = (returned_output k text true ∷ [], (true, refl), tt)
left_behind (Some b) None new outputs k text out kept h e = absurd h
left_behind (Some b) (Some m) new outputs k text None kept h e = ([], h.1, subst (λ (l : List ReturnedOutput). TakesBack (Some b) l new) (sym (append-nil outputs)) (none_on_back b m new outputs h.0 e.0))
left_behind (Some b) (Some m) new outputs k text (Some contents) kept h e = (returned_output k text kept ∷ [], (kept, refl), back_on b m new outputs k text contents kept h e)

-- one page more
pub outputs_more : (k : ℕ) (pages : List JoinHistory) (page : JoinHistory) → page_outputs_from k (pages ++ page ∷ []) ≡ page_outputs_from k pages ++ output_of (length pages + k) page.given ∷ []
outputs_more k [] page = ap (λ (i : ℕ). output_of i page.given ∷ []) (omega arith)
outputs_more k (p ∷ pages) page =
    ap (λ (l : List ReturnedOutput). output_of k p.given ∷ l) (outputs_more (suc k) pages page ∙ ap (λ (i : ℕ). page_outputs_from (suc k) pages ++ output_of i page.given ∷ []) (omega arith))
