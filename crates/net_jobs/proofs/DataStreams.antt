-- The data connections of a job, and the records that they bring.
use Rattle.std.proofs.Common.{◌≡◌, ◌∙◌, ◌+◌, ◌-◌, ◌≤◌, ◌<◌, ℕ, take, drop, length, arith, Option, Some, None, List, [], ◌∷◌, ◌++◌, refl, sym, ap, subst, append_assoc}
use Rattle.std.proofs.Math.Seq.{take-add}
use Rattle.std.proofs.lemmas.List.{append-nil, drop-drop, length-drop, length-take}
use Rattle.std.proofs.KnownBytes.{Consumes-trans, prepend_known-nil}
use Rattle.std.specs.Io.KnownBytes.{Consumes, prepend_known}
use Rattle.data_records.specs.declared.records.RecordPhase.TheVariants as phases
use Rattle.data_records.specs.Records.{CarriesRecords, IsRecords}
use Rattle.net_jobs.specs.JobJournal.{IsPiece}
use Rattle.net_jobs.specs.Links.{DialBrings, HasBrought, BeginWith}
use Rattle.net_jobs.specs.Inside.{HasReadOf}

-- the end record ends the records of the payload
pub records_end : (bytes payload : List ℕ) (status : ℕ) → CarriesRecords phases.Head (phases.Ended status) bytes payload → IsRecords bytes payload status
records_end bytes payload status c = subst (λ (l : List ℕ). IsRecords l payload status) (append-nil bytes) ((c [] payload status).1 ([], sym (append-nil payload), (refl, refl, refl)))

-- a dial
first_of_others : (all others : List (List ℕ)) (coming now : Option (List (List ℕ))) (remaining : Option (List ℕ)) (wholes : List (List ℕ)) → coming ≡ Some others → all ≡ wholes ++ others → DialBrings coming now remaining
    → (whole : List ℕ) × HasBrought (Some all) now (wholes ++ whole ∷ []) × HasReadOf (Some all) remaining whole []
first_of_others all [] coming now remaining wholes e a b = absurd (subst (λ (c : Option (List (List ℕ))). DialBrings c now remaining) e b)
first_of_others all (whole ∷ others) coming now remaining wholes e a b =
    let brings : DialBrings (Some (whole ∷ others)) now remaining = subst (λ (c : Option (List (List ℕ))). DialBrings c now remaining) e b in
    (whole, (others, brings.0, a ∙ sym (append_assoc wholes (whole ∷ []) others)), subst (λ (r : Option (List ℕ)). Consumes (Some whole) r []) (sym brings.1) refl)

pub brought_one : (coming0 coming now : Option (List (List ℕ))) (remaining : Option (List ℕ)) (wholes : List (List ℕ)) → HasBrought coming0 coming wholes → DialBrings coming now remaining
    → (whole : List ℕ) × HasBrought coming0 now (wholes ++ whole ∷ []) × HasReadOf coming0 remaining whole []
brought_one None coming now remaining wholes h b = ([], tt, refl)
brought_one (Some all) coming now remaining wholes h b = first_of_others all h.0 coming now remaining wholes h.1 h.2 b

-- a read
pub read_more : (coming0 coming : Option (List (List ℕ))) (was now : Option (List ℕ)) (wholes : List (List ℕ)) (whole bytes piece : List ℕ) → HasBrought coming0 coming (wholes ++ whole ∷ []) → HasReadOf coming0 was whole bytes
    → Consumes was now piece → (longer : List ℕ) × HasBrought coming0 coming (wholes ++ longer ∷ []) × HasReadOf coming0 now longer (bytes ++ piece)
read_more None coming was now wholes whole bytes piece brought reads consumed = (bytes ++ piece, tt, refl)
read_more (Some all) coming was now wholes whole bytes piece brought reads consumed = (whole, brought, Consumes-trans (Some whole) was now bytes piece reads consumed)

behind_read : (now : Option (List ℕ)) (whole bytes front rest : List ℕ) → bytes ≡ front ++ rest → Consumes (Some whole) now bytes → (more : List ℕ) × (whole ≡ front ++ more)
behind_read None whole bytes front rest e c = absurd c
behind_read (Some ys) whole bytes front rest e c = (rest ++ ys, c ∙ ap (λ (l : List ℕ). l ++ ys) e ∙ append_assoc front rest ys)

pub front_of : (coming0 : Option (List (List ℕ))) (now : Option (List ℕ)) (whole bytes front rest : List ℕ) → bytes ≡ front ++ rest → HasReadOf coming0 now whole bytes → (more : List ℕ) × (whole ≡ front ++ more)
front_of None now whole bytes front rest e reads = (rest, reads ∙ e)
front_of (Some all) now whole bytes front rest e reads = behind_read now whole bytes front rest e reads

pub begin_more : (wholes streams : List (List ℕ)) (whole stream : List ℕ) → BeginWith wholes streams → (more : List ℕ) × (whole ≡ stream ++ more) → BeginWith (wholes ++ whole ∷ []) (streams ++ stream ∷ [])
begin_more [] [] whole stream b front = (front, tt)
begin_more [] (s ∷ ss) whole stream b front = absurd b
begin_more (w ∷ ws) [] whole stream b front = absurd b
begin_more (w ∷ ws) (s ∷ ss) whole stream b front = (b.0, begin_more ws ss whole stream b.1 front)

-- ---- bytes that are read ahead

-- so the first of them are taken
pub ahead_taken : (known : Option (List ℕ)) (all front rest : List ℕ) → all ≡ front ++ rest → Consumes (prepend_known all known) (prepend_known rest known) front
ahead_taken None all front rest e = tt
ahead_taken (Some x) all front rest e = ap (λ (l : List ℕ). l ++ x) e ∙ append_assoc front rest x

pub next_taken : (room : List ℕ) (at end n : ℕ) → at + n ≤ end → take (end - at) (drop at room) ≡ take n (drop at room) ++ take (end - (at + n)) (drop (at + n) room)
next_taken room at end n fits =
    let split : end - at ≡ n + (end - (at + n)) = omega (arith, fits) in
    ap (λ (k : ℕ). take k (drop at room)) split ∙ take-add n (end - (at + n)) (drop at room) ∙ ap (λ (l : List ℕ). take n (drop at room) ++ take (end - (at + n)) l) (drop-drop n at room)

pub first_piece : (n at : ℕ) (room : List ℕ) → 0 < n → at < length room → n ≤ 4096 → IsPiece (take n (drop at room))
first_piece n at room some within few = (
  λ none. omega (arith, some, within, length-take n (drop at room), length-drop at room, ap (λ (l : List ℕ). length l) none),
  omega (arith, few, length-take n (drop at room)),
)

-- of a connection that was just made nothing is read
pub brings_ahead : (was now : Option (List (List ℕ))) (remaining : Option (List ℕ)) → DialBrings was now remaining → DialBrings was now (prepend_known [] remaining)
brings_ahead was now remaining b = subst (λ (o : Option (List ℕ)). DialBrings was now o) (sym (prepend_known-nil remaining)) b
