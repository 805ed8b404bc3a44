-- Lists of endpoints, and bytes of which a front is moved.
use Rattle.std.specs.Prelude.{◌<◌, ◌≤◌, min}
use Rattle.std.proofs.Common.{◌≡◌, ◌≢◌, ◌∙◌, ℕ, zero, suc, Some, None, List, [], ◌∷◌, ◌++◌, length, take, drop, slice_get, slice_set, append_assoc, refl, sym, ap, arith}
use Rattle.std.proofs.lemmas.Option.{slice_get_within}
use Rattle.std.proofs.Math.Seq.{drop-append_seam, take-append_seam}
use Rattle.saned_serve.specs.Journal.{IsFront}
use Rattle.event_world.specs.JobEvents.{bytes_not_delivered, delivered_bytes}

pub set_there : {A : Type 0} (xs : List A) (i : ℕ) (x y : A) → slice_get xs i ≡ Some x → slice_get (slice_set xs i y) i ≡ Some y
set_there [] i x y e = absurd (let wrong : None ≡ Some x = e in cc)
set_there (a ∷ xs) zero x y e = refl
set_there (a ∷ xs) (suc i) x y e = set_there xs i x y e

pub set_other : {A : Type 0} (xs : List A) (i j : ℕ) (y : A) → i ≢ j → slice_get (slice_set xs i y) j ≡ slice_get xs j
set_other [] i j y n = refl
set_other (a ∷ xs) zero zero y n = absurd (n refl)
set_other (a ∷ xs) zero (suc j) y n = refl
set_other (a ∷ xs) (suc i) zero y n = refl
set_other (a ∷ xs) (suc i) (suc j) y n = set_other xs i j y (λ e. n (ap suc e))

pub same_there : {A : Type 0} (xs : List A) (i : ℕ) (x y : A) → slice_get xs i ≡ Some x → slice_get xs i ≡ Some y → x ≡ y
same_there xs i x y a b = let e : Some x ≡ Some y = sym a ∙ b in cc

pub within : {A : Type 0} (xs : List A) (i : ℕ) (x : A) → slice_get xs i ≡ Some x → i < length xs
within xs i x e = slice_get_within xs i x e

pub there : {A : Type 0} (xs : List A) (i : ℕ) → i < length xs → (x : A) × (slice_get xs i ≡ Some x)
there [] i low = absurd (omega (arith, low))
there (a ∷ xs) zero low = (a, refl)
there (a ∷ xs) (suc i) low = there xs i (omega (arith, low))

-- ---- fronts

pub cancel_front : (front a b : List ℕ) → front ++ a ≡ front ++ b → a ≡ b
cancel_front front a b e = sym (drop-append_seam front a) ∙ ap (drop (length front)) e ∙ drop-append_seam front b

-- what is left of a text once more of a front was used
pub left_of : (used text piece rest : List ℕ) → text ≡ used ++ rest → IsFront (used ++ piece) text → IsFront piece rest
left_of used text piece rest whole f = (f.0, cancel_front used rest (piece ++ f.0) (sym whole ∙ f.1 ∙ append_assoc used piece f.0))

pub moves_on : (used text piece rest more : List ℕ) → text ≡ used ++ rest → rest ≡ piece ++ more → text ≡ (used ++ piece) ++ more
moves_on used text piece rest more whole e = whole ∙ ap (λ (x : List ℕ). used ++ x) e ∙ sym (append_assoc used piece more)

pub more_behind : (used text rest more : List ℕ) → text ≡ used ++ rest → text ++ more ≡ used ++ (rest ++ more)
more_behind used text rest more whole = ap (λ (x : List ℕ). x ++ more) whole ∙ append_assoc used rest more

pub front_of_none : (piece : List ℕ) → IsFront piece [] → piece ≡ []
front_of_none [] f = refl
front_of_none (b ∷ piece) f = absurd (let wrong : [] ≡ b ∷ (piece ++ f.0) = f.1 in cc)

-- ---- a delivery of just these bytes

pub delivers : (piece rest bytes : List ℕ) → length piece ≤ 4096 → bytes ≡ piece ++ rest → delivered_bytes (length piece) bytes ≡ piece
delivers piece rest bytes short e =
    let n : min (length piece) 4096 ≡ length piece = omega (arith, short) in
    ap (λ (k : ℕ). take k bytes) n ∙ ap (take (length piece)) e ∙ take-append_seam piece rest

pub keeps_rest : (piece rest bytes : List ℕ) → length piece ≤ 4096 → bytes ≡ piece ++ rest → bytes_not_delivered (length piece) bytes ≡ rest
keeps_rest piece rest bytes short e =
    let n : min (length piece) 4096 ≡ length piece = omega (arith, short) in
    ap (λ (k : ℕ). drop k bytes) n ∙ ap (drop (length piece)) e ∙ drop-append_seam piece rest

pub some_wait : (piece rest bytes : List ℕ) → piece ≢ [] → bytes ≡ piece ++ rest → bytes ≢ []
some_wait [] rest bytes n e nothing = n refl
some_wait (b ∷ piece) rest bytes n e nothing = let wrong : [] ≡ b ∷ (piece ++ rest) = sym nothing ∙ e in cc

pub some_bytes : (piece : List ℕ) → piece ≢ [] → 0 < length piece
some_bytes [] n = absurd (n refl)
some_bytes (b ∷ piece) n = let e : length (b ∷ piece) ≡ suc (length piece) = refl in omega (arith, e)
