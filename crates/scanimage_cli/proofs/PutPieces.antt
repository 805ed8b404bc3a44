-- Pieces that are put to a writer one after another.
use Rattle.std.proofs.Common.{◌≡◌, ◌<◌, ◌≤◌, ◌∙◌, ℕ, add-one, get_or, map, ◌+◌, List, [], ◌∷◌, ◌++◌, Bool, true, length, take, drop, ap, sym, subst, append_assoc, append-nil, arith, length-append, length-take-le, take-append-drop, take_all, refl, inr, Option}
use Rattle.std.proofs.lemmas.List.{take-append-le}
use Rattle.std.proofs.Math.ListN.{drop_of_length-le}
use Rattle.std.proofs.Math.Seq.{drop-cons}
use Rattle.std.specs.List.{concat}
use Rattle.std.specs.Io.KnownBytes.{Appends}
use Rattle.std.proofs.KnownBytes.{Appends-nil, Appends-trans}
use Rattle.scanimage_cli.specs.Printing.{TakesOrFails}

-- what was written so far, and what is left
pub record IsWritten (first now : Option (List ℕ)) (left whole : List ℕ) : Type 0 where
  pub text : List ℕ
  pub taken : Appends first now text
  pub rest : text ++ left ≡ whole

pub none_written : (first : Option (List ℕ)) (whole : List ℕ) → IsWritten first first whole whole
none_written first whole = record { text = []; taken = Appends-nil first; rest = refl }

pub one_written : (first now new : Option (List ℕ)) (piece left whole : List ℕ) → IsWritten first now (piece ++ left) whole → Appends now new piece → IsWritten first new left whole
one_written first now new piece left whole w taken = record {
  text = w.text ++ piece;
  taken = Appends-trans first now new w.text piece w.taken taken;
  rest = append_assoc w.text piece left ∙ w.rest;
}

pub all_written : (first now : Option (List ℕ)) (whole : List ℕ) → IsWritten first now [] whole → Appends first now whole
all_written first now whole w = subst (Appends first now) (sym (append-nil w.text) ∙ w.rest) w.taken

-- what was written when a piece was cut off is a front of the whole
front_of : (text piece left whole : List ℕ) (n : ℕ) → text ++ (piece ++ left) ≡ whole → take (length (text ++ take n piece)) whole ≡ text ++ take n piece
front_of text piece left whole n is =
    let front : List ℕ = text ++ take n piece in
    let cut : piece ≡ take n piece ++ drop n piece = sym (take-append-drop n piece) in
    let whole_is : whole ≡ front ++ (drop n piece ++ left) =
    sym is ∙ (ap (λ (l : List ℕ). text ++ l) (ap (λ (l : List ℕ). l ++ left) cut ∙ append_assoc (take n piece) (drop n piece) left) ∙ sym (append_assoc text (take n piece) (drop n piece ++ left))) in
    ap (take (length front)) whole_is ∙ (take-append-le (length front) front (drop n piece ++ left) (omega arith) ∙ take_all (length front) front (omega arith))

pub cut_off : (first now new : Option (List ℕ)) (piece left whole : List ℕ) (failed : Bool) (n : ℕ) → IsWritten first now (piece ++ left) whole → n < length piece → Appends now new (take n piece) → failed ≡ true → TakesOrFails first new whole failed
cut_off first now new piece left whole failed n w short taken fails =
    let front : List ℕ = w.text ++ take n piece in
    let long : length whole ≡ length w.text + (length piece + length left) = ap length (sym w.rest) ∙ (length-append w.text (piece ++ left) ∙ ap (λ k. length w.text + k) (length-append piece left)) in
    let count : length front ≡ length w.text + n = length-append w.text (take n piece) ∙ ap (λ k. length w.text + k) (length-take-le n piece (omega arith)) in
    inr (length front, omega arith, subst (Appends first new) (sym (front_of w.text piece left whole n w.rest)) (Appends-trans first now new w.text (take n piece) w.taken taken), fails)

-- ---- the pieces from one on

from_here : {A : Type 0} (f : A → List ℕ) (first now : Option (List ℕ)) (xs : List A) (i : ℕ) (d : A) (whole : List ℕ) → i < length xs
    → IsWritten first now (concat (map f (drop i xs))) whole → IsWritten first now (f (get_or xs i d) ++ concat (map f (drop (i + 1) xs))) whole
from_here f first now xs i d whole within w =
    let cut : drop i xs ≡ get_or xs i d ∷ drop (i + 1) xs = rw add-one (drop-cons xs i d within) in
    subst (λ l. IsWritten first now (concat (map f l)) whole) cut w

pub piece_written : {A : Type 0} (f : A → List ℕ) (first now new : Option (List ℕ)) (xs : List A) (i : ℕ) (d : A) (whole : List ℕ) → i < length xs
    → IsWritten first now (concat (map f (drop i xs))) whole → Appends now new (f (get_or xs i d)) → IsWritten first new (concat (map f (drop (i + 1) xs))) whole
piece_written f first now new xs i d whole within w taken =
    one_written first now new (f (get_or xs i d)) (concat (map f (drop (i + 1) xs))) whole (from_here f first now xs i d whole within w) taken

pub piece_cut_off : {A : Type 0} (f : A → List ℕ) (first now new : Option (List ℕ)) (xs : List A) (i : ℕ) (d : A) (whole : List ℕ) (failed : Bool) → i < length xs
    → IsWritten first now (concat (map f (drop i xs))) whole → (n : ℕ) × (n < length (f (get_or xs i d))) × Appends now new (take n (f (get_or xs i d))) → failed ≡ true → TakesOrFails first new whole failed
piece_cut_off f first now new xs i d whole failed within w front fails =
    cut_off first now new (f (get_or xs i d)) (concat (map f (drop (i + 1) xs))) whole failed front.0 (from_here f first now xs i d whole within w) front.1 front.2 fails

pub pieces_written : {A : Type 0} (f : A → List ℕ) (first now : Option (List ℕ)) (xs : List A) (i : ℕ) (whole : List ℕ) → length xs ≤ i → IsWritten first now (concat (map f (drop i xs))) whole → Appends first now whole
pieces_written f first now xs i whole all w = all_written first now whole (subst (λ l. IsWritten first now (concat (map f l)) whole) (drop_of_length-le xs all) w)
