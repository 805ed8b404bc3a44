-- IN WHATEVER PIECES BYTES COME the same messages become whole, and the same marks are shown.
use Rattle.std.proofs.Common.{◌≡◌, ◌∙◌, ◌≤◌, ◌+◌, ◌-◌, ℕ, List, [], ◌∷◌, ◌++◌, Bool, true, false, refl, sym, ap, append_assoc, arith}
use Rattle.std.specs.Prelude.{take, drop, leb}
use Rattle.std.proofs.lemmas.Bool.{leb-true, le-leb}
use Rattle.std.proofs.Math.Seq.{take-add}
use Rattle.system_model.specs.SystemStates.{SystemState}
use Rattle.system_model.specs.Actions
use Rattle.system_model.specs.Transitions.{Transition, By, after_transition, after_all}
use Rattle.system_model.specs.Marks.{Mark}
use Rattle.system_model.specs.MoveRuns.{all_marks, marks_at}
use Rattle.system_model.specs.Deliveries.{Chance, whole_messages, rest_of_link, messages_completed, link_after, answers, PiecesComplete, PiecesShowTheSame}

abbrev AreWholeBy : List ℕ → ℕ → ℕ → Type 0
AreWholeBy sizes a m =
    (whole_messages sizes (a + m) ≡ whole_messages sizes a + whole_messages (rest_of_link sizes a).sizes ((rest_of_link sizes a).came + m))
    × (rest_of_link sizes (a + m) ≡ rest_of_link (rest_of_link sizes a).sizes ((rest_of_link sizes a).came + m))

first_whole : (size : ℕ) (sizes : List ℕ) (a m : ℕ) (b : Bool) → AreWholeBy sizes (a - size) m → leb size a ≡ b → AreWholeBy (size ∷ sizes) a m
first_whole size sizes a m false rest e = rw e (omega arith, refl)
first_whole size sizes a m true rest e =
    let l : size ≤ a = leb-true size a e in
    let t : leb size (a + m) ≡ true = le-leb size (a + m) (omega arith) in
    let n : a + m - size ≡ a - size + m = omega arith in
    rw (e, t, n) (let f = rest.0 in omega arith, rest.1)

in_pieces : (sizes : List ℕ) (a m : ℕ) → AreWholeBy sizes a m
in_pieces [] a m = (refl, refl)
in_pieces (size ∷ sizes) a m = first_whole size sizes a m _ (in_pieces sizes (a - size) m) refl

pub pieces_complete : PiecesComplete
pieces_complete link n m =
    let a : link.came + (n + m) ≡ link.came + n + m = omega arith in
    rw a (in_pieces link.sizes (link.came + n) m)

-- MARKS
marks_then : (d : ℕ) (s : SystemState) (xs ys : List Transition) → all_marks d s (xs ++ ys) ≡ all_marks d s xs ++ all_marks d (after_all s xs) ys
marks_then d s [] ys = refl
marks_then d s (x ∷ xs) ys =
    ap (λ (ms : List Mark). marks_at d s x ++ ms) (marks_then d (after_transition s x) xs ys)
    ∙ sym (append_assoc (marks_at d s x) (all_marks d (after_transition s x) xs) (all_marks d (after_all (after_transition s x) xs) ys))

answers_then : (i : ℕ) (xs ys : List Chance) → answers i (xs ++ ys) ≡ answers i xs ++ answers i ys
answers_then i [] ys = refl
answers_then i (x ∷ xs) ys = ap (λ (zs : List Transition). By i (Actions.Answers x.0 x.1) ∷ zs) (answers_then i xs ys)

pub pieces_show_the_same : PiecesShowTheSame
pieces_show_the_same d s i link n m chances =
    let c = (pieces_complete link n m).0 in
    let k = messages_completed link n in
    ap (λ (j : ℕ). all_marks d s (answers i (take j chances))) c
    ∙ ap (λ (xs : List Chance). all_marks d s (answers i xs)) (take-add k (messages_completed (link_after link n) m) chances)
    ∙ ap (λ (xs : List Transition). all_marks d s xs) (answers_then i (take k chances) (take (messages_completed (link_after link n) m) (drop k chances)))
    ∙ marks_then d s (answers i (take k chances)) (answers i (take (messages_completed (link_after link n) m) (drop k chances)))
