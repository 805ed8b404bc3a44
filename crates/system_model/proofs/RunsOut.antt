-- MOVES IN TURN: there are no more of them than the numbers tell, and they end with every job over.
use Rattle.std.proofs.Common.{◌≡◌, ◌∙◌, ◌≢◌, ◌≤◌, ◌<◌, ℕ, zero, suc, List, [], ◌∷◌, Bool, true, false, refl, sym, subst, inl, inr, eqb, eqb-true, arith}
use Rattle.std.specs.Prelude.{◌⊎◌}
use Rattle.std.proofs.lemmas.Bool.{eq-eqb}
use Rattle.system_model.specs.Client.{JobStage, Idle, Running, Done, Ended}
use Rattle.system_model.specs.SystemStates.{SystemState}
use Rattle.system_model.specs.Actions.{Action}
use Rattle.system_model.specs.Transitions.{Transition, By, Loads, Unplugs, Uses, IsUnderWay, IsEnabled, after_transition}
use Rattle.system_model.specs.Invariants.{Invariant}
use Rattle.system_model.specs.Variant.{job_variant}
use Rattle.system_model.specs.MoveRuns.{AreOver, RunsAreBounded, RunsEnd, RunsGoOn, RunsToTheEnd, sum_to}
use Rattle.system_model.proofs.InvariantAfter.{sound_after}
use Rattle.system_model.proofs.NextMoves.{nobody_is_stuck}
use Rattle.system_model.proofs.VariantSteps.{numbers_fall, others_raise_none}

-- SUMS
sums_same : (n : ℕ) (f g : ℕ → ℕ) → ((j : ℕ) → j < n → g j ≡ f j) → sum_to n g ≡ sum_to n f
sums_same zero f g h = refl
sums_same (suc n) f g h = let a = h n (omega arith) in let b = sums_same n f g (λ j l. h j (omega arith)) in omega arith

falls_here : (n i : ℕ) (f g : ℕ → ℕ) → n ≡ i → g i < f i → ((j : ℕ) → j ≢ i → g j ≡ f j) → sum_to (suc n) g < sum_to (suc n) f
falls_here n i f g same e h =
    let a = sums_same n f g (λ j m. h j (λ z. let y = z ∙ sym same in omega arith)) in
    let b : g n < f n = subst (λ (x : ℕ). g x < f x) (sym same) e in
    omega arith

less : (n i : ℕ) → n ≢ i → i < suc n → i < n
less n i d l = omega arith

falls_at : (n i : ℕ) (f g : ℕ → ℕ) (b : Bool) → eqb n i ≡ b → (i < n → sum_to n g < sum_to n f) → i < suc n → g i < f i → ((j : ℕ) → j ≢ i → g j ≡ f j) → sum_to (suc n) g < sum_to (suc n) f
falls_at n i f g true q below l e h = falls_here n i f g (eqb-true n i q) e h
falls_at n i f g false q below l e h =
    let differs : n ≢ i = λ z. let y : eqb n i ≡ true = eq-eqb n i z in cc in
    let a = below (less n i differs l) in
    let b = h n differs in
    omega arith

sum_falls : (n i : ℕ) (f g : ℕ → ℕ) → i < n → g i < f i → ((j : ℕ) → j ≢ i → g j ≡ f j) → sum_to n g < sum_to n f
sum_falls zero i f g l e h = absurd (omega arith)
sum_falls (suc n) i f g l e h = falls_at n i f g _ refl (λ m. sum_falls n i f g m e h) l e h

-- one move lowers the sum
step_falls : (n i : ℕ) (s : SystemState) (x : Action) → Invariant s → i < n → IsUnderWay (s.job i).client.stage → IsEnabled s (By i x) → sum_to n (job_variant (after_transition s (By i x))) < sum_to n (job_variant s)
step_falls n i s x h l u legal =
    sum_falls n i (job_variant s) (job_variant (after_transition s (By i x))) l (numbers_fall s i x h u legal) (λ j d. (others_raise_none s j (By i x) h legal d).0)

pub runs_bounded : RunsAreBounded
runs_bounded n s [] h l m = omega arith
runs_bounded n s (By i x ∷ xs) h l m =
    let a = step_falls n i s x h m.0 m.1 l.0 in
    let b = runs_bounded n (after_transition s (By i x)) xs (sound_after s (By i x) h l.0) l.1 m.3 in
    omega arith
runs_bounded n s (Loads d page ∷ xs) h l m = absurd m
runs_bounded n s (Unplugs d ∷ xs) h l m = absurd m
runs_bounded n s (Uses i d shown left ∷ xs) h l m = absurd m

pub runs_go_on : RunsGoOn
runs_go_on n i s h l u = let a = nobody_is_stuck s i h u in (By i a.0, (a.2, tt), (l, u, a.1, tt))

-- WHETHER A JOB IS UNDER WAY
under_way : (st : JobStage) → IsUnderWay st ⊎ (IsUnderWay st → ⊥)
under_way Idle = inl tt
under_way (Running g) = inl tt
under_way Done = inr (λ u. u)
under_way (Ended s w) = inr (λ u. u)

abbrev Some_ : ℕ → SystemState → Type 0
Some_ n s = (i : ℕ) × (i < n) × IsUnderWay (s.job i).client.stage

with_last : (n : ℕ) (s : SystemState) → Some_ n s ⊎ AreOver n s → IsUnderWay (s.job n).client.stage ⊎ (IsUnderWay (s.job n).client.stage → ⊥) → Some_ (suc n) s ⊎ AreOver (suc n) s
with_last n s e (inl u) = inl (n, omega arith, u)
with_last n s (inl (i, l, u)) (inr o) = inl (i, omega arith, u)
with_last n s (inr all) (inr o) = inr (λ i l. by i l (eqb i n) refl)
  where
    by : (i : ℕ) → i < suc n → (b : Bool) → eqb i n ≡ b → IsUnderWay (s.job i).client.stage → ⊥
    by i l true q u = o (subst (λ (x : ℕ). IsUnderWay (s.job x).client.stage) (eqb-true i n q) u)
    by i l false q u =
        let differs : i ≢ n = λ z. let y : eqb i n ≡ true = eq-eqb i n z in cc in
        all i (omega arith) u

some_under_way : (n : ℕ) (s : SystemState) → Some_ n s ⊎ AreOver n s
some_under_way zero s = inr (λ i l u. absurd (omega arith))
some_under_way (suc n) s = with_last n s (some_under_way n s) (under_way (s.job n).client.stage)

-- THE ROUND ROBIN
goes_out : (m n : ℕ) (s : SystemState) → Invariant s → sum_to n (job_variant s) ≤ m → Some_ n s ⊎ AreOver n s → (xs : List Transition) × RunsToTheEnd n s xs
goes_out m n s h l (inr over) = ([], record { is_history = tt; are_moves = tt; are_over = over })
goes_out zero n s h l (inl (i, b, u)) =
    let a = nobody_is_stuck s i h u in
    let f = step_falls n i s a.0 h b u a.2 in
    absurd (omega arith)
goes_out (suc m) n s h l (inl (i, b, u)) =
    let a = nobody_is_stuck s i h u in
    let t = after_transition s (By i a.0) in
    let f = step_falls n i s a.0 h b u a.2 in
    let rest = goes_out m n t (sound_after s (By i a.0) h a.2) (omega arith) (some_under_way n t) in
    (By i a.0 ∷ rest.0, record { is_history = (a.2, rest.1.is_history); are_moves = (b, u, a.1, rest.1.are_moves); are_over = rest.1.are_over })

pub runs_end : RunsEnd
runs_end n s h = goes_out (sum_to n (job_variant s)) n s h (omega arith) (some_under_way n s)
