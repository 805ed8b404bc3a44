use Rattle.std.proofs.Common.{ℕ, ◌≡◌, ◌+◌, ◌-◌, ◌*◌, ◌∙◌, inl, inr, arith, ap, List}
use Rattle.std.specs.Prelude.{slice_index}
use Rattle.std.proofs.lemmas.Bool.{cases_lt}
use Rattle.frame_join.proofs.planes.weave_words.Goals as goal

pub loop-n-preserved : goal.loop-n-preserved
loop-n-preserved c =
    let n = c.loop-n.n in
    let first = c.args.first in
    let buf = c.put_eight.new.buf in
    let before = c.loop-n.invariant in
    let at : (xs : List ℕ) (i j : ℕ) → i ≡ j → slice_index xs i ≡ slice_index xs j = λ xs i j e. ap (slice_index xs) e in
    record {
      size = c.put_eight.auto.buf ∙ before.size;
      red = λ k less. elim (cases_lt k (8 * n)) as (λ _. slice_index buf (first + 6 * k) ≡ slice_index c.args.red.now (2 * k + c.args.turn)) [
        | inl low ↦ c.put_eight.ensures.before (first + 6 * k) (omega (arith, low)) ∙ before.red k low
        | inr high ↦
            at buf (first + 6 * k) (first + 48 * n + 6 * (k - 8 * n)) (omega (arith, high))
            ∙ (c.put_eight.ensures.red (k - 8 * n) (omega (arith, less, high)) ∙ (c.eight_at-reds.ensures.lower (k - 8 * n) (omega (arith, less, high))
            ∙ at c.args.red.now (16 * n + 2 * (k - 8 * n) + c.args.turn) (2 * k + c.args.turn) (omega (arith, high))))
      ];
      red_other = λ k less. elim (cases_lt k (8 * n)) as (λ _. slice_index buf (first + 6 * k + 1) ≡ slice_index c.args.red.now (2 * k + (1 - c.args.turn))) [
        | inl low ↦ c.put_eight.ensures.before (first + 6 * k + 1) (omega (arith, low)) ∙ before.red_other k low
        | inr high ↦
            at buf (first + 6 * k + 1) (first + 48 * n + 6 * (k - 8 * n) + 1) (omega (arith, high))
            ∙ (c.put_eight.ensures.red_upper (k - 8 * n) (omega (arith, less, high)) ∙ (c.eight_at-reds.ensures.upper (k - 8 * n) (omega (arith, less, high))
            ∙ at c.args.red.now (16 * n + 2 * (k - 8 * n) + (1 - c.args.turn)) (2 * k + (1 - c.args.turn)) (omega (arith, high))))
      ];
      green = λ k less. elim (cases_lt k (8 * n)) as (λ _. slice_index buf (first + 6 * k + 2) ≡ slice_index c.args.green.now (2 * k + c.args.turn)) [
        | inl low ↦ c.put_eight.ensures.before (first + 6 * k + 2) (omega (arith, low)) ∙ before.green k low
        | inr high ↦
            at buf (first + 6 * k + 2) (first + 48 * n + 6 * (k - 8 * n) + 2) (omega (arith, high))
            ∙ (c.put_eight.ensures.green (k - 8 * n) (omega (arith, less, high)) ∙ (c.eight_at-greens.ensures.lower (k - 8 * n) (omega (arith, less, high))
            ∙ at c.args.green.now (16 * n + 2 * (k - 8 * n) + c.args.turn) (2 * k + c.args.turn) (omega (arith, high))))
      ];
      green_other = λ k less. elim (cases_lt k (8 * n)) as (λ _. slice_index buf (first + 6 * k + 3) ≡ slice_index c.args.green.now (2 * k + (1 - c.args.turn))) [
        | inl low ↦ c.put_eight.ensures.before (first + 6 * k + 3) (omega (arith, low)) ∙ before.green_other k low
        | inr high ↦
            at buf (first + 6 * k + 3) (first + 48 * n + 6 * (k - 8 * n) + 3) (omega (arith, high))
            ∙ (c.put_eight.ensures.green_upper (k - 8 * n) (omega (arith, less, high)) ∙ (c.eight_at-greens.ensures.upper (k - 8 * n) (omega (arith, less, high))
            ∙ at c.args.green.now (16 * n + 2 * (k - 8 * n) + (1 - c.args.turn)) (2 * k + (1 - c.args.turn)) (omega (arith, high))))
      ];
      blue = λ k less. elim (cases_lt k (8 * n)) as (λ _. slice_index buf (first + 6 * k + 4) ≡ slice_index c.args.blue.now (2 * k + c.args.turn)) [
        | inl low ↦ c.put_eight.ensures.before (first + 6 * k + 4) (omega (arith, low)) ∙ before.blue k low
        | inr high ↦
            at buf (first + 6 * k + 4) (first + 48 * n + 6 * (k - 8 * n) + 4) (omega (arith, high))
            ∙ (c.put_eight.ensures.blue (k - 8 * n) (omega (arith, less, high)) ∙ (c.eight_at-blues.ensures.lower (k - 8 * n) (omega (arith, less, high))
            ∙ at c.args.blue.now (16 * n + 2 * (k - 8 * n) + c.args.turn) (2 * k + c.args.turn) (omega (arith, high))))
      ];
      blue_other = λ k less. elim (cases_lt k (8 * n)) as (λ _. slice_index buf (first + 6 * k + 5) ≡ slice_index c.args.blue.now (2 * k + (1 - c.args.turn))) [
        | inl low ↦ c.put_eight.ensures.before (first + 6 * k + 5) (omega (arith, low)) ∙ before.blue_other k low
        | inr high ↦
            at buf (first + 6 * k + 5) (first + 48 * n + 6 * (k - 8 * n) + 5) (omega (arith, high))
            ∙ (c.put_eight.ensures.blue_upper (k - 8 * n) (omega (arith, less, high)) ∙ (c.eight_at-blues.ensures.upper (k - 8 * n) (omega (arith, less, high))
            ∙ at c.args.blue.now (16 * n + 2 * (k - 8 * n) + (1 - c.args.turn)) (2 * k + (1 - c.args.turn)) (omega (arith, high))))
      ];
      before = λ i less. c.put_eight.ensures.before i (omega (arith, less)) ∙ before.before i less;
      behind = λ i more. c.put_eight.ensures.behind i (omega (arith, more)) ∙ before.behind i (omega (arith, more));
    }
