use Rattle.std.proofs.Common.{ℕ, ◌≡◌, ◌≤◌, ◌<◌, ◌+◌, ◌-◌, ◌*◌, ◌%◌, ◌∙◌, inl, inr, arith, ap, subst}
use Rattle.std.specs.Prelude.{slice_index}
use Rattle.std.proofs.lemmas.Bool.{cases_lt}
use Rattle.page_sources.proofs.uppers_fit.greatest_of.Goals as goal

pub loop-n-preserved : goal.loop-n-preserved
loop-n-preserved c =
    let n = c.loop-n.n in
    let bytes = c.args.bytes.now in
    let eight = c.sixteen.result in
    let new = c.greater-greatest.result in
    let before = c.loop-n.invariant in
    record {
      size = c.greater-greatest.ensures.size;
      most = λ i inside. elim (cases_lt i (16 * n)) as (λ _. slice_index bytes i ≤ slice_index new (i % 16)) [
        | inl low ↦
            let was = before.most i low in
            let more = c.greater-greatest.ensures.first (i % 16) (omega arith) in
            omega (arith, was, more)
        | inr high ↦
            let j = i - 16 * n in
            let few : j < 16 = omega (arith, inside, high) in
            let place : 16 * n + j ≡ i = omega (arith, high) in
            let lane : j ≡ i % 16 = omega (arith, inside, high) in
            let is : slice_index eight j ≡ slice_index bytes i = c.sixteen.ensures.each j few ∙ ap (slice_index bytes) place in
            let more = c.greater-greatest.ensures.second j few in
            subst (λ (k : ℕ). slice_index bytes i ≤ slice_index new k) lane (omega (arith, is, more))
      ];
      one = λ k few some. elim (c.greater-greatest.ensures.one k few) as (λ _. (m : ℕ) × (m < n + 1) × (slice_index new k ≡ slice_index bytes (16 * m + k))) [
        | inl first ↦
            let (m, inside, is) = before.one k few (subst (λ (v : ℕ). 0 < v) first some) in
            (m, omega (arith, inside), first ∙ is)
        | inr second ↦ (n, omega arith, second ∙ c.sixteen.ensures.each k few)
      ];
    }
