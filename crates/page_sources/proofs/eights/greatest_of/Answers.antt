use Rattle.std.proofs.Common.{ℕ, ◌≡◌, ◌≤◌, ◌<◌, ◌+◌, ◌-◌, ◌*◌, ◌%◌, ◌∙◌, inl, inr, arith, sym, subst}
use Rattle.std.specs.Prelude.{slice_index}
use Rattle.std.proofs.lemmas.Bool.{cases_lt}
use Rattle.page_sources.proofs.EightLemmas.{word_of_eight, word_at}
use Rattle.page_sources.proofs.eights.greatest_of.Goals as goal

pub loop-n-preserved : goal.loop-n-preserved
loop-n-preserved c =
    let n = c.loop-n.n in
    let bytes = c.args.bytes.now in
    let old = c.loop-n.greatest in
    let eight = c.numbers_at.result in
    let new = c.greater-greatest.result in
    let before = c.loop-n.invariant in
    let lane : (i : ℕ) → 8 * n ≤ i → i < 8 * n + 8 → i % 8 ≡ i - 8 * n = λ i high low. omega (arith, high, low) in
    record {
      size = c.greater-greatest.ensures.size;
      most = λ i inside. elim (cases_lt i (8 * n)) as (λ _. 256 * slice_index bytes (2 * i) + slice_index bytes (2 * i + 1) ≤ slice_index new (i % 8)) [
        | inl low ↦
            let was = before.most i low in
            let more = c.greater-greatest.ensures.first (i % 8) (omega arith) in
            omega (arith, was, more)
        | inr high ↦
            let j = i - 8 * n in
            let few : j < 8 = omega (arith, inside, high) in
            let same = c.numbers_at.ensures.each j few ∙ word_at bytes n i high in
            let more = c.greater-greatest.ensures.second j few in
            let is : slice_index eight j ≡ 256 * slice_index bytes (2 * i) + slice_index bytes (2 * i + 1) = same in
            subst (λ (k : ℕ). 256 * slice_index bytes (2 * i) + slice_index bytes (2 * i + 1) ≤ slice_index new k) (sym (lane i high (omega (arith, inside)))) (omega (arith, is, more))
      ];
      one = λ k few some. elim (c.greater-greatest.ensures.one k few) as (λ _. (i : ℕ) × (i < 8 * (n + 1)) × (slice_index new k ≡ 256 * slice_index bytes (2 * i) + slice_index bytes (2 * i + 1))) [
        | inl first ↦
            let (i, inside, is) = before.one k few (subst (λ (v : ℕ). 0 < v) first some) in
            (i, omega (arith, inside), first ∙ is)
        | inr second ↦
            (8 * n + k, omega (arith, few), second ∙ (c.numbers_at.ensures.each k few ∙ sym (word_of_eight bytes n k)))
      ];
    }
