use Rattle.std.proofs.Common.{◌≡◌, ℕ, ◌<◌, ◌+◌, ◌*◌, List, inl, inr, arith, rules, sym, subst}
use Rattle.std.specs.Prelude.{slice_index}
use Rattle.std.proofs.lemmas.Bool.{cases_lt}
use Rattle.scan_frames.specs.declared.setup.Packing.{Packing}
use Rattle.scan_frames.specs.declared.setup.Packing.TheVariants.{Words}
use Rattle.scan_frames.specs.Inside.{HasSample}
use Rattle.scan_frames.proofs.line.put_words.Goals as goal

pub loop-x-preserved : goal.loop-x-preserved
loop-x-preserved c =
    let order = c.args.layout.order in
    let x = c.loop-x.x in
    let row = c.args.row.now in
    let at : ℕ → ℕ → ℕ = λ i k. slice_index row (3 * slice_index c.args.places.now i + k) in
    let last = c.put-in-loop-x-2.new.line in
    let Has : Packing → ℕ → List ℕ → ℕ → Type 0 = λ p j line v. HasSample p order line j v in
    let given : (j : ℕ) (line : List ℕ) (v : ℕ) → Has Words j line v → Has c.args.layout.packing j line v = λ j line v h. subst (λ (p : Packing). Has p j line v) (sym c.requires.packing) h in
    let taken : (j : ℕ) (line : List ℕ) (v : ℕ) → Has c.args.layout.packing j line v → Has Words j line v = λ j line v h. subst (λ (p : Packing). Has p j line v) c.requires.packing h in
    let after_second : (j v : ℕ) → j < 3 * x + 2 → Has c.args.layout.packing j c.put-in-loop-x.new.line v → Has Words j last v =
    λ j v less h. taken j last v (c.put-in-loop-x-2.ensures.before j v less h) in
    let after_first : (j v : ℕ) → j < 3 * x + 1 → Has c.args.layout.packing j c.put.new.line v → Has Words j last v =
    λ j v less h. after_second j v (omega arith) (c.put-in-loop-x.ensures.before j v less h) in
    let kept : (i k : ℕ) → i < x → k < 3 → Has Words (3 * i + k) last (at i k) =
    λ i k h less. after_first (3 * i + k) (at i k) (omega arith) (c.put.ensures.before (3 * i + k) (at i k) (omega arith) (given (3 * i + k) c.loop-x.line (at i k) (c.loop-x.invariant.here i k h less))) in
    let place = slice_index c.args.places.now x in
    let first = after_first (3 * x) (slice_index row (3 * place)) (omega arith) c.put.ensures.here in
    let second = after_second (3 * x + 1) (slice_index row (3 * place + 1)) (omega arith) c.put-in-loop-x.ensures.here in
    let third = taken (3 * x + 2) last (slice_index row (3 * place + 2)) c.put-in-loop-x-2.ensures.here in
    let zeroth : Has Words (3 * x + 0) last (at x 0) =
    subst (λ (j : ℕ). Has Words j last (at x 0)) (let e : 3 * x ≡ 3 * x + 0 = omega arith in e)
    (subst (λ (j : ℕ). Has Words (3 * x) last (slice_index row j)) (let e : 3 * place ≡ 3 * place + 0 = omega arith in e) first) in
    let new : (k : ℕ) → k < 3 → Has Words (3 * x + k) last (at x k) =
    λ k less. elim (cases_lt k 1) as (λ _. Has Words (3 * x + k) last (at x k)) [
      | inl none ↦ let e : k ≡ 0 = omega arith in subst (λ (k : ℕ). Has Words (3 * x + k) last (at x k)) (sym e) zeroth
      | inr some ↦ elim (cases_lt k 2) as (λ _. Has Words (3 * x + k) last (at x k)) [
        | inl one ↦ let e : k ≡ 1 = omega arith in subst (λ (k : ℕ). Has Words (3 * x + k) last (at x k)) (sym e) second
        | inr two ↦ let e : k ≡ 2 = omega arith in subst (λ (k : ℕ). Has Words (3 * x + k) last (at x k)) (sym e) third
      ]
    ] in
    record {
      here = λ i k h less. elim (cases_lt i x) as (λ _. Has Words (3 * i + k) last (at i k)) [
        | inl before ↦ kept i k before less
        | inr more ↦ let same : i ≡ x = omega arith in subst (λ (i : ℕ). Has Words (3 * i + k) last (at i k)) (sym same) (new k less)
      ];
      behind = search rules;
    }
