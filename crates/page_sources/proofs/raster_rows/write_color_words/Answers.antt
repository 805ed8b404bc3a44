use Rattle.std.proofs.Common.{◌≡◌, ◌≤◌, ◌<◌, ◌+◌, ◌-◌, ◌*◌, ◌/◌, ◌∙◌, ℕ, inl, inr, length, arith, ap, sym, subst}
use Rattle.std.specs.Prelude.{slice_index}
use Rattle.std.proofs.lemmas.Bool.{cases_lt}
use Rattle.page_sources.proofs.EightLemmas.{word_of_eight, word_at}
use Rattle.page_sources.proofs.raster_rows.write_color_words.Goals as goal

pub eight_scaled-requires-clause-limit : goal.eight_scaled-requires-clause-limit
eight_scaled-requires-clause-limit c i less =
    let bytes = c.args.bytes.now in
    let n = c.loop-n.n in
    let same : c.new-scaling.result ≡ c.args.maxval = c.new-scaling.ensures in
    let inside : 8 * n + i < length c.args.row.now = omega (arith, less) in
    let limit = c.requires.limit (8 * n + i) inside in
    subst (λ (m : ℕ). 256 * slice_index bytes (16 * n + 2 * i) + slice_index bytes (16 * n + 2 * i + 1) ≤ m) (sym same)
    (subst (λ (v : ℕ). v ≤ c.args.maxval) (word_of_eight bytes n i) limit)

pub loop-n-preserved : goal.loop-n-preserved
loop-n-preserved c =
    let bytes = c.args.bytes.now in
    let n = c.loop-n.n in
    let row = c.put_eight.new.row in
    let before = c.loop-n.invariant in
    let same : c.new-scaling.result ≡ c.args.maxval = c.new-scaling.ensures in
    record {
      size = c.put_eight.auto.row ∙ before.size;
      each = λ j less. elim (cases_lt j (8 * n)) as (λ _. slice_index row j ≡ (256 * slice_index bytes (2 * j) + slice_index bytes (2 * j + 1)) * 65535 / c.args.maxval) [
        | inl low ↦ c.put_eight.ensures.before j low ∙ before.each j low
        | inr high ↦
            let i = j - 8 * n in
            let few : i < 8 = omega (arith, less, high) in
            let place : 8 * n + i ≡ j = omega (arith, high) in
            ap (slice_index row) (sym place) ∙ (c.put_eight.ensures.here i few ∙ (c.eight_scaled.ensures i few
            ∙ (ap (λ (v : ℕ). v * 65535 / c.new-scaling.result) (word_at bytes n j high) ∙ ap (λ (m : ℕ). (256 * slice_index bytes (2 * j) + slice_index bytes (2 * j + 1)) * 65535 / m) same)))
      ];
    }
