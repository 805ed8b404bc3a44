use Rattle.std.proofs.Common.{◌≡◌, ◌≤◌, ◌<◌, ◌+◌, ◌-◌, ◌*◌, ◌/◌, ◌^◌, ◌∙◌, ℕ, inl, inr, length, arith, ap, sym, subst}
use Rattle.std.specs.Prelude.{slice_index}
use Rattle.std.specs.Simd.Lanes.{put_chunk}
use Rattle.std.proofs.lemmas.Bool.{cases_lt}
use Rattle.std.proofs.lemmas.Simd.{length-put_chunk, get_or-put_chunk_below, get_or-put_chunk_at}
use Rattle.page_sources.proofs.EightLemmas.{word_of_eight, word_at}
use Rattle.page_sources.proofs.upper_rows.put_products.Goals as goal

pub raised-samples-requires-clause-limit : goal.raised-samples-requires-clause-limit
raised-samples-requires-clause-limit c i less =
    let bytes = c.args.bytes.now in
    let n = c.loop-n.n in
    let limit = c.requires.limit (8 * n + i) (omega (arith, less)) in
    subst (λ (v : ℕ). v * c.args.factor < 2 ^ 16) (word_of_eight bytes n i ∙ sym (c.numbers_at.ensures.each i less)) limit

pub loop-n-preserved : goal.loop-n-preserved
loop-n-preserved c =
    let n = c.loop-n.n in
    let part = c.loop-n.part in
    let bytes = c.args.bytes.now in
    let factor = c.args.factor in
    let eight = c.upper_bytes.result in
    let inv = c.loop-n.invariant in
    let long : length eight ≡ 8 = c.upper_bytes.ensures.size in
    let room : 8 * n + 8 ≤ length part = omega (arith, inv.size) in
    record {
      size = length-put_chunk (8 * n) part eight ∙ inv.size;
      each = λ x less. elim (cases_lt x (8 * n)) as (λ _. slice_index (put_chunk (8 * n) part eight) x ≡ (256 * slice_index bytes (2 * x) + slice_index bytes (2 * x + 1)) * factor / 256) [
        | inl low ↦ get_or-put_chunk_below (8 * n) part eight x 0 low ∙ inv.each x low
        | inr high ↦
            let j = x - 8 * n in
            let few : j < 8 = omega (arith, less, high) in
            let place : 8 * n + j ≡ x = omega (arith, high) in
            ap (slice_index (put_chunk (8 * n) part eight)) (sym place)
            ∙ (get_or-put_chunk_at (8 * n) part eight j 0 (omega (arith, few, long)) (omega (arith, room, long))
            ∙ (c.upper_bytes.ensures.each j few
            ∙ ap (λ (v : ℕ). v / 256) (c.raised-samples.ensures.each j few ∙ ap (λ (v : ℕ). v * factor) (c.numbers_at.ensures.each j few ∙ word_at bytes n x high))))
      ];
    }
