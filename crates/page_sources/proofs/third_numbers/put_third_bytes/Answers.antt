use Rattle.std.proofs.Common.{◌≡◌, ◌≤◌, ◌<◌, ◌+◌, ◌-◌, ◌*◌, ◌∙◌, inl, inr, length, arith, ap, sym}
use Rattle.std.specs.Prelude.{slice_index}
use Rattle.std.specs.Simd.Lanes.{put_chunk}
use Rattle.std.proofs.lemmas.Bool.{cases_lt}
use Rattle.std.proofs.lemmas.Simd.{length-put_chunk, get_or-put_chunk_below, get_or-put_chunk_at}
use Rattle.page_sources.proofs.third_numbers.put_third_bytes.Goals as goal

pub loop-n-preserved : goal.loop-n-preserved
loop-n-preserved c =
    let n = c.loop-n.n in
    let part = c.loop-n.part in
    let bytes = c.args.bytes.now in
    let at = c.args.at in
    let thirds = c.third_bytes.result in
    let inv = c.loop-n.invariant in
    let long : length thirds ≡ 16 = c.third_bytes.ensures.size in
    let room : 16 * n + 16 ≤ length part = omega (arith, inv.size) in
    record {
      size = length-put_chunk (16 * n) part thirds ∙ inv.size;
      each = λ x less. elim (cases_lt x (16 * n)) as (λ _. slice_index (put_chunk (16 * n) part thirds) x ≡ slice_index bytes (at + 3 * x)) [
        | inl low ↦ get_or-put_chunk_below (16 * n) part thirds x 0 low ∙ inv.each x low
        | inr high ↦
            let j = x - 16 * n in
            let few : j < 16 = omega (arith, less, high) in
            let place : 16 * n + j ≡ x = omega (arith, high) in
            let from : at + 48 * n + 3 * j ≡ at + 3 * x = omega (arith, high) in
            ap (slice_index (put_chunk (16 * n) part thirds)) (sym place)
            ∙ (get_or-put_chunk_at (16 * n) part thirds j 0 (omega (arith, few, long)) (omega (arith, room, long))
            ∙ (c.third_bytes.ensures.each j few ∙ ap (slice_index bytes) from))
      ];
    }
