use Rattle.std.proofs.Common.{◌≡◌, ◌≤◌, ◌<◌, ◌+◌, ◌-◌, ◌*◌, ◌∙◌, inl, inr, length, arith, ap, sym}
use Rattle.std.specs.Prelude.{slice_index}
use Rattle.std.specs.Simd.Lanes.{put_chunk}
use Rattle.std.proofs.lemmas.Bool.{cases_lt}
use Rattle.std.proofs.lemmas.Simd.{length-put_chunk, get_or-put_chunk_below, get_or-put_chunk_at}
use Rattle.page_sources.proofs.third_numbers.put_third_words.Goals as goal

pub loop-n-preserved : goal.loop-n-preserved
loop-n-preserved c =
    let n = c.loop-n.n in
    let part = c.loop-n.part in
    let bytes = c.args.bytes.now in
    let at = c.args.at in
    let thirds = c.third_words.result in
    let new = put_chunk (16 * n) part thirds in
    let inv = c.loop-n.invariant in
    let long : length thirds ≡ 16 = c.third_words.ensures.size in
    let room : 16 * n + 16 ≤ length part = omega (arith, inv.size) in
    record {
      size = length-put_chunk (16 * n) part thirds ∙ inv.size;
      first = λ x less. elim (cases_lt x (8 * n)) as (λ _. slice_index new (2 * x) ≡ slice_index bytes (at + 6 * x)) [
        | inl low ↦ get_or-put_chunk_below (16 * n) part thirds (2 * x) 0 (omega (arith, low)) ∙ inv.first x low
        | inr high ↦
            let j = x - 8 * n in
            let few : j < 8 = omega (arith, less, high) in
            let place : 16 * n + 2 * j ≡ 2 * x = omega (arith, high) in
            let from : at + 48 * n + 6 * j ≡ at + 6 * x = omega (arith, high) in
            ap (slice_index new) (sym place)
            ∙ (get_or-put_chunk_at (16 * n) part thirds (2 * j) 0 (omega (arith, few, long)) (omega (arith, room, long))
            ∙ (c.third_words.ensures.first j few ∙ ap (slice_index bytes) from))
      ];
      second = λ x less. elim (cases_lt x (8 * n)) as (λ _. slice_index new (2 * x + 1) ≡ slice_index bytes (at + 6 * x + 1)) [
        | inl low ↦ get_or-put_chunk_below (16 * n) part thirds (2 * x + 1) 0 (omega (arith, low)) ∙ inv.second x low
        | inr high ↦
            let j = x - 8 * n in
            let few : j < 8 = omega (arith, less, high) in
            let place : 16 * n + (2 * j + 1) ≡ 2 * x + 1 = omega (arith, high) in
            let from : at + 48 * n + 6 * j + 1 ≡ at + 6 * x + 1 = omega (arith, high) in
            ap (slice_index new) (sym place)
            ∙ (get_or-put_chunk_at (16 * n) part thirds (2 * j + 1) 0 (omega (arith, few, long)) (omega (arith, room, long))
            ∙ (c.third_words.ensures.second j few ∙ ap (slice_index bytes) from))
      ];
    }
