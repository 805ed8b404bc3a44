use Rattle.std.proofs.Common.{◌≡◌, ◌≤◌, ◌<◌, ◌+◌, ◌-◌, ◌*◌, ◌∙◌, inl, inr, length, arith, ap, sym}
use Rattle.std.specs.Prelude.{slice_index}
use Rattle.std.specs.Simd.Lanes.{put_chunk}
use Rattle.std.proofs.lemmas.Bool.{cases_lt}
use Rattle.std.proofs.lemmas.Simd.{length-put_chunk, get_or-put_chunk_below, get_or-put_chunk_at, get_or-put_chunk_above}
use Rattle.scan_frames.specs.Line.{half}
use Rattle.scan_frames.specs.declared.setup.Packing.TheVariants.{Words}
use Rattle.scan_frames.specs.Inside.{HasSample}
use Rattle.scan_frames.proofs.lanes.put_word_eights.Goals as goal

pub loop-n-preserved : goal.loop-n-preserved
loop-n-preserved c =
    let n = c.loop-n.n in
    let line = c.loop-n.line in
    let bytes = c.bytes_of.result in
    let row = c.args.row.now in
    let at = c.args.at in
    let order = c.args.order in
    let new = put_chunk (16 * n) line bytes in
    let inv = c.loop-n.invariant in
    let long : length bytes ≡ 16 = c.bytes_of.ensures.size in
    let room : 16 * n + 16 ≤ length line = omega (arith, inv.size, c.requires.line) in
    record {
      size = length-put_chunk (16 * n) line bytes ∙ inv.size;
      here = λ x less. elim (cases_lt x (8 * n)) as (λ _. HasSample Words order new x (slice_index row (at + 3 * x))) [
        | inl low ↦
            let was = inv.here x low in (
              get_or-put_chunk_below (16 * n) line bytes (2 * x) 0 (omega (arith, low)) ∙ was.0,
              get_or-put_chunk_below (16 * n) line bytes (2 * x + 1) 0 (omega (arith, low)) ∙ was.1,
            )
        | inr high ↦
            let j = x - 8 * n in
            let few : j < 8 = omega (arith, less, high) in
            let even : 16 * n + 2 * j ≡ 2 * x = omega (arith, high) in
            let odd : 16 * n + (2 * j + 1) ≡ 2 * x + 1 = omega (arith, high) in
            let dot : at + 24 * n + 3 * j ≡ at + 3 * x = omega (arith, high) in
            let sample = c.eight.ensures.each j few ∙ ap (slice_index row) dot in
            let first = c.bytes_of.ensures.lower j few ∙ (c.first_lower-samples.ensures.first j few ∙ ap (half order 0) sample) in
            let second = c.bytes_of.ensures.upper j few ∙ (c.first_lower-samples.ensures.second j few ∙ ap (half order 1) sample) in (
              ap (slice_index new) (sym even) ∙ (get_or-put_chunk_at (16 * n) line bytes (2 * j) 0 (omega (arith, few, long)) (omega (arith, room, long)) ∙ first),
              ap (slice_index new) (sym odd) ∙ (get_or-put_chunk_at (16 * n) line bytes (2 * j + 1) 0 (omega (arith, few, long)) (omega (arith, room, long)) ∙ second),
            )
      ];
      behind = λ j more. get_or-put_chunk_above (16 * n) line bytes j 0 (omega (arith, long, more)) ∙ inv.behind j (omega (arith, more));
    }
