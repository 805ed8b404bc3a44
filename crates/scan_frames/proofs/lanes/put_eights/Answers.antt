use Rattle.std.proofs.Common.{◌≡◌, ◌≤◌, ◌<◌, ◌+◌, ◌-◌, ◌*◌, ◌/◌, ◌∙◌, ℕ, inl, inr, length, arith, ap, subst}
use Rattle.std.specs.Prelude.{slice_index}
use Rattle.std.specs.Simd.Lanes.{put_chunk}
use Rattle.std.proofs.lemmas.Bool.{cases_lt}
use Rattle.std.proofs.lemmas.Simd.{length-put_chunk, get_or-put_chunk_below, get_or-put_chunk_at, get_or-put_chunk_above}
use Rattle.scan_frames.proofs.lanes.put_eights.Goals as goal

pub loop-n-preserved : goal.loop-n-preserved
loop-n-preserved c =
    let n = c.loop-n.n in
    let line = c.loop-n.line in
    let eight = c.upper_bytes.result in
    let row = c.args.row.now in
    let at = c.args.at in
    let inv = c.loop-n.invariant in
    let long : length eight ≡ 8 = c.upper_bytes.ensures.size in
    let room : 8 * n + 8 ≤ length line = omega (arith, inv.size, c.requires.line) in
    record {
      size = length-put_chunk (8 * n) line eight ∙ inv.size;
      here = λ x less. elim (cases_lt x (8 * n)) as (λ _. slice_index (put_chunk (8 * n) line eight) x ≡ slice_index row (at + 3 * x) / 256) [
        | inl low ↦ get_or-put_chunk_below (8 * n) line eight x 0 low ∙ inv.here x low
        | inr high ↦
            let j = x - 8 * n in
            let few : j < 8 = omega (arith, less, high) in
            let place : 8 * n + j ≡ x = omega (arith, high) in
            let dot : at + 24 * n + 3 * j ≡ at + 3 * (8 * n + j) = omega arith in
            subst (λ (x : ℕ). slice_index (put_chunk (8 * n) line eight) x ≡ slice_index row (at + 3 * x) / 256) place
            (get_or-put_chunk_at (8 * n) line eight j 0 (omega (arith, few, long)) (omega (arith, room, long))
            ∙ (c.upper_bytes.ensures.each j few ∙ ap (λ (v : ℕ). v / 256) (c.eight.ensures.each j few ∙ ap (slice_index row) dot)))
      ];
      behind = λ j more. get_or-put_chunk_above (8 * n) line eight j 0 (omega (arith, long, more)) ∙ inv.behind j (omega (arith, more));
    }
