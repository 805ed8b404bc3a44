use Rattle.std.proofs.Common.{◌<◌, ◌≤◌, ◌+◌, ◌∙◌, ℕ, length, replicate, ◌≡◌, ap, sym, subst, arith}
use Rattle.std.specs.Prelude.{slice_index}
use Rattle.std.specs.Simd.Lanes.{put_chunk}
use Rattle.std.proofs.lemmas.Simd.{get_or-put_chunk_at}
use Rattle.vector_lanes.proofs.bytes.listed.Goals as goal

pub returns : goal.returns
returns c i less =
    let room : 0 + length c.args.bytes ≤ 16 = omega (arith, c.requires) in
    let place : i ≡ 0 + i = omega arith in
    ap (slice_index (put_chunk 0 (replicate 16 0) c.args.bytes)) place ∙ get_or-put_chunk_at 0 (replicate 16 0) c.args.bytes i 0 (subst (λ (n : ℕ). i < n) (sym c.requires) less) room
