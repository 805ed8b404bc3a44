use Rattle.std.proofs.Common.{ℕ, ◌<◌, ◌/◌, ◌%◌, ◌^◌, ◌∙◌, ltb, ap, sym, subst, arith, w8}
use Rattle.std.proofs.lemmas.Simd.{bitmask_splat}
use Rattle.scan_frames.proofs.Eights.{mask_fits, mask_lane}
use Rattle.scan_frames.proofs.byte_bits.black_lanes.Goals as goal

pub returns-clause-limit : goal.returns-clause-limit
returns-clause-limit c =
    subst (λ (n : ℕ). n < 65536) (sym (bitmask_splat w8 ltb c.args.bytes 16 128 c.requires (omega arith))) (mask_fits c.args.bytes 128 16 c.requires)

pub returns-clause-each : goal.returns-clause-each
returns-clause-each c i less =
    ap (λ n. n / 2 ^ i % 2) (bitmask_splat w8 ltb c.args.bytes 16 128 c.requires (omega arith)) ∙ mask_lane c.args.bytes 128 16 i c.requires less
