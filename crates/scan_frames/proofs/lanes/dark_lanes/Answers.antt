use Rattle.std.proofs.Common.{ℕ, ◌<◌, ◌/◌, ◌%◌, ◌^◌, ◌∙◌, ltb, ap, sym, subst, arith, w16}
use Rattle.std.proofs.lemmas.Simd.{bitmask_splat}
use Rattle.scan_frames.proofs.Eights.{mask_fits, mask_lane}
use Rattle.scan_frames.proofs.lanes.dark_lanes.Goals as goal

pub returns-clause-limit : goal.returns-clause-limit
returns-clause-limit c =
    subst (λ (n : ℕ). n < 256) (sym (bitmask_splat w16 ltb c.args.samples 8 32768 c.requires (omega arith))) (mask_fits c.args.samples 32768 8 c.requires)

pub returns-clause-each : goal.returns-clause-each
returns-clause-each c i less =
    ap (λ n. n / 2 ^ i % 2) (bitmask_splat w16 ltb c.args.samples 8 32768 c.requires (omega arith)) ∙ mask_lane c.args.samples 32768 8 i c.requires less
