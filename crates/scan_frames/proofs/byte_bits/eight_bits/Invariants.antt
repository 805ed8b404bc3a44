use Rattle.std.proofs.Common.{◌≡◌, ◌+◌, ◌*◌, ◌<◌, ◌^◌}
use Rattle.netpbm.specs.FileText.{binary}
use Rattle.scan_frames.specs.Inside.{black_in}
use Rattle.scan_frames.proofs.byte_bits.eight_bits.Given as goal

abbrev pub invariant-loop-j : goal.invariant-loop-j
invariant-loop-j l = record {
  value : l.byte ≡ binary (λ j. black_in l.fn.bytes (8 * l.b + j)) l.j;
  limit : l.byte < 2 ^ l.j;
}
