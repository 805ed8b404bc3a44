use Rattle.std.proofs.Common.{◌≡◌, ◌+◌, ◌*◌, ◌<◌, ◌^◌}
use Rattle.netpbm.specs.FileText.{binary}
use Rattle.scan_frames.specs.Inside.{bit_in}
use Rattle.scan_frames.proofs.line.packed.Given as goal

abbrev pub invariant-loop-j : goal.invariant-loop-j
invariant-loop-j l = record {
  value : l.byte ≡ binary (λ j. bit_in l.fn.scene l.fn.row l.fn.places l.channel (8 * l.b + j)) l.j;
  limit : l.byte < 2 ^ l.j;
}
