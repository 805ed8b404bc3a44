use Rattle.std.proofs.Common.{◌≡◌, ◌+◌, ◌*◌, ◌<◌, ◌^◌}
use Rattle.std.specs.Prelude.{if◌then◌else◌, nat_lt}
use Rattle.page_picture.specs.Meaning.{sample_of}
use Rattle.netpbm.specs.FileText.{binary}
use Rattle.pnm_writer.proofs.plain.packed.Given as goal

abbrev pub invariant-loop-j : goal.invariant-loop-j
invariant-loop-j l = record {
  value : l.byte ≡ binary (λ j. if nat_lt (8 * l.b + j) l.size.0 then sample_of l.page l.scene (8 * l.b + j) l.y 0 else 0) l.j;
  limit : l.byte < 2 ^ l.j;
}
