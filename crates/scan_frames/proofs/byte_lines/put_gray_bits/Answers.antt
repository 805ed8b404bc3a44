use Rattle.std.proofs.Common.{rules, ◌≡◌, ◌<◌, ℕ, length, subst}
use Rattle.scan_frames.specs.Inside.{PutsGrays, blacks_in}
use Rattle.std.specs.Prelude.{slice_index}
use Rattle.scan_frames.proofs.ByteRows.{bits_put}
use Rattle.scan_frames.proofs.byte_lines.put_gray_bits.Goals as goal

pub returns-clause-put : goal.returns-clause-put
returns-clause-put g c = λ made.
    let s = g.S.PageSource.source c.args.source.now in
    let t = g.S.PageSource.source c.put_gray_bytes.new.source in
    let grays = c.put_gray_bytes.new.line in
    let put : PutsGrays s c.args.table.now c.args.first t grays = search rules in
    let bits : (b : ℕ) → b < length c.put_bits_of.new.line → slice_index c.put_bits_of.new.line b ≡ blacks_in grays b = λ b less. c.put_bits_of.ensures b (subst (λ (n : ℕ). b < n) c.put_bits_of.auto.line less) in
    bits_put s t c.args.table.now c.args.first c.args.count grays c.put_bits_of.new.line (search rules) put bits
