use Rattle.std.proofs.Common.{◌≡◌, rules, ap, ◌∙◌, refl, sym}
use Rattle.sane_fixed.specs.declared.frame_format.FrameFormat.{FrameFormat}
use Rattle.scan_frames.specs.declared.setup.Packing.TheVariants.{Bytes}
use Rattle.scan_frames.specs.Line.{packing_of}
use Rattle.scan_frames.specs.Frames.{channel_in, format_at}
use Rattle.scan_frames.proofs.Lines.{bits_line, samples_line_by, grays_line, gray_format}
use Rattle.scan_frames.proofs.line.make_line.Goals as goal

pub returns-in-Bits-clause-bytes : goal.returns-in-Bits-clause-bytes
returns-in-Bits-clause-bytes c =
    let setup = c.args.setup.now in
    let format = format_at setup c.args.pass in
    bits_line setup.order format setup.scene c.args.row.now c.places-places.result.now c.channel_in-channel.result c.args.columns.now c.put_bits.new.line _ (search rules) (c.channel_in-channel.ensures.value ∙ ap (λ (f : FrameFormat). channel_in f 0) c.format_at-format.ensures) (search rules) c.places-places.ensures.size c.places-places.ensures.each (search rules)

pub returns-in-Gray-clause-bytes : goal.returns-in-Gray-clause-bytes
returns-in-Gray-clause-bytes c =
    let setup = c.args.setup.now in
    grays_line setup.order (format_at setup c.args.pass) setup.scene c.args.row.now c.places-places.result.now c.args.columns.now c.put_grays.new.line _ (search rules) (search rules) (gray_format setup.scene.kind setup c.args.pass refl (search rules)) (search rules) c.places-places.ensures.size c.places-places.ensures.each c.put_grays.ensures.here (search rules)

pub returns-in-Color-clause-bytes : goal.returns-in-Color-clause-bytes
returns-in-Color-clause-bytes c =
    let setup = c.args.setup.now in
    let bytes : packing_of setup.scene.depth ≡ Bytes = search rules in
    samples_line_by setup.order c.format_at-format.result (format_at setup c.args.pass) setup.scene c.args.row.now c.places-places.result.now c.args.columns.now c.put_bytes.new.line _ Bytes c.format_at-format.ensures (sym bytes) (λ e. cc) (search rules) c.places-places.ensures.size c.places-places.ensures.each c.put_bytes.ensures.here (search rules)

pub returns-in-Words-clause-bytes : goal.returns-in-Words-clause-bytes
returns-in-Words-clause-bytes c =
    let setup = c.args.setup.now in
    samples_line_by setup.order c.format_at-format.result (format_at setup c.args.pass) setup.scene c.args.row.now c.places-places.result.now c.args.columns.now c.put_all.new.line _ _ c.format_at-format.ensures c.packing_of.ensures (λ e. cc) (search rules) c.places-places.ensures.size c.places-places.ensures.each c.put_all.ensures.here (search rules)
