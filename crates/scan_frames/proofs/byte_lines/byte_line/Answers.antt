use Rattle.std.proofs.Common.{◌≡◌, ◌*◌, rules, refl, sym, ap, length, drop, ◌++◌, subst}
use Rattle.sane_fixed.specs.declared.frame_format.FrameFormat.TheVariants.{Rgb as RgbFrame}
use Rattle.scan_frames.specs.Inside.{MakesOfRow, PutsChannel, PutsGrayBits}
use Rattle.page_picture.specs.Source.{ChannelBytes}
use Rattle.scan_frames.specs.Frames.{format_at}
use Rattle.scan_frames.proofs.ByteRows.{bits_made, channel_made, color_made, gray_made}
use Rattle.scan_frames.proofs.Lines.{gray_format}
use Rattle.scan_frames.proofs.byte_lines.byte_line.Goals as goal

pub returns-in-Bytes-Gray-default-clause-made : goal.returns-in-Bytes-Gray-default-clause-made
returns-in-Bytes-Gray-default-clause-made g c = λ made.
    let s = g.S.PageSource.source c.args.source.now in
    let t = g.S.PageSource.source c.put_gray_bytes.new.source in
    let setup = c.args.setup.now in
    let columns = c.args.columns.now in
    let part = c.put_gray_bytes.new.line in
    let count = c.places-count.ensures.size in
    let mode = c.in-Bytes-Gray-default.is-1 in
    subst (λ n. MakesOfRow s setup c.args.pass t (part ++ drop n c.args.line.now)) (sym count)
    (gray_made s t setup c.args.pass c.in-Some.first columns part c.args.line.now (search rules) mode (gray_format setup.scene.kind setup c.args.pass refl mode)
    c.requires.columns (search rules) (search rules) c.in-Some.ensures.each (search rules) (search rules) c.requires.size c.requires.zeros (c.put_gray_bytes.ensures.put made))

pub returns-in-Bytes-Color-Rgb-clause-made : goal.returns-in-Bytes-Color-Rgb-clause-made
returns-in-Bytes-Color-Rgb-clause-made g c = λ made.
    let s = g.S.PageSource.source c.args.source.now in
    let t = g.S.PageSource.source c.put_color_bytes.new.source in
    let setup = c.args.setup.now in
    let columns = c.args.columns.now in
    let part = c.put_color_bytes.new.line in
    let rgb : format_at setup c.args.pass ≡ RgbFrame = search rules in
    color_made s t setup c.args.pass c.in-Some.first c.args.tables.now columns part c.args.line.now (3 * length c.places-count.result.now) (search rules) (search rules) rgb c.requires.tables (search rules)
    c.requires.columns (search rules) (search rules) c.in-Some.ensures.each (ap (λ n. 3 * n) c.places-count.ensures.size) (search rules) (search rules) c.requires.size (λ i. (c.type_inv.line i).fits) c.requires.zeros (c.put_color_bytes.ensures.put made)

pub returns-in-Bits-Gray-default-clause-made : goal.returns-in-Bits-Gray-default-clause-made
returns-in-Bits-Gray-default-clause-made g c = λ made.
    let s = g.S.PageSource.source c.args.source.now in
    let t = g.S.PageSource.source c.put_gray_bits.new.source in
    let setup = c.args.setup.now in
    let columns = c.args.columns.now in
    let line = c.put_gray_bits.new.line in
    let first = c.in-Some.first in
    let put : PutsGrayBits s setup.scene.gamma first columns.count t line = subst (λ n. PutsGrayBits s setup.scene.gamma first n t line) c.places-count.ensures.size (c.put_gray_bits.ensures.put made) in
    bits_made s t setup c.args.pass first columns line (search rules) c.in-Bits-Gray-default.is-1 c.requires.columns (search rules) (search rules) c.in-Some.ensures.each (search rules) put

pub returns-in-Some-channel_shown-clause-made : goal.returns-in-Some-channel_shown-clause-made
returns-in-Some-channel_shown-clause-made g c = λ made.
    let s = g.S.PageSource.source c.args.source.now in
    let t = g.S.PageSource.source c.put_channel_bytes.new.source in
    let setup = c.args.setup.now in
    let columns = c.args.columns.now in
    let line = c.put_channel_bytes.new.line in
    let first = c.in-Some.first in
    let which = c.in-Some-channel_shown.which in
    let channel = c.in-Some-channel_shown.channel in
    let of : ChannelBytes = record { which = which; channel = channel; first = first } in
    let put : PutsChannel s of columns.count t line = subst (λ n. PutsChannel s of n t line) c.places-count.ensures.size (c.put_channel_bytes.ensures.put made) in
    channel_made s t setup c.args.pass c.args.tables.now which channel first columns line c.in-Some-channel_shown.ensures c.requires.tables
    c.requires.columns (search rules) (search rules) c.in-Some.ensures.each (search rules) (λ i. (c.type_inv.line i).fits) (search rules) put
