use Rattle.std.proofs.Common.{drop, ap, rules}
use Rattle.page_picture.specs.Columns.{Columns}
use Rattle.scan_frames.specs.Inside.{state_of}
use Rattle.scan_frames.proofs.Giving.{gives_whole_line, no_filler}
use Rattle.scan_frames.proofs.buffers.give_whole_line.Goals as goal

pub byte_line-requires-clause-zeros : goal.byte_line-requires-clause-zeros
byte_line-requires-clause-zeros g c =
    let old = c.args.buffers.now in
    no_filler c.args.setup.now old.pass old.columns.count _ c.if-not-may_be_made_apart.ensures.no_loss (ap (λ (o : Columns). o.count) c.requires.frame.columns) (search rules)

pub returns-then-is_made-clause-given : goal.returns-then-is_made-clause-given
returns-then-is_made-clause-given g c = λ made.
    let s = g.S.PageSource.source c.args.source.now in
    let t = g.S.PageSource.source c.byte_line.new.source in
    let only = c.if-not-may_be_made_apart.ensures in
    gives_whole_line s t c.args.setup.now (state_of c.args.buffers.now) c.byte_line.new.line (drop c.len.result c.args.buf.now) c.requires.frame c.requires.none_left c.requires.more only.next only.alone c.in_ok-is_made.ensures.zeros (search rules) (c.in_ok-is_made.ensures.made made)
