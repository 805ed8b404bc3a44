use Rattle.std.proofs.Common.{decimal}
use Rattle.netpbm.specs.Pnm.{magic}
use Rattle.netpbm.specs.FileText.{maxval_text}
use Rattle.frame_join.proofs.HeaderLemmas.{header_pieces}
use Rattle.frame_join.proofs.header_writing.put_header.Goals as goal

pub returns-clause-items : goal.returns-clause-items
returns-clause-items c =
    let h = c.args.header.now in
    rw (c.put_maxval.ensures.items, c.put_text-4.ensures.items, c.put_number-2.ensures.items, c.put_text-3.ensures.items, c.put_number.ensures.items, c.put_text-2.ensures.items, c.put_text.ensures.items, c.magic.ensures)
    (header_pieces c.args.text.now.items (magic h.format) (decimal h.width) (decimal h.height) (maxval_text h.format h.maxval))
