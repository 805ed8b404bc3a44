use Rattle.std.proofs.Common.{rules}
use Rattle.page_picture.proofs.MeaningLemmas.{is_picture_where}
use Rattle.page_picture.proofs.extents.extent.Goals as goal

pub returns-clause-picture : goal.returns-clause-picture
returns-clause-picture c = is_picture_where c.extent_at.result c.args.page.now c.args.scene.now c.dpi.ensures.limits c.entries_are_bytes.ensures c.tables_are_bytes.ensures (search rules)
