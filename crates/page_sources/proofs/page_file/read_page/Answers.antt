use Rattle.std.proofs.Common.{◌≡◌, length, arith, rules}
use Rattle.netpbm.specs.Raster.{raster_size}
use Rattle.page_sources.proofs.PageLemmas.{tells_page}
use Rattle.page_sources.proofs.page_file.read_page.Goals as goal

pub returns-clause-found : goal.returns-clause-found
returns-clause-found c =
    let size : length c.in_ok-header.raster.now ≡ raster_size c.in_ok-header.header = omega arith in
    rw c.new.ensures (tells_page c.args.text.now c.in_ok-header.header c.in_ok-header.raster.now c.args.dpi c.in_ok-samples.samples.items c.in_ok-header.ensures.found size (search rules) (search rules))
