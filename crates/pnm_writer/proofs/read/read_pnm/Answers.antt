use Rattle.std.proofs.Common.{◌≡◌, length, arith, rules}
use Rattle.netpbm.specs.Raster.{raster_size}
use Rattle.pnm_writer.proofs.ReadLemmas.{InRange, is_whole, no_memory, bits_in_range, samples_in_range, pnm_denotes, page_format, samples_size}
use Rattle.netpbm.specs.Pnm.{sample_in, channels_of}
use Rattle.pnm_writer.proofs.read.read_pnm.Goals as goal
use Rattle.pnm_writer.proofs.read.read_pnm.Goals.{in-Pbm, in-Pgm+else-not-none_above}

pub returns-clause-found : goal.returns-clause-found
returns-clause-found c =
    let h = c.in-Some.header in
    let raster = c.in-Some.raster.now in
    let size : length c.in-Some.raster.now ≡ raster_size c.in-Some.header = omega arith in
    let in_range : InRange c.in-Some.header c.in-Some.raster.now =
    elim c.match-header.branch [
      | in-Pbm w ↦ bits_in_range c.args.text.now c.in-Some.header c.in-Some.raster.now c.in-Some.ensures.found w.in-Pbm.is
      | in-Pgm+else-not-none_above w ↦ samples_in_range c.in-Some.header c.in-Some.raster.now (page_format c.in-Some.header.format w.in-Pgm.is) (search rules)
    ] in
    pnm_denotes c.args.text.now c.in-Some.header c.in-Some.raster.now c.channels.result c.in_ok-samples.samples c.in-Some.ensures.found size in_range c.channels.ensures c.in_ok-samples.ensures

pub returns-clause-size : goal.returns-clause-size
returns-clause-size c =
    let h = c.in-Some.header in
    let raster = c.in-Some.raster.now in
    rw (c.in_ok-samples.ensures, c.channels.ensures) (samples_size (channels_of h.format) h.width h.height (λ x y k. sample_in h.format h.width h.maxval raster x y k))

pub returns-in_err-samples-clause-fault : goal.returns-in_err-samples-clause-fault
returns-in_err-samples-clause-fault c =
    let size : length c.in-Some.raster.now ≡ raster_size c.in-Some.header = omega arith in
    let in_range : InRange c.in-Some.header c.in-Some.raster.now =
    elim c.match-header.branch [
      | in-Pbm w ↦ bits_in_range c.args.text.now c.in-Some.header c.in-Some.raster.now c.in-Some.ensures.found w.in-Pbm.is
      | in-Pgm+else-not-none_above w ↦ samples_in_range c.in-Some.header c.in-Some.raster.now (page_format c.in-Some.header.format w.in-Pgm.is) (search rules)
    ] in
    no_memory c.from_residual.result c.args.text.now (search rules) (is_whole c.args.text.now c.in-Some.header c.in-Some.raster.now c.in-Some.ensures.found size in_range)
