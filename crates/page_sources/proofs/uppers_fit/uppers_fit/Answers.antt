use Rattle.std.proofs.Common.{◌/◌}
use Rattle.page_sources.proofs.EightLemmas.{fits_next, uppers_tell}
use Rattle.page_sources.proofs.uppers_fit.uppers_fit.Goals as goal

pub loop-i-init : goal.loop-i-init
loop-i-init c =
    uppers_tell c.all_within-fit.result c.args.maxval (c.args.count / 8) c.args.bytes.now c.greatest_of.result c.requires.two c.requires.last (λ i. (c.type_inv.bytes i).fits)
    c.greatest_of.ensures.most c.greatest_of.ensures.one c.all_within-fit.ensures.within c.all_within-fit.ensures.above

pub loop-i-preserved : goal.loop-i-preserved
loop-i-preserved c = fits_next c.loop-i.fit c.args.maxval c.loop-i.i c.number_at.result c.args.bytes.now c.number_at.ensures.value c.loop-i.invariant
