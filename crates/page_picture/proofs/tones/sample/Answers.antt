use Rattle.page_picture.proofs.MeaningLemmas.{resolution_from_inside}
use Rattle.page_picture.proofs.tones.sample.Goals as goal

pub light-requires-clause-some_dots : goal.light-requires-clause-some_dots
light-requires-clause-some_dots c = resolution_from_inside _ _ _ _ c.requires.inside
