use Rattle.frame_join.proofs.EndSteps.{held_pixels, held_most, planes_pixels, ended_size}
use Rattle.frame_join.proofs.laws.only_pixels_are_kept.Goals as goal

pub returns-clause-coming : goal.returns-clause-coming
returns-clause-coming c = held_pixels

pub returns-clause-most : goal.returns-clause-most
returns-clause-most c = held_most

pub returns-clause-colors : goal.returns-clause-colors
returns-clause-colors c = planes_pixels

pub returns-clause-size : goal.returns-clause-size
returns-clause-size c = ended_size
