use Rattle.frame_join.specs.PixelJoinStates.{is_pixel_out_of_memory}
use Rattle.frame_join.proofs.JoinLaws.{begin_carried, idle_has_none}
use Rattle.frame_join.proofs.pixel_join.PixelJoin.begin.Goals as goal

pub returns-clause-carried : goal.returns-clause-carried
returns-clause-carried c = λ past stands. begin_carried c.args.params.now c.args.order (is_pixel_out_of_memory c.open.new.self) past c.args.self.now c.open.new.self c.open.ensures.value stands

pub returns-clause-later : goal.returns-clause-later
returns-clause-later c = λ past stands some. c.open.ensures.later (λ idle. some (idle_has_none past c.args.self.now stands idle))
