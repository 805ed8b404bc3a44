use Rattle.std.proofs.Common.{ℕ, ◌<◌, arith}
use Rattle.std.specs.Prelude.{slice_index}
use Rattle.frame_join.specs.PixelJoinStates.{is_pixel_out_of_memory}
use Rattle.frame_join.proofs.JoinLaws.{feed_carried}
use Rattle.frame_join.proofs.pixel_join.PixelJoin.feed.Goals as goal

pub returns-clause-carried : goal.returns-clause-carried
returns-clause-carried c = λ past stands.
    let small : (i : ℕ) → slice_index c.args.bytes.now i < 256 = λ i. omega (arith, c.type_inv.bytes i) in
    feed_carried c.args.bytes.now (is_pixel_out_of_memory c.take_in.new.self) past c.args.self.now c.take_in.new.self small c.take_in.ensures.value stands
