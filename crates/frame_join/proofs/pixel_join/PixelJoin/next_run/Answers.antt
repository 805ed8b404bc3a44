use Rattle.std.proofs.Common.{◌≡◌, ◌+◌, ◌∙◌, ap, rules, arith, take}
use Rattle.std.specs.Prelude.{slice_index, slice_set}
use Rattle.std.proofs.lemmas.Grind.{get_or_default_zero}
use Rattle.frame_join.specs.PixelJoinStates.{PixelJoinState}
use Rattle.frame_join.proofs.PullLaws.{head_step, step_take}
use Rattle.frame_join.proofs.pixel_join.PixelJoin.next_run.Goals as goal

pub returns-then-self-len-clause-carried : goal.returns-then-self-len-clause-carried
returns-then-self-len-clause-carried c = λ past stands.
    let at = c.args.at in
    let buf = c.args.buf.now in
    let now = c.args.self.now in
    let j = c.self.inside in
    let byte = c.index.result.now in
    let read : byte ≡ slice_index now.head now.headed = c.index.ensures ∙ (get_or_default_zero j.head.items j.headed byte (search rules) ∙ ap (λ (v : PixelJoinState). slice_index v.head v.headed) c.self.view_is) in
    head_step past now _ (take at buf) (take (at + 1) (slice_set buf at byte)) byte
    (search rules) (search rules) read (search rules)
    (step_take buf at byte (omega arith))
    stands
