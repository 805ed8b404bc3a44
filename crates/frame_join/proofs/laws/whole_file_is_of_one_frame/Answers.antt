use Rattle.std.proofs.Common.{◌∙◌, sym}
use Rattle.frame_join.specs.Pixels.{pixel_history}
use Rattle.frame_join.proofs.EndLaws.{joined_file}
use Rattle.frame_join.proofs.JoinedLaws.{joined_less, file_joined, calm_joined, rest_joined}
use Rattle.frame_join.proofs.laws.whole_file_is_of_one_frame.Goals as goal

pub returns : goal.returns
returns c = λ past v stands joined.
    let h = joined_file (pixel_history past) v.pixels stands.pixels (joined_less past joined) in
    (h.0, h.1, h.2, sym (file_joined past v stands (calm_joined past v stands joined) (rest_joined past v stands joined)) ∙ h.3)
