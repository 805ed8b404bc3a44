use Rattle.std.proofs.Common.{rules}
use Rattle.scan_frames.proofs.Seen.{sees_row}
use Rattle.scan_frames.proofs.rows.see.Goals as goal

pub returns-in_ok-advance-clause-seen : goal.returns-in_ok-advance-clause-seen
returns-in_ok-advance-clause-seen g c =
    let s = g.S.PageSource.source c.args.source.now in
    λ steady. sees_row s.page c.args.target c.advance.new.row (search rules) (c.in_ok-advance.ensures.row steady) (search rules)
