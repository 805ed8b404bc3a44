use Rattle.md5_auth.proofs.UserReadingLemmas.{read_more}
use Rattle.md5_auth.proofs.users.Users.parse.Goals as goal

pub loop-line-preserved : goal.loop-line-preserved
loop-line-preserved c =
    read_more _ _ _ _ _ _ _ c.loop-line.invariant c.in-Some.ensures.lines c.in_default-push_line.ensures.good c.in_default-push_line.ensures.entry
