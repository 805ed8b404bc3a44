use Rattle.std.proofs.lemmas.Result.{err_from_is_err_and}
use Rattle.md5_auth.proofs.UserFieldLemmas.{entry_line_some}
use Rattle.md5_auth.proofs.user_lines.push_line.Goals as goal

pub returns-in_err-push-clause-fault : goal.returns-in_err-push-clause-fault
returns-in_err-push-clause-fault c =
    let read = rw c.in-Some.is at c.in_ok-entry.ensures.entry in
    let p = err_from_is_err_and c.from_residual-in_err-push.result c.from_residual-in_err-push.ensures.1 in
    rw (p.1, p.2) (c.in_ok-entry.ensures.good, entry_line_some c.args.line.now _ _ _ read)
