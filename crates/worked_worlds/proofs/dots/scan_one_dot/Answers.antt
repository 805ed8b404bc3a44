use Rattle.std.proofs.Common.{arith}
use Rattle.worked_worlds.proofs.TwoFlatbeds.{err_into, one_off}
use Rattle.worked_worlds.proofs.dots.scan_one_dot.Goals as goal

pub returns-clause-err : goal.returns-clause-err
returns-clause-err c =
    err_into c.scan_surely.result _ _
    (λ why off. one_off _ c.in-Some.name c.args.gray c.in-Some-dot_page.page c.in-Some-nobody.users c.in-Some-dot_job.job why (omega arith) c.in-Some.ensures c.in-Some-dot_page.ensures c.in-Some-nobody.ensures c.in-Some-dot_job.ensures off)
    c.scan_surely.ensures.err
