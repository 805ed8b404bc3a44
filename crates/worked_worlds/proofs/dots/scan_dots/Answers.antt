use Rattle.std.proofs.Common.{arith}
use Rattle.worked_worlds.proofs.TwoFlatbeds.{err_into, fed_off}
use Rattle.worked_worlds.proofs.dots.scan_dots.Goals as goal

pub returns-clause-err : goal.returns-clause-err
returns-clause-err c =
    err_into c.scan_both_surely.result _ _
    (λ why off. fed_off _ c.in-Some.name c.args.first c.args.second c.in-Some-dot_page.page c.in-Some-dot_page-2.other_page c.in-Some-nobody.users c.in-Some-dot_job.job why (omega arith) c.in-Some.ensures c.in-Some-dot_page.ensures c.in-Some-dot_page-2.ensures c.in-Some-nobody.ensures c.in-Some-dot_job.ensures off)
    c.scan_both_surely.ensures.err
