use Rattle.saned_requests.proofs.Keeping.{keeps_leases}
use Rattle.saned_requests.proofs.Moving.{answers_moves, falters_moves}
use Rattle.saned_requests.proofs.laws.a_request_keeps_leases.Goals as goal

pub returns-clause-answered : goal.returns-clause-answered
returns-clause-answered c = λ users d new q said a. keeps_leases d new (answers_moves users d new q said a)

pub returns-clause-faltered : goal.returns-clause-faltered
returns-clause-faltered c = λ d new q f. keeps_leases d new (falters_moves d new q f)
