use Rattle.md5_auth.proofs.MarkLemmas.{is_challenge_found, challenge_of-is}
use Rattle.md5_auth.proofs.laws.one_challenge.Goals as goal

pub returns : goal.returns
returns c = λ resource challenge. (is_challenge_found resource challenge, challenge_of-is resource challenge)
