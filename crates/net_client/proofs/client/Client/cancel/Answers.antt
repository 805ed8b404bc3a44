use Rattle.std.proofs.Common.{◌≡◌, rules, true}
use Rattle.client_replies.proofs.Fitting.{may_end}
use Rattle.client_replies.specs.ProtocolStates.{is_running}
use Rattle.net_client.proofs.Hearings.{fits_at}
use Rattle.net_client.proofs.client.Client.cancel.Goals as goal

pub returns-clause-serves : goal.returns-clause-serves
returns-clause-serves c =
    let running : is_running c.self.inside.outcome ≡ true = search rules in
    rw (← c.self.view_is) (λ past serves.
    let at = fits_at past _ running serves in
    record { stands = serves.stands; fits = may_end _ _ past at.0 at.1 })
