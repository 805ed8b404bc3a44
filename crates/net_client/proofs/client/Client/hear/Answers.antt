use Rattle.client_replies.specs.ClearJoins.{RepresentsClear}
use Rattle.net_client.proofs.Hearings.{fits_at, calm_at, hears_reply, is_starved, settles_starved}
use Rattle.net_client.proofs.client.Client.hear.Goals as goal

pub returns-in-Ok-clause-heard : goal.returns-in-Ok-clause-heard
returns-in-Ok-clause-heard c = λ well past serves.
    let clear : RepresentsClear past c.args.self.now.join = record { stands = serves.stands; clear = calm_at c.args.self.now.progress past (fits_at past c.args.self.now c.requires serves).1 } in
    hears_reply c.args.self.now c.next_by-next.new.self c.settle.new.self past c.args.reply c.in-Ok.next c.requires serves
    (c.in-Ok.ensures.next past clear) (c.in-Ok.ensures.notes past clear) (c.in-Ok.ensures.past past clear) c.next_by-next.ensures.rest (c.settle.ensures.settled well)

pub returns-in-Ok-clause-starved : goal.returns-in-Ok-clause-starved
returns-in-Ok-clause-starved c = λ ill past serves.
    let clear : RepresentsClear past c.args.self.now.join = record { stands = serves.stands; clear = calm_at c.args.self.now.progress past (fits_at past c.args.self.now c.requires serves).1 } in
    settles_starved c.args.self.now c.next_by-next.new.self c.settle.new.self past c.args.reply c.in-Ok.next c.requires serves
    (c.in-Ok.ensures.next past clear) (c.in-Ok.ensures.past past clear) c.next_by-next.ensures.rest (c.settle.ensures.waits ill) (c.settle.ensures.starved ill)

pub returns-in-Err-clause-starved : goal.returns-in-Err-clause-starved
returns-in-Err-clause-starved c = λ ill past serves.
    let clear : RepresentsClear past c.args.self.now.join = record { stands = serves.stands; clear = calm_at c.args.self.now.progress past (fits_at past c.args.self.now c.requires serves).1 } in
    is_starved c.args.self.now c.next_by-next.new.self c.stop.new.self past c.requires serves (c.in-Err.ensures.starved past clear) c.next_by-next.ensures.rest c.stop.ensures
