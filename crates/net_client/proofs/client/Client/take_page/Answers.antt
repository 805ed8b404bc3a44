use Rattle.std.proofs.Common.{◌≡◌, ◌∙◌, true, false, ap, sym, take, arith}
use Rattle.std.proofs.lemmas.List.{length-take}
use Rattle.client_replies.specs.ProtocolStates.{turns}
use Rattle.net_client.specs.ClientStates.{ClientState}
use Rattle.net_client.proofs.Ending.{no_length, page_stays, page_turned}
use Rattle.net_client.proofs.client.Client.take_page.Goals as goal

pub returns-then-has_given_all-clause-page : goal.returns-then-has_given_all-clause-page
returns-then-has_given_all-clause-page c = rw (← c.self.view_is) (λ past serves.
    let stands = c.pull-count.ensures.carried past serves.stands in
    page_turned _ c.turn.new.self past (take c.pull-count.result c.pull-count.new.buf) (ap (λ (v : ClientState). turns v.outcome v.progress) c.self.view_is ∙ c.requires) serves
    ((c.has_given_all.ensures.whole _ stands).0 c.if-has_given_all.true) (c.has_given_all.ensures.denotes _ stands c.if-has_given_all.true)
    (record { rest = c.turn.ensures.rest; text = c.turn.ensures.text; stands = c.turn.ensures.stands }))

pub returns-else-has_given_all-clause-page : goal.returns-else-has_given_all-clause-page
returns-else-has_given_all-clause-page c = rw (← c.self.view_is) (λ past serves.
    let stands = c.pull-count.ensures.carried past serves.stands in
    page_stays _ past (take c.pull-count.result c.pull-count.new.buf) c.pull-count.new.join (ap (λ (v : ClientState). turns v.outcome v.progress) c.self.view_is ∙ c.requires) serves stands
    (λ whole. let clash : true ≡ false = sym ((c.has_given_all.ensures.whole _ stands).1 whole) ∙ c.if-has_given_all.false in cc))

pub returns-then-has_given_all-clause-picture : goal.returns-then-has_given_all-clause-picture
returns-then-has_given_all-clause-picture c = rw (← c.self.view_is) (λ past stands. record {
  denotes = λ joined none. c.pull-count.ensures.denotes past stands joined (omega (arith, length-take c.pull-count.result c.pull-count.new.buf, no_length _ none, c.pull-count.ensures.count, c.pull-count.auto.buf));
  whole = c.pull-count.ensures.whole past stands;
})

pub returns-else-has_given_all-clause-picture : goal.returns-else-has_given_all-clause-picture
returns-else-has_given_all-clause-picture c = rw (← c.self.view_is) (λ past stands. record {
  denotes = λ joined none. c.pull-count.ensures.denotes past stands joined (omega (arith, length-take c.pull-count.result c.pull-count.new.buf, no_length _ none, c.pull-count.ensures.count, c.pull-count.auto.buf));
  whole = c.pull-count.ensures.whole past stands;
})
