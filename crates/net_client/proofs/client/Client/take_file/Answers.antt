use Rattle.std.proofs.Common.{◌≡◌, ◌∙◌, ℕ, List, rules, true, false, sym, subst, take, arith}
use Rattle.std.proofs.lemmas.List.{append-nil, length-take}
use Rattle.netpbm.specs.Pnm.{IsWhole}
use Rattle.frame_join.proofs.GivenKept.{holds_not_whole}
use Rattle.frame_join.specs.FrameHistory.{JoinHistory}
use Rattle.client_replies.specs.ProtocolStates.{is_ended, turns}
use Rattle.net_client.specs.ClientStates.{ClientRepresents}
use Rattle.net_client.proofs.Ending.{ended_turns_none, fits_pulled, no_length, pulled_none}
use Rattle.net_client.proofs.client.Client.take_file.Goals as goal

pub returns-then-is_ended-clause-taken : goal.returns-then-is_ended-clause-taken
returns-then-is_ended-clause-taken c = λ past serves.
    let over : is_ended c.args.self.now.outcome ≡ true = sym c.is_ended.ensures ∙ c.if-is_ended.true in
    record {
      carried = λ off. subst (λ (q : JoinHistory). ClientRepresents q c.args.self.now) (sym (pulled_none past)) serves;
      page = λ on. absurd (ended_turns_none c.args.self.now.outcome c.args.self.now.progress over on);
      denotes = λ alive. absurd (let clash : true ≡ false = sym over ∙ alive in cc);
      whole = λ unjoined whole. holds_not_whole past.given (c.not_whole_before.ensures past _ serves.stands (λ joined. absurd (unjoined joined))) (subst (λ (l : List ℕ). IsWhole l) (append-nil past.given) whole);
    }

pub returns-then-is_turning-clause-taken : goal.returns-then-is_turning-clause-taken
returns-then-is_turning-clause-taken c = λ past serves.
    let on : turns c.args.self.now.outcome c.args.self.now.progress ≡ true = sym c.is_turning.ensures ∙ c.if-is_turning.true in
    let picture = c.take_page.ensures.picture past serves.stands in
    record {
      carried = λ off. absurd (let clash : true ≡ false = sym on ∙ off in cc);
      page = λ turning. c.take_page.ensures.page past serves;
      denotes = λ alive. picture.denotes;
      whole = picture.whole;
    }

pub returns-clause-taken : goal.returns-clause-taken
returns-clause-taken c =
    let no_end : is_ended c.self.inside.outcome ≡ false = search rules in
    let off : turns c.self.inside.outcome c.self.inside.progress ≡ false = search rules in
    rw (← c.self.view_is) (λ past serves. record {
      carried = λ no_turn. record { stands = c.pull.ensures.carried past serves.stands; fits = fits_pulled _ _ _ past (take c.pull.result c.pull.new.buf) no_end no_turn serves.fits };
      page = λ on. absurd (let clash : true ≡ false = sym on ∙ off in cc);
      denotes = λ alive joined none. c.pull.ensures.denotes past serves.stands joined (omega (arith, length-take c.pull.result c.pull.new.buf, no_length _ none, c.pull.ensures.count, c.pull.auto.buf));
      whole = c.pull.ensures.whole past serves.stands;
    })
