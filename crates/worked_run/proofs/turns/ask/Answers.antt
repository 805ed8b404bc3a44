use Rattle.std.specs.Prelude.{not}
use Rattle.std.proofs.Common.{◌≡◌, ◌≢◌, ◌∙◌, ℕ, Bool, true, false, List, [], length, take, nat_eq, refl, sym, ap, subst, arith}
use Rattle.std.proofs.lemmas.Bool.Decides.{nat_tests}
use Rattle.frame_join.specs.FrameHistory.{JoinHistory}
use Rattle.client_replies.specs.ProtocolStates.{is_receiving, is_running}
use Rattle.net_client.specs.ClientStates.{ClientRepresents, ClientState}
use Rattle.net_client.specs.ReplyPieces.{Heeds}
use Rattle.net_jobs.specs.JobJournal.{HearsPiece}
use Rattle.net_jobs.proofs.Turning.{few_taken, some_taken}
use Rattle.saned_core.specs.declared.session_slot.Fed.TheVariants.{Standing}
use Rattle.saned_core.specs.DaemonStates.{Core, core}
use Rattle.saned_core.specs.Feeding.{Feeds}
use Rattle.saned_serve.specs.SessionActions.{AreRepliesTaken}
use Rattle.worked_run.specs.Rounds.{said_all}
use Rattle.worked_run.proofs.turns.ask.Goals as goal

zero_of : (n : ℕ) → nat_eq n 0 ≡ true → n ≡ 0
zero_of n e = grind (arith, nat_tests)

goes_on : (b : Bool) → not b ≡ false → b ≡ true
goes_on true e = refl
goes_on false e = let clash : true ≡ false = e in cc

hears_said : (old said heard : ClientState) (reply : List ℕ) → said ≡ said_all old → is_running old.outcome ≡ true → is_receiving old.outcome old.progress ≡ false
    → (is_running said.outcome ≡ true → (past : JoinHistory) → ClientRepresents past said → Heeds said past reply heard) → HearsPiece (said_all old) reply heard
hears_said old said heard reply is runs quiet heeds = record {
  running = runs;
  quiet = quiet;
  heeds = subst (λ (x : ClientState). is_running x.outcome ≡ true → (past : JoinHistory) → ClientRepresents past x → Heeds x past reply heard) is heeds runs;
}

pub returns : goal.returns
returns g c = λ first none.
    let d = core g.D.Device.state c.args.daemon.now in
    let fed = core g.D.Device.state c.feed.new.daemon in
    let told = core g.D.Device.state c.take_replies-told.new.daemon in
    let end = core g.D.Device.state c.take_replies.new.daemon in
    let old = c.args.client.now in
    let said = c.in-Some.ensures.said in
    let n = c.take_replies-told.result in
    let room = c.take_replies-told.new.room in
    let feeds = c.feed.ensures c.if-not-feed.false in
    let gave = c.give_file.ensures c.if-not-give_file.false in (
      gave.0,
      record {
        piece = said.2;
        fed = fed;
        feeds = subst (λ (k : ℕ). Feeds k d old.out Standing fed) first (subst (λ (l : List ℕ). Feeds c.args.id.number d l Standing fed) said.1 feeds);
        reply = take n room;
        is_piece = (some_taken n room (omega (arith, c.take_replies-told.ensures.count, c.take_replies-told.ensures.room)) c.if-told-eq0.false, few_taken n 4096 room (omega (arith, c.take_replies-told.ensures.room)));
        told = told;
        takes = subst (λ (k : ℕ). AreRepliesTaken fed k 4096 (take n room) told) first c.take_replies-told.ensures.taken;
        heard = c.feed_control.new.self;
        hears = hears_said old c.say.new.client c.feed_control.new.self (take n room) said.3 (goes_on (is_running old.outcome) (sym c.is_over.ensures ∙ c.if-is_over.false)) (sym c.is_receiving.ensures ∙ c.if-is_receiving.false) c.feed_control.ensures.heeds;
        lives = sym c.has_ended.ensures ∙ c.if-has_ended.false;
        gives = gave.1;
        none = subst (λ (k : ℕ). AreRepliesTaken told k 4096 [] end) first (subst (λ (k : ℕ). AreRepliesTaken told c.args.id.number 4096 (take k c.take_replies.new.room) end) (zero_of c.take_replies.result none) c.take_replies.ensures.taken);
      },
      gave.2,
    )
