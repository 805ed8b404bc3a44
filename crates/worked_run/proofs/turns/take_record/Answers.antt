use Rattle.std.proofs.Common.{◌≡◌, ◌≢◌, ◌≤◌, ◌∙◌, ◌-◌, ℕ, Bool, true, false, List, length, take, slice_range, refl, sym, ap, subst, arith}
use Rattle.std.proofs.lemmas.List.{length-take}
use Rattle.net_jobs.proofs.Turning.{some_taken}
use Rattle.saned_core.specs.declared.session_slot.DataStep.{DataStep}
use Rattle.saned_core.specs.declared.session_slot.DataStep.TheVariants.{Idle, Bytes, Last}
use Rattle.saned_core.specs.DaemonStates.{core}
use Rattle.saned_serve.specs.SessionActions.{IsTurned, is_idle, written_by}
use Rattle.saned_serve.proofs.Daemon.{is_turned}
use Rattle.worked_run.proofs.turns.take_record.Goals as goal

from_start : (n : ℕ) (xs : List ℕ) → slice_range xs 0 n ≡ take n xs
from_start n xs = ap (λ (k : ℕ). take k xs) (let e : n - 0 ≡ n = omega arith in e)

short_taken : (n most : ℕ) (xs : List ℕ) → n ≤ most → length (take n xs) ≤ most
short_taken n most xs few = omega (arith, few, length-take n xs)

some_record : (step : DataStep) (n : ℕ) → n ≡ written_by step → n ≢ 0 → is_idle step ≡ false
some_record Idle n is some = absurd (some is)
some_record (Bytes k) n is some = refl
some_record (Last k) n is some = refl

pub returns : goal.returns
returns g c = λ first.
    let d = core g.D.Device.state c.args.daemon.now in
    let e = core g.D.Device.state c.data_turn-step.new.self in
    let step = c.data_turn-step.result in
    let buf = c.data_turn-step.new.buf in
    let n = c.written-count.result in
    let size : length buf ≡ 65483 = omega (arith, c.data_turn-step.auto.buf) in
    let turned = is_turned d e c.args.id.number 65483 step buf size (omega (arith, size)) c.data_turn-step.ensures in
    let few : n ≤ 4096 = omega (arith, c.if-count-gt-PIECE.false) in
    let receives = sym c.is_receiving.ensures ∙ c.if-not-is_receiving.false in
    let gave = c.give_file.ensures c.if-not-give_file.false in (
      gave.0,
      record {
        piece = take n buf;
        is_piece = (some_taken n buf (omega (arith, size, few)) c.if-count-eq0.false, short_taken n 4096 buf few);
        turns = subst (λ (k : ℕ). IsTurned d k 65483 step (take n buf) e) first (subst (λ (l : List ℕ). IsTurned d c.args.id.number 65483 step l e) (from_start (written_by step) buf ∙ ap (λ (k : ℕ). take k buf) (sym c.written-count.ensures)) turned);
        some = some_record step n c.written-count.ensures c.if-count-eq0.false;
        taken = c.feed_data.new.self;
        takes = record { receiving = receives; receives = c.feed_data.ensures.receives receives };
        gives = gave.1;
      },
      gave.2,
    )
