use Rattle.std.proofs.Common.{◌≡◌, ◌∙◌, ℕ, List, Option, rules, arith, sym, ap, true, false, refl}
use Rattle.std.proofs.lemmas.Result.{err_from_is_err_and}
use Rattle.device_api.specs.State.{DeviceState}
use Rattle.local_job.proofs.JoinedScans.{none_gone, so_joined, one_gone, all_gone, at_rest, gone_same, no_more, stops_gone, picture_same, pages_same}
use Rattle.local_job.proofs.Lets.{cause_before, keeps_before}
use Rattle.std.specs.Prelude.{◌≢◌, []}
use Rattle.std.proofs.KnownBytes.{Appends-nil}
use Rattle.local_job.proofs.EmptyTrays.{none_behind, stays_before}
use Rattle.local_job.proofs.scan.scan_passes.Goals as goal

pub loop-pass-init : goal.loop-pass-init
loop-pass-init g c =
    let old : DeviceState = (goal.Device-dyn g c.args.device.now).state c.args.device.now.1 in
    record {
      piece = c.requires.piece;
      room = c.requires.room;
      pieces = refl;
      rooms = refl;
      becomes = λ first is. is;
      fresh = λ _. refl;
      gone = none_gone old _ _ c.requires.rest c.requires.join;
    }

pub scan_pass-requires-clause-rest : goal.scan_pass-requires-clause-rest
scan_pass-requires-clause-rest g c = c.loop-pass.invariant.gone.rest

pub returns-in_err-scan_pass-clause-short : goal.returns-in_err-scan_pass-clause-short
returns-in_err-scan_pass-clause-short g c =
    let old : DeviceState = (goal.Device-dyn g c.args.device.now).state c.args.device.now.1 in
    let now : DeviceState = (goal.Device-dyn g c.loop-pass.device.now).state c.loop-pass.device.now.1 in
    let p = err_from_is_err_and c.from_residual.result c.from_residual.ensures.1 in
    rw p.1 (λ first taken. c.in_err-scan_pass.ensures.short first (so_joined old now _ _ first _ _ c.loop-pass.invariant.gone taken))

pub returns-in_err-scan_pass-clause-none : goal.returns-in_err-scan_pass-clause-none
returns-in_err-scan_pass-clause-none g c =
    let old : DeviceState = (goal.Device-dyn g c.args.device.now).state c.args.device.now.1 in
    let now : DeviceState = (goal.Device-dyn g c.loop-pass.device.now).state c.loop-pass.device.now.1 in
    let p = err_from_is_err_and c.from_residual.result c.from_residual.ensures.1 in
    let gone = c.loop-pass.invariant.gone in
    rw (p.1, p.2) (λ some none. c.in_err-scan_pass.ensures.none (λ e. some (sym (pages_same old now now.phase gone.well) ∙ e)) (picture_same old now false now.phase gone.well none))

pub returns-in_err-scan_pass-clause-same : goal.returns-in_err-scan_pass-clause-same
returns-in_err-scan_pass-clause-same g c =
    let old : DeviceState = (goal.Device-dyn g c.args.device.now).state c.args.device.now.1 in
    let now : DeviceState = (goal.Device-dyn g c.loop-pass.device.now).state c.loop-pass.device.now.1 in
    let new : DeviceState = (goal.Device-dyn g c.loop-pass.device.now).state c.scan_pass.new.device in
    keeps_before old now new now.phase c.loop-pass.invariant.gone.well c.in_err-scan_pass.ensures.same

pub returns-then-branch-clause-done : goal.returns-then-branch-clause-done
returns-then-branch-clause-done g c =
    let old : DeviceState = (goal.Device-dyn g c.args.device.now).state c.args.device.now.1 in
    let now : DeviceState = (goal.Device-dyn g c.loop-pass.device.now).state c.loop-pass.device.now.1 in
    let new : DeviceState = (goal.Device-dyn g c.loop-pass.device.now).state c.scan_pass.new.device in
    λ first taken. (all_gone old now new _ _ _ _ first _ _ c.loop-pass.invariant.gone c.in_ok-scan_pass.field-0 c.if-branch.true c.in_ok-scan_pass.ensures.scanned taken).1

pub returns-then-branch-clause-rest : goal.returns-then-branch-clause-rest
returns-then-branch-clause-rest g c =
    let old : DeviceState = (goal.Device-dyn g c.args.device.now).state c.args.device.now.1 in
    let now : DeviceState = (goal.Device-dyn g c.loop-pass.device.now).state c.loop-pass.device.now.1 in
    let new : DeviceState = (goal.Device-dyn g c.loop-pass.device.now).state c.scan_pass.new.device in
    at_rest old now new _ _ _ _ _ _ c.loop-pass.invariant.gone c.in_ok-scan_pass.field-0 c.if-branch.true c.in_ok-scan_pass.ensures.scanned c.in_ok-scan_pass.ensures.well

pub returns-in_err-scan_pass-clause-cause : goal.returns-in_err-scan_pass-clause-cause
returns-in_err-scan_pass-clause-cause g c =
    let old : DeviceState = (goal.Device-dyn g c.args.device.now).state c.args.device.now.1 in
    let now : DeviceState = (goal.Device-dyn g c.loop-pass.device.now).state c.loop-pass.device.now.1 in
    let new : DeviceState = (goal.Device-dyn g c.loop-pass.device.now).state c.scan_pass.new.device in
    let p = err_from_is_err_and c.from_residual.result c.from_residual.ensures.1 in
    let gone = c.loop-pass.invariant.gone in
    let before : Option (List ℕ) = g.W.Outlet.contents c.args.out.now in
    rw (p.1, p.2) (λ some there.
    cause_before old now new now.phase _ gone.well
    (c.in_err-scan_pass.ensures.cause before (so_joined old now _ _ before _ _ gone (Appends-nil before)) (λ e. some (sym (pages_same old now now.phase gone.well) ∙ e)) (picture_same old now true now.phase gone.well there)))

pub returns-clause-cause : goal.returns-clause-cause
returns-clause-cause g c =
    let old : DeviceState = (goal.Device-dyn g c.args.device.now).state c.args.device.now.1 in
    let now : DeviceState = (goal.Device-dyn g c.loop-pass.device.now).state c.loop-pass.device.now.1 in
    λ some there. absurd (no_more old now _ _ _ _ c.loop-pass.invariant.gone (omega (arith, c.loop-pass-test.false)))

pub returns-then-branch-clause-same : goal.returns-then-branch-clause-same
returns-then-branch-clause-same g c =
    let old : DeviceState = (goal.Device-dyn g c.args.device.now).state c.args.device.now.1 in
    let now : DeviceState = (goal.Device-dyn g c.loop-pass.device.now).state c.loop-pass.device.now.1 in
    let new : DeviceState = (goal.Device-dyn g c.loop-pass.device.now).state c.scan_pass.new.device in
    keeps_before old now new now.phase c.loop-pass.invariant.gone.well c.in_ok-scan_pass.ensures.same

pub loop-pass-preserved : goal.loop-pass-preserved
loop-pass-preserved g c =
    let old : DeviceState = (goal.Device-dyn g c.args.device.now).state c.args.device.now.1 in
    let now : DeviceState = (goal.Device-dyn g c.loop-pass.device.now).state c.loop-pass.device.now.1 in
    let new : DeviceState = (goal.Device-dyn g c.loop-pass.device.now).state c.scan_pass.new.device in
    record {
      piece = search rules;
      room = search rules;
      pieces = search rules;
      rooms = search rules;
      becomes = λ first is. c.in_ok-scan_pass.ensures.becomes first (c.loop-pass.invariant.becomes first is);
      fresh = λ first. absurd (omega (arith, first));
      gone = one_gone old now new _ _ _ _ _ _ c.loop-pass.invariant.gone c.in_ok-scan_pass.ensures.well c.in_ok-scan_pass.ensures.ended c.in_ok-scan_pass.ensures.some c.in_ok-scan_pass.ensures.picture c.in_ok-scan_pass.field-0 c.if-branch.false c.in_ok-scan_pass.ensures.scanned;
    }

pub returns-clause-short : goal.returns-clause-short
returns-clause-short g c =
    let old : DeviceState = (goal.Device-dyn g c.args.device.now).state c.args.device.now.1 in
    let now : DeviceState = (goal.Device-dyn g c.loop-pass.device.now).state c.loop-pass.device.now.1 in
    λ first taken. stops_gone old now _ _ _ first _ c.not_whole_before.ensures c.loop-pass.invariant.gone taken

pub returns-clause-none : goal.returns-clause-none
returns-clause-none g c = λ some none.
    let there = c.loop-pass.invariant.gone.picture (search rules) in
    absurd (let clash : true ≡ false = sym there ∙ none in cc)

pub returns-clause-same : goal.returns-clause-same
returns-clause-same g c =
    let old : DeviceState = (goal.Device-dyn g c.args.device.now).state c.args.device.now.1 in
    let now : DeviceState = (goal.Device-dyn g c.loop-pass.device.now).state c.loop-pass.device.now.1 in
    gone_same old now _ _ _ _ c.loop-pass.invariant.gone

pub returns-in_err-scan_pass-clause-empty : goal.returns-in_err-scan_pass-clause-empty
returns-in_err-scan_pass-clause-empty g c =
    let old : DeviceState = (goal.Device-dyn g c.args.device.now).state c.args.device.now.1 in
    let now : DeviceState = (goal.Device-dyn g c.loop-pass.device.now).state c.loop-pass.device.now.1 in
    let p = err_from_is_err_and c.from_residual.result c.from_residual.ensures.1 in
    rw (p.1, p.2) (λ none. c.in_err-scan_pass.ensures.empty (pages_same old now now.phase c.loop-pass.invariant.gone.well ∙ none))

pub returns-clause-empty : goal.returns-clause-empty
returns-clause-empty g c = λ none. absurd (c.loop-pass.invariant.gone.some (search rules) none)

pub returns-in_err-scan_pass-clause-stays : goal.returns-in_err-scan_pass-clause-stays
returns-in_err-scan_pass-clause-stays g c =
    let old : DeviceState = (goal.Device-dyn g c.args.device.now).state c.args.device.now.1 in
    let now : DeviceState = (goal.Device-dyn g c.loop-pass.device.now).state c.loop-pass.device.now.1 in
    let new : DeviceState = (goal.Device-dyn g c.loop-pass.device.now).state c.scan_pass.new.device in
    let p = err_from_is_err_and c.from_residual.result c.from_residual.ensures.1 in
    let gone = c.loop-pass.invariant.gone in
    rw p.1 (λ none. stays_before old now new now.phase gone.well (c.in_err-scan_pass.ensures.stays (pages_same old now now.phase gone.well ∙ none)))

pub returns-clause-stays : goal.returns-clause-stays
returns-clause-stays g c = λ none. absurd (c.loop-pass.invariant.gone.some (search rules) none)

pub returns-then-branch-clause-untold : goal.returns-then-branch-clause-untold
returns-then-branch-clause-untold g c =
    let old : DeviceState = (goal.Device-dyn g c.args.device.now).state c.args.device.now.1 in
    let now : DeviceState = (goal.Device-dyn g c.loop-pass.device.now).state c.loop-pass.device.now.1 in
    λ told. c.in_ok-scan_pass.ensures.untold (ap (λ (s : DeviceState). s.setup.told) c.loop-pass.invariant.gone.well ∙ told)

pub returns-in_err-scan_pass-clause-silent : goal.returns-in_err-scan_pass-clause-silent
returns-in_err-scan_pass-clause-silent g c =
    let old : DeviceState = (goal.Device-dyn g c.args.device.now).state c.args.device.now.1 in
    let now : DeviceState = (goal.Device-dyn g c.loop-pass.device.now).state c.loop-pass.device.now.1 in
    let p = err_from_is_err_and c.from_residual.result c.from_residual.ensures.1 in
    let gone = c.loop-pass.invariant.gone in
    rw p.1 (λ none. c.in_err-scan_pass.ensures.silent (pages_same old now now.phase gone.well ∙ none) ∙ c.loop-pass.invariant.fresh (none_behind old now _ _ _ _ gone none))

pub returns-clause-silent : goal.returns-clause-silent
returns-clause-silent g c = λ none. absurd (c.loop-pass.invariant.gone.some (search rules) none)

pub returns-in_err-scan_pass-clause-output : goal.returns-in_err-scan_pass-clause-output
returns-in_err-scan_pass-clause-output g c =
    let old : DeviceState = (goal.Device-dyn g c.args.device.now).state c.args.device.now.1 in
    let now : DeviceState = (goal.Device-dyn g c.loop-pass.device.now).state c.loop-pass.device.now.1 in
    let p = err_from_is_err_and c.from_residual.result c.from_residual.ensures.1 in
    let before : Option (List ℕ) = g.W.Outlet.contents c.args.out.now in
    rw (p.1, p.2) (λ sink. c.in_err-scan_pass.ensures.output sink before (so_joined old now _ _ before _ _ c.loop-pass.invariant.gone (Appends-nil before)))
