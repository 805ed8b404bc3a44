use Rattle.std.proofs.Common.{◌≡◌, ◌+◌, rules, arith, ap, refl, Ok, Err}
use Rattle.device_api.specs.State.{DeviceState, Phase, Reads}
use Rattle.frame_join.specs.AloneFrame.{most_bytes}
use Rattle.local_job.proofs.FrameReads.{first_bytes, still_inside, gives, still, more_bytes, cut_off, keeps, so_far, ends, all_or_none, read_cause, piece_cause}
use Rattle.sane_fixed.specs.declared.status.Status.TheVariants.{Eof, NoDocs}
use Rattle.std.proofs.lemmas.Result.{err_from_is_err_and}
use Rattle.local_job.proofs.Lets.{of_nothing}
use Rattle.local_job.proofs.EmptyTrays.{not_told}
use Rattle.scan_job.specs.declared.outcome.Why.TheVariants as whys
use Rattle.local_job.proofs.frame_pieces.read_frame.Goals as goal

pub loop-n-init : goal.loop-n-init
loop-n-init g c =
    let old : DeviceState = (goal.Device-dyn g c.args.device.now).state c.args.device.now.1 in
    record {
      piece = c.requires.piece;
      room = refl;
      same = of_nothing old old refl;
      read = λ pass at. (0, ap (λ (p : Phase). record old { phase = p }) at, λ past frame first is empty. first_bytes old pass past frame first _ _ is empty, λ some. absurd (omega (arith, some)));
      becomes = λ first is. is;
    }

pub returns-in-Err-clause-read : goal.returns-in-Err-clause-read
returns-in-Err-clause-read g c = λ pass under begun.
    let old : DeviceState = (goal.Device-dyn g c.args.device.now).state c.args.device.now.1 in
    let now : DeviceState = (goal.Device-dyn g c.loop-n.device.now).state c.loop-n.device.now.1 in
    let new : DeviceState = (goal.Device-dyn g c.loop-n.device.now).state c.read.new.self in
    let r = c.loop-n.invariant.read pass begun.at in
    let e : Reads now (Err Eof) new c.read.new.buf = search rules in
    (r.0, all_or_none old now new pass r.0 c.read.new.buf r.1 e, r.2 under.past under.frame under.first begun.inside begun.empty)

pub returns-in-Err-clause-ended : goal.returns-in-Err-clause-ended
returns-in-Err-clause-ended g c = λ pass at.
    let old : DeviceState = (goal.Device-dyn g c.args.device.now).state c.args.device.now.1 in
    let now : DeviceState = (goal.Device-dyn g c.loop-n.device.now).state c.loop-n.device.now.1 in
    let new : DeviceState = (goal.Device-dyn g c.loop-n.device.now).state c.read.new.self in
    let r = c.loop-n.invariant.read pass at in
    let e : Reads now (Err Eof) new c.read.new.buf = search rules in
    ends old now new pass r.0 c.read.new.buf r.1 e

pub returns-in-Err-clause-untold : goal.returns-in-Err-clause-untold
returns-in-Err-clause-untold g c = λ pass at.
    let old : DeviceState = (goal.Device-dyn g c.args.device.now).state c.args.device.now.1 in
    let now : DeviceState = (goal.Device-dyn g c.loop-n.device.now).state c.loop-n.device.now.1 in
    let new : DeviceState = (goal.Device-dyn g c.loop-n.device.now).state c.read.new.self in
    let r = c.loop-n.invariant.read pass at in
    let e : Reads now (Err Eof) new c.read.new.buf = search rules in
    not_told old now new pass r.0 (Err Eof) c.read.new.buf NoDocs r.1 e (λ clash. absurd (cc)) r.3

pub returns-in-Err-2-clause-short : goal.returns-in-Err-2-clause-short
returns-in-Err-2-clause-short g c = λ pass under begun.
    let old : DeviceState = (goal.Device-dyn g c.args.device.now).state c.args.device.now.1 in
    let r = c.loop-n.invariant.read pass begun.at in
    cut_off old pass r.0 under.past under.frame under.first _ _ begun.inside.no_fault c.not_whole_before.ensures (r.2 under.past under.frame under.first begun.inside begun.empty)

pub returns-in-Err-2-clause-cause : goal.returns-in-Err-2-clause-cause
returns-in-Err-2-clause-cause g c = rw c.read_refused.ensures (λ pass under begun room.
    let old : DeviceState = (goal.Device-dyn g c.args.device.now).state c.args.device.now.1 in
    let now : DeviceState = (goal.Device-dyn g c.loop-n.device.now).state c.loop-n.device.now.1 in
    let new : DeviceState = (goal.Device-dyn g c.loop-n.device.now).state c.read.new.self in
    let r = c.loop-n.invariant.read pass begun.at in
    let e : Reads now (Err c.in-Err.status) new c.read.new.buf = search rules in
    read_cause old now new pass r.0 c.in-Err.status c.read.new.buf r.1 e (search rules))

pub loop-n-preserved : goal.loop-n-preserved
loop-n-preserved g c =
    let old : DeviceState = (goal.Device-dyn g c.args.device.now).state c.args.device.now.1 in
    let now : DeviceState = (goal.Device-dyn g c.loop-n.device.now).state c.loop-n.device.now.1 in
    let new : DeviceState = (goal.Device-dyn g c.loop-n.device.now).state c.read.new.self in
    record {
      piece = search rules;
      room = search rules;
      same = keeps old now (Ok c.in-Ok.n) new c.read.new.buf c.loop-n.invariant.same c.in-Ok.ensures.0;
      read = λ pass at.
          let r = c.loop-n.invariant.read pass at in
          let b = gives old now new pass r.0 c.in-Ok.n c.read.new.buf r.1 c.in-Ok.ensures.0 in (
            r.0 + c.in-Ok.n,
            still old now new pass r.0 c.in-Ok.n c.read.new.buf r.1 b,
            λ past frame first is empty.
                let so = r.2 past frame first is empty in
                more_bytes old now new pass r.0 c.in-Ok.n c.read.new.buf past frame first _ _ _ _ r.1 b so
                (c.in_ok-take_piece.ensures.taken first (so_far past frame so.bytes so.feeds.given) (record frame { payload = so.bytes }) (still_inside old pass r.0 past frame first _ _ is.no_fault so)),
            λ _. not_told old now new pass r.0 (Ok c.in-Ok.n) c.read.new.buf NoDocs r.1 c.in-Ok.ensures.0 (λ clash. absurd (cc)) r.3,
          );
      becomes = λ first is. c.in_ok-take_piece.ensures.becomes first (c.loop-n.invariant.becomes first is);
    }

pub returns-in_err-take_piece-clause-short : goal.returns-in_err-take_piece-clause-short
returns-in_err-take_piece-clause-short g c =
    let p = err_from_is_err_and c.from_residual.result c.from_residual.ensures.1 in
    let old : DeviceState = (goal.Device-dyn g c.args.device.now).state c.args.device.now.1 in
    rw p.1 (λ pass under begun.
    let r = c.loop-n.invariant.read pass begun.at in
    let so = r.2 under.past under.frame under.first begun.inside begun.empty in
    c.in_err-take_piece.ensures.short under.first (so_far under.past under.frame so.bytes so.feeds.given) (record under.frame { payload = so.bytes }) (still_inside old pass r.0 under.past under.frame under.first _ _ begun.inside.no_fault so))

pub returns-in_err-take_piece-clause-cause : goal.returns-in_err-take_piece-clause-cause
returns-in_err-take_piece-clause-cause g c =
    let p = err_from_is_err_and c.from_residual.result c.from_residual.ensures.1 in
    let old : DeviceState = (goal.Device-dyn g c.args.device.now).state c.args.device.now.1 in
    let now : DeviceState = (goal.Device-dyn g c.loop-n.device.now).state c.loop-n.device.now.1 in
    let new : DeviceState = (goal.Device-dyn g c.loop-n.device.now).state c.read.new.self in
    rw (p.1, p.2) (λ pass under begun room.
    let r = c.loop-n.invariant.read pass begun.at in
    let b = gives old now new pass r.0 c.in-Ok.n c.read.new.buf r.1 c.in-Ok.ensures.0 in
    let so = r.2 under.past under.frame under.first begun.inside begun.empty in
    piece_cause old now new pass r.0 c.in-Ok.n c.read.new.buf so.bytes (most_bytes under.frame.params) _ r.1 b so.count room
    (c.in_err-take_piece.ensures.cause under.first (so_far under.past under.frame so.bytes so.feeds.given) (record under.frame { payload = so.bytes }) (still_inside old pass r.0 under.past under.frame under.first _ _ begun.inside.no_fault so)))

pub returns-in_err-take_piece-clause-refusal : goal.returns-in_err-take_piece-clause-refusal
returns-in_err-take_piece-clause-refusal g c =
    let p = err_from_is_err_and c.from_residual.result c.from_residual.ensures.1 in
    rw (p.1, p.2) (λ pass at. c.in_err-take_piece.ensures.refusal)

pub returns-in-Err-clause-same : goal.returns-in-Err-clause-same
returns-in-Err-clause-same g c =
    let old : DeviceState = (goal.Device-dyn g c.args.device.now).state c.args.device.now.1 in
    let now : DeviceState = (goal.Device-dyn g c.loop-n.device.now).state c.loop-n.device.now.1 in
    let new : DeviceState = (goal.Device-dyn g c.loop-n.device.now).state c.read.new.self in
    let e : Reads now (Err Eof) new c.read.new.buf = search rules in
    keeps old now (Err Eof) new c.read.new.buf c.loop-n.invariant.same e

pub returns-in-Err-2-clause-same : goal.returns-in-Err-2-clause-same
returns-in-Err-2-clause-same g c =
    let old : DeviceState = (goal.Device-dyn g c.args.device.now).state c.args.device.now.1 in
    let now : DeviceState = (goal.Device-dyn g c.loop-n.device.now).state c.loop-n.device.now.1 in
    let new : DeviceState = (goal.Device-dyn g c.loop-n.device.now).state c.read.new.self in
    let e : Reads now (Err c.in-Err.status) new c.read.new.buf = search rules in
    keeps old now (Err c.in-Err.status) new c.read.new.buf c.loop-n.invariant.same e

pub returns-in_err-take_piece-clause-same : goal.returns-in_err-take_piece-clause-same
returns-in_err-take_piece-clause-same g c =
    let old : DeviceState = (goal.Device-dyn g c.args.device.now).state c.args.device.now.1 in
    let now : DeviceState = (goal.Device-dyn g c.loop-n.device.now).state c.loop-n.device.now.1 in
    let new : DeviceState = (goal.Device-dyn g c.loop-n.device.now).state c.read.new.self in
    keeps old now (Ok c.in-Ok.n) new c.read.new.buf c.loop-n.invariant.same c.in-Ok.ensures.0

pub returns-in-Err-2-clause-output : goal.returns-in-Err-2-clause-output
returns-in-Err-2-clause-output g c = rw c.read_refused.ensures (λ sink pass under begun. absurd (let clash : whys.Answer ≡ whys.Sink = sink in cc))

pub returns-in_err-take_piece-clause-output : goal.returns-in_err-take_piece-clause-output
returns-in_err-take_piece-clause-output g c =
    let p = err_from_is_err_and c.from_residual.result c.from_residual.ensures.1 in
    let old : DeviceState = (goal.Device-dyn g c.args.device.now).state c.args.device.now.1 in
    rw (p.1, p.2) (λ sink pass under begun.
    let r = c.loop-n.invariant.read pass begun.at in
    let so = r.2 under.past under.frame under.first begun.inside begun.empty in
    c.in_err-take_piece.ensures.output sink under.first (so_far under.past under.frame so.bytes so.feeds.given) (record under.frame { payload = so.bytes }) (still_inside old pass r.0 under.past under.frame under.first _ _ begun.inside.no_fault so))
