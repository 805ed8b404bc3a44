use Rattle.std.proofs.Common.{arith}
use Rattle.std.specs.Prelude.{OnOk, Ok, Err}
use Rattle.scan_frames.proofs.Frames.{ready_left, ready_made}
use Rattle.scan_frames.specs.Inside.{HasLineBytes, MakesLine, state_of}
use Rattle.scan_frames.proofs.buffers.make_ready.Goals as goal

pub returns-then-buffers-gt0-clause-ok : goal.returns-then-buffers-gt0-clause-ok
returns-then-buffers-gt0-clause-ok g c = ready_left _ _ _ c.requires.frame c.requires.counted c.if-buffers-gt0.true

pub returns-clause-ok : goal.returns-clause-ok
returns-clause-ok g c =
    let s = g.S.PageSource.source c.args.source.now in
    let t = g.S.PageSource.source c.next_line.new.source in
    let setup = c.args.setup.now in
    let old = state_of c.args.buffers.now in
    let new = state_of c.next_line.new.buffers in
    elim c.next_line.result as (λ r. OnOk r (MakesLine s setup old t new) → OnOk r (HasLineBytes s setup old t new)) [ Ok u ↦ λ made. ready_made s t setup old new c.requires.frame (omega arith) made | Err e ↦ λ made. made ] c.next_line.ensures.ok
