use Rattle.std.proofs.Common.{refl, ◌∙◌, ap, arith, List, ℕ, ◌++◌, take, length, Some, Ok, Err}
use Rattle.saned_requests.specs.Holding.{seen_session}
use Rattle.saned_core.proofs.Streaming.{streams_answer, streams_nothing, record_written, mid_whole, head_whole, window_whole}
use Rattle.saned_core.proofs.data.turn.Goals as goal

pub returns-in-None : goal.returns-in-None
returns-in-None g c = streams_nothing (seen_session g.D.Device.state c.args.session.now) c.in-Streaming.word c.read_word.result _ c.read_word.new.window _ c.in-Streaming.is c.read_word.ensures.reads c.in-None.is

pub returns-in-Some-Ok : goal.returns-in-Some-Ok
returns-in-Some-Ok g c =
    streams_answer (seen_session g.D.Device.state c.args.session.now) c.in-Streaming.word c.read_word.result (Ok c.in-Some-Ok.n) _ c.read_word.new.window _ _ c.in-Streaming.is c.read_word.ensures.reads (c.in-Some-Ok.is ∙ ap Some c.in-Some-Ok.field-0-is) (window_whole c.read_word.new.window c.args.buf.now _ c.min-room.result c.requires c.min-room.ensures c.read_word.auto.window (head_whole c.copy_from_slice.new.self _ c.copy_from_slice.ensures.len ∙ mid_whole c.args.buf.now c.read_word.new.window c.min-room.result c.requires c.min-room.ensures c.read_word.auto.window)) (refl, record_written c.copy_from_slice.new.self c.args.buf.now c.read_word.new.window _ c.in-Some-Ok.n (ap length (c.copy_from_slice.ensures.after ∙ c.record_head.ensures)) (omega arith) (rw c.in-Some-Ok.field-0-is at c.in-Some-Ok.ensures.room) ∙ ap (λ (z : List ℕ). z ++ take c.in-Some-Ok.n c.read_word.new.window) (c.copy_from_slice.ensures.after ∙ c.record_head.ensures))

pub returns-in-Some-Err : goal.returns-in-Some-Err
returns-in-Some-Err g c =
    streams_answer (seen_session g.D.Device.state c.args.session.now) c.in-Streaming.word c.read_word.result (Err c.in-Some-Err.status) _ c.read_word.new.window _ _ c.in-Streaming.is c.read_word.ensures.reads (c.in-Some-Err.is ∙ ap Some c.in-Some-Err.field-0-is) (window_whole c.read_word.new.window c.args.buf.now c.put_end.new.buf c.min-room.result c.requires c.min-room.ensures c.read_word.auto.window (c.put_end.auto.buf ∙ mid_whole c.args.buf.now c.read_word.new.window c.min-room.result c.requires c.min-room.ensures c.read_word.auto.window)) c.put_end.ensures
