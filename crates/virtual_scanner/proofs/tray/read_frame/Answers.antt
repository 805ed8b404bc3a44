use Rattle.virtual_scanner.proofs.Limits.{first_did, frame_at}
use Rattle.virtual_scanner.proofs.tray.read_frame.Goals as goal

pub answer_read-requires-clause-frame : goal.answer_read-requires-clause-frame
answer_read-requires-clause-frame c = frame_at c.args.setup.now c.args.frame.now c.args.tray.now.items c.index_mut.result.now c.index_mut.ensures.value c.requires.frame

pub returns-clause-answers : goal.returns-clause-answers
returns-clause-answers c = first_did _ _ c.args.tray.now.items c.index_mut.result.now c.answer_read.new.source c.index_mut.ensures.value c.requires.frame c.answer_read.ensures
