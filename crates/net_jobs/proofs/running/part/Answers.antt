use Rattle.std.proofs.Common.{◌∙◌, sym, ap}
use Rattle.net_jobs.specs.declared.calls.CallTally.{CallTally}
use Rattle.net_jobs.specs.Inside.{Silent, notes_of}
use Rattle.net_jobs.proofs.Turning.{leaves_written}
use Rattle.net_jobs.proofs.running.part.Goals.{then-not-has_write_failed, else-not-has_write_failed}
use Rattle.net_jobs.proofs.running.part.Goals as goal

pub returns-clause-left : goal.returns-clause-left
returns-clause-left g c = elim c.if-not-has_write_failed.branch [
  | then-not-has_write_failed w ↦
      rw (w.control-is, w.tally-is) (leaves_written g.C.Write.contents c.args.control.now w.write_out.new.control c.args.client.out c.args.tally.now.loss w.write_out.new.tally.loss c.args.tally.now.write_failed w.write_out.new.tally.write_failed w.write_out.result
      (sym c.has_write_failed.ensures ∙ w.if-not-has_write_failed.true) w.write_out.ensures.reads.0 w.write_out.ensures.told w.write_out.ensures.whole w.write_out.ensures.front)
  | else-not-has_write_failed w ↦ Silent (sym c.has_write_failed.ensures ∙ w.if-not-has_write_failed.false) w.control-is (ap (λ (t : CallTally). notes_of t) w.tally-is)
]
