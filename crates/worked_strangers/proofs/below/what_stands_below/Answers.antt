use Rattle.worked_strangers.proofs.below.what_stands_below.Goals as goal

pub returns : goal.returns
returns c = record {
  kept = c.all_is_kept_among_strangers.ensures;
  goes = c.jobs_go_on_among_strangers.ensures.jobs;
  follow = c.a_run_refines.ensures;
  scans = c.a_scan_is_meant.ensures;
  notes = c.notes_are_true.ensures;
  invariant = c.every_history_keeps_the_invariant.ensures;
  marks = c.history_marks_are_enabled.ensures;
}
