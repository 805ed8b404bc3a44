use Rattle.scan_world.proofs.laws.what_stands_below.Goals as goal

pub returns : goal.returns
returns c = record {
  kept = c.all_is_kept_among_strangers.ensures;
  alone = c.all_is_kept.ensures;
  new = c.a_new_world_refines.ensures.stands;
  notes = c.notes_are_true.ensures;
  histories = c.every_history_keeps_the_invariant.ensures;
  marks = c.marks_are_enabled.ensures;
  last = c.outcomes_last.ensures;
  grounds = c.causes_are_grounded.ensures;
  same = c.settings_mean_the_same.ensures;
  follows = c.a_run_refines.ensures;
  goes = c.jobs_go_on_among_strangers.ensures.jobs;
  acts = c.jobs_go_on_among_strangers.ensures.strangers;
  outcomes = c.outcomes_are_right.ensures;
  losses = c.losses_are_explained.ensures;
  scans = c.a_scan_is_meant.ensures;
  pages = c.pages_are_meant.ensures;
}
