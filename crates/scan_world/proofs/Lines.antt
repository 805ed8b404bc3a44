-- A line of the users with a job's own user, password and backend allows it, whatever the challenge.
use Rattle.std.specs.Prelude.{◌&&◌}
use Rattle.std.proofs.Common.{◌++◌}
use Rattle.std.proofs.lemmas.List.Folds.{list_any-from_Any}
use Rattle.md5.specs.Md5.{md5}
use Rattle.md5_auth.specs.declared.users.Entry.{Entry}
use Rattle.scan_job.specs.declared.job.Job.{Job}
use Rattle.system_model.specs.AbstractMessages.{same_text}
use Rattle.world_refines.specs.GhostStates.{backend_of}
use Rattle.world_refines.proofs.state.Judged.{both_true, same_self}
use Rattle.scan_world.specs.Clear.{LinesAllow}

abbrev line_of : Job → Entry
line_of job = record { user = job.user; password = job.password; backend = backend_of job.device }

pub lines_allow : LinesAllow
lines_allow users job there = (
  list_any-from_Any (λ (entry : Entry). same_text entry.backend (backend_of job.device)) users (there.0, line_of job, there.1, there.2, same_self (backend_of job.device)),
  λ guarded challenge. list_any-from_Any (λ (entry : Entry). (same_text entry.user job.user && same_text entry.backend (backend_of job.device)) && same_text (md5 (challenge ++ entry.password)) (md5 (challenge ++ job.password))) users (
    there.0,
    line_of job,
    there.1,
    there.2,
    both_true (same_text job.user job.user && same_text (backend_of job.device) (backend_of job.device)) (same_text (md5 (challenge ++ job.password)) (md5 (challenge ++ job.password)))
        (both_true (same_text job.user job.user) (same_text (backend_of job.device) (backend_of job.device)) (same_self job.user) (same_self (backend_of job.device))) (same_self (md5 (challenge ++ job.password))),
  ),
)
