use Rattle.std.proofs.Common.{rules, ◌≡◌, refl}
use Rattle.scanimage_cli.specs.Programs.DoesPlanned.{ToOutput, ToPath, ToFolder}
use Rattle.scanimage_cli.specs.declared.planning.Destination.TheVariants.{StandardOutput, Path, Folder}
use Rattle.scanimage_cli.proofs.Carried.{if_ok_of, leaves_at_output, leaves_at_path, leaves_in_folder}
use Rattle.scanimage_cli.proofs.PagesLeft.{pages_left}
use Rattle.scanimage_cli.proofs.task_here.run_job.Goals as goal

pub returns-in-StandardOutput-clause-done : goal.returns-in-StandardOutput-clause-done
returns-in-StandardOutput-clause-done g c =
    let is : c.args.destination ≡ StandardOutput = search rules in
    if_ok_of c.do_job.result (λ printed x. ToOutput is x refl) c.do_job.ensures.done

pub returns-in-StandardOutput-clause-no_file : goal.returns-in-StandardOutput-clause-no_file
returns-in-StandardOutput-clause-no_file g c =
    let is : c.args.destination ≡ StandardOutput = search rules in
    leaves_at_output c.args.destination _ _ c.do_job.result is refl c.do_job.ensures.no_file

pub returns-in-Path-clause-done : goal.returns-in-Path-clause-done
returns-in-Path-clause-done g c =
    let is : c.args.destination ≡ Path c.in-Path.path = search rules in
    if_ok_of c.do_job-in-Path.result (λ printed x. ToPath c.in-Path.path is _ c.begin.ensures x refl refl) c.do_job-in-Path.ensures.done

pub returns-in-Path-clause-no_file : goal.returns-in-Path-clause-no_file
returns-in-Path-clause-no_file g c =
    let is : c.args.destination ≡ Path c.in-Path.path = search rules in
    leaves_at_path c.args.destination c.in-Path.path _ _ _ c.do_job-in-Path.result is c.begin.ensures refl refl c.do_job-in-Path.ensures.no_file

pub returns-in-Folder-clause-done : goal.returns-in-Folder-clause-done
returns-in-Folder-clause-done g c =
    let is : c.args.destination ≡ Folder = search rules in
    if_ok_of c.do_batch.result (λ printed x. ToFolder is x refl refl) c.do_batch.ensures.done

pub returns-in-Folder-clause-no_file : goal.returns-in-Folder-clause-no_file
returns-in-Folder-clause-no_file g c =
    let is : c.args.destination ≡ Folder = search rules in
    leaves_in_folder c.args.destination _ _ c.do_batch.result is refl refl (pages_left c.args.job.now _ _ c.do_batch.result c.do_batch.ensures.ended)
