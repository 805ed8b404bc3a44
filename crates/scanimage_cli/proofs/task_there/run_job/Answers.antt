use Rattle.std.proofs.Common.{rules, ◌≡◌, IfOk, refl, subst, sym}
use Rattle.scanimage_cli.specs.JobOutputs.{job_outputs}
use Rattle.scanimage_cli.specs.Host.{dials_between}
use Rattle.scanimage_cli.specs.NetDoing.{host_job}
use Rattle.scanimage_cli.specs.Programs.{RanThere}
use Rattle.scanimage_cli.specs.declared.planning.Destination.TheVariants.{StandardOutput, Path, Folder}
use Rattle.scanimage_cli.proofs.Carried.{leaves_at_output, leaves_at_path, leaves_in_folder, on_err_short, ran_to_output, ran_to_file, ran_to_folder}
use Rattle.scanimage_cli.proofs.Caused.{net_batch_ends, net_job_ends}
use Rattle.scanimage_cli.proofs.PagesLeft.{net_pages_left}
use Rattle.scanimage_cli.proofs.task_there.run_job.Goals as goal

pub returns-in-StandardOutput-clause-ran : goal.returns-in-StandardOutput-clause-ran
returns-in-StandardOutput-clause-ran g c =
    let is : c.args.destination ≡ StandardOutput = search rules in
    let was = job_outputs (g.O.Write.contents c.args.out.now) (g.N.Write.contents c.args.files.now.named) (g.S.Shelf.stock c.args.files.now.shelf) in
    let now = job_outputs (g.O.Write.contents c.do_net_job.new.output) (g.N.Write.contents c.args.files.now.named) (g.S.Shelf.stock c.args.files.now.shelf) in
    let dials = dials_between (g.H.Dial.ports c.args.hosts.now) (g.H.Dial.ports c.do_net_job.new.dial) in
    subst (λ d. IfOk c.do_net_job.result (RanThere (host_job c.args.host.now c.args.job) d dials was now)) (sym is)
    (ran_to_output _ dials c.args.job c.args.host.now _ _ was now c.do_net_job.result refl refl refl refl refl c.do_net_job.ensures.done)

pub returns-in-StandardOutput-clause-no_file : goal.returns-in-StandardOutput-clause-no_file
returns-in-StandardOutput-clause-no_file g c =
    let is : c.args.destination ≡ StandardOutput = search rules in
    leaves_at_output c.args.destination _ _ c.do_net_job.result is refl (on_err_short _ _ c.do_net_job.result c.do_net_job.ensures.no_file)

pub returns-in-Path-clause-ran : goal.returns-in-Path-clause-ran
returns-in-Path-clause-ran g c =
    let is : c.args.destination ≡ Path c.in-Path.path = search rules in
    let was = job_outputs (g.O.Write.contents c.args.out.now) (g.N.Write.contents c.args.files.now.named) (g.S.Shelf.stock c.args.files.now.shelf) in
    let now = job_outputs (g.O.Write.contents c.args.out.now) (g.N.Write.contents c.do_net_job-in-Path.new.output) (g.S.Shelf.stock c.args.files.now.shelf) in
    let dials = dials_between (g.H.Dial.ports c.args.hosts.now) (g.H.Dial.ports c.do_net_job-in-Path.new.dial) in
    subst (λ d. IfOk c.do_net_job-in-Path.result (RanThere (host_job c.args.host.now c.args.job) d dials was now)) (sym is)
    (ran_to_file _ dials c.args.job c.args.host.now c.in-Path.path _ _ was now c.do_net_job-in-Path.result refl refl c.begin.ensures refl refl refl c.do_net_job-in-Path.ensures.done)

pub returns-in-Path-clause-no_file : goal.returns-in-Path-clause-no_file
returns-in-Path-clause-no_file g c =
    let is : c.args.destination ≡ Path c.in-Path.path = search rules in
    leaves_at_path c.args.destination c.in-Path.path _ _ _ c.do_net_job-in-Path.result is c.begin.ensures refl refl (on_err_short _ _ c.do_net_job-in-Path.result c.do_net_job-in-Path.ensures.no_file)

pub returns-clause-ran : goal.returns-clause-ran
returns-clause-ran g c =
    let is : c.args.destination ≡ Folder = search rules in
    let was = job_outputs (g.O.Write.contents c.args.out.now) (g.N.Write.contents c.args.files.now.named) (g.S.Shelf.stock c.args.files.now.shelf) in
    let now = job_outputs (g.O.Write.contents c.args.out.now) (g.N.Write.contents c.args.files.now.named) (g.S.Shelf.stock c.do_net_batch.new.shelf) in
    let dials = dials_between (g.H.Dial.ports c.args.hosts.now) (g.H.Dial.ports c.do_net_batch.new.dial) in
    subst (λ d. IfOk c.do_net_batch.result (RanThere (host_job c.args.host.now c.args.job) d dials was now)) (sym is)
    (ran_to_folder _ dials c.args.job c.args.host.now _ _ was now c.do_net_batch.result refl refl refl refl refl refl c.do_net_batch.ensures.done)

pub returns-clause-no_file : goal.returns-clause-no_file
returns-clause-no_file g c =
    let is : c.args.destination ≡ Folder = search rules in
    leaves_in_folder c.args.destination _ _ c.do_net_batch.result is refl refl (net_pages_left _ c.args.job _ _ c.do_net_batch.result c.do_net_batch.ensures.ended)

pub returns-in-StandardOutput-clause-ended : goal.returns-in-StandardOutput-clause-ended
returns-in-StandardOutput-clause-ended g c = net_job_ends _ _ c.args.job _ _ c.do_net_job.result refl refl c.do_net_job.ensures.ended

pub returns-in-Path-clause-ended : goal.returns-in-Path-clause-ended
returns-in-Path-clause-ended g c = net_job_ends _ _ c.args.job _ _ c.do_net_job-in-Path.result refl refl c.do_net_job-in-Path.ensures.ended

pub returns-clause-ended : goal.returns-clause-ended
returns-clause-ended g c = net_batch_ends _ _ c.args.job _ _ c.do_net_batch.result refl refl c.do_net_batch.ensures.ended
