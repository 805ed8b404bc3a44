-- What is carried out of a plan, whatever its streams and outputs tell.
use Rattle.std.proofs.Common.{ℕ, ◌≡◌, inl, inr, ap, subst, IsOk, Bool, true, false, Option, List, [], Result, Ok, Err, IfOk, OnOk, OnErr, Some, None, refl, sym, ◌∙◌}
use Rattle.std.specs.Prelude.{⊤}
use Rattle.std.specs.Io.KnownBytes.{Appends}
use Rattle.std.proofs.lemmas.List.{append-nil}
use Rattle.scan_job.specs.FileOutputs.{StopsShort, TakesBack}
use Rattle.net_jobs.specs.Batches.{pages_of}
use Rattle.scan_job.specs.declared.report.Reports.{Reports}
use Rattle.net_jobs.specs.Outputs.{page_outputs_from}
use Rattle.scan_job.specs.declared.job.Job.{Job}
use Rattle.scan_job.specs.declared.job.Task.TheVariants.{List as ListTask, Scan, Batch}
use Rattle.dispatch.specs.Table.{Table, listed_infos}
use Rattle.device_api.specs.State.{DeviceState}
use Rattle.recorded.specs.Names.{IsNamed}
use Rattle.std.proofs.KnownBytes.{Appends-trans}
use Rattle.scanimage_cli.specs.JobOutputs.{JobOutputs, LeavesNone, LeavesNoneOfPlan, LeavesPages}
use Rattle.scanimage_cli.specs.DeviceList.{device_lines, net_prefix}
use Rattle.scanimage_cli.specs.Plans.{IsComplete, IsPlanned, IsPlanOf}
use Rattle.scanimage_cli.specs.Printing.{printed_table}
use Rattle.scanimage_cli.specs.ScanimageOptions.{AreScanimageOptions}
use Rattle.scanimage_cli.specs.WordCut.{split_of}
use Rattle.scanimage_cli.specs.declared.options.Options.{Options}
use Rattle.scanimage_cli.specs.declared.planning.Destination.{Destination}
use Rattle.scanimage_cli.specs.declared.planning.Plan.{Plan}
use Rattle.scan_job.specs.Shelves.{Stock}
use Rattle.frame_join.proofs.StreamLaws.{nothing_holds_none}
use Rattle.local_job.specs.LocalRun.{LeavesNoFile}
use Rattle.net_jobs.specs.Links.{LinkViews}
use Rattle.net_jobs.specs.RunPromises.{SeenStreams}
use Rattle.scanimage_cli.specs.NetDoing.{DoesNetJob, DoesNetBatch}
use Rattle.scanimage_cli.specs.Programs.DoesPlanned.{ToOutput, ToPath, ToFolder}
use Rattle.scanimage_cli.specs.Programs.{AskedHere, DoesPlanned, GavePlanned, IsDoneHere, LoopThere, ProgramOutputs, RanThere}
use Rattle.scanimage_cli.specs.declared.ending.Ending.{Ending}
use Rattle.scanimage_cli.specs.declared.planning.Destination.TheVariants.{StandardOutput, Path, Folder}
use Rattle.scanimage_cli.specs.declared.planning.JobPlan.{JobPlan}
use Rattle.scanimage_cli.specs.declared.printed.Printout.{Printout}
use Rattle.scanimage_cli.proofs.Destinations.{IsFolder, IsListing, IsPath}
use Rattle.scanimage_cli.proofs.PagesLeft.{same_pages_left}
use Rattle.scanimage_cli.proofs.PortsTold.{asked_now}
use Rattle.scanimage_cli.specs.Host.{DialsBetween}
use Rattle.scanimage_cli.specs.NetDoing.{host_job}
use Rattle.net_jobs.specs.JobJournal.{dialled_by}
use Rattle.std.specs.Io.KnownBytes.{prepend_known}

abbrev IsNot : Bool → Type 0
IsNot false = ⊤
IsNot true = ⊥

pub on_ok_of : {A E P Q : Type 0} (result : Result A E) → (P → Q) → OnOk result P → OnOk result Q
on_ok_of (Ok value) so is = so is
on_ok_of (Err fault) so is = tt

pub on_ok_of_two : {A E P Q R : Type 0} (result : Result A E) → (P → Q → R) → OnOk result P → OnOk result Q → OnOk result R
on_ok_of_two (Ok value) so is and = so is and
on_ok_of_two (Err fault) so is and = tt

pub on_err : {A E P : Type 0} (result : Result A E) → P → OnErr result P
on_err (Ok value) is = tt
on_err (Err fault) is = is

-- where nothing was written there is no file
pub nothing_leaves_no_file : (held : Option (List ℕ)) → LeavesNoFile held held
nothing_leaves_no_file held = λ first taken. record { text = []; taken = taken; none = nothing_holds_none }

pub nothing_stops_short : (held : Option (List ℕ)) → StopsShort held held
nothing_stops_short None = record { text = []; taken = tt; none = nothing_holds_none }
nothing_stops_short (Some bytes) = record { text = []; taken = sym (append-nil bytes); none = nothing_holds_none }

-- what took no whole file, whatever it held before, leaves none
pub short_leaves_no_file : (was now : Option (List ℕ)) → StopsShort was now → LeavesNoFile was now
short_leaves_no_file was now short = λ first taken. record { text = short.text; taken = Appends-trans first was now [] short.text taken short.taken; none = short.none }

-- where no output was touched none took a file
pub untouched : (destination : Destination) (was : JobOutputs) → LeavesNone destination was was
untouched StandardOutput was = (nothing_leaves_no_file was.out, refl)
untouched (Path path) was = (inl refl, refl, refl)
untouched Folder was = (same_pages_left was.files.stock, refl, refl)

pub leaves_at_output : {A E : Type 0} (destination : Destination) (was now : JobOutputs) (result : Result A E) → destination ≡ StandardOutput → now.files ≡ was.files → OnErr result (LeavesNoFile was.out now.out)
    → OnErr result (LeavesNone destination was now)
leaves_at_output destination was now (Ok value) is same left = tt
leaves_at_output destination was now (Err fault) is same left = subst (λ d. LeavesNone d was now) (sym is) (left, same)

pub leaves_at_path : {A E : Type 0} (destination : Destination) (path : List ℕ) (was now : JobOutputs) (begun : Option (List ℕ)) (result : Result A E) → destination ≡ Path path → IsNamed path was.files.named begun
    → now.out ≡ was.out → now.files.stock ≡ was.files.stock → OnErr result (LeavesNoFile begun now.files.named) → OnErr result (LeavesNone destination was now)
leaves_at_path destination path was now begun (Ok value) is named out stock left = tt
leaves_at_path destination path was now begun (Err fault) is named out stock left = subst (λ d. LeavesNone d was now) (sym is) (inr (begun, named, left), out, stock)

pub leaves_in_folder : {A E : Type 0} (destination : Destination) (was now : JobOutputs) (result : Result A E) → destination ≡ Folder → now.out ≡ was.out → now.files.named ≡ was.files.named
    → OnErr result (LeavesPages was.files.stock now.files.stock) → OnErr result (LeavesNone destination was now)
leaves_in_folder destination was now (Ok value) is out named left = tt
leaves_in_folder destination was now (Err fault) is out named left = subst (λ d. LeavesNone d was now) (sym is) (left, out, named)

-- ---- no file of a plan

pub untouched_plan : (plan : JobPlan) (was : JobOutputs) → LeavesNoneOfPlan plan was was
untouched_plan plan was = record { scan = λ _. untouched plan.destination was; batch = λ _ _. untouched plan.destination was; spares = λ _. refl }

spared : (destination : Destination) (was now : JobOutputs) → destination ≡ StandardOutput → LeavesNone destination was now → now.files ≡ was.files
spared StandardOutput was now at left = left.1
spared (Path path) was now at left = absurd (subst IsPath at tt)
spared Folder was now at left = absurd (subst IsFolder at tt)

-- a job that did not end well
pub job_leaves : (plan : JobPlan) (was now : JobOutputs) → LeavesNone plan.destination was now → LeavesNoneOfPlan plan was now
job_leaves plan was now left = record { scan = λ _. left; batch = λ _ _. left; spares = λ at. spared plan.destination was now at left }

-- a list
pub list_leaves : {A E : Type 0} (plan : JobPlan) (was now : JobOutputs) (result : Result A E) → plan.task ≡ ListTask → now.files ≡ was.files → OnErr result (LeavesNoneOfPlan plan was now)
list_leaves plan was now (Ok value) is same = tt
list_leaves plan was now (Err fault) is same = record { scan = λ scan. absurd (subst IsListing (sym is ∙ scan) tt); batch = λ count batch. absurd (subst IsListing (sym is ∙ batch) tt); spares = λ _. same }

-- what prints nothing behind its job fails in no print
pub print_leaves : {A E : Type 0} (plan : JobPlan) (was now : JobOutputs) (table : List ℕ) (result : Result A E) → (table ≡ [] → IsOk result) → (plan.task ≡ Scan → table ≡ []) → ((count : ℕ) → plan.task ≡ Batch count → table ≡ [])
    → (plan.destination ≡ StandardOutput → now.files ≡ was.files) → OnErr result (LeavesNoneOfPlan plan was now)
print_leaves plan was now table (Ok value) nothing scan batch same = tt
print_leaves plan was now table (Err fault) nothing scan batch same = record { scan = λ is. absurd (subst IsNot (nothing (scan is)) tt); batch = λ count is. absurd (subst IsNot (nothing (batch count is)) tt); spares = same }

pub on_err_short : {A E : Type 0} (was now : Option (List ℕ)) (result : Result A E) → OnErr result (StopsShort was now) → OnErr result (LeavesNoFile was now)
on_err_short was now (Ok value) short = tt
on_err_short was now (Err fault) short = short_leaves_no_file was now short

-- what a job over the net did with its file at standard output
pub ran_to_output : {L : Type 0} (views : LinkViews L) (dials : DialsBetween) (job : Job) (host : List ℕ) (old new : SeenStreams L (Option (List ℕ))) (was now : JobOutputs) (result : Result Printout Ending)
    → (views.ports old.links).asked ≡ dials.was → (views.ports new.links).asked ≡ dials.now
    → old.output ≡ was.out → new.output ≡ now.out → now.files ≡ was.files
    → IfOk result (DoesNetJob views (record { host = host; job = job }) old new) → IfOk result (RanThere (host_job host job) StandardOutput dials was now)
ran_to_output views dials job host old new was now (Ok printed) dials_first dials_last at_first at_last same x = record {
  loop = record {
    reports = x.reports;
    moves = x.ran.ran.moves;
    first = x.ran.ran.first;
    last = x.ran.ran.last;
    fresh = x.ran.ran.fresh;
    steps = x.ran.steps;
    last_told = x.ran.last_told;
    trace = x.ran.ran.trace;
    told = x.ran.told;
    rest = x.ran.ran.rest;
    left = x.ran.ran.left;
    did = x.ran.ran.did;
    all = x.ran.all;
    end_well = x.ran.end_well;
  };
  named = x.ran.ran.asked;
  asked_for = sym dials_last ∙ asked_now views old.links x.ran.ran.moves new.links x.ran.ran.calls ∙ ap (prepend_known (dialled_by x.ran.ran.moves)) dials_first;
  gave = (record { text = x.ran.text; taken = subst (λ o. Appends o now.out x.ran.text) at_first (subst (λ o. Appends old.output o x.ran.text) at_last x.ran.taken); went_out = x.ran.went_out; file = x.ran.file; none = x.ran.none }, same);
  prints = x.prints;
}
ran_to_output views dials job host old new was now (Err ending) dials_first dials_last at_first at_last same x = x

-- in the file of that name
pub ran_to_file : {L : Type 0} (views : LinkViews L) (dials : DialsBetween) (job : Job) (host path : List ℕ) (old new : SeenStreams L (Option (List ℕ))) (was now : JobOutputs) (result : Result Printout Ending)
    → (views.ports old.links).asked ≡ dials.was → (views.ports new.links).asked ≡ dials.now
    → IsNamed path was.files.named old.output → new.output ≡ now.files.named → now.out ≡ was.out → now.files.stock ≡ was.files.stock
    → IfOk result (DoesNetJob views (record { host = host; job = job }) old new) → IfOk result (RanThere (host_job host job) (Path path) dials was now)
ran_to_file views dials job host path old new was now (Ok printed) dials_first dials_last named at_last out stock x = record {
  loop = record {
    reports = x.reports;
    moves = x.ran.ran.moves;
    first = x.ran.ran.first;
    last = x.ran.ran.last;
    fresh = x.ran.ran.fresh;
    steps = x.ran.steps;
    last_told = x.ran.last_told;
    trace = x.ran.ran.trace;
    told = x.ran.told;
    rest = x.ran.ran.rest;
    left = x.ran.ran.left;
    did = x.ran.ran.did;
    all = x.ran.all;
    end_well = x.ran.end_well;
  };
  named = x.ran.ran.asked;
  asked_for = sym dials_last ∙ asked_now views old.links x.ran.ran.moves new.links x.ran.ran.calls ∙ ap (prepend_known (dialled_by x.ran.ran.moves)) dials_first;
  gave = ((old.output, named, record { text = x.ran.text; taken = subst (λ o. Appends old.output o x.ran.text) at_last x.ran.taken; went_out = x.ran.went_out; file = x.ran.file; none = x.ran.none }), out, stock);
  prints = x.prints;
}
ran_to_file views dials job host path old new was now (Err ending) dials_first dials_last named at_last out stock x = x

-- or in the outputs of the shelf
pub ran_to_folder : {L : Type 0} (views : LinkViews L) (dials : DialsBetween) (job : Job) (host : List ℕ) (old new : SeenStreams L (Option Stock)) (was now : JobOutputs) (result : Result Printout Ending)
    → (views.ports old.links).asked ≡ dials.was → (views.ports new.links).asked ≡ dials.now
    → old.output ≡ was.files.stock → new.output ≡ now.files.stock → now.out ≡ was.out → now.files.named ≡ was.files.named
    → IfOk result (DoesNetBatch views (record { host = host; job = job }) old new) → IfOk result (RanThere (host_job host job) Folder dials was now)
ran_to_folder views dials job host old new was now (Ok printed) dials_first dials_last at_first at_last out named x = record {
  loop = record {
    reports = x.reports;
    moves = x.ran.ran.moves;
    first = x.ran.ran.first;
    last = x.ran.ran.last;
    fresh = x.ran.ran.fresh;
    steps = x.ran.steps;
    last_told = x.ran.last_told;
    trace = x.ran.ran.trace;
    told = x.ran.told;
    rest = x.ran.ran.rest;
    left = x.ran.ran.left;
    did = x.ran.ran.did;
    all = x.ran.all;
    end_well = x.ran.end_well;
  };
  named = x.ran.ran.asked;
  asked_for = sym dials_last ∙ asked_now views old.links x.ran.ran.moves new.links x.ran.ran.calls ∙ ap (prepend_known (dialled_by x.ran.ran.moves)) dials_first;
  gave = (
    record {
      count = x.ran.count;
      files = x.ran.files;
      went_out = x.ran.went_out;
      outputs = subst (λ o. TakesBack o (page_outputs_from 1 (pages_of x.ran.ran.trace)) now.files.stock) at_first (subst (λ o. TakesBack old.output (page_outputs_from 1 (pages_of x.ran.ran.trace)) o) at_last x.ran.outputs);
    },
    out,
    named,
  );
  prints = x.prints;
}
ran_to_folder views dials job host old new was now (Err ending) dials_first dials_last at_first at_last out named x = x

-- a list was printed
pub listed : (table : Table) (asked : AskedHere) (was now : ProgramOutputs) (lines : List ℕ) → asked.plan.task ≡ ListTask → lines ≡ device_lines [] (listed_infos table) → now.err ≡ was.err → now.files ≡ was.files → Appends was.out now.out lines → IsDoneHere table asked was now
listed table asked was now lines task is kept same whole = record { list = λ _. (subst (Appends was.out now.out) is whole, kept, same); job = λ no. absurd (no task) }

-- what a job prints is the table of its task
pub prints_as : (destination : Destination) (job : Job) (device : DeviceState × DeviceState) (was now : JobOutputs) (printed : Printout) → DoesPlanned destination job device was now printed
    → (reports : Reports) × (printed.table.items ≡ printed_table job.task [] job.device reports)
prints_as destination job device was now printed (ToOutput there x same) = (x.reports, x.prints.table)
prints_as destination job device was now printed (ToPath path there begun named x out stock) = (x.reports, x.prints.table)
prints_as destination job device was now printed (ToFolder there x out named) = (x.reports, x.prints.table)

-- a scan prints no table
pub scan_prints_none : (destination : Destination) (job : Job) (device : DeviceState × DeviceState) (was now : JobOutputs) (printed : Printout) → job.task ≡ Scan → DoesPlanned destination job device was now printed → printed.table.items ≡ []
scan_prints_none destination job device was now printed is does = let p = prints_as destination job device was now printed does in p.1 ∙ ap (λ t. printed_table t [] job.device p.0) is

-- nor does a batch
pub batch_prints_none : (destination : Destination) (job : Job) (device : DeviceState × DeviceState) (was now : JobOutputs) (printed : Printout) (count : ℕ) → job.task ≡ Batch count → DoesPlanned destination job device was now printed → printed.table.items ≡ []
batch_prints_none destination job device was now printed count is does = let p = prints_as destination job device was now printed does in p.1 ∙ ap (λ t. printed_table t [] job.device p.0) is

-- nor do they over the net
pub scan_there_prints_none : (destination : Destination) (job : Job) (host : List ℕ) (dials : DialsBetween) (was now : JobOutputs) (printed : Printout) → job.task ≡ Scan → RanThere (host_job host job) destination dials was now printed → printed.table.items ≡ []
scan_there_prints_none destination job host dials was now printed is x = x.prints.table ∙ ap (λ t. printed_table t (net_prefix host) job.device x.loop.reports) is

pub batch_there_prints_none : (destination : Destination) (job : Job) (host : List ℕ) (dials : DialsBetween) (was now : JobOutputs) (printed : Printout) (count : ℕ) → job.task ≡ Batch count → RanThere (host_job host job) destination dials was now printed → printed.table.items ≡ []
batch_there_prints_none destination job host dials was now printed count is x = x.prints.table ∙ ap (λ t. printed_table t (net_prefix host) job.device x.loop.reports) is

-- a job whose file goes to standard output touches no other
pub does_spare : (destination : Destination) (job : Job) (device : DeviceState × DeviceState) (was now : JobOutputs) (printed : Printout) → destination ≡ StandardOutput → DoesPlanned destination job device was now printed → now.files ≡ was.files
does_spare destination job device was now printed at (ToOutput there x same) = same
does_spare destination job device was now printed at (ToPath path there begun named x out stock) = absurd (subst IsPath (sym there ∙ at) tt)
does_spare destination job device was now printed at (ToFolder there x out named) = absurd (subst IsFolder (sym there ∙ at) tt)

gave_spares : (destination : Destination) (job : Job) (loop : LoopThere job) (was now : JobOutputs) → destination ≡ StandardOutput → GavePlanned destination job loop was now → now.files ≡ was.files
gave_spares StandardOutput job loop was now at gave = gave.1
gave_spares (Path path) job loop was now at gave = absurd (subst IsPath at tt)
gave_spares Folder job loop was now at gave = absurd (subst IsFolder at tt)

pub ran_spares : (destination : Destination) (job : Job) (host : List ℕ) (dials : DialsBetween) (was now : JobOutputs) (printed : Printout) → destination ≡ StandardOutput → RanThere (host_job host job) destination dials was now printed → now.files ≡ was.files
ran_spares destination job host dials was now printed at x = gave_spares destination job x.loop was now at x.gave

-- what is well has no ending
pub well_is_no_end : {A E : Type 0} (P : Type 0) (result : Result A E) → IsOk result → OnErr result P
well_is_no_end P (Ok value) is = tt
well_is_no_end P (Err fault) is = absurd (subst IsNot is tt)

pub if_ok_of : {A E : Type 0} {P Q : A → Type 0} (result : Result A E) → ((value : A) → P value → Q value) → IfOk result P → IfOk result Q
if_ok_of (Ok value) so is = so value is
if_ok_of (Err fault) so is = tt

-- options that are complete make the plan of the words
pub plan_is : (words program : List (List ℕ)) (settings : List (List ℕ × List ℕ)) (options : Options) (result : Result Plan Ending) → split_of words ≡ Some (program, settings) → AreScanimageOptions program options
    → OnOk result (IsComplete options) → IfOk result (IsPlanned options settings) → IfOk result (IsPlanOf words)
plan_is words program settings options (Ok plan) split read complete planned = record { program = program; settings = settings; options = options; split = split; read = read; complete = complete; planned = planned }
plan_is words program settings options (Err ending) split read complete planned = planned
