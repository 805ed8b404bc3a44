-- The plan of some words, taken apart.
use Rattle.std.proofs.Common.{◌≡◌, ◌∙◌, ℕ, List, [], ◌∷◌, ◌++◌, Option, Some, None, false, refl, sym, ap, subst}
use Rattle.std.specs.Prelude.{codes, decimal, if◌then◌else◌, option_map}
use Rattle.scan_job.specs.declared.job.Task.{Task}
use Rattle.scanimage_cli.specs.Asked.{IsAskedOf, task_asked}
use Rattle.scanimage_cli.specs.Plans.{IsLocationOf, IsPlanOf, IsPlanned, destination_of, input_named, user_or_anybody}
use Rattle.scanimage_cli.specs.ScanimageOptions.{AreScanimageOptions, count_named, has_flag, program_option_value}
use Rattle.scanimage_cli.specs.WordCut.{split_of}
use Rattle.scanimage_cli.specs.declared.options.Options.{Options}
use Rattle.scanimage_cli.specs.declared.planning.Destination.{Destination}
use Rattle.scanimage_cli.specs.declared.planning.Input.{Input}
use Rattle.scanimage_cli.specs.declared.planning.Input.TheVariants.{StandardInput}
use Rattle.scanimage_cli.specs.declared.planning.Location.{Location}
use Rattle.scanimage_cli.specs.declared.planning.Location.TheVariants.{Here, There}
use Rattle.scanimage_cli.specs.declared.planning.Plan.{Plan}
use Rattle.scanimage_cli.specs.declared.program_option.ProgramOption.TheVariants as options
use Rattle.worked_programs.proofs.Basics.{head_is, not_none, some_is}

-- what a plan says of a job on a scanner here
pub record PlansHere (plan : Plan) (config : Option Input) (named : Option (List ℕ)) (settings : List (List ℕ × List ℕ)) (task : Task)
    (destination : Destination) : Type 0 where
  pub config_is : plan.config ≡ config
  pub password_file : plan.password_file ≡ None
  pub here : plan.location ≡ Here named
  pub user_is : plan.job.user ≡ codes "user"
  pub settings_are : plan.job.settings.items ≡ settings
  pub task_is : plan.job.task ≡ task
  pub destination_is : plan.job.destination ≡ destination

-- the words have such a plan alone
abbrev pub PlansOnly : List (List ℕ) → Option (List ℕ) → List (List ℕ × List ℕ) → Task → Destination → Type 0
PlansOnly words named settings task destination = (plan : Plan) → IsPlanOf words plan → PlansHere plan (Some StandardInput) named settings task destination

-- ---- the options that the program's words give

abbrev pub options_in : List (List ℕ) → Option ℕ → Options
options_in program count = record {
  list_devices = has_flag options.ListDevices program;
  all_options = has_flag options.AllOptions program;
  dont_scan = has_flag options.DontScan program;
  device_name = program_option_value options.DeviceName program;
  output_file = program_option_value options.OutputFile program;
  config = program_option_value options.Config program;
  net = program_option_value options.Net program;
  port = None;
  dial_first = has_flag options.DialFirst program;
  user = program_option_value options.User program;
  password_file = program_option_value options.PasswordFile program;
  batch = has_flag options.Batch program;
  batch_count = count;
}

same_count : (count own : Option ℕ) → option_map (λ (n : ℕ). Some n) own ≡ option_map (λ (n : ℕ). Some n) count → count ≡ own
same_count None None e = refl
same_count None (Some m) e = absurd (not_none _ (sym e))
same_count (Some n) None e = absurd (not_none _ e)
same_count (Some n) (Some m) e = sym (some_is _ _ e)

no_port : (port : Option ℕ) → ◌≡◌ {A = Option (List ℕ)} None (option_map decimal port) → port ≡ None
no_port None e = refl
no_port (Some n) e = absurd (not_none _ e)

options_given : (program : List (List ℕ)) (count : Option ℕ) (o : Options) → program_option_value options.Port program ≡ None
    → option_map count_named (program_option_value options.BatchCount program) ≡ option_map (λ (n : ℕ). Some n) count
    → AreScanimageOptions program o → o ≡ options_in program count
options_given program count o port counted a = λ i. record {
  list_devices = a.list_devices i;
  all_options = a.all_options i;
  dont_scan = a.dont_scan i;
  device_name = a.device_name i;
  output_file = a.output_file i;
  config = a.config i;
  net = a.net i;
  port = no_port o.port (sym port ∙ a.port) i;
  dial_first = a.dial_first i;
  user = a.user i;
  password_file = a.password_file i;
  batch = a.batch i;
  batch_count = same_count o.batch_count count (sym counted ∙ a.batch_count) i;
}

-- ---- the plan that they make

-- the program's words ask for this, on a scanner here, with the config on standard input
pub record AskHere (program : List (List ℕ)) (count : Option ℕ) (given : List (List ℕ × List ℕ)) (named : Option (List ℕ))
    (settings : List (List ℕ × List ℕ)) (task : Task) (destination : Destination) : Type 0 where
  pub port : program_option_value options.Port program ≡ None
  pub counted : option_map count_named (program_option_value options.BatchCount program) ≡ option_map (λ (n : ℕ). Some n) count
  pub config : option_map input_named (program_option_value options.Config program) ≡ Some StandardInput
  pub password_file : program_option_value options.PasswordFile program ≡ None
  pub user : program_option_value options.User program ≡ None
  pub device : program_option_value options.DeviceName program ≡ named
  pub of_none : (host device : List ℕ) → IsAskedOf (options_in program count) host device → ⊥
  pub kept : (if has_flag options.ListDevices program then [] else given) ≡ settings
  pub task_is : task_asked (options_in program count) ≡ task
  pub destination_is : destination_of task (program_option_value options.OutputFile program) ≡ destination

here_by : (o : Options) (location : Location) (named : Option (List ℕ)) → o.device_name ≡ named → ((host device : List ℕ) → IsAskedOf o host device → ⊥)
    → IsLocationOf o location → location ≡ Here named
here_by o (Here device) named same none is = ap Here (is.1 ∙ same)
here_by o (There remote) named same none is = absurd (none remote.host remote.device is.0)

pub plans_only : (words program : List (List ℕ)) (count : Option ℕ) (given : List (List ℕ × List ℕ)) (named : Option (List ℕ))
    (settings : List (List ℕ × List ℕ)) (task : Task) (destination : Destination) → split_of words ≡ Some (program, given)
    → AskHere program count given named settings task destination → PlansOnly words named settings task destination
plans_only words program count given named settings task destination split ask plan is =
    let both : ◌≡◌ {A = List (List ℕ) × List (List ℕ × List ℕ)} (is.program, is.settings) (program, given) = some_is _ _ (sym is.split ∙ split) in
    let read : AreScanimageOptions program is.options = subst (λ (p : List (List ℕ)). AreScanimageOptions p is.options)
    (ap (λ (x : List (List ℕ) × List (List ℕ × List ℕ)). x.0) both) is.read in
    let made : IsPlanned is.options given plan = subst (λ (s : List (List ℕ × List ℕ)). IsPlanned is.options s plan)
    (ap (λ (x : List (List ℕ) × List (List ℕ × List ℕ)). x.1) both) is.planned in
    let p : IsPlanned (options_in program count) given plan = subst (λ (o : Options). IsPlanned o given plan)
    (options_given program count is.options ask.port ask.counted read) made in
    let task_is : plan.job.task ≡ task = p.task ∙ ask.task_is in
    record {
      config_is = p.config ∙ ask.config;
      password_file = p.password_file ∙ ask.password_file;
      here = here_by (options_in program count) plan.location named ask.device ask.of_none p.location;
      user_is = p.user ∙ ap user_or_anybody ask.user;
      settings_are = p.settings_are ∙ ask.kept;
      task_is = task_is;
      destination_is = p.destination ∙ ap (λ (t : Task). destination_of t (program_option_value options.OutputFile program)) task_is ∙ ask.destination_is;
    }

-- nobody at a host is asked where a device is named that is none of the net, or none is
pub none_named : (o : Options) → o.list_devices ≡ false → o.device_name ≡ None → (host device : List ℕ) → IsAskedOf o host device → ⊥
none_named o list none host device asked = let name = asked.named list in not_none name.0 (sym none ∙ name.1)

pub none_of_net : (o : Options) (c : ℕ) (more : List ℕ) → o.list_devices ≡ false → o.device_name ≡ Some (c ∷ more) → (c ≡ 110 → ⊥) → (host device : List ℕ)
    → IsAskedOf o host device → ⊥
none_of_net o c more list own other host device asked =
    let name = asked.named list in
    let same : c ∷ more ≡ codes "net:" ++ name.2.rest = some_is _ _ (sym own ∙ name.1) ∙ name.2.name_is in
    other (head_is _ _ _ _ same)
