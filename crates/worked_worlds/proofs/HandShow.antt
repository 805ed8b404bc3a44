-- A show of a hand scanner, computed to its table.
use Rattle.std.specs.Prelude.{All, Contains, codes, length, map, option_map, slice_get, ◌≤◌}
use Rattle.std.proofs.Common.{◌≡◌, ◌∙◌, ℕ, zero, suc, List, [], ◌∷◌, true, false, Some, None, refl, sym, ap, subst, arith}
use Rattle.std.proofs.lemmas.List.Elements.{All-from_recursion}
use Rattle.sane_fixed.specs.declared.byte_order.ByteOrder.TheVariants.{Little}
use Rattle.constraint.specs.NearestComputed.{nearest_in_list}
use Rattle.option_desc.specs.Put.{resolve}
use Rattle.option_desc.specs.Reads.{integer_of, read_value}
use Rattle.page_picture.specs.declared.scene.DeviceKind.TheVariants.{Hand}
use Rattle.scan_frames.specs.declared.setup.Setup.{Setup}
use Rattle.device_api.specs.InForce.{Placement, force, placement}
use Rattle.device_api.specs.Options.{descriptor_of, option_at, options_of}
use Rattle.device_api.specs.State.{DeviceState}
use Rattle.device_api.specs.Values.{defaults, option_value, setup_after, with_value}
use Rattle.client_replies.specs.ProtocolStates.{scans}
use Rattle.scan_job.specs.declared.job.Job.{Job}
use Rattle.scan_job.specs.declared.job.Task.{Task}
use Rattle.scan_job.specs.declared.job.Task.TheVariants as tasks
use Rattle.scan_job.specs.JobSize.{HasCount, IsJobText}
use Rattle.scan_job.specs.declared.outcome.Outcome.{Outcome}
use Rattle.scan_job.specs.declared.outcome.Outcome.TheVariants.{Done}
use Rattle.scan_job.specs.declared.report.Reports.{Reports}
use Rattle.event_world.specs.declared.world_fault.WorldFault.{WorldFault}
use Rattle.event_world.specs.declared.world_fault.WorldFault.TheVariants as faults
use Rattle.event_world.specs.Worlds.{HasFaultAmong, IsFitJob, WorldCore}
use Rattle.strangers.specs.Together.JointEvent.{OfJobs, OfStranger}
use Rattle.scan_world.specs.Calls.{ForEach, RunsOut, starved_at}
use Rattle.scan_world.specs.Clear.{ClearsUp, IsClear}
use Rattle.scan_world.specs.Histories.{History, LedTo, and_then, begun}
use Rattle.scan_world.specs.Page.{Settled}
use Rattle.scan_world.specs.Promise.{OutcomeIsKept}
use Rattle.scan_world.specs.Reports.{told_option}
use Rattle.scan_world.specs.Settings.{AreSettingsPut, PutsInForce}
use Rattle.scan_world.proofs.Nearest.{nearest_for}
use Rattle.worked_worlds.specs.DotFiles.{CameOff, one_dot}
use Rattle.worked_worlds.specs.HandTable.{IsHandShow, hand_settings, hand_setup, hand_table, hand_with, shown_by_name}
use Rattle.worked_worlds.specs.Inside.{HasNoFile, TellsTable}
use Rattle.worked_worlds.specs.declared.hand_shows.ShownOption.{ShownOption}
use Rattle.worked_worlds.specs.declared.surely.NoFile.{NoFile}
use Rattle.worked_worlds.proofs.GrayDots.{allowed_here, only_setup, short_by}
use Rattle.worked_worlds.proofs.TwoFlatbeds.{no_event, off_of}
use Rattle.worked_worlds.proofs.Worked.{only_memory, only_one}

-- ---- the options in force, and what they show

forced_hand : option_map (λ (x : Setup × List Placement). x.0) (force (defaults Hand Little) hand_settings) ≡ Some hand_setup
unfolding placement defaults setup_after with_value descriptor_of option_at resolve read_value integer_of nearest_in_list
forced_hand = refl

hand_shown : map shown_by_name (map (told_option hand_setup) (options_of hand_setup.scene.kind)) ≡ hand_table
unfolding defaults descriptor_of option_value
hand_shown = refl

-- ---- of the one device

the_hand : ℕ → DeviceState
the_hand gray = hand_with (codes "hand:0") (one_dot gray)

put_hand : (gray : ℕ) (items : List (List ℕ × List ℕ)) (placed : List Placement) (setup : Setup) (device : DeviceState) → the_hand gray ≡ device → AreSettingsPut (defaults device.setup.scene.kind device.setup.order) items placed setup → AreSettingsPut (defaults Hand Little) items placed setup
unfolding defaults the_hand
put_hand gray items placed setup device same put = subst (λ (d : DeviceState). AreSettingsPut (defaults d.setup.scene.kind d.setup.order) items placed setup) (sym same) put

hand_put : (gray : ℕ) (items : List (List ℕ × List ℕ)) (placed : List Placement) (setup : Setup) → AreSettingsPut (defaults Hand Little) items placed setup → AreSettingsPut (defaults (the_hand gray).setup.scene.kind (the_hand gray).setup.order) items placed setup
unfolding defaults the_hand
hand_put gray items placed setup put = put

hand_setup_is : (gray : ℕ) (h : History) (job : Job) → h.devices ≡ the_hand gray ∷ [] → job.settings.items ≡ hand_settings → (s : Settled h job) → s.setup ≡ hand_setup
hand_setup_is gray h job devices own s =
    let same : the_hand gray ≡ s.device = only_one (the_hand gray) s.device (subst (λ (ds : List DeviceState). Contains ds s.device) devices s.is_there) in
    let put = put_hand gray job.settings.items s.placed s.setup s.device same s.in_force in
    only_setup (defaults Hand Little) s.setup hand_setup s.placed hand_settings forced_hand (subst (λ (xs : List (List ℕ × List ℕ)). AreSettingsPut (defaults Hand Little) xs s.placed s.setup) own put)

table_by : (setup : Setup) (table : List ShownOption) → setup ≡ hand_setup → table ≡ map shown_by_name (map (told_option setup) (options_of setup.scene.kind)) → table ≡ hand_table
table_by setup table same is = is ∙ ap (λ (s : Setup). map shown_by_name (map (told_option s) (options_of s.scene.kind))) same ∙ hand_shown

pub hand_says : (gray : ℕ) (seed : List ℕ) (jobs : List Job) (job : Job) (old new : WorldCore) (table : List ShownOption) → jobs ≡ job ∷ [] → IsHandShow job → LedTo (begun (hand_with (codes "hand:0") (one_dot gray) ∷ []) [] seed jobs) old → ((h : History) → LedTo h old → RunsOut h old new) → TellsTable new table → table ≡ hand_table
unfolding the_hand
hand_says gray seed jobs job old new table own is led ran tells =
    let out = ran (begun (the_hand gray ∷ []) [] seed jobs) led in
    let h = and_then (begun (the_hand gray ∷ []) [] seed jobs) out.moves in
    let told = tells h job (record { led = out.led; job_at = ap (λ (js : List Job). slice_get js 0) own }) is.does in
    table_by told.0.setup table (hand_setup_is gray h job refl is.settings_are told.0) told.1

-- what a job that is done tells
pub table_told : (w : WorldCore) (given : Outcome) (reports : Reports) (table : List ShownOption) → given ≡ Done reports → table ≡ map shown_by_name reports.options → ForEach w 0 (λ h job. OutcomeIsKept h w 0 job (starved_at w 0) given) → TellsTable w table
table_told w given reports table is own kept h job at show = let s = ((kept h job at).done reports is).shown show in (s.0, own ∙ ap (map shown_by_name) s.1)

-- ---- nothing stands in its way

told_hand : hand_setup.told ≡ None
unfolding defaults
told_hand = refl

puts_hand : (items : List (List ℕ × List ℕ)) → items ≡ hand_settings → PutsInForce Hand items hand_setup
puts_hand items own =
    let put = nearest_for Hand Little hand_settings hand_setup forced_hand in
    record { placed = put.0; put = subst (λ (xs : List (List ℕ × List ℕ)). AreSettingsPut (defaults Hand Little) xs put.0 hand_setup) (sym own) put.1; unnamed = told_hand }

no_scan : (task : Task) → task ≡ tasks.Show → scans task ≡ true → ⊥
no_scan task is scanning = let clash : false ≡ true = sym (ap scans is) ∙ scanning in cc

one_alone : (job other : Job) (j : ℕ) → slice_get (job ∷ []) j ≡ Some other → j ≡ 0
one_alone job other zero at = refl
one_alone job other (suc j) at = absurd (let clash : None ≡ Some other = at in cc)

hand_name : (gray : ℕ) (job : Job) → IsHandShow job → (the_hand gray).info.name ≡ job.device
unfolding the_hand
hand_name gray job is = sym is.named

clear_hand : (gray : ℕ) (seed : List ℕ) (job : Job) → IsHandShow job → IsClear (begun (the_hand gray ∷ []) [] seed (job ∷ [])) 0 job (λ (j : ℕ). j ≡ 0)
clear_hand gray seed job is =
    let h = begun (the_hand gray ∷ []) [] seed (job ∷ []) in
    let puts = puts_hand job.settings.items is.settings_are in
    record {
      device = the_hand gray;
      is_there = (0, omega arith, refl);
      named = hand_name gray job is;
      supplied = λ scanning feeder. absurd (no_scan job.task is.does scanning);
      alone = λ j other at same. one_alone job other j at;
      forced = λ unforced. unforced.1 (record { device = the_hand gray; is_there = (0, omega arith, refl); named = hand_name gray job is; setup = hand_setup; placed = puts.placed; in_force = hand_put gray job.settings.items puts.placed hand_setup puts.put });
      unnamed = λ s. ap (λ (t : Setup). t.told) (hand_setup_is gray h job refl is.settings_are s) ∙ told_hand;
      meant = λ scanning s held came. absurd (no_scan job.task is.does scanning);
      firm = λ scanning held came. absurd (no_scan job.task is.does scanning);
      allowed = allowed_here job;
      left = λ event came. absurd (no_event (OfJobs event) came);
      undisturbed = λ a came. no_event (OfStranger a) came;
    }

pub hand_off : (gray : ℕ) (seed : List ℕ) (jobs : List Job) (job : Job) (old new : WorldCore) (why : NoFile) → jobs ≡ job ∷ [] → IsHandShow job → LedTo (begun (hand_with (codes "hand:0") (one_dot gray) ∷ []) [] seed jobs) old → ClearsUp old new → HasNoFile new 0 why → CameOff (hand_with (codes "hand:0") (one_dot gray) ∷ []) why
unfolding the_hand
hand_off gray seed jobs job old new why own is led clears none =
    off_of (hand_with (codes "hand:0") (one_dot gray) ∷ []) seed (job ∷ []) old new 0 job why refl (clear_hand gray seed job is) (subst (λ (js : List Job). LedTo (begun (hand_with (codes "hand:0") (one_dot gray) ∷ []) [] seed js) old) own led) clears none

short_hand : (items : List (List ℕ × List ℕ)) → items ≡ hand_settings → (length items ≤ 64) × All (λ (setting : List ℕ × List ℕ). IsJobText setting.0 × IsJobText setting.1) items
short_hand items same = subst (λ (xs : List (List ℕ × List ℕ)). (length xs ≤ 64) × All (λ (setting : List ℕ × List ℕ). IsJobText setting.0 × IsJobText setting.1) xs) (sym same) (omega arith, All-from_recursion (λ (setting : List ℕ × List ℕ). IsJobText setting.0 × IsJobText setting.1) hand_settings ((omega arith, omega arith), tt))

hand_fits : (job : Job) → IsHandShow job → IsFitJob job
hand_fits job is =
    let settings = short_hand job.settings.items is.settings_are in (
      record { few = settings.0; user = short_by job.user [] is.user_is (omega arith); password = short_by job.password [] is.password_is (omega arith); device = short_by job.device (codes "hand:0") is.named (omega arith); settings = settings.1 },
      subst HasCount (sym is.does) tt,
    )

pub hand_refused : (device : DeviceState) (jobs : List Job) (job : Job) (f : WorldFault) → jobs ≡ job ∷ [] → IsHandShow job → HasFaultAmong f (device ∷ []) jobs → f ≡ faults.NoMem
hand_refused device jobs job f own is fault = only_memory f device job (hand_fits job is) (subst (HasFaultAmong f (device ∷ [])) own fault)
