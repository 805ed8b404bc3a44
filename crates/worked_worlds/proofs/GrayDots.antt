-- Scans of one gray dot, computed to their bytes.
use Rattle.std.specs.Prelude.{◌<◌, ◌+◌, ◌*◌, ◌/◌, ◌≤◌, ◌≢◌, All, codes, option_map, slice_index, length}
use Rattle.std.specs.Fmt.{digits}
use Rattle.std.proofs.Common.{◌≡◌, ◌∙◌, ℕ, List, [], ◌∷◌, ◌++◌, true, false, Option, Some, None, refl, sym, ap, subst, arith}
use Rattle.std.proofs.lemmas.List.Elements.{All-from_recursion}
use Rattle.std.proofs.lemmas.List.FromFn.{get_or-range_with_len}
use Rattle.sane_fixed.specs.DecimalReading.{fixed_of, fraction_in, whole_at}
use Rattle.sane_fixed.specs.declared.byte_order.ByteOrder.TheVariants.{Little}
use Rattle.constraint.specs.NearestComputed.{nearest_in_range}
use Rattle.netpbm.specs.Picture.{Picture}
use Rattle.netpbm.specs.FileText.{concat_up_to}
use Rattle.page_picture.specs.Page.{PageView}
use Rattle.page_picture.specs.Meaning.{meaning_of, picture_of, sample_of}
use Rattle.page_picture.specs.declared.scene.DeviceKind.{DeviceKind}
use Rattle.page_picture.specs.declared.scene.DeviceKind.TheVariants.{Flatbed, Feeder}
use Rattle.scan_frames.specs.declared.setup.Setup.{Setup}
use Rattle.device_api.specs.InForce.{Placement, force, placement}
use Rattle.device_api.specs.Values.{defaults, identity, setup_after, with_value}
use Rattle.device_api.specs.Options.{descriptor_of, option_at}
use Rattle.option_desc.specs.Put.{resolve}
use Rattle.option_desc.specs.Reads.{integer_of, read_value}
use Rattle.frame_join.specs.PictureText.{picture_text}
use Rattle.scan_job.specs.declared.job.Job.{Job}
use Rattle.scan_job.specs.declared.job.Task.{Task}
use Rattle.scan_job.specs.declared.job.Task.TheVariants as tasks
use Rattle.scan_job.specs.JobSize.{HasCount, IsJobText}
use Rattle.event_world.specs.Worlds.{IsFitJob}
use Rattle.scan_world.specs.Clear.{IsAllowedAlways}
use Rattle.scan_world.specs.Settings.{AreSettingsPut, PutsInForce}
use Rattle.scan_world.proofs.Nearest.{forced_is, nearest_for}
use Rattle.scan_world.proofs.Settings.{all_nearest}
use Rattle.worked_worlds.specs.DotFiles.{DotIsOneByte, FedDotIsOneByte, IsDotJob, dot_file, dot_settings, dot_setup, one_dot}
use Rattle.worked_worlds.specs.Worked.{IsPlainBatch, IsPlainScan}

-- ---- the options in force

forced_flat : option_map (λ (x : Setup × List Placement). x.0) (force (defaults Flatbed Little) dot_settings) ≡ Some (dot_setup Flatbed)
unfolding placement defaults setup_after with_value descriptor_of option_at resolve read_value integer_of fixed_of whole_at fraction_in nearest_in_range
forced_flat = refl

forced_fed : option_map (λ (x : Setup × List Placement). x.0) (force (defaults Feeder Little) dot_settings) ≡ Some (dot_setup Feeder)
unfolding placement defaults setup_after with_value descriptor_of option_at resolve read_value integer_of fixed_of whole_at fraction_in nearest_in_range
forced_fed = refl

-- what a fold gives is the only one that is put
pub only_setup : (s setup own : Setup) (placed : List Placement) (items : List (List ℕ × List ℕ)) → option_map (λ (x : Setup × List Placement). x.0) (force s items) ≡ Some own → AreSettingsPut s items placed setup → setup ≡ own
only_setup s setup own placed items is put =
    let both : ◌≡◌ {A = Option Setup} (Some setup) (Some own) = sym (ap (option_map (λ (x : Setup × List Placement). x.0)) (forced_is items s placed setup (all_nearest items s placed setup put))) ∙ is in
    cc

setup_is : (k : DeviceKind) (setup : Setup) (placed : List Placement) (items : List (List ℕ × List ℕ)) → option_map (λ (x : Setup × List Placement). x.0) (force (defaults k Little) dot_settings) ≡ Some (dot_setup k) → items ≡ dot_settings → AreSettingsPut (defaults k Little) items placed setup → setup ≡ dot_setup k
setup_is k setup placed items is own put = only_setup (defaults k Little) setup (dot_setup k) placed dot_settings is (subst (λ (xs : List (List ℕ × List ℕ)). AreSettingsPut (defaults k Little) xs placed setup) own put)

-- ---- the tone of the dot

seen_gray : (gray : ℕ) → gray < 256 → (299 * (gray * 257) + 587 * (gray * 257) + 114 * (gray * 257)) / 1000 / 256 ≡ gray
seen_gray gray low = omega (arith, low)

own_entry : (gray : ℕ) → gray < 256 → slice_index identity gray ≡ gray
unfolding identity
own_entry gray low = let same : 0 + gray ≡ gray = omega arith in get_or-range_with_len 0 256 gray 0 low ∙ same

flat_gray : (gray : ℕ) → gray < 256 → sample_of (one_dot gray) (dot_setup Flatbed).scene 0 0 0 ≡ gray
unfolding sample_of defaults
flat_gray gray low = ap (slice_index identity) (seen_gray gray low) ∙ own_entry gray low

fed_gray : (gray : ℕ) → gray < 256 → sample_of (one_dot gray) (dot_setup Feeder).scene 0 0 0 ≡ gray
unfolding sample_of defaults
fed_gray gray low = ap (slice_index identity) (seen_gray gray low) ∙ own_entry gray low

-- ---- the picture, and its text

pub dot_picture : DeviceKind → ℕ → Picture
dot_picture k gray = picture_of (one_dot gray) (dot_setup k).scene (1, 1)

flat_meant : (gray : ℕ) → meaning_of (one_dot gray) (dot_setup Flatbed).scene ≡ Some (dot_picture Flatbed gray)
unfolding defaults dot_picture
flat_meant gray = refl

fed_meant : (gray : ℕ) → meaning_of (one_dot gray) (dot_setup Feeder).scene ≡ Some (dot_picture Feeder gray)
unfolding defaults dot_picture
fed_meant gray = refl

flat_text : (gray : ℕ) → picture_text (dot_picture Flatbed gray) ≡ codes "P5\n# SANE data follows\n1 1\n255\n" ++ sample_of (one_dot gray) (dot_setup Flatbed).scene 0 0 0 ∷ []
unfolding defaults concat_up_to digits dot_picture
flat_text gray = refl

fed_text : (gray : ℕ) → picture_text (dot_picture Feeder gray) ≡ codes "P5\n# SANE data follows\n1 1\n255\n" ++ sample_of (one_dot gray) (dot_setup Feeder).scene 0 0 0 ∷ []
unfolding defaults concat_up_to digits dot_picture
fed_text gray = refl

same_picture : (p q : Picture) → Some p ≡ Some q → p ≡ q
same_picture p q e = cc

-- the text of the picture that these options mean on the dot
dot_text : (k : DeviceKind) (gray : ℕ) (setup : Setup) (p : Picture) (bytes : List ℕ) → setup ≡ dot_setup k → meaning_of (one_dot gray) (dot_setup k).scene ≡ Some (dot_picture k gray) → picture_text (dot_picture k gray) ≡ dot_file gray → meaning_of (one_dot gray) setup.scene ≡ Some p → bytes ≡ picture_text p → bytes ≡ dot_file gray
dot_text k gray setup p bytes same is text meant own =
    let here : meaning_of (one_dot gray) (dot_setup k).scene ≡ Some p = subst (λ (s : Setup). meaning_of (one_dot gray) s.scene ≡ Some p) same meant in
    own ∙ ap picture_text (same_picture p (dot_picture k gray) (sym here ∙ is)) ∙ text

flat_file : (gray : ℕ) → gray < 256 → picture_text (dot_picture Flatbed gray) ≡ dot_file gray
flat_file gray low = flat_text gray ∙ ap (λ (sample : ℕ). codes "P5\n# SANE data follows\n1 1\n255\n" ++ sample ∷ []) (flat_gray gray low)

fed_file : (gray : ℕ) → gray < 256 → picture_text (dot_picture Feeder gray) ≡ dot_file gray
fed_file gray low = fed_text gray ∙ ap (λ (sample : ℕ). codes "P5\n# SANE data follows\n1 1\n255\n" ++ sample ∷ []) (fed_gray gray low)

pub flat_dot : DotIsOneByte
flat_dot gray job bytes low own scan = dot_text Flatbed gray scan.setup scan.picture bytes (setup_is Flatbed scan.setup scan.placed job.settings.items forced_flat own scan.in_force) (flat_meant gray) (flat_file gray low) scan.meant scan.own

pub fed_dot : FedDotIsOneByte
fed_dot gray job bytes low own scan = dot_text Feeder gray scan.setup scan.picture bytes (setup_is Feeder scan.setup scan.placed job.settings.items forced_fed own scan.in_force) (fed_meant gray) (fed_file gray low) scan.meant scan.own

-- ---- nothing stands in its way

told_none : (k : DeviceKind) → (dot_setup k).told ≡ None
unfolding defaults
told_none k = refl

puts_dot : (k : DeviceKind) (items : List (List ℕ × List ℕ)) → option_map (λ (x : Setup × List Placement). x.0) (force (defaults k Little) dot_settings) ≡ Some (dot_setup k) → items ≡ dot_settings → PutsInForce k items (dot_setup k)
puts_dot k items is own =
    let put = nearest_for k Little dot_settings (dot_setup k) is in
    record { placed = put.0; put = subst (λ (xs : List (List ℕ × List ℕ)). AreSettingsPut (defaults k Little) xs put.0 (dot_setup k)) (sym own) put.1; unnamed = told_none k }

pub allowed_here : (job : Job) → IsAllowedAlways [] job
allowed_here job guarded = absurd (let clash : false ≡ true = guarded in cc)

pub short_by : (text own : List ℕ) → text ≡ own → IsJobText own → IsJobText text
short_by text own same short = subst IsJobText (sym same) short

short_settings : (items : List (List ℕ × List ℕ)) → items ≡ dot_settings → (length items ≤ 64) × All (λ (setting : List ℕ × List ℕ). IsJobText setting.0 × IsJobText setting.1) items
short_settings items same = subst (λ (xs : List (List ℕ × List ℕ)). (length xs ≤ 64) × All (λ (setting : List ℕ × List ℕ). IsJobText setting.0 × IsJobText setting.1) xs) (sym same) (omega arith, All-from_recursion (λ (setting : List ℕ × List ℕ). IsJobText setting.0 × IsJobText setting.1) dot_settings ((omega arith, omega arith), ((omega arith, omega arith), ((omega arith, omega arith), tt))))

pub dot_fits : (name : List ℕ) (task : Task) (job : Job) → IsJobText name → HasCount task → IsDotJob name task job → IsFitJob job
dot_fits name task job short count is =
    let settings = short_settings job.settings.items is.settings_are in (
      record { few = settings.0; user = short_by job.user [] is.user_is (omega arith); password = short_by job.password [] is.password_is (omega arith); device = short_by job.device name is.named short; settings = settings.1 },
      subst HasCount (sym is.does) count,
    )

pub some_meant : (k : DeviceKind) (gray : ℕ) (page : PageView) → page ≡ one_dot gray → meaning_of (one_dot gray) (dot_setup k).scene ≡ Some (dot_picture k gray) → meaning_of page (dot_setup k).scene ≢ None
some_meant k gray page same is none =
    let clash : Some (dot_picture k gray) ≡ None = sym is ∙ ap (λ (p : PageView). meaning_of p (dot_setup k).scene) (sym same) ∙ none in cc

pub plain_dot : (name : List ℕ) (gray : ℕ) (page : PageView) (job : Job) → IsJobText name → page ≡ one_dot gray → IsDotJob name tasks.Scan job → IsPlainScan name page [] job
plain_dot name gray page job short same is = record {
  named = is.named;
  scan = is.does;
  setup = dot_setup Flatbed;
  puts = puts_dot Flatbed job.settings.items forced_flat is.settings_are;
  meant = some_meant Flatbed gray page same (flat_meant gray);
  allowed = allowed_here job;
  fit = dot_fits name tasks.Scan job short tt is;
}

pub plain_dots : (name : List ℕ) (first second : ℕ) (one two : PageView) (job : Job) → IsJobText name → one ≡ one_dot first → two ≡ one_dot second → IsDotJob name (tasks.Batch 2) job → IsPlainBatch name one two [] job
plain_dots name first second one two job short same same_too is = record {
  named = is.named;
  batch = is.does;
  setup = dot_setup Feeder;
  puts = puts_dot Feeder job.settings.items forced_fed is.settings_are;
  first_meant = some_meant Feeder first one same (fed_meant first);
  second_meant = some_meant Feeder second two same_too (fed_meant second);
  allowed = allowed_here job;
  fit = dot_fits name (tasks.Batch 2) job short (omega arith, omega arith) is;
}

-- ---- of a flatbed

pub dot_puts : (items : List (List ℕ × List ℕ)) → items ≡ dot_settings → PutsInForce Flatbed items (dot_setup Flatbed)
dot_puts items own = puts_dot Flatbed items forced_flat own

pub setup_is_dot : (setup : Setup) (placed : List Placement) (items : List (List ℕ × List ℕ)) → items ≡ dot_settings → AreSettingsPut (defaults Flatbed Little) items placed setup → setup ≡ dot_setup Flatbed
setup_is_dot setup placed items own put = setup_is Flatbed setup placed items forced_flat own put

pub dot_told : (dot_setup Flatbed).told ≡ None
dot_told = told_none Flatbed

pub dot_means : (gray : ℕ) → meaning_of (one_dot gray) (dot_setup Flatbed).scene ≢ None
dot_means gray = some_meant Flatbed gray (one_dot gray) refl (flat_meant gray)

-- ---- of a feeder

pub fed_puts : (items : List (List ℕ × List ℕ)) → items ≡ dot_settings → PutsInForce Feeder items (dot_setup Feeder)
fed_puts items own = puts_dot Feeder items forced_fed own

pub fed_means : (gray : ℕ) → meaning_of (one_dot gray) (dot_setup Feeder).scene ≢ None
fed_means gray = some_meant Feeder gray (one_dot gray) refl (fed_meant gray)
