-- The settings that are put: the descriptors, and the replies to SET.
use Rattle.std.proofs.Common.{arith, ◌≡◌, ◌∙◌, ◌≤◌, ◌<◌, ℕ, suc, Option, Some, None, Bool, true, false, List, [], ◌∷◌, ◌++◌, refl, sym, ap, subst, length, map, lt-ltb, ltb-true}
use Rattle.std.specs.Prelude.{position, slice_get, nat_lt, option_map}
use Rattle.std.specs.Str.{bytes_eq}
use Rattle.std.proofs.lemmas.List.{map-append}
use Rattle.std.proofs.lemmas.Option.{slice_get-map}
use Rattle.std.proofs.lemmas.Iterator.Adapters.{position_from-zero}
use Rattle.sane_fixed.specs.DecimalReading.{◌>>=◌}
use Rattle.sane_fixed.specs.declared.info.Info.{Info}
use Rattle.sane_fixed.specs.declared.kind.Kind.{Kind}
use Rattle.sane_fixed.specs.declared.status.Status.{Status}
use Rattle.sane_fixed.specs.declared.status.Status.TheVariants as statuses
use Rattle.option_desc.specs.declared.descriptor.Descriptor.{Descriptor}
use Rattle.option_desc.specs.declared.value.Value.{Value}
use Rattle.option_desc.specs.Reads.{read_value}
use Rattle.device_api.specs.InForce.{number_named}
use Rattle.sane_fixed.specs.Cap.{has_cap}
use Rattle.wire_message.specs.declared.message.Reply.{Reply}
use Rattle.wire_message.specs.declared.message.Reply.TheVariants as replies
use Rattle.wire_message.specs.declared.message.WireValue.{WireValue}
use Rattle.scan_job.specs.declared.job.Task.{Task}
use Rattle.scan_job.specs.declared.job.Task.TheVariants as tasks
use Rattle.scan_job.specs.declared.outcome.Why.TheVariants as whys
use Rattle.client_replies.specs.declared.progress.Progress.TheVariants as stages
use Rattle.client_replies.specs.declared.progress.Notes.{Notes}
use Rattle.scan_job.specs.declared.report.Report.{Report}
use Rattle.client_replies.specs.GivenValues.{given_like}
use Rattle.client_replies.specs.ReplyTurns.{turn, stop_bad_setting, element_number, next_shown, after_settings, option_number_of, puts, puts_at, puts_named, next_of, next_setting, with_no_value, after_describe_reply, after_put, given_to, of_kind, put_good, put_without_resource, was_put}
use Rattle.system_model.specs.AbstractMessages as words
use Rattle.system_model.specs.Client as model
use Rattle.system_model.specs.ClientReplies.{hear_at}
use Rattle.system_model.specs.Devices.{abstract_info, resolve_setting, readable_options, readable_from}
use Rattle.client_refines.specs.DecodedReplies.{reply_if_good, reply_without_resource, gave_or_acked, decoded_reply_at, HasShortArray}
use Rattle.client_refines.specs.ClientRefinement.{task_of, requested_setting, CommonReport, common_report, common_abstract_report, descs, AreBlank, values_wanted_from, is_nil, KnowsAs, Early}
use Rattle.client_refines.proofs.KnownOptions.{blank_wanted, blank_shown, blank_filled, blank_tells, told_blank, told_descs, told_length, named_alike, place_below}
use Rattle.client_refines.proofs.Sides.{Side, FilesAs, Goes, Hears, ends, awry_ends, refused}
use Rattle.client_refines.proofs.Showing.{few_is, shows_next}

-- ---- settings put

readable_is : (notes : Notes) (known : List Descriptor) → AreBlank notes.known → known ≡ descs notes.known → values_wanted_from 0 notes.known ≡ readable_options known
unfolding readable_options
readable_is notes known b e = blank_wanted 0 notes.known b ∙ ap (λ (ds : List Descriptor). readable_from 0 ds) (sym e)

all_put : (x : Side) (task : Task) (notes : Notes) (m : model.ClientView) → FilesAs x m → KnowsAs task x.pages notes m → Early notes m
    → Goes x task (turn notes (after_settings task notes.known)) (record m { stage = model.stage_after_settings (task_of task) m.known })
all_put x tasks.List notes m f k b = (f, record { stage = refl; settings = k.answers; devices = k.none; options = tt })
all_put x tasks.Show notes m f k b =
    subst (λ (ns : List ℕ). Goes x tasks.Show (turn notes (next_shown notes.known)) (record m { stage = model.next_value ns })) (readable_is notes m.known b.0 k.descriptors)
    (shows_next x notes m (blank_filled notes.known b.0) f k)
all_put x tasks.SetOnly notes m f k b = (f, record { stage = refl; settings = k.answers; devices = k.none; options = tt })
all_put x tasks.Scan notes m f k b = (f, (k, (refl, sym (ap is_nil b.1))))
all_put x (tasks.Batch count) notes m f k b = (f, (k, (refl, sym (ap is_nil b.1))))

bad : (x : Side) (task : Task) (notes : Notes) (m : model.ClientView) → FilesAs x m → Goes x task (turn notes stop_bad_setting) (model.with_ending statuses.Inval whys.Setting m)
bad x task notes m f = ends x task notes m statuses.Inval whys.Setting f

abbrev read_of : List ℕ → ℕ → Option Descriptor → Option (ℕ × Value)
read_of text n desc = desc >>= (λ d. read_value d text >>= (λ asked. Some (n, asked)))

abbrev found_of : List ℕ → List Descriptor → Option ℕ → Option (ℕ × Value)
found_of text known place = place >>= (λ n. read_of text n (slice_get known n))

puts_one : (x : Side) (task : Task) (notes : Notes) (m : model.ClientView) (name text : List ℕ) (n : ℕ) (kind : Kind) (v : Option Value) → FilesAs x m → KnowsAs task x.pages notes m → Early notes m
    → Goes x task (turn notes (puts name n kind v)) (record m { stage = model.asks_setting (record { name = name; text = text }) (map requested_setting notes.left) (v >>= (λ asked. Some (n, asked))) })
puts_one x task notes m name text n kind None f k b = bad x task notes m f
puts_one x task notes m name text n kind (Some asked) f k b = (f, (k, ((record { name = name; text = text }, (refl, refl)), b)))

puts_one_at : (x : Side) (task : Task) (notes : Notes) (m : model.ClientView) (name text : List ℕ) (n : ℕ) (o : Option (Descriptor × Option Value)) → FilesAs x m → KnowsAs task x.pages notes m → Early notes m
    → Goes x task (turn notes (puts_at name text n o)) (record m { stage = model.asks_setting (record { name = name; text = text }) (map requested_setting notes.left) (read_of text n (option_map (λ o. o.0) o)) })
puts_one_at x task notes m name text n None f k b = bad x task notes m f
puts_one_at x task notes m name text n (Some o) f k b = puts_one x task notes m name text n o.0.kind (read_value o.0 text) f k b

puts_one_named : (x : Side) (task : Task) (notes : Notes) (m : model.ClientView) (name text : List ℕ) (place : Option ℕ) → FilesAs x m → KnowsAs task x.pages notes m → Early notes m
    → Goes x task (turn notes (puts_named name text notes.known place)) (record m { stage = model.asks_setting (record { name = name; text = text }) (map requested_setting notes.left) (found_of text (descs notes.known) place) })
puts_one_named x task notes m name text None f k b = bad x task notes m f
puts_one_named x task notes m name text (Some n) f k b =
    subst (λ (d : Option Descriptor). Goes x task (turn notes (puts_at name text n (slice_get notes.known n))) (record m { stage = model.asks_setting (record { name = name; text = text }) (map requested_setting notes.left) (read_of text n d) }))
    (sym (slice_get-map (λ (o : Descriptor × Option Value). o.0) notes.known n))
    (puts_one_at x task notes m name text n (slice_get notes.known n) f k b)

few_all : (r : Option ℕ) → ((n : ℕ) → r ≡ Some n → n < 1024) → element_number r ≡ r
few_all None h = refl
few_all (Some n) h = few_is n (lt-ltb n 1024 (h n refl))

descs_length : (known : List (Descriptor × Option Value)) → length (descs known) ≡ length known
descs_length [] = refl
descs_length (o ∷ more) = ap suc (descs_length more)

named_small : (name : List ℕ) (known : List (Descriptor × Option Value)) (n : ℕ) → length known ≤ 1024 → number_named name (descs known) ≡ Some n → n < 1024
named_small name known n most e =
    let b = place_below (λ (d : Descriptor). bytes_eq d.name name) 0 (descs known) n e in
    let l : length (descs known) ≡ length known = descs_length known in
    omega arith

named_is : (name : List ℕ) (known : List (Descriptor × Option Value)) → length known ≤ 1024 → option_number_of name known ≡ number_named name (descs known)
named_is name known most =
    let p : position (λ (o : Descriptor × Option Value). bytes_eq o.0.name name) known ≡ number_named name (descs known) =
    position_from-zero (λ (o : Descriptor × Option Value). bytes_eq o.0.name name) known ∙ named_alike (λ (d : Descriptor). bytes_eq d.name name) 0 known in
    ap element_number p ∙ few_all (number_named name (descs known)) (λ n e. named_small name known n most e)

resolve_is : (known : List Descriptor) (requested : words.RequestedSetting) → resolve_setting known requested ≡ found_of requested.text known (number_named requested.name known)
unfolding resolve_setting
resolve_is known requested = refl

sets_next : (x : Side) (task : Task) (notes : Notes) (m : model.ClientView) (left : List (List ℕ × List ℕ)) → x.job.task ≡ task_of task → FilesAs x m → KnowsAs task x.pages notes m → Early notes m
    → Goes x task (next_of task notes left) (record m { stage = model.stage_of_next_setting x.job.task m.known (map requested_setting left) })
sets_next x task notes m [] t f k b =
    subst (λ (y : model.AbstractTask). Goes x task (turn notes (after_settings task notes.known)) (record m { stage = model.stage_after_settings y m.known })) (sym t) (all_put x task notes m f k b)
sets_next x task notes m (setting ∷ left) t f k b =
    let stays : Notes = record notes { left = left } in
    let e : resolve_setting m.known (requested_setting setting) ≡ found_of setting.1 (descs notes.known) (option_number_of setting.0 notes.known) =
    ap (λ (ds : List Descriptor). resolve_setting ds (requested_setting setting)) k.descriptors ∙ resolve_is (descs notes.known) (requested_setting setting)
    ∙ ap (λ (p : Option ℕ). found_of setting.1 (descs notes.known) p) (sym (named_is setting.0 notes.known k.few)) in
    subst (λ (r : Option (ℕ × Value)). Goes x task (turn stays (puts_named setting.0 setting.1 notes.known (option_number_of setting.0 notes.known))) (record m { stage = model.asks_setting (requested_setting setting) (map requested_setting left) r })) (sym e)
    (puts_one_named x task stays m setting.0 setting.1 (option_number_of setting.0 notes.known) f k b)

sets : (x : Side) (task : Task) (notes : Notes) (m : model.ClientView) → x.job.task ≡ task_of task → FilesAs x m → KnowsAs task x.pages notes m → Early notes m
    → Goes x task (next_setting task notes) (record m { stage = model.stage_of_next_setting x.job.task m.known (map requested_setting notes.left) })
unfolding next_setting
sets x task notes m t f k b = sets_next x task notes m notes.left t f k b

short_told : (descriptors : List Descriptor) → nat_lt (length descriptors) 1025 ≡ true → length (map with_no_value descriptors) ≤ 1024
short_told descriptors e =
    let l : length (map with_no_value descriptors) ≡ length descriptors = told_length descriptors in
    let b : length descriptors < 1025 = ltb-true (length descriptors) 1025 e in
    omega arith

pub describes : (x : Side) (task : Task) (notes : Notes) (m : model.ClientView) (r : Reply) → HasShortArray r → x.job.task ≡ task_of task → FilesAs x m → KnowsAs task x.pages notes m → Early notes m
    → Hears x task (after_describe_reply task notes r) m (model.Describing (map requested_setting notes.left)) (decoded_reply_at x.place stages.Describing r)
describes x task notes m (replies.GetOptionDescriptors descriptors) short t f k b =
    sets x task (record notes { known = map with_no_value descriptors }) (record m { known = descriptors }) t f
    (record {
      answers = k.answers;
      none = k.none;
      descriptors = sym (told_descs descriptors);
      told = k.told ∙ blank_shown notes.known b.0 ∙ sym (blank_shown (map with_no_value descriptors) (told_blank descriptors));
      only = blank_tells (map with_no_value descriptors) (told_blank descriptors);
      few = short_told descriptors short;
      number = k.number;
      alone = k.alone;
    })
    (told_blank descriptors, b.1)
describes x task notes m r short t f k b = awry_ends x task notes m f

-- ---- SET

more_answers : (puts : List Report) (reports : List words.AbstractReport) (p : Report) (r : words.AbstractReport) → map common_abstract_report reports ≡ map common_report puts → common_abstract_report r ≡ common_report p → map common_abstract_report (reports ++ r ∷ []) ≡ map common_report (puts ++ p ∷ [])
more_answers puts reports p r e h =
    map-append common_abstract_report reports (r ∷ []) ∙ ap (λ (ps : List CommonReport). ps ++ common_abstract_report r ∷ []) e ∙ ap (λ (q : CommonReport). map common_report puts ++ q ∷ []) h ∙ sym (map-append common_report puts (p ∷ []))

after_putting : (x : Side) (task : Task) (notes : Notes) (m : model.ClientView) (reloads : Bool) → x.job.task ≡ task_of task → FilesAs x m → KnowsAs task x.pages notes m → Early notes m
    → Goes x task (after_put task notes reloads) (record m { stage = model.stage_after_put x.job.task m.known (map requested_setting notes.left) reloads })
after_putting x task notes m true t f k b = (f, (k, (refl, b)))
after_putting x task notes m false t f k b = sets x task notes m t f k b

puts_given : (x : Side) (task : Task) (notes : Notes) (m : model.ClientView) (n : ℕ) (kind : Kind) (name : List ℕ) (asked : Value) (requested : words.RequestedSetting) (info : Info) (v : Option Value) → requested.name ≡ name → x.job.task ≡ task_of task → FilesAs x m
    → KnowsAs task x.pages notes m → Early notes m → Goes x task (given_to task notes kind name asked info v) (hear_at (model.Putting n asked requested (map requested_setting notes.left)) x.job m (gave_or_acked v info))
puts_given x task notes m n kind name asked requested info None w t f k b = awry_ends x task notes m f
puts_given x task notes m n kind name asked requested info (Some given) w t f k b =
    after_putting x task (record notes { reports = notes.reports ++ record { name = name; kind = kind; asked = asked; given = given; info = info } ∷ [] })
    (record m { reports = m.reports ++ record { setting = requested; asked = asked; given = given; info = abstract_info info } ∷ [] }) (has_cap info.0 2) t f
    (record {
      answers = more_answers notes.reports m.reports (record { name = name; kind = kind; asked = asked; given = given; info = info }) (record { setting = requested; asked = asked; given = given; info = abstract_info info }) k.answers
          (ap (λ (y : List ℕ). record { name = y; asked = asked; given = given; info = abstract_info info }) w);
      none = k.none;
      descriptors = k.descriptors;
      told = k.told;
      only = k.only;
      few = k.few;
      number = k.number;
      alone = k.alone;
    })
    b

puts_told : (x : Side) (task : Task) (notes : Notes) (m : model.ClientView) (n : ℕ) (kind : Kind) (name : List ℕ) (asked : Value) (requested : words.RequestedSetting) (status : Status) (info : Info) (given : Kind) (found : WireValue)
    → requested.name ≡ name → x.job.task ≡ task_of task → FilesAs x m → KnowsAs task x.pages notes m → Early notes m
    → Hears x task (put_good task notes kind name asked status info given found) m (model.Putting n asked requested (map requested_setting notes.left)) (reply_if_good status (gave_or_acked (of_kind kind given (given_like asked found)) info))
puts_told x task notes m n kind name asked requested statuses.Good info given found w t f k b = puts_given x task notes m n kind name asked requested info (of_kind kind given (given_like asked found)) w t f k b
puts_told x task notes m n kind name asked requested status info given found w t f k b = refused x task notes m (model.Putting n asked requested (map requested_setting notes.left)) status (λ s. refl) f

puts_plain : (x : Side) (task : Task) (notes : Notes) (m : model.ClientView) (n : ℕ) (kind : Kind) (name : List ℕ) (asked : Value) (requested : words.RequestedSetting) (status : Status) (info : Info) (given : Kind) (found : WireValue) (resource : List ℕ)
    → requested.name ≡ name → x.job.task ≡ task_of task → FilesAs x m → KnowsAs task x.pages notes m → Early notes m
    → Hears x task (put_without_resource task notes kind name asked status info given found resource) m (model.Putting n asked requested (map requested_setting notes.left)) (reply_without_resource resource (reply_if_good status (gave_or_acked (of_kind kind given (given_like asked found)) info)))
puts_plain x task notes m n kind name asked requested status info given found [] w t f k b = puts_told x task notes m n kind name asked requested status info given found w t f k b
puts_plain x task notes m n kind name asked requested status info given found (c ∷ bytes) w t f k b = awry_ends x task notes m f

pub puts_reply : (x : Side) (task : Task) (notes : Notes) (m : model.ClientView) (n : ℕ) (kind : Kind) (name : List ℕ) (asked : Value) (requested : words.RequestedSetting) (r : Reply) → requested.name ≡ name → x.job.task ≡ task_of task → FilesAs x m
    → KnowsAs task x.pages notes m → Early notes m → Hears x task (was_put task notes kind name asked r) m (model.Putting n asked requested (map requested_setting notes.left)) (decoded_reply_at x.place (stages.Putting n kind name asked) r)
puts_reply x task notes m n kind name asked requested (replies.ControlOption status info given found resource) w t f k b = puts_plain x task notes m n kind name asked requested status info given found resource w t f k b
puts_reply x task notes m n kind name asked requested r w t f k b = awry_ends x task notes m f
