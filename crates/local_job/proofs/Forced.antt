-- Settings put one after another are the settings in force.
use Rattle.std.proofs.Common.{◌≡◌, ◌⊎◌, inl, inr, ◌∙◌, sym, ap, subst, refl, ℕ, Bool, true, false, cond, List, [], ◌∷◌, ◌++◌, Option, Some, None, Result, Ok, Err}
use Rattle.std.specs.Prelude.{option_map, option_and_then, slice_get}
use Rattle.std.specs.Option.{option_map_or}
use Rattle.sane_fixed.specs.DecimalReading.{◌>>=◌}
use Rattle.sane_fixed.specs.declared.info.Info.{Info}
use Rattle.sane_fixed.specs.declared.kind.Kind.TheVariants as kinds
use Rattle.sane_fixed.specs.declared.status.Status.{Status}
use Rattle.option_desc.specs.declared.descriptor.Descriptor.{Descriptor}
use Rattle.option_desc.specs.declared.value.Value.{Value}
use Rattle.option_desc.specs.Put.{resolve}
use Rattle.option_desc.specs.Reads.{ReadsAsValue, read_value}
use Rattle.option_desc.proofs.ReadLaws.{Reads-read}
use Rattle.scan_frames.specs.declared.setup.Setup.{Setup}
use Rattle.device_api.specs.Options.{descriptors_of}
use Rattle.device_api.specs.Values.{option_set, setup_after}
use Rattle.device_api.specs.InForce.{Placement, IsPlacedBy, force, given_for, may_be_set, number_named, placement}
use Rattle.device_api.proofs.TableLaws.{set_places}
use Rattle.scan_laws.specs.NearestSet.{GivesNearest}
use Rattle.scan_laws.proofs.NearestSet.{set_nearest}
use Rattle.scan_laws.proofs.Sets.{tells}
use Rattle.scan_job.specs.declared.report.Report.{Report}
use Rattle.scan_job.specs.declared.stop.Stop.{Stop}
use Rattle.local_job.specs.Putting.{value_of_setting}
use Rattle.local_job.specs.Inside.{put_answered, put_read, put_found, put_one, with_first, then_more, put_all}
use Rattle.local_job.specs.SettingReports.{SettingsAreReported, FailsAt, SettingIsRefusedAs, IsReported}

-- ---- one setting

abbrev OneIs : Setup → List ℕ × List ℕ → Result (Setup × Report) Stop → Type 0
OneIs s setting (Ok got) = (p : Placement) × (placement s setting ≡ Some p) × (p.setup ≡ got.0) × IsReported s setting p got.1
OneIs s setting (Err stop) = (placement s setting ≡ None) × SettingIsRefusedAs s setting stop

one_given : (s : Setup) (setting : List ℕ × List ℕ) (n : ℕ) (desc : Descriptor) (asked : Value) → number_named setting.0 (descriptors_of s) ≡ Some n → slice_get (descriptors_of s) n ≡ Some desc → read_value desc setting.1 ≡ Some asked
    → (got : Value × Info) → option_set s n asked ≡ Ok got → OneIs s setting (put_answered s setting.0 n asked (Ok got))
one_given s setting n desc asked named at reads got e =
    let p : Placement = record { setup = setup_after s n got.0; asked = asked; given = got.0 } in
    let here : placement s setting ≡ Some p = subst (λ (r : Result (Value × Info) Status). IsPlacedBy s n asked r (placement s setting)) e (set_places s setting.0 setting.1 n desc asked named at reads) in
    let gives : GivesNearest s n asked got.0 = set_nearest s n asked got.0 got.1 e in
    let one : Some desc ≡ Some gives.desc = sym at ∙ gives.at in
    let same : desc ≡ gives.desc = cc in (
      p,
      here,
      refl,
      record {
        puts = record { n = n; named = named; gives = gives; reads = subst (λ (d : Descriptor). ReadsAsValue d setting.1 asked) same (Reads-read desc setting.1 asked reads); after = refl };
        name = refl;
        kind = ap (λ (o : Option Descriptor). option_map_or (λ (d : Descriptor). d.kind) o kinds.Group) at ∙ ap (λ (d : Descriptor). d.kind) same;
        asked = refl;
        given = refl;
        set = e;
        info = tells s n asked got.0 got.1 e;
      },
    )

one_set : (s : Setup) (setting : List ℕ × List ℕ) (n : ℕ) (desc : Descriptor) (asked : Value) → number_named setting.0 (descriptors_of s) ≡ Some n → slice_get (descriptors_of s) n ≡ Some desc → read_value desc setting.1 ≡ Some asked
    → value_of_setting s n setting.1 ≡ Some asked → (r : Result (Value × Info) Status) → option_set s n asked ≡ r → OneIs s setting (put_answered s setting.0 n asked r)
one_set s setting n desc asked named at reads is (Ok got) e = one_given s setting n desc asked named at reads got e
one_set s setting n desc asked named at reads is (Err status) e = (
  subst (λ (r : Result (Value × Info) Status). IsPlacedBy s n asked r (placement s setting)) e (set_places s setting.0 setting.1 n desc asked named at reads),
  inr (inr (n, asked, status, named, is, e, refl)),
)

none_read : (s : Setup) (setting : List ℕ × List ℕ) (n : ℕ) (desc : Descriptor) → number_named setting.0 (descriptors_of s) ≡ Some n → slice_get (descriptors_of s) n ≡ Some desc → given_for desc setting.1 ≡ None → placement s setting ≡ None
unfolding placement
none_read s setting n desc named at none = rw (named, at, none) refl

not_given : (desc : Descriptor) (text : List ℕ) (b : Bool) → may_be_set desc ≡ b → read_value desc text ≡ None → given_for desc text ≡ None
not_given desc text true may none = rw (may, none) refl
not_given desc text false may none = rw may refl

one_read : (s : Setup) (setting : List ℕ × List ℕ) (n : ℕ) (desc : Descriptor) → number_named setting.0 (descriptors_of s) ≡ Some n → slice_get (descriptors_of s) n ≡ Some desc
    → (r : Option Value) → read_value desc setting.1 ≡ r → value_of_setting s n setting.1 ≡ r → OneIs s setting (put_read s setting.0 n r)
one_read s setting n desc named at None reads is = (
  none_read s setting n desc named at (not_given desc setting.1 (may_be_set desc) refl reads),
  inr (inl (n, named, is, refl)),
)
one_read s setting n desc named at (Some asked) reads is = one_set s setting n desc asked named at reads is (option_set s n asked) refl

none_there : (s : Setup) (setting : List ℕ × List ℕ) (n : ℕ) → number_named setting.0 (descriptors_of s) ≡ Some n → slice_get (descriptors_of s) n ≡ None → placement s setting ≡ None
unfolding placement
none_there s setting n named none = rw (named, none) refl

one_desc : (s : Setup) (setting : List ℕ × List ℕ) (n : ℕ) → number_named setting.0 (descriptors_of s) ≡ Some n → (o : Option Descriptor) → slice_get (descriptors_of s) n ≡ o
    → OneIs s setting (put_read s setting.0 n (option_and_then (λ desc. read_value desc setting.1) o))
one_desc s setting n named None at = (
  none_there s setting n named at,
  inr (inl (n, named, ap (λ (o : Option Descriptor). option_and_then (λ desc. read_value desc setting.1) o) at, refl)),
)
one_desc s setting n named (Some desc) at =
    one_read s setting n desc named at (read_value desc setting.1) refl (ap (λ (o : Option Descriptor). option_and_then (λ desc. read_value desc setting.1) o) at)

none_named : (s : Setup) (setting : List ℕ × List ℕ) → number_named setting.0 (descriptors_of s) ≡ None → placement s setting ≡ None
unfolding placement
none_named s setting none = rw none refl

one_number : (s : Setup) (setting : List ℕ × List ℕ) (o : Option ℕ) → number_named setting.0 (descriptors_of s) ≡ o → OneIs s setting (put_found s setting o)
one_number s setting None named = (none_named s setting named, inl (named, refl))
one_number s setting (Some n) named = one_desc s setting n named (slice_get (descriptors_of s) n) refl

one_is : (s : Setup) (setting : List ℕ × List ℕ) → OneIs s setting (put_one s setting)
unfolding put_one
one_is s setting = one_number s setting (number_named setting.0 (descriptors_of s)) refl

-- ---- all settings

abbrev pub AllIs : Setup → List (List ℕ × List ℕ) → Result (Setup × List Report) Stop → Type 0
AllIs s settings (Ok got) = (ps : List Placement) × (force s settings ≡ Some (got.0, ps)) × SettingsAreReported s settings ps got.1
AllIs s settings (Err stop) = (force s settings ≡ None) × FailsAt s settings stop

-- the rest behind a setting that was put
all_rest : (s : Setup) (setting : List ℕ × List ℕ) (settings : List (List ℕ × List ℕ)) (p : Placement) (report : Report) → placement s setting ≡ Some p → IsReported s setting p report
    → (more : Result (Setup × List Report) Stop) → AllIs p.setup settings more → AllIs s (setting ∷ settings) (with_first report more)
all_rest s setting settings p report at one (Ok more) all =
    let rest = all.1 in
    (p ∷ all.0, rw (at, rest) refl, (one, all.2))
all_rest s setting settings p report at one (Err stop) all =
    let rest = all.0 in
    let f = all.1 in
    let put = f.put in (
      rw (at, rest) refl,
      record {
        before = setting ∷ f.before;
        setting = f.setting;
        after = f.after;
        cut = ap (λ (xs : List (List ℕ × List ℕ)). setting ∷ xs) f.cut;
        mid = (f.mid.0, p ∷ f.mid.1);
        put = rw (at, put) refl;
        refused = f.refused;
      },
    )

all_from : (s : Setup) (setting : List ℕ × List ℕ) (settings : List (List ℕ × List ℕ)) (one : Result (Setup × Report) Stop) → OneIs s setting one
    → ((next : Setup) → AllIs next settings (put_all next settings)) → AllIs s (setting ∷ settings) (then_more one (λ next. put_all next settings))
all_from s setting settings (Ok got) is all =
    let whole : AllIs is.0.setup settings (put_all got.0 settings) = subst (λ (next : Setup). AllIs next settings (put_all got.0 settings)) (sym is.2) (all got.0) in
    all_rest s setting settings is.0 got.1 is.1 is.3 (put_all got.0 settings) whole
all_from s setting settings (Err stop) is all =
    let none = is.0 in (
      rw none refl,
      record { before = []; setting = setting; after = settings; cut = refl; mid = (s, []); put = refl; refused = is.1 },
    )

pub all_is : (settings : List (List ℕ × List ℕ)) (s : Setup) → AllIs s settings (put_all s settings)
unfolding put_all
all_is [] s = ([], refl, tt)
all_is (setting ∷ settings) s = all_from s setting settings (put_one s setting) (one_is s setting) (λ next. all_is settings next)

-- ---- and the other way

-- where the settings are in force, they were put
pub forced_is : (s : Setup) (settings : List (List ℕ × List ℕ)) (forced : Setup × List Placement) (r : Result (Setup × List Report) Stop) → AllIs s settings r → force s settings ≡ Some forced
    → (reports : List Report) × (r ≡ Ok (forced.0, reports))
forced_is s settings forced (Ok got) all e =
    let one : Some (got.0, all.0) ≡ Some forced = sym all.1 ∙ e in
    let same : (got.0, all.0) ≡ forced = cc in
    (got.1, ap (λ (f : Setup × List Placement). Ok (f.0, got.1)) same)
forced_is s settings forced (Err stop) all e = absurd (let clash : None ≡ Some forced = sym all.0 ∙ e in cc)

refused_one : (s : Setup) (setting : List ℕ × List ℕ) (stop : Stop) → SettingIsRefusedAs s setting stop → put_one s setting ≡ Err stop
unfolding put_one
refused_one s setting stop (inl none) =
    let at = none.0 in
    let is = none.1 in
    rw (at, is) refl
refused_one s setting stop (inr (inl none)) =
    let at = none.1 in
    let unread = none.2 in
    let is = none.3 in
    rw (at, unread, is) refl
refused_one s setting stop (inr (inr refuses)) =
    let at = refuses.3 in
    let reads = refuses.4 in
    let refused = refuses.5 in
    let is = refuses.6 in
    rw (at, reads, refused, is) refl

put_first : (s : Setup) (setting : List ℕ × List ℕ) (p : Placement) (one : Result (Setup × Report) Stop) → OneIs s setting one → placement s setting ≡ Some p → (report : Report) × (one ≡ Ok (p.setup, report))
put_first s setting p (Ok got) is at =
    let one : Some is.0 ≡ Some p = sym is.1 ∙ at in
    let same : is.0 ≡ p = cc in
    (got.1, ap (λ (t : Setup). Ok (t, got.1)) (sym is.2 ∙ ap (λ (q : Placement). q.setup) same))
put_first s setting p (Err stop) is at = absurd (let clash : None ≡ Some p = sym is.0 ∙ at in cc)

-- what stands behind the first setting that was put
behind : (s : Setup) (setting : List ℕ × List ℕ) (settings : List (List ℕ × List ℕ)) (mid : Setup × List Placement) (o : Option Placement)
    → option_and_then (λ first. option_map (λ more. (more.0, first ∷ more.1)) (force first.setup settings)) o ≡ Some mid
    → (p : Placement) × (rest : Setup × List Placement) × (o ≡ Some p) × (force p.setup settings ≡ Some rest) × (rest.0 ≡ mid.0)
behind s setting settings mid None e = absurd (let clash : None ≡ Some mid = e in cc)
behind s setting settings mid (Some p) e = by_rest (force p.setup settings) refl e
  where
    by_rest : (r : Option (Setup × List Placement)) → force p.setup settings ≡ r → option_map (λ more. (more.0, p ∷ more.1)) r ≡ Some mid
        → (q : Placement) × (rest : Setup × List Placement) × (Some p ≡ Some q) × (force q.setup settings ≡ Some rest) × (rest.0 ≡ mid.0)
    by_rest None at f = absurd (let clash : None ≡ Some mid = f in cc)
    by_rest (Some rest) at f =
        let same : (rest.0, p ∷ rest.1) ≡ mid = (let one : Some (rest.0, p ∷ rest.1) ≡ Some mid = f in cc) in
        (p, rest, refl, at, ap (λ (m : Setup × List Placement). m.0) same)

fails_behind : (before : List (List ℕ × List ℕ)) (s : Setup) (mid : Setup × List Placement) (setting : List ℕ × List ℕ) (after : List (List ℕ × List ℕ)) (stop : Stop) → force s before ≡ Some mid → SettingIsRefusedAs mid.0 setting stop
    → put_all s (before ++ setting ∷ after) ≡ Err stop
unfolding put_all
fails_behind [] s mid setting after stop put refused =
    let same : (s, []) ≡ mid = (let one : Some (s, []) ≡ Some mid = put in cc) in
    let at : put_one s setting ≡ Err stop = refused_one s setting stop (subst (λ (m : Setup × List Placement). SettingIsRefusedAs m.0 setting stop) (sym same) refused) in
    ap (λ (one : Result (Setup × Report) Stop). then_more one (λ next. put_all next after)) at
fails_behind (x ∷ before) s mid setting after stop put refused =
    let b = behind s x before mid (placement s x) put in
    let first = put_first s x b.0 (put_one s x) (one_is s x) b.2 in
    let rest : put_all b.0.setup (before ++ setting ∷ after) ≡ Err stop = fails_behind before b.0.setup b.1 setting after stop b.3 (subst (λ (t : Setup). SettingIsRefusedAs t setting stop) (sym b.4) refused) in
    ap (λ (one : Result (Setup × Report) Stop). then_more one (λ next. put_all next (before ++ setting ∷ after))) first.1
    ∙ ap (λ (more : Result (Setup × List Report) Stop). with_first first.0 more) rest

pub fails_is : (s : Setup) (settings : List (List ℕ × List ℕ)) (stop : Stop) → FailsAt s settings stop → put_all s settings ≡ Err stop
fails_is s settings stop f = ap (put_all s) f.cut ∙ fails_behind f.before s f.mid f.setting f.after stop f.put f.refused
