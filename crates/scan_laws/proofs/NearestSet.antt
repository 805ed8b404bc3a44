-- What is given is the nearest admitted value.
use Rattle.std.proofs.Common.{◌≡◌, ◌&&◌, ◌∙◌, sym, ap, subst, refl, ℕ, Bool, true, false, cond, List, [], ◌∷◌}
use Rattle.std.specs.Prelude.{Option, Some, None, option_map, option_and_then, Ok, Err, slice_get}
use Rattle.std.proofs.lemmas.Option.{slice_get-map}
use Rattle.sane_fixed.specs.DecimalReading.{◌>>=◌}
use Rattle.sane_fixed.specs.declared.info.Info.{Info}
use Rattle.sane_fixed.specs.declared.status.Status.{Status}
use Rattle.option_desc.specs.declared.descriptor.Descriptor.{Descriptor}
use Rattle.option_desc.specs.declared.value.Value.{Value}
use Rattle.option_desc.specs.Put.{Puts, resolve}
use Rattle.option_desc.specs.Reads.{read_value}
use Rattle.option_desc.specs.WellFormed.{IsWellFormed}
use Rattle.option_desc.proofs.PutLaws.{Puts-resolve, resolve-Puts}
use Rattle.option_desc.proofs.ReadLaws.{Reads-read}
use Rattle.scan_frames.specs.declared.setup.Setup.{Setup}
use Rattle.device_api.specs.declared.scan_option.ScanOption.{ScanOption}
use Rattle.device_api.specs.InForce.{Placement, force, given_for, may_be_set, number_named, placement}
use Rattle.device_api.specs.Options.{descriptor_of, descriptors_of, is_active, option_at, option_caps, options_of}
use Rattle.sane_fixed.specs.Cap.{has_cap}
use Rattle.device_api.specs.Values.{info_of, option_set, option_passing, put_answer, set_to, setup_after}
use Rattle.scan_laws.specs.NearestSet.{GivesNearest, PutsNearest, PutAllNearest}
use Rattle.device_api.proofs.OptionForms.{is_well_formed, may_be_set_is}
use Rattle.scan_laws.proofs.Sets.{set_parts}

-- ---- what may be set

abbrev may : Setup → ScanOption → Bool
may s o = is_active s o && has_cap (option_caps o) 1

passed : (test : ScanOption → Bool) (oo : Option ScanOption) (o : ScanOption) → option_passing test oo ≡ Some o → (oo ≡ Some o) × (test o ≡ true)
passed test None o e = absurd (let clash : None ≡ Some o = e in cc)
passed test (Some p) o e = by_test (test p) refl e
  where
    by_test : (b : Bool) → test p ≡ b → cond b (Some p) None ≡ Some o → (Some p ≡ Some o) × (test o ≡ true)
    by_test true t f = let same : p ≡ o = cc in (f, ap test (sym same) ∙ t)
    by_test false t f = absurd (let clash : None ≡ Some o = f in cc)

desc_at : (s : Setup) (n : ℕ) (oo : Option ScanOption) → option_at s.scene.kind n ≡ oo → slice_get (descriptors_of s) n ≡ option_map (descriptor_of s) oo
unfolding option_at
desc_at s n oo e = slice_get-map (descriptor_of s) (options_of s.scene.kind) n ∙ ap (option_map (descriptor_of s)) e

-- ---- a set

pub set_nearest : (s : Setup) (n : ℕ) (asked given : Value) (info : Info) → option_set s n asked ≡ Ok (given, info) → GivesNearest s n asked given
set_nearest s n asked given info e =
    let p = set_parts s n asked given info e in
    let there = passed (may s) (option_at s.scene.kind n) p.option p.found in
    record {
      desc = descriptor_of s p.option;
      at = desc_at s n (Some p.option) there.0;
      may = may_be_set_is s p.option ∙ there.1;
      puts = Puts-resolve (descriptor_of s p.option) asked given (is_well_formed s p.option) p.put;
    }

refuses_none : (s : Setup) (n : ℕ) (asked given : Value) (status : Status) (desc : Descriptor) (oo : Option ScanOption) → option_at s.scene.kind n ≡ oo → option_map (descriptor_of s) oo ≡ Some desc → may_be_set desc ≡ true → Puts desc asked given → set_to s (option_passing (may s) oo) asked ≡ Err status → ⊥
refuses_none s n asked given status desc None at is m p e = let clash : None ≡ Some desc = is in cc
refuses_none s n asked given status desc (Some o) at is m p e =
    let same : descriptor_of s o ≡ desc = (let some : Some (descriptor_of s o) ≡ Some desc = is in cc) in
    let may_o : may s o ≡ true = sym (may_be_set_is s o) ∙ (ap may_be_set same ∙ m) in
    let near : resolve (descriptor_of s o) asked ≡ Some given = resolve-Puts (descriptor_of s o) asked given (is_well_formed s o) (subst (λ (d : Descriptor). Puts d asked given) (sym same) p) in
    let answer : set_to s (option_passing (may s) (Some o)) asked ≡ Ok (given, info_of s o asked given) =
    ap (λ b. set_to s (cond b (Some o) None) asked) may_o ∙ ap (put_answer s o asked) near in
    let clash : Ok (given, info_of s o asked given) ≡ Err status = sym answer ∙ e in cc

pub set_refuses_none : (s : Setup) (n : ℕ) (asked given : Value) (status : Status) (desc : Descriptor) → option_set s n asked ≡ Err status → slice_get (descriptors_of s) n ≡ Some desc → may_be_set desc ≡ true → Puts desc asked given → ⊥
unfolding option_set
set_refuses_none s n asked given status desc e at m p =
    refuses_none s n asked given status desc (option_at s.scene.kind n) refl (sym (desc_at s n (option_at s.scene.kind n) refl) ∙ at) m p e

-- ---- a setting

record Read (desc : Descriptor) (text : List ℕ) (pair : Value × Value) : Type 0 where
  may_be : may_be_set desc ≡ true
  reads : read_value desc text ≡ Some pair.0
  near : resolve desc pair.0 ≡ Some pair.1

abbrev pairs : Descriptor → Value → Option (Value × Value)
pairs desc asked = resolve desc asked >>= (λ given. Some (asked, given))

read_given : (desc : Descriptor) (text : List ℕ) (asked : Value) (pair : Value × Value) (r : Option Value) → may_be_set desc ≡ true → read_value desc text ≡ Some asked → resolve desc asked ≡ r → (r >>= (λ given. Some (asked, given))) ≡ Some pair → Read desc text pair
read_given desc text asked pair None m t n e = absurd (let clash : None ≡ Some pair = e in cc)
read_given desc text asked pair (Some given) m t n e =
    let same : (asked, given) ≡ pair = (let some : Some (asked, given) ≡ Some pair = e in cc) in
    subst (λ (q : Value × Value). Read desc text q) same (record { may_be = m; reads = t; near = n })

read_asked : (desc : Descriptor) (text : List ℕ) (pair : Value × Value) (r : Option Value) → may_be_set desc ≡ true → read_value desc text ≡ r → (r >>= pairs desc) ≡ Some pair → Read desc text pair
read_asked desc text pair None m t e = absurd (let clash : None ≡ Some pair = e in cc)
read_asked desc text pair (Some asked) m t e = read_given desc text asked pair (resolve desc asked) m t refl e

read_may : (desc : Descriptor) (text : List ℕ) (pair : Value × Value) (b : Bool) → may_be_set desc ≡ b → cond b (read_value desc text >>= pairs desc) None ≡ Some pair → Read desc text pair
read_may desc text pair true m e = read_asked desc text pair (read_value desc text) m refl e
read_may desc text pair false m e = absurd (let clash : None ≡ Some pair = e in cc)

finished : Setup → ℕ → Value × Value → Option Placement
finished s n pair = Some (record { setup = setup_after s n pair.1; asked = pair.0; given = pair.1 })

-- the option of a descriptor in force
is_of : (s : Setup) (n : ℕ) (desc : Descriptor) (oo : Option ScanOption) → option_map (descriptor_of s) oo ≡ Some desc → IsWellFormed desc.constraint
is_of s n desc None e = absurd (let clash : None ≡ Some desc = e in cc)
is_of s n desc (Some o) e = let same : descriptor_of s o ≡ desc = (let some : Some (descriptor_of s o) ≡ Some desc = e in cc) in subst (λ (d : Descriptor). IsWellFormed d.constraint) same (is_well_formed s o)

by_pair : (s : Setup) (setting : List ℕ × List ℕ) (p : Placement) (n : ℕ) (desc : Descriptor) (r : Option (Value × Value)) → number_named setting.0 (descriptors_of s) ≡ Some n → slice_get (descriptors_of s) n ≡ Some desc → given_for desc setting.1 ≡ r → (r >>= finished s n) ≡ Some p → PutsNearest s setting p
unfolding finished
by_pair s setting p n desc None named at g e = absurd (let clash : None ≡ Some p = e in cc)
by_pair s setting p n desc (Some pair) named at g e =
    let is = read_may desc setting.1 pair (may_be_set desc) refl g in
    let ok : IsWellFormed desc.constraint = is_of s n desc (option_at s.scene.kind n) (sym (desc_at s n (option_at s.scene.kind n) refl) ∙ at) in
    let same : record { setup = setup_after s n pair.1; asked = pair.0; given = pair.1 } ≡ p = (let some : Some (record { setup = setup_after s n pair.1; asked = pair.0; given = pair.1 }) ≡ Some p = e in cc) in
    subst (λ (q : Placement). PutsNearest s setting q) same (record {
      n = n;
      named = named;
      gives = record { desc = desc; at = at; may = is.may_be; puts = Puts-resolve desc pair.0 pair.1 ok is.near };
      reads = Reads-read desc setting.1 pair.0 is.reads;
      after = refl;
    })

by_desc : (s : Setup) (setting : List ℕ × List ℕ) (p : Placement) (n : ℕ) (r : Option Descriptor) → number_named setting.0 (descriptors_of s) ≡ Some n → slice_get (descriptors_of s) n ≡ r → (r >>= (λ desc. given_for desc setting.1 >>= finished s n)) ≡ Some p → PutsNearest s setting p
by_desc s setting p n None named at e = absurd (let clash : None ≡ Some p = e in cc)
by_desc s setting p n (Some desc) named at e = by_pair s setting p n desc (given_for desc setting.1) named at refl e

by_number : (s : Setup) (setting : List ℕ × List ℕ) (p : Placement) (r : Option ℕ) → number_named setting.0 (descriptors_of s) ≡ r → (r >>= (λ n. slice_get (descriptors_of s) n >>= (λ desc. given_for desc setting.1 >>= finished s n))) ≡ Some p → PutsNearest s setting p
by_number s setting p None named e = absurd (let clash : None ≡ Some p = e in cc)
by_number s setting p (Some n) named e = by_desc s setting p n (slice_get (descriptors_of s) n) named refl e

pub placed_nearest : (s : Setup) (setting : List ℕ × List ℕ) (p : Placement) → placement s setting ≡ Some p → PutsNearest s setting p
unfolding placement finished
placed_nearest s setting p e = by_number s setting p (number_named setting.0 (descriptors_of s)) refl e

-- ---- all settings

rest_nearest : (s : Setup) (setting : List ℕ × List ℕ) (settings : List (List ℕ × List ℕ)) (first : Placement) (o : Option (Setup × List Placement)) (r : Setup × List Placement) → PutsNearest s setting first → ((m : Setup × List Placement) → o ≡ Some m → PutAllNearest first.setup settings m.1 m.0)
    → option_map (λ more. (more.0, first ∷ more.1)) o ≡ Some r → PutAllNearest s (setting ∷ settings) r.1 r.0
rest_nearest s setting settings first None r h all e = absurd (let clash : None ≡ Some r = e in cc)
rest_nearest s setting settings first (Some m) r h all e =
    let same : (m.0, first ∷ m.1) ≡ r = (let some : Some (m.0, first ∷ m.1) ≡ Some r = e in cc) in
    subst (λ (q : Setup × List Placement). PutAllNearest s (setting ∷ settings) q.1 q.0) same (h, all m refl)

pub force_nearest : (settings : List (List ℕ × List ℕ)) (s : Setup) (r : Setup × List Placement) → force s settings ≡ Some r → PutAllNearest s settings r.1 r.0
force_nearest [] s r e =
    let same : (s, []) ≡ r = (let some : Some (s, []) ≡ Some r = e in cc) in
    subst (λ (q : Setup × List Placement). PutAllNearest s [] q.1 q.0) same refl
force_nearest (setting ∷ settings) s r e =
    by_first (placement s setting) (λ p m f. force_nearest settings p.setup m f) refl e
  where
    by_first : (o : Option Placement) → ((p : Placement) (m : Setup × List Placement) → force p.setup settings ≡ Some m → PutAllNearest p.setup settings m.1 m.0) → placement s setting ≡ o → option_and_then (λ first. option_map (λ more. (more.0, first ∷ more.1)) (force first.setup settings)) o ≡ Some r → PutAllNearest s (setting ∷ settings) r.1 r.0
    by_first None all at f = absurd (let clash : None ≡ Some r = f in cc)
    by_first (Some p) all at f = rest_nearest s setting settings p (force p.setup settings) r (placed_nearest s setting p at) (λ m g. all p m g) f
