-- That each setting was given the nearest admitted value is what the fold over the settings computes.
use Rattle.std.specs.Prelude.{Result, Ok, Err, option_map, option_and_then}
use Rattle.std.proofs.Common.{◌≡◌, ◌∙◌, ℕ, List, [], ◌∷◌, Option, Some, None, refl, sym, ap, subst}
use Rattle.sane_fixed.specs.declared.byte_order.ByteOrder.{ByteOrder}
use Rattle.sane_fixed.specs.declared.info.Info.{Info}
use Rattle.sane_fixed.specs.declared.status.Status.{Status}
use Rattle.option_desc.specs.declared.descriptor.Descriptor.{Descriptor}
use Rattle.option_desc.specs.declared.value.Value.{Value}
use Rattle.option_desc.specs.Put.{NearestValue}
use Rattle.option_desc.proofs.PutLaws.{NearestValue-unique}
use Rattle.option_desc.proofs.ReadLaws.{read-Reads}
use Rattle.option_desc.proofs.ReadsLaws.{no_some}
use Rattle.page_picture.specs.declared.scene.DeviceKind.{DeviceKind}
use Rattle.scan_frames.specs.declared.setup.Setup.{Setup}
use Rattle.device_api.specs.InForce.{IsPlacedBy, Placement, force, in_force, placement}
use Rattle.device_api.specs.Values.{defaults, option_set, setup_after}
use Rattle.device_api.proofs.TableLaws.{set_places}
use Rattle.scan_laws.specs.NearestSet.{PutAllNearest, PutsNearest}
use Rattle.scan_laws.proofs.NearestSet.{force_nearest, set_nearest, set_refuses_none}
use Rattle.scan_world.specs.Settings.{AreSettingsPut}
use Rattle.scan_world.proofs.Settings.{all_nearest, all_put}

-- ---- what is computed is the nearest

forced_by : (r : Option (Setup × List Placement)) (setup : Setup) → option_map (λ (x : Setup × List Placement). x.0) r ≡ Some setup → (placed : List Placement) × (r ≡ Some (setup, placed))
forced_by None setup e = absurd (let clash : None ≡ Some setup = e in cc)
forced_by (Some r) setup e = let same : r.0 ≡ setup = (let both : Some r.0 ≡ Some setup = e in cc) in (r.1, ap (λ (x : Setup). Some (x, r.1)) same)

pub nearest_for : (k : DeviceKind) (order : ByteOrder) (settings : List (List ℕ × List ℕ)) (setup : Setup) → option_map (λ (x : Setup × List Placement). x.0) (in_force k order settings) ≡ Some setup → (placed : List Placement) × AreSettingsPut (defaults k order) settings placed setup
nearest_for k order settings setup e = let f = forced_by (in_force k order settings) setup e in (f.0, all_put settings (defaults k order) f.0 setup (force_nearest settings (defaults k order) (setup, f.0) f.1))

-- ---- and no other

same_desc : (a b : Descriptor) (o : Option Descriptor) → o ≡ Some a → o ≡ Some b → a ≡ b
same_desc a b o e f = let both : Some a ≡ Some b = sym e ∙ f in cc

placed_by : (s : Setup) (setting : List ℕ × List ℕ) (p : Placement) (h : PutsNearest s setting p) (r : Result (Value × Info) Status) → option_set s h.n p.asked ≡ r → IsPlacedBy s h.n p.asked r (placement s setting) → placement s setting ≡ Some p
placed_by s setting p h (Err status) e q = absurd (set_refuses_none s h.n p.asked p.given status h.gives.desc e h.gives.at h.gives.may h.gives.puts)
placed_by s setting p h (Ok given) e q =
    let near = set_nearest s h.n p.asked given.0 given.1 e in
    let own : NearestValue h.gives.desc.constraint p.asked given.0 = subst (λ (d : Descriptor). NearestValue d.constraint p.asked given.0) (same_desc near.desc h.gives.desc _ near.at h.gives.at) near.puts.nearest in
    let same : given.0 ≡ p.given = NearestValue-unique h.gives.desc.constraint p.asked given.0 p.given own h.gives.puts.nearest in
    q
    ∙ ap (λ (v : Value). Some (record { setup = setup_after s h.n v; asked = p.asked; given = v })) same
    ∙ ap (λ (t : Setup). Some (record { setup = t; asked = p.asked; given = p.given })) (sym h.after)

placed_is : (s : Setup) (setting : List ℕ × List ℕ) (p : Placement) → PutsNearest s setting p → placement s setting ≡ Some p
placed_is s setting p h =
    placed_by s setting p h (option_set s h.n p.asked) refl
    (set_places s setting.0 setting.1 h.n h.gives.desc p.asked h.named h.gives.at (read-Reads h.gives.desc setting.1 p.asked h.reads))

pub forced_is : (settings : List (List ℕ × List ℕ)) (s : Setup) (placed : List Placement) (t : Setup) → PutAllNearest s settings placed t → force s settings ≡ Some (t, placed)
forced_is [] s [] t h = ap (λ (x : Setup). Some (x, [])) (sym h)
forced_is [] s (p ∷ ps) t h = absurd h
forced_is (setting ∷ settings) s [] t h = absurd h
forced_is (setting ∷ settings) s (p ∷ ps) t h =
    ap (λ (o : Option Placement). option_and_then (λ first. option_map (λ more. (more.0, first ∷ more.1)) (force first.setup settings)) o) (placed_is s setting p h.0)
    ∙ ap (λ (o : Option (Setup × List Placement)). option_map (λ more. (more.0, p ∷ more.1)) o) (forced_is settings p.setup ps t h.1)

-- none is, where the fold gives none
pub none_nearest : (k : DeviceKind) (order : ByteOrder) (settings : List (List ℕ × List ℕ)) → in_force k order settings ≡ None → (placed : List Placement) (setup : Setup) → AreSettingsPut (defaults k order) settings placed setup → ⊥
none_nearest k order settings none placed setup h = no_some (setup, placed) (sym none ∙ forced_is settings (defaults k order) placed setup (all_nearest settings (defaults k order) placed setup h))
