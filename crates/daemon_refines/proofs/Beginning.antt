-- A new registry, and a session that was just opened.
use Rattle.std.proofs.Common.{◌≡◌, ◌∙◌, ℕ, zero, suc, List, [], ◌∷◌, Option, Some, None, refl, sym, ap, subst, slice_get}
use Rattle.device_api.specs.State.{DeviceState, after_cancel, after_reset}
use Rattle.device_api.proofs.AllowedLaws.{defaults_allowed}
use Rattle.device_api.proofs.SameLaws.{reset_same}
use Rattle.sane_fixed.specs.declared.device_info.DeviceInfo.{DeviceInfo}
use Rattle.dispatch.specs.declared.table.place.Place.{Place}
use Rattle.dispatch.specs.declared.table.place.Lease.{Lease}
use Rattle.dispatch.specs.Table.{fresh_place, fresh_table}
use Rattle.saned_requests.specs.Holding.{held_by}
use Rattle.scan_laws.proofs.Places.{reset_in}
use Rattle.system_model.specs.Devices.{Make}
use Rattle.daemon_refines.specs.ContextRefinement.{IsMade, PlaceRefines}
use Rattle.daemon_refines.specs.Cores.{IsOfMake, OpeningsRefine, RegistriesRefine, fresh_device, fresh_devices}
use Rattle.daemon_refines.proofs.Sources.{reset_sources}
use Rattle.daemon_refines.proofs.Changes.{Held, place_shown}
use Rattle.daemon_refines.proofs.Moved.{place_in}

-- ---- a registry

fresh_made : (k : Make) (s : DeviceState) → IsOfMake k s → IsMade k (after_reset s)
fresh_made k s h =
    let same = reset_same s in
    record { sources = reset_sources s k h.sources; kind = h.kind ∙ sym same.setup.kind; order = h.order ∙ sym same.setup.order; allowed = defaults_allowed (after_cancel s).setup.scene.kind (after_cancel s).setup.order; in_scan = reset_in s }

abbrev fresh_at : Option DeviceState → Option (Place DeviceState)
fresh_at None = None
fresh_at (Some s) = Some (fresh_place s)

fresh_slice : (ss : List DeviceState) (k : ℕ) → slice_get (fresh_table ss) k ≡ fresh_at (slice_get ss k)
fresh_slice [] k = refl
fresh_slice (s ∷ ss) zero = refl
fresh_slice (s ∷ ss) (suc k) = fresh_slice ss k

fresh_shown : (i : ℕ) (make : Make) (k : ℕ) (o : Option DeviceState) → ((s : DeviceState) → o ≡ Some s → IsOfMake make s) → PlaceRefines i make [] k (fresh_device o) (fresh_at o)
fresh_shown i make k None h = (refl, refl)
fresh_shown i make k (Some s) h = (refl, fresh_made make s (h s refl), ap (λ (x : DeviceInfo). x.name) (reset_same s).info)

no_lease : (w : ℕ) (l : Lease DeviceState) → held_by [] w ≡ Some l → ⊥
unfolding held_by
no_lease w l e = absurd (cc)

pub registries_show : RegistriesRefine
registries_show i make ss of_make =
    record {
      leases = λ w l e. absurd (no_lease w l e);
      apart = λ w v l m e f same. absurd (no_lease w l e);
      places = λ k. subst (λ (o : Option (Place DeviceState)). PlaceRefines i (make k) [] k (fresh_devices ss k) o) (sym (fresh_slice ss k)) (fresh_shown i (make k) k (slice_get ss k) (λ s e. of_make k s e));
    }

-- ---- a session

abbrev four_free : Held
four_free = None ∷ None ∷ None ∷ None ∷ []

nothing_held : (w : ℕ) → held_by four_free w ≡ None
unfolding held_by
nothing_held zero = refl
nothing_held (suc zero) = refl
nothing_held (suc (suc zero)) = refl
nothing_held (suc (suc (suc zero))) = refl
nothing_held (suc (suc (suc (suc w)))) = refl

none_held : (w : ℕ) (l : Lease DeviceState) → held_by four_free w ≡ Some l → ⊥
none_held w l e = let clash : None ≡ Some l = sym (nothing_held w) ∙ e in absurd (cc)

pub openings_show : OpeningsRefine
openings_show i make strings port registry stream table old =
    record {
      words = λ w. sym (ap place_in (nothing_held w));
      four = refl;
      transfer = refl;
      awaited = refl;
      frame = tt;
      devices = record {
        leases = λ w l e. absurd (none_held w l e);
        apart = λ w v l m e f same. absurd (none_held w l e);
        places = λ k. place_shown i (make k) [] four_free k (table k) (slice_get registry k) (λ h. absurd (no_lease h.word h.lease h.stands)) (old.places k);
      };
    }
