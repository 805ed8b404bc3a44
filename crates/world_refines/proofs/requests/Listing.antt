-- The devices that the daemon tells are the places that the model lists.
use Rattle.std.specs.Prelude.{cond}
use Rattle.std.proofs.Common.{◌≡◌, ◌∙◌, ℕ, zero, suc, ◌+◌, List, [], ◌∷◌, Some, None, Bool, true, false, refl, sym, ap, subst, map, slice_get, arith}
use Rattle.device_api.specs.State.{DeviceState}
use Rattle.sane_fixed.specs.declared.device_info.DeviceInfo.{DeviceInfo}
use Rattle.dispatch.specs.declared.table.place.Place.{Place}
use Rattle.dispatch.specs.Table.{Table}
use Rattle.dispatch.specs.Table as registry
use Rattle.saned_requests.specs.RequestAnswers.{RequestContext}
use Rattle.system_model.specs.Devices.{Make}
use Rattle.system_model.specs.AbstractDevices.{AbstractDevice}
use Rattle.system_model.specs.AbstractSessions.{AbstractSession}
use Rattle.system_model.specs.SystemStates.{listed_of}
use Rattle.daemon_refines.specs.ContextRefinement.{ContextRefines}
use Rattle.daemon_refines.specs.WholeSessions.{infos_for}
use Rattle.daemon_refines.proofs.SessionEndings.{lists_agree}
use Rattle.daemon_refines.proofs.Moved.{unsome}
use Rattle.world_refines.specs.GhostStates.{place_of_info}
use Rattle.world_refines.specs.WorldRefinement.{HaveDifferentNames, info_at, numbers_from}
use Rattle.world_refines.proofs.state.Infos.{info_place}

one_more : (k j : ℕ) → (k + 1) + j ≡ k + suc j
one_more k j = omega arith

listed_if : (all : List DeviceInfo) (k : ℕ) (info : DeviceInfo) (infos : List DeviceInfo) (places : List ℕ) (b : Bool) → place_of_info all info ≡ k → map (place_of_info all) infos ≡ places → map (place_of_info all) (cond b (info ∷ infos) infos) ≡ cond b (k ∷ places) places
listed_if all k info infos places true e h = ap (λ (n : ℕ). n ∷ map (place_of_info all) infos) e ∙ ap (λ (x : List ℕ). k ∷ x) h
listed_if all k info infos places false e h = h

-- from place k on
listed_from : (device : ℕ → AbstractDevice) (all : List DeviceInfo) (k : ℕ) (t : Table) → HaveDifferentNames all → ((j : ℕ) (p : Place DeviceState) → slice_get t j ≡ Some p → slice_get all (k + j) ≡ Some p.info) → map (place_of_info all) (infos_for device k t) ≡ listed_of device (numbers_from k (map info_at t))
listed_from device all k [] apart at = refl
listed_from device all k (p ∷ t) apart at =
    let next : k + 1 ≡ suc k = omega arith in
    let here : k + 0 ≡ k = omega arith in
    let more = listed_from device all (k + 1) t apart (λ j q e. subst (λ (n : ℕ). slice_get all n ≡ Some q.info) (sym (one_more k j)) (at (suc j) q e)) in
    listed_if all k p.info (infos_for device (k + 1) t) (listed_of device (numbers_from (suc k) (map info_at t))) (device k).listed
    (info_place all p.info k apart (subst (λ (n : ℕ). slice_get all n ≡ Some p.info) here (at 0 p refl)))
    (more ∙ ap (λ (n : ℕ). listed_of device (numbers_from n (map info_at t))) next)

infos_of : (t : Table) (k : ℕ) (p : Place DeviceState) → slice_get t k ≡ Some p → slice_get (map info_at t) k ≡ Some p.info
infos_of [] k p e = absurd (let clash : None ≡ Some p = e in cc)
infos_of (q ∷ t) zero p e = ap (λ (x : Place DeviceState). Some x.info) (unsome q p e)
infos_of (q ∷ t) (suc k) p e = infos_of t k p e

pub listed_told : (i : ℕ) (make : ℕ → Make) (d : RequestContext) (device : ℕ → AbstractDevice) (s : AbstractSession) (all : List DeviceInfo) → all ≡ map info_at d.registry → HaveDifferentNames all → ContextRefines i make d device s → map (place_of_info all) (registry.listed_infos d.registry) ≡ listed_of device (numbers_from 0 all)
listed_told i make d device s all same apart h =
    ap (map (place_of_info all)) (lists_agree i make d device s h)
    ∙ (listed_from device all 0 d.registry apart (λ j p e. subst (λ (infos : List DeviceInfo). slice_get infos (0 + j) ≡ Some p.info) (sym same) (subst (λ (n : ℕ). slice_get (map info_at d.registry) n ≡ Some p.info) (let plain : j ≡ 0 + j = omega arith in plain) (infos_of d.registry j p e)))
    ∙ ap (λ (infos : List DeviceInfo). listed_of device (numbers_from 0 infos)) (sym same))
