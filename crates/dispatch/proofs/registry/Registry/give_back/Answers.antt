use Rattle.std.proofs.Common.{◌≡◌, ◌∙◌, ap, sym, true, false, List, ℕ}
use Rattle.device_api.specs.State.{DeviceState}
use Rattle.sane_fixed.specs.declared.device_info.DeviceInfo.{DeviceInfo}
use Rattle.dispatch.specs.declared.table.place.Place.{Place}
use Rattle.dispatch.specs.declared.table.place.Slot.TheVariants.{In}
use Rattle.dispatch.specs.Table.{awaits, table, with_slot}
use Rattle.dispatch.proofs.Tables.{awaits_within, give_back_is, no_lease_is}
use Rattle.dispatch.proofs.registry.Registry.give_back.Goals as goal

pub put_into-requires : goal.put_into-requires
put_into-requires g c =
    let seen : awaits c.as_bytes.result.now c.args.lease.place c.self.inside.places.items ≡ true = ap (λ (ps : List (Place g.row.D.Denot)). awaits c.as_bytes.result.now c.args.lease.place ps) (sym c.deref.ensures.value) ∙ sym c.awaits.ensures ∙ c.if-awaits.true in
    awaits_within c.as_bytes.result.now c.args.lease.place c.self.inside.places.items seen

pub returns-then-awaits : goal.returns-then-awaits
returns-then-awaits g c =
    let s : DeviceState = g.D.Device.state c.args.lease.device in
    let name : s.info.name ≡ c.as_bytes.result.now = sym (c.as_bytes.ensures.bytes ∙ ap (λ (i : DeviceInfo). i.name) c.info.ensures) in
    let places : c.args.self.now ≡ c.deref.result.now = sym (c.deref.ensures.value ∙ c.self.view_is) in
    let seen : awaits s.info.name c.args.lease.place c.args.self.now ≡ true = ap (λ (n : List ℕ). awaits n c.args.lease.place c.args.self.now) name ∙ (ap (λ (ps : List (Place g.row.D.Denot)). awaits c.as_bytes.result.now c.args.lease.place ps) places ∙ (sym c.awaits.ensures ∙ c.if-awaits.true)) in
    ap (λ (ps : List (Place g.row.D.Denot)). table g.D.Device.state ps) (c.put_into.ensures.items ∙ ap (λ (ps : List (Place g.row.D.Denot)). with_slot ps c.args.lease.place (In c.cancel.new.self)) c.self.view_is)
    ∙ give_back_is g.D.Device.state c.args.self.now c.args.lease.place c.cancel.new.self s c.cancel.ensures seen

pub returns-else-awaits : goal.returns-else-awaits
returns-else-awaits g c =
    let s : DeviceState = g.D.Device.state c.args.lease.device in
    let name : s.info.name ≡ c.as_bytes.result.now = sym (c.as_bytes.ensures.bytes ∙ ap (λ (i : DeviceInfo). i.name) c.info.ensures) in
    let places : c.args.self.now ≡ c.deref.result.now = sym (c.deref.ensures.value ∙ c.self.view_is) in
    let seen : awaits s.info.name c.args.lease.place c.args.self.now ≡ false = ap (λ (n : List ℕ). awaits n c.args.lease.place c.args.self.now) name ∙ (ap (λ (ps : List (Place g.row.D.Denot)). awaits c.as_bytes.result.now c.args.lease.place ps) places ∙ (sym c.awaits.ensures ∙ c.if-awaits.false)) in
    no_lease_is g.D.Device.state c.args.self.now c.args.lease.place s seen
