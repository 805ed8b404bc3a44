-- Pages that are laid in and devices that are unplugged, as steps of the model.
use Rattle.std.specs.Prelude.{ℕ, ◌≡◌, true, false, Option, Some, None, Ok, List}
use Rattle.page_picture.specs.Source.{SourceState}
use Rattle.device_api.specs.State.{DeviceState, after_load as page_loaded, held_from, takes_page}
use Rattle.dispatch.specs.declared.table.place.Lease.{Lease}
use Rattle.dispatch.specs.Table.{Table, table_after_load, after_unplug, find_name, load_answer, unplug_answer}
use Rattle.system_model.specs.Devices.{Make}
use Rattle.device_api.specs.Kinds.{has_room}
use Rattle.system_model.specs.AbstractDevices.{AbstractDevice, Resting}
use Rattle.system_model.specs.SystemStates.{with_entry}
use Rattle.system_model.specs.Transitions.{with_page_laid_in, without_listing}
use Rattle.daemon_refines.specs.ContextRefinement.{HasSource, IsMade, TableRefines, abstract_device}

-- **takes a page, is unplugged (`PageIsLaidIn`, `TableLoaded`, `TableUnplugged`)**: a device at rest, with room by the
-- model, has that page laid in; the device in its place has it so; a device that nobody holds is listed no more.
--
-- a device takes a page just where the model lets one be laid in, and is then as by the model
pub record PageIsLaidIn (k : Make) (s : DeviceState) (source : SourceState) (holder : Option ℕ) : Type 0 where
  pub at_rest : (abstract_device holder s).phase ≡ Resting
  pub room : has_room k.model (abstract_device holder s).tray ≡ true
  pub device : with_page_laid_in k source.page (abstract_device holder s)
      ≡ abstract_device holder (page_loaded s source)
  pub made : IsMade k (page_loaded s source)

abbrev pub PagesAgree : Type 0
PagesAgree = (k : Make) (s : DeviceState) (source : SourceState) (holder : Option ℕ) → IsMade k s
    → HasSource k (held_from source) → takes_page s ≡ true → PageIsLaidIn k s source holder

abbrev pub RefusalsAgree : Type 0
RefusalsAgree = (k : Make) (s : DeviceState) (holder : Option ℕ) → IsMade k s → takes_page s ≡ false
    → (abstract_device holder s).phase ≡ Resting → has_room k.model (abstract_device holder s).tray ≡ true → ⊥

-- a page for a device in its place
pub record TableLoaded (i : ℕ) (make : ℕ → Make) (held : List (Option (Lease DeviceState))) (registry : Table)
    (table : ℕ → AbstractDevice) (name : List ℕ) (source : SourceState) : Type 0 where
  pub place : ℕ
  pub named : find_name name registry ≡ Some place
  pub listed : (table place).listed ≡ true
  pub at_rest : (table place).phase ≡ Resting
  pub room : has_room (make place).model (table place).tray ≡ true
  pub shows
      : TableRefines i make held (table_after_load registry name source)
      (with_entry table place (with_page_laid_in (make place) source.page (table place)))

abbrev pub LoadsAgree : Type 0
LoadsAgree =
    (i : ℕ) (make : ℕ → Make) (held : List (Option (Lease DeviceState))) (registry : Table) (table : ℕ → AbstractDevice)
    (name : List ℕ) (source : SourceState) → TableRefines i make held registry table
    → ((k : ℕ) → find_name name registry ≡ Some k → HasSource (make k) (held_from source))
    → load_answer registry name ≡ Ok tt →
    TableLoaded i make held registry table name source

-- a device that is unplugged: nobody holds it, and it is listed no more
pub record TableUnplugged (i : ℕ) (make : ℕ → Make) (held : List (Option (Lease DeviceState))) (registry : Table)
    (table : ℕ → AbstractDevice) (name : List ℕ) : Type 0 where
  pub place : ℕ
  pub named : find_name name registry ≡ Some place
  pub listed : (table place).listed ≡ true
  pub free : (table place).holder ≡ None
  pub shows
      : TableRefines i make held (after_unplug registry name) (with_entry table place (without_listing (table place)))

abbrev pub UnplugsAgree : Type 0
UnplugsAgree =
    (i : ℕ) (make : ℕ → Make) (held : List (Option (Lease DeviceState))) (registry : Table) (table : ℕ → AbstractDevice)
    (name : List ℕ) (s : DeviceState) → TableRefines i make held registry table → unplug_answer registry name ≡ Ok s →
    TableUnplugged i make held registry table name
