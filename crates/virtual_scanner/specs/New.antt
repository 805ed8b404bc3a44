-- A virtual scanner that was made.
use Rattle.std.specs.Prelude.{ℕ, List, [], ◌∷◌, map, false, codes}
use Rattle.sane_fixed.specs.declared.byte_order.ByteOrder.{ByteOrder}
use Rattle.page_picture.specs.Source.{SourceState}
use Rattle.page_picture.specs.declared.scene.DeviceKind.{DeviceKind}
use Rattle.device_api.specs.Kinds.{class_of, model_of}
use Rattle.device_api.specs.State.{DeviceState, held_from}
use Rattle.device_api.specs.State.Phase.{AtRest}
use Rattle.device_api.specs.Values.{defaults}
use Rattle.sane_fixed.specs.declared.device_info.DeviceInfo.{DeviceInfo}

abbrev pub device_info_of : DeviceKind → List ℕ → DeviceInfo
device_info_of kind name =
    record { name = name; vendor = codes "Virtual"; model = model_of kind; class = class_of kind }

-- **a new scanner (`new_device`, `new_scanner`)**: of a kind and a name, at rest, its options at their defaults, with
-- the pages of sources, or with one.
abbrev pub new_device : DeviceKind → List ℕ → List SourceState → ByteOrder → DeviceState
new_device kind name sources order = record {
  info = device_info_of kind name;
  setup = defaults kind order;
  pages = map held_from sources;
  phase = AtRest false;
}

-- one with one page
abbrev pub new_scanner : DeviceKind → List ℕ → SourceState → ByteOrder → DeviceState
new_scanner kind name source order = new_device kind name (source ∷ []) order
