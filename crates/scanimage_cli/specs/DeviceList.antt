-- The list of devices that `-L` prints.
use Rattle.std.specs.Prelude.{ℕ, ◌++◌, List, [], ◌∷◌, codes}
use Rattle.sane_fixed.specs.declared.device_info.DeviceInfo.{DeviceInfo}

-- what stands before the names of a host's devices
abbrev pub net_prefix : List ℕ → List ℕ
net_prefix host = codes "net:" ++ (host ++ codes ":")

-- device `NAME' is a VENDOR MODEL TYPE, where over the net `net:HOST:` stands before the device's own name
abbrev pub device_line : List ℕ → DeviceInfo → List ℕ
device_line prefix info =
    codes "device `"
    ++ (prefix
    ++ (info.name
    ++ (codes "' is a "
    ++ (info.vendor ++ (codes " " ++ (info.model ++ (codes " " ++ (info.class ++ codes "\n"))))))))

-- **the list (`device_lines`)**: for each device, in their order, a line with its name, behind `net:HOST:` over the
-- net, vendor, model and type.
unfoldable pub device_lines : List ℕ → List DeviceInfo → List ℕ
device_lines prefix [] = []
device_lines prefix (info ∷ more) = device_line prefix info ++ device_lines prefix more
