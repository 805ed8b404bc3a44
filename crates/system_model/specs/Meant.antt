-- The frames of a finished page show the picture that the settings mean on the page, where the device's sources are
-- steady.
use Rattle.std.specs.Prelude.{◌≡◌, true, List, Some}
use Rattle.netpbm.specs.Picture.{Picture}
use Rattle.page_picture.specs.Page.{IsPageView}
use Rattle.page_picture.specs.Meaning.{meaning_of}
use Rattle.page_picture.specs.Shows.{Frame, ShowsFrames}
use Rattle.system_model.specs.AbstractMessages.{RequestedSetting}
use Rattle.system_model.specs.Devices.{Make}
use Rattle.system_model.specs.AbstractDevices.{Begin}
use Rattle.system_model.specs.Sync.{IsPictureOfStart}

abbrev pub PicturesAreMeant : Type 0
PicturesAreMeant =
    (k : Make) (settings : List RequestedSetting) (begin : Begin) (frames : List Frame)
    → IsPictureOfStart k settings begin frames → k.steady ≡ true → IsPageView begin.page →
    (p : Picture) × (meaning_of begin.page begin.options.scene ≡ Some p) × ShowsFrames frames p
