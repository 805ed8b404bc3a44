-- The one file that is written for a picture.
use Rattle.std.specs.Prelude.{◌≡◌, ◌==◌, if◌then◌else◌, ℕ, List}
use Rattle.netpbm.specs.declared.format.PnmFormat.{PnmFormat}
use Rattle.netpbm.specs.declared.format.PnmFormat.TheVariants.{Pbm, Pgm, Ppm}
use Rattle.netpbm.specs.declared.format.Header.{Header}
use Rattle.netpbm.specs.FileText.{file_text}
use Rattle.netpbm.specs.Picture.{Picture}
use Rattle.netpbm.specs.Pnm.{Denotes}

-- **the file of a picture (`picture_text`, `picture_header`, `picture_format`, `IsPictureFile`)**: `P6` for three
-- channels, `P4` for one of bits, else `P5`; and the writer's text under that header, byte by byte. It denotes the
-- picture.
abbrev pub picture_format : Picture → PnmFormat
picture_format p = if p.channels == 3 then Ppm else (if p.greatest == 1 then Pbm else Pgm)

abbrev pub picture_header : Picture → Header
picture_header p = record { format = picture_format p; width = p.width; height = p.height; maxval = p.greatest }

abbrev pub picture_text : Picture → List ℕ
picture_text p = file_text (picture_header p) p.at

pub record IsPictureFile (text : List ℕ) (p : Picture) : Type 0 where
  pub denotes : Denotes text p
  pub own : text ≡ picture_text p
