-- The numbers of the frame formats (SANE Standard 1.06, "Scan parameters").
use Rattle.std.specs.Prelude.{ℕ}
use Rattle.sane_fixed.specs.declared.frame_format.FrameFormat.{FrameFormat}
use Rattle.sane_fixed.specs.declared.frame_format.FrameFormat.TheVariants.{Gray, Rgb, Red, Green, Blue}

abbrev pub frame_format_code : FrameFormat → ℕ
frame_format_code Gray = 0
frame_format_code Rgb = 1
frame_format_code Red = 2
frame_format_code Green = 3
frame_format_code Blue = 4
