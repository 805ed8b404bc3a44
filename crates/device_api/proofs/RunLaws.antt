-- The bytes of a pass.
use Rattle.std.proofs.Common.{◌≡◌, ℕ, length}
use Rattle.netpbm.proofs.WritingLaws.{length-joined}
use Rattle.page_picture.specs.Page.{PageView}
use Rattle.scan_frames.specs.Frames.{payload, pass_length, line_bytes, height_of, bytes_per_line}
use Rattle.scan_frames.specs.declared.setup.Setup.{Setup}
use Rattle.scan_frames.proofs.Scans.{length-line_of}

pub length-payload : (setup : Setup) (page : PageView) (p : ℕ) → length (payload setup page p) ≡ pass_length setup page p
length-payload setup page p = length-joined (line_bytes setup page p) (bytes_per_line setup p) (height_of setup page) (λ y. length-line_of _ _ _ _ _ (bytes_per_line setup p))
