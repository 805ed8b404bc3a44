-- The frames of a scan, joined, are the picture that its scene means.
use Rattle.std.proofs.Common.{◌≡◌, ◌∙◌, sym, ap, subst, refl, Bool, true, false, Option, Some, None, Ok, List}
use Rattle.netpbm.specs.Picture.{Picture}
use Rattle.page_picture.specs.Page.{PageView, IsPageView}
use Rattle.page_picture.specs.Meaning.{meaning_of}
use Rattle.page_picture.specs.Shows.{Frame, ShowsFrames}
use Rattle.scan_frames.specs.Frames.{frames_of, has_picture}
use Rattle.scan_frames.specs.declared.setup.Setup.{Setup}
use Rattle.scan_frames.proofs.FramesShow.{meant, shows_frames}
use Rattle.device_api.specs.ScannerLimits.{IsAllowed}
use Rattle.frame_join.specs.FrameFile.{AllGone}
use Rattle.frame_join.specs.FrameHistory.{JoinHistory, IsJoined, answer_by, is_joined}
use Rattle.frame_join.specs.JoinStates.{JoinState, Represents}
use Rattle.frame_join.proofs.EndSteps.{all_denotes}
use Rattle.scan_laws.proofs.Takes.{joined_frames}
use Rattle.frame_join.specs.PictureText.{IsPictureFile}

pub nothing_meant : (s : Setup) (page : PageView) → has_picture s page ≡ false → meaning_of page s.scene ≡ None
nothing_meant s page none = rw none refl

meant_is : (s : Setup) (page : PageView) → has_picture s page ≡ true → meaning_of page s.scene ≡ Some (meant s page)
meant_is s page there = rw there refl

pub means_and_shows : (s : Setup) (page : PageView) → IsAllowed s → IsPageView page → has_picture s page ≡ true → (p : Picture) × (meaning_of page s.scene ≡ Some p) × ShowsFrames (frames_of s page) p
means_and_shows s page a is there = (meant s page, meant_is s page there, shows_frames s page a.limits is a.gamma a.channel_gamma there)

-- what is meant is shown
meant_shown : (s : Setup) (page : PageView) (b : Bool) → has_picture s page ≡ b → IsAllowed s → IsPageView page → (p : Picture) → meaning_of page s.scene ≡ Some p → ShowsFrames (frames_of s page) p
meant_shown s page true there a is p e =
    let same : Some (meant s page) ≡ Some p = sym (meant_is s page there) ∙ e in
    let pic : meant s page ≡ p = ap (λ o. or_this o) same in
    subst (λ (q : Picture). ShowsFrames (frames_of s page) q) pic (shows_frames s page a.limits is a.gamma a.channel_gamma there)
  where
    or_this : Option Picture → Picture
    or_this (Some q) = q
    or_this None = meant s page
meant_shown s page false none a is p e = absurd (let clash : None ≡ Some p = sym (nothing_meant s page none) ∙ e in cc)

pub file_means : (s : Setup) (page : PageView) (past : JoinHistory) (join : JoinState) (p : Picture) → IsAllowed s → IsPageView page → meaning_of page s.scene ≡ Some p → Represents past join → past.ended ≡ frames_of s page → past.under ≡ None → past.fault ≡ None
    → AllGone past.under past.ended past.given → IsPictureFile past.given p
file_means s page past join p a is e stands ended under fault gone =
    let shown : ShowsFrames past.ended p = subst (λ (fs : List Frame). ShowsFrames fs p) (sym ended) (meant_shown s page (has_picture s page) refl a is p e) in
    let whole : is_joined past.ended ≡ true = ap is_joined ended ∙ joined_frames s page in
    let joined : IsJoined past =
    ap (λ (o : Option Frame). answer_by past.fault o past.ended) under ∙ (ap (λ f. answer_by f None past.ended) fault ∙ ap (λ (b : Bool). Ok b) whole) in
    all_denotes past join stands joined gone p shown
