-- A proper front of what went out is never a whole file.
use Rattle.std.proofs.Common.{◌≡◌, ◌≢◌, ℕ, List, [], ◌∷◌, ◌++◌, length, ◌≤◌, ◌<◌, ◌+◌, ◌*◌, ◌^◌, Some, None, arith, refl, sym, ap, ◌∙◌, subst, take, drop, length-append}
use Rattle.std.proofs.lemmas.List.{append_assoc, nil_from_length, take-append-drop}
use Rattle.netpbm.specs.Pnm.{Denotes, IsWhole}
use Rattle.netpbm.specs.Pnm.{magic}
use Rattle.netpbm.specs.NoFile.{HoldsNoFile}
use Rattle.netpbm.specs.FileText.{header_text, maxval_text}
use Rattle.netpbm.specs.declared.format.PnmFormat.{PnmFormat}
use Rattle.netpbm.specs.declared.format.PnmFormat.TheVariants.{Pbm, Pgm, Ppm}
use Rattle.netpbm.specs.declared.format.Header.{Header}
use Rattle.netpbm.proofs.PnmLaws.{no_prefix}
use Rattle.std.specs.Prelude.{decimal, codes}
use Rattle.std.proofs.lemmas.Fmt.{length-decimal-le_succ}
use Rattle.std.proofs.Math.Nat.{mul-le-mul}
use Rattle.page_picture.proofs.MeaningLemmas.{greatest_limits}
use Rattle.page_picture.specs.Shows.{Frame}
use Rattle.frame_join.specs.declared.join_stage.Stage.{Stage}
use Rattle.frame_join.specs.declared.join_stage.Stage.TheVariants.{Idle, Under, Keeping, Between, Whole, WholeColors, Failed}
use Rattle.frame_join.specs.AloneFrame.{lines_in, row_bytes}
use Rattle.frame_join.specs.FrameFile.{file_front, header_alone, with_height}
use Rattle.frame_join.specs.ColorPlanes.{planes_of, side_by_side}
use Rattle.frame_join.specs.FrameHistory.{JoinHistory}
use Rattle.frame_join.specs.PixelJoinStates.{PixelJoinState, PixelRepresents, HasGoneOut}
use Rattle.frame_join.proofs.StreamLaws.{file_more, frame_picture, denotes_picture, given_length}
use Rattle.frame_join.proofs.JoinLaws.{at_stage, fault_at}

back_nil : (front more : List ℕ) → front ++ more ≡ [] → more ≡ []
back_nil front more e = nil_from_length more (omega (arith, length-append front more, ap (λ (l : List ℕ). length l) e))

front_nil : (front more : List ℕ) → front ++ more ≡ [] → front ≡ []
front_nil front more e = nil_from_length front (omega (arith, length-append front more, ap (λ (l : List ℕ). length l) e))

streamed : (f : Frame) (given front more : List ℕ) (v : PixelJoinState) → HasGoneOut f given v → given ≡ front ++ more → IsWhole front → more ≡ []
streamed f given front more v s cut whole =
    let rest = file_more f given v s in
    let all : front ++ (more ++ rest.0) ≡ file_front f (lines_in f.params.lines) = sym (append_assoc front more rest.0) ∙ ap (λ (l : List ℕ). l ++ rest.0) (sym cut) ∙ rest.1 in
    let full : IsWhole (front ++ (more ++ rest.0)) = (frame_picture f, subst (λ (l : List ℕ). Denotes l (frame_picture f)) (sym all) (denotes_picture f s.alone s.bytes)) in
    front_nil more rest.0 (no_prefix front (more ++ rest.0) whole full)

-- what went out, where no fault stands: nothing, or so much of the file of one frame
pub data GaveOut (past : JoinHistory) (v : PixelJoinState) : Type 0 where
  gave_nothing : past.given ≡ [] → GaveOut past v
  gave_file : (f : Frame) → HasGoneOut f past.given v → GaveOut past v

gave_out : (past : JoinHistory) (v : PixelJoinState) → PixelRepresents past v → past.fault ≡ None → GaveOut past v
gave_out past v stands no_fault = by_stage v.stage refl
  where
    by_stage : (s : Stage) → v.stage ≡ s → GaveOut past v
    by_stage Idle e = gave_nothing (at_stage Idle past v e stands).2
    by_stage Under e = gave_file (at_stage Under past v e stands).0 (at_stage Under past v e stands).3.goes
    by_stage Keeping e = gave_nothing (at_stage Keeping past v e stands).2.silent.given_is
    by_stage Between e = gave_nothing (at_stage Between past v e stands).1.silent.given_is
    by_stage Whole e = gave_file (with_height (at_stage Whole past v e stands).0) (at_stage Whole past v e stands).4.goes
    by_stage WholeColors e =
        let at = at_stage WholeColors past v e stands in
        gave_file (side_by_side at.2 (planes_of (at.0 ∷ at.1 ∷ at.2 ∷ []))) at.5.goes
    by_stage (Failed x) e = let clash : Some x ≡ None = sym (fault_at (Failed x) past v e stands) ∙ no_fault in absurd (cc)

pub no_front : (past : JoinHistory) (v : PixelJoinState) (front more : List ℕ) → PixelRepresents past v → past.fault ≡ None → past.given ≡ front ++ more → more ≢ [] → IsWhole front → ⊥
no_front past v front more stands no_fault cut some whole = by_out (gave_out past v stands no_fault)
  where
    by_out : GaveOut past v → ⊥
    by_out (gave_nothing none) = some (back_nil front more (sym cut ∙ none))
    by_out (gave_file f goes) = some (streamed f past.given front more v goes cut whole)

-- so no front of a proper front is one
pub no_file_in_front : (past : JoinHistory) (v : PixelJoinState) (front more : List ℕ) → PixelRepresents past v → past.fault ≡ None → past.given ≡ front ++ more → more ≢ [] → HoldsNoFile front
no_file_in_front past v front more stands no_fault cut some = λ n.
    let all : past.given ≡ take n front ++ (drop n front ++ more) =
    cut ∙ (ap (λ (l : List ℕ). l ++ more) (sym (take-append-drop n front)) ∙ append_assoc (take n front) (drop n front) more) in
    no_front past v (take n front) (drop n front ++ more) stands no_fault all (λ none. some (back_nil (drop n front) more none))

-- ---- no file is endless

decimal_small : (n k : ℕ) → n ≤ k → k < 2 ^ 63 → length (decimal n) ≤ k + 1
decimal_small n k less small = omega (arith, length-decimal-le_succ n (omega arith))

magic_two : (g : PnmFormat) → length (magic g) ≡ 2
magic_two Pbm = refl
magic_two Pgm = refl
magic_two Ppm = refl

maxval_short : (g : PnmFormat) (m : ℕ) → m ≤ 65535 → length (maxval_text g m) ≤ 65540
maxval_short Pbm m h = omega arith
maxval_short Pgm m h = omega (arith, length-append (decimal m) (10 ∷ []), decimal_small m 65535 h (omega arith))
maxval_short Ppm m h = omega (arith, length-append (decimal m) (10 ∷ []), decimal_small m 65535 h (omega arith))

header_short : (h : Header) → h.width ≤ 65536 → h.height ≤ 65536 → h.maxval ≤ 65535 → length (header_text h) ≤ 2 ^ 20
header_short h wide high most =
    let tail = maxval_text h.format h.maxval in
    let second = decimal h.height ++ (10 ∷ tail) in
    let first = decimal h.width ++ (32 ∷ second) in
    let line = codes "# SANE data follows" in
    omega (
      arith,
      magic_two h.format,
      maxval_short h.format h.maxval most,
      decimal_small h.width 65536 wide (omega arith),
      decimal_small h.height 65536 high (omega arith),
      length-append (magic h.format) (10 ∷ line ++ (10 ∷ first)),
      length-append line (10 ∷ first),
      length-append (decimal h.width) (32 ∷ second),
      length-append (decimal h.height) (10 ∷ tail),
    )

stream_short : (f : Frame) (given : List ℕ) (v : PixelJoinState) → HasGoneOut f given v → length given < 2 ^ 40
stream_short f given v s =
    let parts = s.alone in
    let many : v.row ≤ 65536 = omega (arith, s.rows, parts.lines_most) in
    let wide : row_bytes f.params ≤ 1048576 = omega (arith, parts.shape.fits, parts.shape.line_most) in
    let rows : v.row * row_bytes f.params ≤ 65536 * 1048576 = mul-le-mul many wide in
    let head : v.headed ≤ length (header_text (header_alone f.params)) = subst (λ (l : List ℕ). v.headed ≤ length l) s.head s.headed in
    omega (arith, rows, head, s.column, parts.shape.fits, parts.shape.line_most, given_length f given v s, header_short (header_alone f.params) parts.shape.width_most parts.lines_most (greatest_limits f.params.depth).1)

pub all_short : (past : JoinHistory) (v : PixelJoinState) → PixelRepresents past v → past.fault ≡ None → length past.given < 2 ^ 40
all_short past v stands no_fault = by_out (gave_out past v stands no_fault)
  where
    by_out : GaveOut past v → length past.given < 2 ^ 40
    by_out (gave_nothing none) = omega (arith, ap (λ (l : List ℕ). length l) none)
    by_out (gave_file f goes) = stream_short f past.given v goes
