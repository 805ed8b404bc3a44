-- The file of a scene denotes what the scene means.
use Rattle.std.proofs.Common.{◌≡◌, ℕ, Bool, true, false, List, ◌++◌, refl, sym, subst, arith}
use Rattle.std.specs.Prelude.{Some, IsSomeAnd, ◌==◌, if◌then◌else◌}
use Rattle.std.proofs.lemmas.Bool.Decides.{nat_tests}
use Rattle.netpbm.specs.declared.format.PnmFormat.TheVariants.{Pbm, Pgm}
use Rattle.page_picture.specs.declared.scene.Mode.{Mode}
use Rattle.page_picture.specs.declared.scene.Mode.TheVariants.{Gray, Color}
use Rattle.page_picture.specs.declared.scene.Scene.{Scene}
use Rattle.page_picture.specs.Page.{PageView}
use Rattle.netpbm.specs.Picture.{IsPicture}
use Rattle.netpbm.specs.Pnm.{Denotes, channels_of}
use Rattle.netpbm.specs.FileText.{header_text, row_text, concat_up_to, Suits}
use Rattle.page_picture.specs.Extent.{extent_of}
use Rattle.page_picture.specs.Meaning.{meaning_of, picture_of, sample_of, greatest_at, channels_in}
use Rattle.netpbm.proofs.WritingLaws.{denotes_file}
use Rattle.pnm_writer.specs.PnmWriting.{format_in, header_of}

channels_agree : (mode : Mode) (depth : ℕ) → channels_in mode ≡ channels_of (format_in mode depth)
channels_agree Gray depth =
    let P : Bool → Type 0 = λ t. 1 ≡ channels_of (if t then Pbm else Pgm) in
    elim (depth == 1) as P [ true ↦ refl | false ↦ refl ]
channels_agree Color depth = refl

bits_are_bits : (mode : Mode) (depth : ℕ) → format_in mode depth ≡ Pbm → greatest_at depth ≡ 1
bits_are_bits Gray depth e =
    let P : Bool → Type 0 = λ t. (depth == 1) ≡ t → (if t then Pbm else Pgm) ≡ Pbm → greatest_at depth ≡ 1 in
    elim (depth == 1) as P [
      | true ↦ λ q _. rw (let d : depth ≡ 1 = is_one depth q in d) refl
      | false ↦ λ q g. absurd (cc)
    ] refl e
  where
    is_one : (depth : ℕ) → (depth == 1) ≡ true → depth ≡ 1
    is_one depth q = grind (arith, nat_tests)
bits_are_bits Color depth e = absurd (cc)

pub suits : (page_view : PageView) (scene : Scene) (size : ℕ × ℕ) → IsPicture (picture_of page_view scene size) → Suits (header_of scene size.0 size.1) (picture_of page_view scene size)
suits page_view scene size is = record {
  width = refl;
  height = refl;
  channels = channels_agree scene.mode scene.depth;
  greatest = refl;
  width_some = is.width_some;
  width_most = is.width_most;
  height_some = is.height_some;
  height_most = is.height_most;
  maxval_some = is.greatest_some;
  maxval_most = is.greatest_most;
  bits = bits_are_bits scene.mode scene.depth;
  in_range = is.in_range;
}

pub file_found : (page_view : PageView) (scene : Scene) (size : ℕ × ℕ) (text : List ℕ) → extent_of page_view scene ≡ Some size → IsPicture (picture_of page_view scene size) → text ≡ header_text (header_of scene size.0 size.1) ++ concat_up_to (λ y. row_text (format_in scene.mode scene.depth) (greatest_at scene.depth) size.0 (λ x k. sample_of page_view scene x y k)) size.1 → IsSomeAnd (meaning_of page_view scene) (Denotes text)
file_found page_view scene size text e is t =
    let whole : Denotes text (picture_of page_view scene size) =
    subst (λ (l : List ℕ). Denotes l (picture_of page_view scene size)) (sym t) (denotes_file (header_of scene size.0 size.1) (picture_of page_view scene size) (suits page_view scene size is)) in
    rw e whole
