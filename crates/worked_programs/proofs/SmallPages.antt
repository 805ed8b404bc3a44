-- A page of two gray dots that stands in its line.
use Rattle.std.proofs.Common.{◌≡◌, ℕ, zero, suc, List, [], ◌∷◌, ◌++◌, refl, ◌<◌, ◌≤◌, arith, Some}
use Rattle.std.specs.Prelude.{Ok, codes}
use Rattle.hex.specs.Hex.{decode_of}
use Rattle.netpbm.specs.HeaderReading.{end_at, field_at, header_at, maxval_at, number_at}
use Rattle.netpbm.specs.Pnm.{number_in}
use Rattle.netpbm.specs.declared.format.PnmFormat.TheVariants.{Pgm}
use Rattle.netpbm.proofs.HeaderLaws.{begins_from_header_at}
use Rattle.page_picture.specs.Source.{SourceState}
use Rattle.config_pages.specs.Pages.{GivesSpelled}
use Rattle.worked_programs.proofs.LostPages.{IsGoodPage}
use Rattle.worked_programs.proofs.Pages.{IsGrayPage, spelled_page}

abbrev pub two_dots : ℕ → ℕ → List ℕ
two_dots first second = codes "P5\n2 1\n255\n" ++ first ∷ second ∷ []

header_of_two : (first second : ℕ) → header_at (two_dots first second) ≡ Some
    (record { format = Pgm; width = 2; height = 1; maxval = 255 }, first ∷ second ∷ [])
unfolding header_at field_at number_at end_at maxval_at
header_of_two first second = refl

none_above : (first second : ℕ) → first < 256 → second < 256 → (i : ℕ) → i < 2 → number_in 255 (first ∷ second ∷ []) i ≤ 255
none_above first second low low2 zero few = omega (arith, low)
none_above first second low low2 (suc zero) few = omega (arith, low2)
none_above first second low low2 (suc (suc i)) few = absurd (omega (arith, few))

pub good_page : (digits : List ℕ) (first second : ℕ) → decode_of digits ≡ Ok (two_dots first second) → first < 256 → second < 256
    → IsGoodPage digits (two_dots first second) 26
good_page digits first second decoded low low2 = record {
  decoded = decoded;
  magic = tt;
  text = record {
    dots = (omega arith, omega arith);
    header = record { format = Pgm; width = 2; height = 1; maxval = 255 };
    raster = first ∷ second ∷ [];
    begins = record {
      begins = begins_from_header_at (two_dots first second) _ _
          (header_of_two first second);
      format = tt;
      width_most = omega arith;
      height_most = omega arith;
    };
    size = refl;
    none_above = none_above first second low low2;
  };
}

pub two_grays : (digits : List ℕ) (first second : ℕ) (source : SourceState) → decode_of digits ≡ Ok (two_dots first second) → GivesSpelled digits 26 source
    → IsGrayPage source.page 2 1 26 255 (first ∷ second ∷ [])
two_grays digits first second source decoded gives = spelled_page digits (two_dots first second) 2 1 26 255 (first ∷ second ∷ []) source decoded
    (header_of_two first second) gives
