-- The page of a file of grays that stands in its line.
use Rattle.std.proofs.Common.{◌≡◌, ◌∙◌, ℕ, List, Option, Some, sym, ap, subst, ◌<◌, ◌+◌, ◌*◌, ◌/◌, arith}
use Rattle.std.specs.Prelude.{Ok}
use Rattle.hex.specs.Hex.{decode_of}
use Rattle.netpbm.specs.HeaderReading.{header_at}
use Rattle.netpbm.specs.Pnm.{Denotes, number_in}
use Rattle.netpbm.specs.declared.format.Header.{Header}
use Rattle.netpbm.specs.declared.format.PnmFormat.TheVariants.{Pgm}
use Rattle.netpbm.proofs.HeaderLaws.{header_at-begins}
use Rattle.page_picture.specs.Page.{PageView, page_sample_at}
use Rattle.page_picture.specs.Source.{SourceState}
use Rattle.page_sources.specs.PageFile.{TellsPage, file_channel}
use Rattle.config_pages.specs.Pages.{GivesSpelled}
use Rattle.worked_programs.proofs.Basics.{ok_is, some_is}

-- a page of that size, whose samples are these
pub record IsGrayPage (page : PageView) (w h dpi m : ℕ) (raster : List ℕ) : Type 0 where
  pub width : page.width ≡ w
  pub height : page.height ≡ h
  pub dots : page.dpi ≡ dpi
  pub grays : (x y k : ℕ) → x < w → y < h → k < 3 → page_sample_at page x y k ≡ number_in m raster (y * w + x) * 65535 / m

module _ (file : List ℕ) (w h dpi m : ℕ) (raster : List ℕ) (page : PageView)
    (at : header_at file ≡ Some (record { format = Pgm; width = w; height = h; maxval = m }, raster)) (told : TellsPage file dpi page) where
  found : ◌≡◌ {A = Option (Header × List ℕ)} (Some (told.denotes.header, told.denotes.raster))
      (Some (record { format = Pgm; width = w; height = h; maxval = m }, raster))
  found = sym (header_at-begins file told.denotes.header told.denotes.raster told.denotes.begins) ∙ at

  header_is : told.denotes.header ≡ record { format = Pgm; width = w; height = h; maxval = m }
  header_is = ap (λ (x : Header × List ℕ). x.0) (some_is _ _ found)

  raster_is : told.denotes.raster ≡ raster
  raster_is = ap (λ (x : Header × List ℕ). x.1) (some_is _ _ found)

  wide : told.picture.width ≡ w
  wide = told.denotes.shows.width ∙ ap (λ (h : Header). h.width) header_is

  high : told.picture.height ≡ h
  high = told.denotes.shows.height ∙ ap (λ (h : Header). h.height) header_is

  gray : told.picture.channels ≡ 1
  gray = told.denotes.shows.channels ∙ ap (λ (h : Header). Rattle.netpbm.specs.Pnm.channels_of h.format) header_is

  greatest : told.picture.greatest ≡ m
  greatest = told.denotes.shows.greatest ∙ ap (λ (h : Header). h.maxval) header_is

  sample : (x y : ℕ) → x < w → y < h → told.picture.at x y 0 ≡ number_in m raster (y * w + x)
  sample x y left top =
      told.denotes.shows.samples x y 0 (record {
        column = subst (λ (n : ℕ). x < n) (sym wide) left;
        row = subst (λ (n : ℕ). y < n)
            (sym high) top;
        channel = subst (λ (n : ℕ). 0 < n) (sym gray) (omega arith);
      })
      ∙ ap (λ (h : Header). Rattle.netpbm.specs.Pnm.sample_in h.format h.width h.maxval told.denotes.raster x y 0) header_is
      ∙ ap (λ (r : List ℕ). number_in m r (y * w + x)) raster_is

  channel : (k : ℕ) → file_channel told.picture.channels k ≡ 0
  channel k = ap (λ (n : ℕ). file_channel n k) gray

  pub gray_page : IsGrayPage page w h dpi m raster
  gray_page = record {
    width = told.is_page.width ∙ wide;
    height = told.is_page.height ∙ high;
    dots = told.is_page.dots;
    grays = λ x y k left top some.
        told.is_page.samples x y k (subst (λ (n : ℕ). x < n) (sym wide) left) (subst (λ (n : ℕ). y < n) (sym high) top) some
        ∙ ap (λ (c : ℕ). told.picture.at x y c * 65535 / told.picture.greatest) (channel k)
        ∙ ap (λ (v : ℕ). v * 65535 / told.picture.greatest) (sample x y left top)
        ∙ ap (λ (g : ℕ). number_in m raster (y * w + x) * 65535 / g) greatest;
  }

-- the source of the digits of such a file
pub spelled_page : (digits file : List ℕ) (w h dpi m : ℕ) (raster : List ℕ) (source : SourceState) → decode_of digits ≡ Ok file
    → header_at file ≡ Some (record { format = Pgm; width = w; height = h; maxval = m }, raster)
    → GivesSpelled digits dpi source → IsGrayPage source.page w h dpi m raster
spelled_page digits file w h dpi m raster source decoded at gives =
    let same : gives.file ≡ file = ok_is _ _ (sym gives.spelled ∙ decoded) in
    gray_page file w h dpi m raster source.page at (subst (λ (f : List ℕ). TellsPage f dpi source.page) same gives.told)
