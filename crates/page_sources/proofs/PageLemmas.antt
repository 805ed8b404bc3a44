-- What a text tells of a page.
use Rattle.std.proofs.Common.{◌≡◌, ℕ, ◌<◌, ◌≤◌, ◌+◌, ◌*◌, ◌/◌, ◌⊎◌, inl, inr, List, length, arith, refl, sym, ap, ◌∙◌, subst}
use Rattle.std.specs.Prelude.{Option, Some, None}
use Rattle.std.proofs.lemmas.Option.{some_pair_parts}
use Rattle.std.proofs.lemmas.Nat.{mul-add-lt, div-mul-add}
use Rattle.netpbm.specs.declared.format.Header.{Header}
use Rattle.netpbm.specs.declared.format.PnmFormat.{PnmFormat}
use Rattle.netpbm.specs.declared.format.PnmFormat.TheVariants.{Pbm, Pgm, Ppm}
use Rattle.page_picture.specs.Page.{PageView}
use Rattle.netpbm.specs.Pnm.{sample_in, channels_of, number_in}
use Rattle.netpbm.specs.HeaderReading.{header_at, format_of}
use Rattle.netpbm.specs.Raster.{NoneAbove, sample_count, raster_size}
use Rattle.page_sources.specs.PageFile.{BeginsPage, IsPageFormat, TellsPage, file_channel}
use Rattle.page_sources.specs.Inside.{ArePageSamples}
use Rattle.page_sources.specs.PageReading.{source}
use Rattle.netpbm.proofs.HeaderLaws.{header_at-begins, begins_from_header_at, steps_found, not_none}

pub page_found : (text : List ℕ) (h : Header) (raster : List ℕ) → header_at text ≡ Some (h, raster) → IsPageFormat (format_of text) → h.width ≤ 16384 → h.height ≤ 16384 → BeginsPage text h raster
page_found text h raster e format w v = record {
  begins = begins_from_header_at text h raster e;
  format = subst (λ (o : Option PnmFormat). IsPageFormat o) (steps_found text h raster e).format format;
  width_most = w;
  height_most = v;
}

pub no_header : (text : List ℕ) → header_at text ≡ None → (h : Header) (raster : List ℕ) → BeginsPage text h raster → ⊥
no_header text e h raster b = not_none _ (sym e ∙ header_at-begins text h raster b.begins)

pub too_large : (text : List ℕ) (h : Header) (raster : List ℕ) → header_at text ≡ Some (h, raster) → (16384 < h.width) ⊎ ((h.width ≤ 16384) × (16384 < h.height)) → (g : Header) (other : List ℕ) → BeginsPage text g other → ⊥
too_large text h raster e large g other b =
    let same : h ≡ g = (some_pair_parts h g raster other (sym e ∙ header_at-begins text g other b.begins)).0 in
    let width : h.width ≡ g.width = ap (λ (x : Header). x.width) same in
    let height : h.height ≡ g.height = ap (λ (x : Header). x.height) same in
    let low = b.width_most in
    let low2 = b.height_most in
    elim large as (λ _. ⊥) [ inl a ↦ absurd (omega arith) | inr a ↦ absurd (omega arith) ]

-- ---- the page of a raster

-- where a place and a channel lie among the samples
place_lt : (w h x y : ℕ) → x < w → y < h → y * w + x < w * h
place_lt w h x y a b = mul-add-lt y w x h b a

place3_lt : (w h x y k : ℕ) → x < w → y < h → k < 3 → (y * w + x) * 3 + k < w * h * 3
place3_lt w h x y k a b c = let p = place_lt w h x y a b in omega arith

pub sample_in_range : (f : PnmFormat) (w h m : ℕ) (raster : List ℕ) → IsPageFormat (Some f) → NoneAbove m raster (w * h * channels_of f) → (x y k : ℕ) → x < w → y < h → k < channels_of f → sample_in f w m raster x y k ≤ m
sample_in_range Pbm w h m raster is none x y k a b c = absurd is
sample_in_range Pgm w h m raster is none x y k a b c = none (y * w + x) (let p = place_lt w h x y a b in omega arith)
sample_in_range Ppm w h m raster is none x y k a b c = none ((y * w + x) * 3 + k) (place3_lt w h x y k a b c)

-- the page's number is the file's sample
source_is : (f : PnmFormat) (w m : ℕ) (raster : List ℕ) → IsPageFormat (Some f) → (x y k : ℕ) → k < 3 → number_in m raster (source f ((y * w + x) * 3 + k)) ≡ sample_in f w m raster x y (file_channel (channels_of f) k)
source_is Pbm w m raster is x y k c = absurd is
source_is Pgm w m raster is x y k c = ap (number_in m raster) (div-mul-add (y * w + x) 3 k c)
source_is Ppm w m raster is x y k c = refl

abbrev sheet_of : Header → ℕ → List ℕ → PageView
sheet_of h dpi samples = record { width = h.width; height = h.height; dpi = dpi; samples = samples }

pub tells_page : (text : List ℕ) (h : Header) (raster : List ℕ) (dpi : ℕ) (samples : List ℕ) → BeginsPage text h raster → length raster ≡ raster_size h → NoneAbove h.maxval raster (sample_count h) → ArePageSamples h raster samples → TellsPage text dpi (sheet_of h dpi samples)
tells_page text h raster dpi samples b size none are = record {
  picture = record { width = h.width; height = h.height; channels = channels_of h.format; greatest = h.maxval; at = sample_in h.format h.width h.maxval raster };
  denotes = record {
    header = h;
    raster = raster;
    begins = b.begins;
    shows = record {
      size = size;
      width = refl;
      height = refl;
      channels = refl;
      greatest = refl;
      samples = λ x y k place. refl;
      in_range = λ x y k place. sample_in_range h.format h.width h.height h.maxval raster b.format none x y k place.column place.row place.channel;
    };
  };
  is_page = record {
    width = refl;
    height = refl;
    dots = refl;
    samples = λ x y k column row channel. are.each ((y * h.width + x) * 3 + k) (place3_lt h.width h.height x y k column row channel) ∙ ap (λ (n : ℕ). n * 65535 / h.maxval) (source_is h.format h.width h.maxval raster b.format x y k channel);
  };
}
