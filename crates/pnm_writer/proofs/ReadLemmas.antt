-- What read_pnm answers is what the text denotes.
use Rattle.std.proofs.Common.{◌≡◌, ℕ, ◌+◌, ◌*◌, ◌<◌, ◌≤◌, List, length, refl, subst, arith, ◌⊎◌, inl, inr}
use Rattle.std.specs.Prelude.{Some, slice_index, Result, Ok, Err, IfErr}
use Rattle.netpbm.specs.declared.format.PnmFormat.{PnmFormat}
use Rattle.netpbm.specs.declared.format.PnmFormat.TheVariants.{Pbm, Pgm, Ppm}
use Rattle.netpbm.specs.declared.format.Header.{Header}
use Rattle.netpbm.specs.Pnm.{Begins, Denotes, IsWhole, IsMaxval, sample_in, channels_of}
use Rattle.netpbm.specs.FileText.{concat_up_to, samples_text, sample_text}
use Rattle.netpbm.specs.Raster.{raster_size, sample_count, NoneAbove}
use Rattle.netpbm.proofs.WritingLaws.{sample_back, length-joined}
use Rattle.page_sources.specs.PageFile.{IsPageFormat}
use Rattle.page_sources.proofs.PageLemmas.{sample_in_range}
use Rattle.pnm_writer.specs.declared.read.PnmFault.{PnmFault}
use Rattle.pnm_writer.specs.declared.read.PnmFault.TheVariants.{NoMem}
use Rattle.pnm_writer.specs.PnmReading.{picture_of_held, HasPnmFault}

-- no sample is above the greatest value
abbrev pub InRange : Header → List ℕ → Type 0
InRange h raster = (x y k : ℕ) → x < h.width → y < h.height → k < channels_of h.format → sample_in h.format h.width h.maxval raster x y k ≤ h.maxval

bits_limit : (f : PnmFormat) (field : List ℕ) (w m : ℕ) (raster : List ℕ) → f ≡ Pbm → IsMaxval f field m → (x y k : ℕ) → sample_in f w m raster x y k ≤ m
bits_limit Pbm field w m raster e is x y k = omega (arith, is.1)
bits_limit Pgm field w m raster e is x y k = absurd (cc)
bits_limit Ppm field w m raster e is x y k = absurd (cc)

pub bits_in_range : (text : List ℕ) (h : Header) (raster : List ℕ) → Begins text h raster → h.format ≡ Pbm → InRange h raster
bits_in_range text h raster b e = λ x y k _ _ _. bits_limit h.format b.is_header.maxval_field h.width h.maxval raster e b.is_header.is_maxval x y k

pub samples_in_range : (h : Header) (raster : List ℕ) → IsPageFormat (Some h.format) → NoneAbove h.maxval raster (sample_count h) → InRange h raster
samples_in_range h raster is none = sample_in_range h.format h.width h.height h.maxval raster is none

pub pnm_denotes : (text : List ℕ) (h : Header) (raster : List ℕ) (channels : ℕ) (samples : List ℕ) → Begins text h raster → length raster ≡ raster_size h → InRange h raster → channels ≡ channels_of h.format → samples ≡ concat_up_to (λ y. samples_text (channels_of h.format) 0 h.width (λ x k. sample_in h.format h.width h.maxval raster x y k)) h.height → Denotes text (picture_of_held (record { width = h.width; height = h.height; channels = channels; maxval = h.maxval; samples = samples }))
pnm_denotes text h raster channels samples b size in_range c s =
    let back : (x y k : ℕ) → x < h.width → y < h.height → k < channels_of h.format → slice_index samples ((y * h.width + x) * channels + k) ≡ sample_in h.format h.width h.maxval raster x y k = λ x y k column row channel.
    rw (s, c) (sample_back (channels_of h.format) 0 h.width h.height (λ x y k. sample_in h.format h.width h.maxval raster x y k) x y k column row channel) in
    record {
      header = h;
      raster = raster;
      begins = b;
      shows = record {
        size = size;
        width = refl;
        height = refl;
        channels = c;
        greatest = refl;
        samples = λ x y k place. back x y k place.column place.row (subst (λ (n : ℕ). k < n) c place.channel);
        in_range = λ x y k place. rw (back x y k place.column place.row (subst (λ (n : ℕ). k < n) c place.channel)) (in_range x y k place.column place.row (subst (λ (n : ℕ). k < n) c place.channel));
      };
    }

-- whatever the samples are held in, the text denotes a picture
pub is_whole : (text : List ℕ) (h : Header) (raster : List ℕ) → Begins text h raster → length raster ≡ raster_size h → InRange h raster → IsWhole text
is_whole text h raster b size in_range = (
  record { width = h.width; height = h.height; channels = channels_of h.format; greatest = h.maxval; at = sample_in h.format h.width h.maxval raster },
  record {
    header = h;
    raster = raster;
    begins = b;
    shows = record {
      size = size;
      width = refl;
      height = refl;
      channels = refl;
      greatest = refl;
      samples = λ x y k place. refl;
      in_range = λ x y k place. in_range x y k place.column place.row place.channel;
    };
  },
)

pub no_memory : {A : Type 0} (r : Result A PnmFault) (text : List ℕ) → IfErr r (λ fault. fault ≡ NoMem) → IsWhole text → IfErr r (λ fault. HasPnmFault fault text)
no_memory (Ok _) text is whole = tt
no_memory (Err fault) text is whole = rw is whole

pub page_format : (f : PnmFormat) → (f ≡ Pgm) ⊎ (f ≡ Ppm) → IsPageFormat (Some f)
page_format f e = elim e as (λ _. IsPageFormat (Some f)) [ inl g ↦ rw g tt | inr g ↦ rw g tt ]

place_size : (c : ℕ) (at : ℕ → ℕ) → length (concat_up_to (λ k. sample_text 0 (at k)) c) ≡ c
place_size c at = omega (arith, length-joined (λ k. sample_text 0 (at k)) 1 c (λ k. refl))

row_length : (c w : ℕ) (at : ℕ → ℕ → ℕ) → length (samples_text c 0 w at) ≡ w * c
row_length c w at = length-joined (λ x. concat_up_to (λ k. sample_text 0 (at x k)) c) c w (λ x. place_size c (at x))

pub samples_size : (c w h : ℕ) (at : ℕ → ℕ → ℕ → ℕ) → length (concat_up_to (λ y. samples_text c 0 w (λ x k. at x y k)) h) ≡ w * h * c
samples_size c w h at = omega (arith, length-joined (λ y. samples_text c 0 w (λ x k. at x y k)) (w * c) h (λ y. row_length c w (λ x k. at x y k)))
