-- The page that is shown row by row is the page of the whole file.
use Rattle.std.proofs.Common.{◌≡◌, ℕ, ◌+◌, ◌*◌, ◌/◌, ◌%◌, ◌<◌, ◌≤◌, ◌^◌, inl, inr, List, [], ◌∷◌, ◌++◌, arith, length, take, drop, refl, sym, ap, ◌∙◌, subst}
use Rattle.std.specs.Prelude.{slice_index, Some, ◌==◌, ◌≢◌, if◌then◌else◌, true, false}
use Rattle.std.proofs.lemmas.Bool.Decides.{nat_tests}
use Rattle.std.proofs.Math.Seq.{take-append_seam}
use Rattle.std.proofs.lemmas.Nat.{div-mul-add, mul-add-lt}
use Rattle.std.proofs.Math.Nat.{div-le_of_le-mul}
use Rattle.std.proofs.lemmas.Bool.{cases_lt}
use Rattle.std.proofs.lemmas.List.{get_or_past}
use Rattle.netpbm.specs.declared.format.PnmFormat.{PnmFormat}
use Rattle.netpbm.specs.declared.format.PnmFormat.TheVariants.{Pbm, Pgm, Ppm}
use Rattle.netpbm.specs.declared.format.Header.{Header}
use Rattle.netpbm.specs.Pnm.{number_in, channels_of}
use Rattle.netpbm.specs.FileText.{concat_up_to}
use Rattle.netpbm.proofs.WritingLaws.{length-joined, joined_at}
use Rattle.page_sources.specs.declared.page_file.PageFault.TheVariants.{BadMagic, BadHeader, SampleTooLarge, Short, Trailing, BadDpi, NoMem}
use Rattle.page_sources.specs.declared.open_fault.OpenFault.{OpenFault}
use Rattle.page_sources.specs.declared.open_fault.OpenFault.TheVariants.{Page, Device}
use Rattle.page_picture.specs.Page.{IsShaped, IsPageView, IsRow, page_sample_at}
use Rattle.page_picture.specs.Source.{byte_place, bytes_in, sample_byte}
use Rattle.page_picture.specs.declared.sources.SampleBytes.{SampleBytes}
use Rattle.page_picture.specs.declared.sources.SampleBytes.TheVariants.{Upper, Both}
use Rattle.page_picture.specs.declared.scene.Mode.{Mode}
use Rattle.page_picture.specs.declared.scene.Mode.TheVariants.{Gray, Color}
use Rattle.page_sources.specs.PageFile.{BeginsPage, IsDpi, IsPageFormat, TellsPage}
use Rattle.page_sources.specs.PageReading.{source}
use Rattle.page_sources.specs.Inside.{ArePageSamples, page_number, HasChannels, HasSamplesOf, third_byte, IsPageHeader, IsRaster, ShowsRow, page_shown, samples_shown, row_count, file_row_size, HasHeaderFault, HasOpenFaultAfter}
use Rattle.page_sources.specs.Opening.{HasOpenFault}
use Rattle.page_sources.proofs.PageLemmas.{tells_page}
use Rattle.page_sources.proofs.RowLemmas.{drop-row, number_in_row, row_size-count}

numbers_length : (f : ℕ → ℕ) (n : ℕ) → length (concat_up_to (λ j. f j ∷ []) n) ≡ n
numbers_length f n = let all = length-joined (λ j. f j ∷ []) 1 n (λ i. refl) in omega arith

numbers_at : (f : ℕ → ℕ) (n i : ℕ) → i < n → slice_index (concat_up_to (λ j. f j ∷ []) n) i ≡ f i
numbers_at f n i h =
    let place : i ≡ i * 1 + 0 = omega arith in
    ap (slice_index (concat_up_to (λ j. f j ∷ []) n)) place ∙ joined_at (λ j. f j ∷ []) 1 n i 0 (λ i. refl) h (omega arith)

pub shown_shaped : (h : Header) (dpi : ℕ) (raster : List ℕ) → IsPageHeader h → IsDpi dpi → IsShaped (page_shown h dpi raster)
unfolding samples_shown
shown_shaped h dpi raster page dots = record {
  width_some = page.width_some;
  width_most = page.width_most;
  height_some = page.height_some;
  height_most = page.height_most;
  dpi_some = dots.0;
  dpi_most = dots.1;
  size = numbers_length (page_number h raster) (h.width * h.height * 3);
}

pub shown_tells : (text raster : List ℕ) (h : Header) (dpi : ℕ) → BeginsPage text h raster → IsRaster h raster → TellsPage text dpi (page_shown h dpi raster)
unfolding samples_shown
shown_tells text raster h dpi begins is =
    let are : ArePageSamples h raster (concat_up_to (λ j. page_number h raster j ∷ []) (h.width * h.height * 3)) = record {
      size = numbers_length (page_number h raster) (h.width * h.height * 3);
      each = numbers_at (page_number h raster) (h.width * h.height * 3);
    } in
    tells_page text h raster dpi (concat_up_to (λ j. page_number h raster j ∷ []) (h.width * h.height * 3)) begins is.size is.none_above are

-- ---- a row

source_row : (f : PnmFormat) (w x y k : ℕ) → IsPageFormat (Some f) → k < 3 → source f ((y * w + x) * 3 + k) ≡ y * (w * 1 * channels_of f) + source f (3 * x + k)
source_row Pbm w x y k is h = absurd is
source_row Pgm w x y k is h =
    let place : 3 * x + k ≡ x * 3 + k = omega arith in
    let at : source Pgm (3 * x + k) ≡ x = ap (λ n. n / 3) place ∙ div-mul-add x 3 k h in
    let far : source Pgm ((y * w + x) * 3 + k) ≡ y * w + x = div-mul-add (y * w + x) 3 k h in
    omega arith
source_row Ppm w x y k is h = omega arith

source_inside : (f : PnmFormat) (w x k : ℕ) → IsPageFormat (Some f) → x < w → k < 3 → source f (3 * x + k) < w * 1 * channels_of f
source_inside Pbm w x k is a h = absurd is
source_inside Pgm w x k is a h =
    let place : 3 * x + k ≡ x * 3 + k = omega arith in
    let at : source Pgm (3 * x + k) ≡ x = ap (λ n. n / 3) place ∙ div-mul-add x 3 k h in
    omega arith
source_inside Ppm w x k is a h = omega arith

pub shown_row : (h : Header) (dpi y : ℕ) (raster bytes more row : List ℕ) → IsPageHeader h → y < h.height → drop (y * file_row_size h) raster ≡ bytes ++ more → length bytes ≡ file_row_size h → ShowsRow h bytes row → IsRow (page_shown h dpi raster) y row
unfolding samples_shown
shown_row h dpi y raster bytes more row page less e size shows = record {
  each = λ x k column channel.
      let j = 3 * x + k in
      let far = (y * h.width + x) * 3 + k in
      let inside : far < h.width * h.height * 3 = let place = mul-add-lt y h.width x h.height less column in omega arith in
      let count = row_size-count h page.format in
      let number : number_in h.maxval raster (source h.format far) ≡ number_in h.maxval bytes (source h.format j) =
      ap (number_in h.maxval raster) (source_row h.format h.width x y k page.format channel)
      ∙ number_in_row h.maxval y (row_count h) (y * file_row_size h) (source h.format j) raster bytes more e (ap (λ n. y * n) count) (size ∙ count) (source_inside h.format h.width x k page.format column channel) in
      shows.each j (omega arith) ∙ ap (λ n. n * 65535 / h.maxval) (sym number) ∙ sym (numbers_at (page_number h raster) (h.width * h.height * 3) far inside);
}

-- the number of a place's sample
number_of : (mode : Mode) (h : Header) (bytes : List ℕ) (first x k : ℕ) → HasSamplesOf mode h → k < 3 → page_number h bytes (3 * (first + x) + k) ≡ number_in h.maxval bytes (byte_place mode first 0 + byte_place mode x k) * 65535 / h.maxval
number_of Gray h bytes first x k own less =
    let place : 3 * (first + x) + k ≡ (first + x) * 3 + k = omega arith in
    let at : (3 * (first + x) + k) / 3 ≡ first + x = ap (λ n. n / 3) place ∙ div-mul-add (first + x) 3 k less in
    ap (λ (f : PnmFormat). number_in h.maxval bytes (source f (3 * (first + x) + k)) * 65535 / h.maxval) own
    ∙ ap (λ i. number_in h.maxval bytes i * 65535 / h.maxval) at
number_of Color h bytes first x k own less =
    let place : 3 * (first + x) + k ≡ 3 * first + 0 + (3 * x + k) = omega arith in
    ap (λ (f : PnmFormat). number_in h.maxval bytes (source f (3 * (first + x) + k)) * 65535 / h.maxval) own
    ∙ ap (λ i. number_in h.maxval bytes i * 65535 / h.maxval) place

-- a place whose byte is among those that end within the row is one of the page
byte_column : (mode : Mode) (width first count x k : ℕ) → byte_place mode first 0 + count ≤ byte_place mode width 0 → byte_place mode x k < count → first + x < width
byte_column Gray width first count x k room less = omega arith
byte_column Color width first count x k room less = omega arith

pub shown_bytes : (h : Header) (dpi y : ℕ) (mode : Mode) (first : ℕ) (raster bytes more part : List ℕ) → IsPageHeader h → y < h.height → drop (y * file_row_size h) raster ≡ bytes ++ more → length bytes ≡ file_row_size h → HasSamplesOf mode h → byte_place mode first 0 + length part ≤ byte_place mode h.width 0
    → ((i : ℕ) → i < length part → slice_index part i ≡ number_in h.maxval bytes (byte_place mode first 0 + i) * 65535 / h.maxval / 256)
    → (x k : ℕ) → k < 3 → byte_place mode x k < length part → slice_index part (byte_place mode x k) ≡ page_sample_at (page_shown h dpi raster) (first + x) y k / 256
shown_bytes h dpi y mode first raster bytes more part page less e size own room same x k channel inside =
    let row = concat_up_to (λ j. page_number h bytes j ∷ []) (3 * h.width) in
    let shows : ShowsRow h bytes row = record { each = numbers_at (page_number h bytes) (3 * h.width) } in
    let column = byte_column mode h.width first (length part) x k room inside in
    let is = shown_row h dpi y raster bytes more row page less e size shows in
    same (byte_place mode x k) inside
    ∙ ap (λ v. v / 256) (sym (number_of mode h bytes first x k own channel)
    ∙ (sym (numbers_at (page_number h bytes) (3 * h.width) (3 * (first + x) + k) (omega arith))
    ∙ is.each (first + x) k column channel))

-- ---- the bytes of one channel

-- a sample of a row in color, by the number that the file has for it
sample_shown : (h : Header) (dpi y first x k : ℕ) (raster bytes more : List ℕ) → IsPageHeader h → h.format ≡ Ppm → y < h.height → drop (y * file_row_size h) raster ≡ bytes ++ more → length bytes ≡ file_row_size h → first + x < h.width → k < 3
    → page_sample_at (page_shown h dpi raster) (first + x) y k ≡ number_in h.maxval bytes (3 * first + k + 3 * x) * 65535 / h.maxval
sample_shown h dpi y first x k raster bytes more page ppm less e size column channel =
    let row = concat_up_to (λ j. page_number h bytes j ∷ []) (3 * h.width) in
    let shows : ShowsRow h bytes row = record { each = numbers_at (page_number h bytes) (3 * h.width) } in
    let is = shown_row h dpi y raster bytes more row page less e size shows in
    let place : 3 * first + 0 + (3 * x + k) ≡ 3 * first + k + 3 * x = omega arith in
    sym (is.each (first + x) k column channel)
    ∙ (numbers_at (page_number h bytes) (3 * h.width) (3 * (first + x) + k) (omega arith)
    ∙ (number_of Color h bytes first x k ppm channel ∙ ap (λ i. number_in h.maxval bytes i * 65535 / h.maxval) place))

-- the upper byte of a sample whose number is that byte
upper_of_byte : (b : ℕ) → b < 256 → b ≡ b * 65535 / 255 / 256
upper_of_byte b small = omega (arith, small)

-- the bytes of a sample whose number has these two
both_of_word : (p q j : ℕ) → p < 256 → q < 256 → (if j % 2 == 0 then p else q) ≡ (if j % 2 == 0 then (256 * p + q) * 65535 / 65535 / 256 else (256 * p + q) * 65535 / 65535 % 256)
both_of_word p q j small few =
    elim (j % 2 == 0) as (λ t. (if t then p else q) ≡ (if t then (256 * p + q) * 65535 / 65535 / 256 else (256 * p + q) * 65535 / 65535 % 256)) [
      | true ↦ omega (arith, small, few)
      | false ↦ omega (arith, small, few)
    ]

pub shown_thirds : (h : Header) (dpi y : ℕ) (which : SampleBytes) (channel first : ℕ) (raster bytes more part : List ℕ) → IsPageHeader h → y < h.height → drop (y * file_row_size h) raster ≡ bytes ++ more → length bytes ≡ file_row_size h → HasChannels which h → channel < 3
    → length part % bytes_in which ≡ 0 → bytes_in which * first + length part ≤ bytes_in which * h.width → ((i : ℕ) → slice_index part i < 256)
    → ((j : ℕ) → j < length part → slice_index part j ≡ third_byte h.maxval bytes (3 * first + channel) j)
    → (j : ℕ) → j < length part → slice_index part j ≡ sample_byte which (λ x. page_sample_at (page_shown h dpi raster) (first + x) y channel) j
shown_thirds h dpi y Upper channel first raster bytes more part page less e size own few whole room small same j inside =
    let at = 3 * first + channel in
    let one : slice_index part j ≡ slice_index bytes (at + 3 * j) = same j inside ∙ ap (λ m. third_byte m bytes at j) own.1 in
    let b = slice_index part j in
    let sample = sample_shown h dpi y first j channel raster bytes more page own.0 less e size (omega (arith, room, inside)) few in
    upper_of_byte b (small j)
    ∙ ap (λ v. v / 256) (ap (λ v. v * 65535 / 255) one ∙ (ap (λ m. number_in m bytes (at + 3 * j) * 65535 / m) (sym own.1) ∙ sym sample))
shown_thirds h dpi y Both channel first raster bytes more part page less e size own few whole room small same j inside =
    let at = 3 * first + channel in
    let x = j / 2 in
    let i = at + 3 * x in
    let p = slice_index part (2 * x) in
    let q = slice_index part (2 * x + 1) in
    let ends : 2 * x + 1 < length part = omega (arith, whole, inside) in
    let begins : 2 * x < length part = omega (arith, ends) in
    let upper : p ≡ slice_index bytes (2 * i) =
    let first_half : 2 * at + 6 * (2 * x / 2) + 2 * x % 2 ≡ 2 * i = omega arith in
    same (2 * x) begins ∙ (ap (λ m. third_byte m bytes at (2 * x)) own.1 ∙ ap (slice_index bytes) first_half) in
    let lower : q ≡ slice_index bytes (2 * i + 1) =
    let second_half : 2 * at + 6 * ((2 * x + 1) / 2) + (2 * x + 1) % 2 ≡ 2 * i + 1 = omega arith in
    same (2 * x + 1) ends ∙ (ap (λ m. third_byte m bytes at (2 * x + 1)) own.1 ∙ ap (slice_index bytes) second_half) in
    let number : (256 * p + q) * 65535 / 65535 ≡ page_sample_at (page_shown h dpi raster) (first + x) y channel =
    ap (λ v. v * 65535 / 65535) (ap (λ v. 256 * v + q) upper ∙ ap (λ v. 256 * slice_index bytes (2 * i) + v) lower)
    ∙ (ap (λ m. number_in m bytes i * 65535 / m) (sym own.1)
    ∙ sym (sample_shown h dpi y first x channel raster bytes more page own.0 less e size (omega (arith, room, begins)) few)) in
    own_byte part j
    ∙ (both_of_word p q j (small (2 * x)) (small (2 * x + 1))
    ∙ ap (λ v. if j % 2 == 0 then v / 256 else v % 256) number)
  where
    own_byte : (part : List ℕ) (j : ℕ) → slice_index part j ≡ (if j % 2 == 0 then slice_index part (2 * (j / 2)) else slice_index part (2 * (j / 2) + 1))
    own_byte part j =
        elim (j % 2 == 0) as (λ t. (j % 2 == 0) ≡ t → slice_index part j ≡ (if t then slice_index part (2 * (j / 2)) else slice_index part (2 * (j / 2) + 1))) [
          | true ↦ λ is.
              let even : j % 2 ≡ 0 = grind (arith, nat_tests, is) in
              let place : j ≡ 2 * (j / 2) = omega (arith, even) in
              ap (slice_index part) place
          | false ↦ λ is.
              let odd : j % 2 ≢ 0 = grind (arith, nat_tests, is) in
              let place : j ≡ 2 * (j / 2) + 1 = omega (arith, odd) in
              ap (slice_index part) place
        ] refl

-- the next row begins where the one before ended
pub rest_after_row : (given size : ℕ) (raster bytes more : List ℕ) → drop (given * size) raster ≡ bytes ++ more → length bytes ≡ size → more ≡ drop ((given + 1) * size) raster
rest_after_row given size raster bytes more e h =
    let place : given * size + size ≡ (given + 1) * size = omega arith in
    sym (drop-row (given * size) size raster bytes more e h) ∙ ap (λ n. drop n raster) place

-- a buffer that was filled in a vector of that length
pub put_back : (n : ℕ) (xs new : List ℕ) → length xs ≡ n → length new ≡ length xs → take n (new ++ drop (length new) xs) ≡ new
put_back n xs new size same =
    let all : n ≡ length new = omega arith in
    ap (λ k. take k (new ++ drop (length new) xs)) all ∙ take-append_seam new (drop (length new) xs)

-- ---- faults

pub header_fault : (fault : OpenFault) (text : List ℕ) (dpi : ℕ) → IsDpi dpi → HasHeaderFault fault text → HasOpenFault fault text dpi
header_fault (Page BadMagic) text dpi dots h = (dots, h)
header_fault (Page BadHeader) text dpi dots h = (dots, h.0, h.1)
header_fault (Page BadDpi) text dpi dots h = absurd h
header_fault (Page Short) text dpi dots h = absurd h
header_fault (Page Trailing) text dpi dots h = absurd h
header_fault (Page SampleTooLarge) text dpi dots h = absurd h
header_fault (Page NoMem) text dpi dots h = absurd h
header_fault Device text dpi dots h = tt

pub raster_fault : (fault : OpenFault) (text raster : List ℕ) (h : Header) (dpi : ℕ) → IsDpi dpi → BeginsPage text h raster → HasOpenFaultAfter fault h raster → HasOpenFault fault text dpi
raster_fault (Page Short) text raster h dpi dots begins has = (dots, (h, raster, begins, has))
raster_fault (Page Trailing) text raster h dpi dots begins has = (dots, (h, raster, begins, has))
raster_fault (Page SampleTooLarge) text raster h dpi dots begins has = (dots, (h, raster, begins, has.0, has.1))
raster_fault (Page NoMem) text raster h dpi dots begins has = record { dots = dots; header = h; raster = raster; begins = begins; size = has.size; none_above = has.none_above }
raster_fault (Page BadDpi) text raster h dpi dots begins has = absurd has
raster_fault (Page BadMagic) text raster h dpi dots begins has = absurd has
raster_fault (Page BadHeader) text raster h dpi dots begins has = absurd has
raster_fault Device text raster h dpi dots begins has = tt

-- ---- a page that was opened

pub opened : (text after rest : List ℕ) (h : Header) (dpi at : ℕ) → BeginsPage text h rest → drop at after ≡ rest → IsRaster h (drop at after) → TellsPage text dpi (page_shown h dpi (drop at after))
opened text after rest h dpi at begins same is =
    shown_tells text (drop at after) h dpi (subst (BeginsPage text h) (sym same) begins) is

pub from_first : (size : ℕ) (left raster : List ℕ) → left ≡ raster → left ≡ drop (0 * size) raster
from_first size left raster e = let none : 0 ≡ 0 * size = omega arith in e ∙ ap (λ n. drop n raster) none

-- ---- its samples

source_counted : (f : PnmFormat) (w h j : ℕ) → IsPageFormat (Some f) → j < w * h * 3 → source f j < w * h * channels_of f
source_counted Pbm w h j is less = absurd is
source_counted Pgm w h j is less = let n = w * h in omega arith
source_counted Ppm w h j is less = less

scaled_limit : (maxval v : ℕ) → 1 ≤ maxval → v ≤ maxval → v * 65535 / maxval < 2 ^ 16
scaled_limit maxval v some most =
    let within : v * 65535 / maxval ≤ 65535 = div-le_of_le-mul maxval (omega arith) in
    omega arith

-- a raster without a number above its greatest shows a page
pub shown_sheet : (h : Header) (dpi : ℕ) (raster : List ℕ) → IsPageHeader h → IsDpi dpi → IsRaster h raster → IsPageView (page_shown h dpi raster)
unfolding samples_shown
shown_sheet h dpi raster page dots is = record {
  shape = shown_shaped h dpi raster page dots;
  sixteen_bits = λ i.
      let n = h.width * h.height * 3 in
      elim (cases_lt i n) [
        | inl less ↦ rw (numbers_at (page_number h raster) n i less) (scaled_limit h.maxval _ page.maxval_some (is.none_above (source h.format i) (source_counted h.format h.width h.height i page.format less)))
        | inr past ↦ rw (get_or_past (concat_up_to (λ j. page_number h raster j ∷ []) n) i 0 (omega (arith, numbers_length (page_number h raster) n, past))) (omega arith)
      ];
}
