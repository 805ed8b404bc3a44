-- What is given of a whole picture is the one file that is written for it.
use Rattle.std.specs.Prelude.{◌==◌, ◌<◌, nat_lt, if◌then◌else◌}
use Rattle.std.proofs.Common.{◌≡◌, ◌∙◌, ◌⊎◌, inl, inr, ℕ, zero, suc, ◌+◌, ◌*◌, arith, List, [], ◌∷◌, ◌++◌, Bool, true, false, Option, Some, None, refl, sym, ap, subst}
use Rattle.std.proofs.lemmas.Bool.Decides.{nat_tests}
use Rattle.std.specs.Prelude.{slice_index}
use Rattle.netpbm.specs.declared.format.PnmFormat.{PnmFormat}
use Rattle.netpbm.specs.declared.format.PnmFormat.TheVariants.{Pbm, Pgm, Ppm}
use Rattle.netpbm.specs.declared.format.Header.{Header}
use Rattle.netpbm.specs.FileText.{binary, bits_byte, concat_up_to, file_text, header_text, row_text, sample_text, samples_text}
use Rattle.netpbm.specs.Picture.{Picture}
use Rattle.netpbm.specs.Pnm.{bit_row, channels_of}
use Rattle.sane_fixed.specs.declared.frame_format.FrameFormat.{FrameFormat}
use Rattle.sane_fixed.specs.declared.frame_format.FrameFormat.TheVariants.{Gray, Rgb, Red, Green, Blue}
use Rattle.sane_fixed.specs.declared.params.Params.{Params}
use Rattle.page_picture.specs.Meaning.{greatest_at}
use Rattle.page_picture.specs.Shows.{Frame, ShowsAlone, channels_alone, channels_within, frame_sample}
use Rattle.frame_join.specs.AloneFrame.{AloneParts, is_alone_format, lines_in}
use Rattle.frame_join.specs.FrameFile.{file_front, format_alone, header_alone}
use Rattle.frame_join.specs.PictureText.{IsPictureFile, picture_header, picture_text}
use Rattle.frame_join.proofs.FrameLaws.{denotes_shown, known_height, raster_of}
use Rattle.frame_join.proofs.FrameTextLaws.{front_by_parts}
use Rattle.frame_join.proofs.StreamLaws.{alone_channels, joined_same}

-- ---- rows of the same samples

samples_same : (c m w : ℕ) (a b : ℕ → ℕ → ℕ) → ((x k : ℕ) → x < w → k < c → a x k ≡ b x k) → samples_text c m w a ≡ samples_text c m w b
samples_same c m w a b same =
    joined_same (λ x. concat_up_to (λ k. sample_text m (a x k)) c) (λ x. concat_up_to (λ k. sample_text m (b x k)) c) w
    (λ x low. joined_same (λ k. sample_text m (a x k)) (λ k. sample_text m (b x k)) c (λ k few. ap (sample_text m) (same x k low few)))

binary_same : (f g : ℕ → ℕ) (n : ℕ) → ((j : ℕ) → f j ≡ g j) → binary f n ≡ binary g n
binary_same f g zero same = refl
binary_same f g (suc n) same = ap (λ (z : ℕ). 2 * z + f n) (binary_same f g n same) ∙ ap (λ (z : ℕ). 2 * binary g n + z) (same n)

bit_same : (b : Bool) (x y : ℕ) → (b ≡ true → x ≡ y) → (if b then x else 0) ≡ (if b then y else 0)
bit_same true x y same = same refl
bit_same false x y same = refl

bits_same : (w : ℕ) (f g : ℕ → ℕ) (n : ℕ) → ((x : ℕ) → x < w → f x ≡ g x) → bits_byte w f n ≡ bits_byte w g n
bits_same w f g n same =
    binary_same (λ j. if nat_lt (8 * n + j) w then f (8 * n + j) else 0) (λ j. if nat_lt (8 * n + j) w then g (8 * n + j) else 0) 8
    (λ j. bit_same (nat_lt (8 * n + j) w) (f (8 * n + j)) (g (8 * n + j)) (λ low. same (8 * n + j) (grind (arith, nat_tests))))

row_same : (g : PnmFormat) (m w : ℕ) (a b : ℕ → ℕ → ℕ) → ((x k : ℕ) → x < w → k < channels_of g → a x k ≡ b x k) → row_text g m w a ≡ row_text g m w b
row_same Pbm m w a b same =
    joined_same (λ n. bits_byte w (λ x. a x 0) n ∷ []) (λ n. bits_byte w (λ x. b x 0) n ∷ []) (bit_row w)
    (λ n _. ap (λ (byte : ℕ). byte ∷ []) (bits_same w (λ x. a x 0) (λ x. b x 0) n (λ x low. same x 0 low (omega arith))))
row_same Pgm m w a b same = samples_same 1 m w a b same
row_same Ppm m w a b same = samples_same 3 m w a b same

-- ---- the header

abbrev format_of : ℕ → ℕ → PnmFormat
format_of channels greatest = if channels == 3 then Ppm else (if greatest == 1 then Pbm else Pgm)

gray_format : (depth : ℕ) → (depth ≡ 1) ⊎ ((depth ≡ 8) ⊎ (depth ≡ 16)) → format_of 1 (greatest_at depth) ≡ format_alone Gray depth
gray_format depth (inl e) = rw e refl
gray_format depth (inr (inl e)) = rw e refl
gray_format depth (inr (inr e)) = rw e refl

format_is : (format : FrameFormat) (depth channels greatest : ℕ) → is_alone_format format ≡ true → (depth ≡ 1) ⊎ ((depth ≡ 8) ⊎ (depth ≡ 16)) → channels_alone format ≡ Some channels → greatest ≡ greatest_at depth → format_of channels greatest ≡ format_alone format depth
format_is Gray depth channels greatest alone depths are is =
    let one : channels ≡ 1 = (let both : Some 1 ≡ Some channels = are in cc) in
    ap (λ (c : ℕ). format_of c greatest) one ∙ (ap (λ (g : ℕ). format_of 1 g) is ∙ gray_format depth depths)
format_is Rgb depth channels greatest alone depths are is =
    let three : channels ≡ 3 = (let both : Some 3 ≡ Some channels = are in cc) in
    ap (λ (c : ℕ). format_of c greatest) three
format_is Red depth channels greatest alone depths are is = absurd (let clash : false ≡ true = alone in cc)
format_is Green depth channels greatest alone depths are is = absurd (let clash : false ≡ true = alone in cc)
format_is Blue depth channels greatest alone depths are is = absurd (let clash : false ≡ true = alone in cc)

header_same : (f g : PnmFormat) (w x h y m n : ℕ) → f ≡ g → w ≡ x → h ≡ y → m ≡ n → ◌≡◌ {A = Header} (record { format = f; width = w; height = h; maxval = m }) (record { format = g; width = x; height = y; maxval = n })
header_same f g w x h y m n a b c d = rw (a, b, c, d) refl

-- ---- the file

height_is : (f : Frame) (p : Picture) → AloneParts f.params → ShowsAlone f p → p.height ≡ lines_in f.params.lines
height_is f p parts shows = known_height f.params.lines p.height parts.lines_known shows.fits.height

header_is : (f : Frame) (p : Picture) → AloneParts f.params → ShowsAlone f p → picture_header p ≡ header_alone f.params
header_is f p parts shows =
    let format = format_is f.params.format f.params.depth p.channels p.greatest parts.format parts.shape.depths shows.channels shows.fits.greatest in
    header_same (format_of p.channels p.greatest) (format_alone f.params.format f.params.depth) p.width f.params.pixels_per_line p.height (lines_in f.params.lines) p.greatest (greatest_at f.params.depth) format shows.fits.width (height_is f p parts shows) shows.fits.greatest

rows_are : (f : Frame) (p : Picture) → AloneParts f.params → ShowsAlone f p → header_text (header_alone f.params) ++ concat_up_to (λ y. row_text (header_alone f.params).format (header_alone f.params).maxval (header_alone f.params).width (λ x k. frame_sample (channels_within f.params.format) f x y k)) (lines_in f.params.lines) ≡ file_text (header_alone f.params) p.at
rows_are f p parts shows =
    let h = header_alone f.params in
    let within : p.channels ≡ channels_within f.params.format = (let both : Some p.channels ≡ Some (channels_within f.params.format) = sym shows.channels ∙ alone_channels f.params.format parts.format in cc) in
    let count : channels_of h.format ≡ p.channels = (raster_of f (lines_in f.params.lines) p.channels parts shows.channels).channels in
    ap (λ (l : List ℕ). header_text h ++ l)
    (joined_same (λ y. row_text h.format h.maxval h.width (λ x k. frame_sample (channels_within f.params.format) f x y k)) (λ y. row_text h.format h.maxval h.width (λ x k. p.at x y k)) (lines_in f.params.lines)
    (λ y row. row_same h.format h.maxval h.width (λ x k. frame_sample (channels_within f.params.format) f x y k) (λ x k. p.at x y k)
    (λ x k column channel.
    ap (λ (c : ℕ). frame_sample c f x y k) (sym within)
    ∙ sym (shows.samples x y k (record {
      column = subst (λ (n : ℕ). x < n) (sym shows.fits.width) column;
      row = subst (λ (n : ℕ). y < n) (sym (height_is f p parts shows)) row;
      channel = subst (λ (n : ℕ). k < n) count channel;
    })))))

pub is_own : (f : Frame) (p : Picture) → AloneParts f.params → ((i : ℕ) → slice_index f.payload i < 256) → ShowsAlone f p → file_front f (lines_in f.params.lines) ≡ picture_text p
is_own f p parts small shows =
    front_by_parts f (lines_in f.params.lines) parts small
    ∙ (rows_are f p parts shows ∙ ap (λ (h : Header). file_text h p.at) (sym (header_is f p parts shows)))

-- what the frame shows, its file is that of
pub is_file : (f : Frame) (p : Picture) → AloneParts f.params → ((i : ℕ) → slice_index f.payload i < 256) → ShowsAlone f p → IsPictureFile (file_front f (lines_in f.params.lines)) p
is_file f p parts small shows = record { denotes = denotes_shown f p parts shows; own = is_own f p parts small shows }
