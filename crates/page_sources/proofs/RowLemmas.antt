-- Rows of a raster: reading them one by one agrees with the whole raster.
use Rattle.std.proofs.Common.{append_assoc, le_refl, ◌≡◌, ℕ, ◌+◌, ◌-◌, ◌*◌, ◌/◌, ◌<◌, ◌≤◌, ◌⊎◌, inl, inr, List, ◌++◌, arith, length, take, drop, slice_range, get_or, sym, ap, ◌∙◌, subst, refl, length-take-le, take-append-drop, length-append, Bool, true, false, cond, suc}
use Rattle.std.specs.Prelude.{slice_index, nat_lt, ◌&&◌, MatchBool, IfErr, Result, Ok, Err}
use Rattle.std.proofs.Math.Seq.{take-add, take-append_seam, drop-append_seam}
use Rattle.std.proofs.lemmas.List.{drop-drop, length-drop, get_or-drop, get_or_append_left}
use Rattle.std.proofs.Math.ListN.{drop_of_length-le}
use Rattle.std.proofs.Math.Nat.{mul-le-mul_right, mul-le-mul_left}
use Rattle.std.proofs.lemmas.Bool.Decides.{nat_tests}
use Rattle.std.specs.Prelude.{Some}
use Rattle.netpbm.specs.declared.format.PnmFormat.{PnmFormat}
use Rattle.netpbm.specs.declared.format.PnmFormat.TheVariants.{Pbm, Pgm, Ppm}
use Rattle.netpbm.specs.declared.format.Header.{Header}
use Rattle.netpbm.specs.Pnm.{number_in, sample_bytes, raster_length, channels_of}
use Rattle.netpbm.specs.Raster.{NoneAbove, SomeAbove, raster_size, sample_count}
use Rattle.page_sources.specs.declared.open_fault.OpenFault.{OpenFault}
use Rattle.page_sources.specs.declared.open_fault.OpenFault.TheVariants.{Device}
use Rattle.page_sources.specs.PageFile.{IsPageFormat}
use Rattle.page_sources.specs.Inside.{file_row_size, row_count, GivesPartOf, HasRows, IsPageHeader, IsRaster, ReadsRaster, unused_bytes, GivesThirdsOf, third_byte}

-- what holds wherever the fault is the reader's
pub of_device : {A : Type 0} (r : Result A OpenFault) (X : Type 0) → X → IfErr r (λ fault. fault ≡ Device → X)
of_device (Ok _) X h = tt
of_device (Err fault) X h = λ _. h

-- ---- a piece that was read into a buffer

pub take_split : (a b : ℕ) (old new : List ℕ) → a ≤ b → take a new ≡ take a old → take a old ++ slice_range new a b ≡ take b new
take_split a b old new h front =
    let same : a + (b - a) ≡ b = omega arith in
    ap (λ l. l ++ slice_range new a b) (sym front) ∙ sym (take-add a (b - a) new) ∙ ap (λ n. take n new) same

-- ---- the rows that are held

pub unused_none : (size : ℕ) (room left : List ℕ) → unused_bytes size 0 room left ≡ left
unused_none size room left =
    let place : length room - 0 * size ≡ length room = omega arith in
    ap (λ n. drop n room ++ left) place ∙ ap (λ l. l ++ left) (drop_of_length-le room (le_refl (length room)))

-- the first of them, and the others
pub unused_next : (size held next from : ℕ) (room left : List ℕ) → held ≡ next + 1 → held * size ≤ length room → from ≡ length room - held * size → unused_bytes size held room left ≡ slice_range room from (from + size) ++ unused_bytes size next room left
unused_next size held next from room left e within at =
    let all : held * size ≡ next * size + size = ap (λ k. k * size) e ∙ omega arith in
    let place : from + size ≡ length room - next * size = omega arith in
    let same : (from + size) - from ≡ size = omega arith in
    let row = take size (drop from room) in
    let rest = drop (length room - next * size) room in
    let cut : drop from room ≡ row ++ rest = sym (take-append-drop size (drop from room)) ∙ ap (λ l. row ++ l) (drop-drop size from room ∙ ap (λ n. drop n room) place) in
    ap (λ n. drop n room ++ left) (sym at) ∙ ap (λ l. l ++ left) cut ∙ append_assoc row rest left ∙ ap (λ n. take n (drop from room) ++ (rest ++ left)) (sym same)

pub unused_zero : (size held : ℕ) (room left : List ℕ) → held ≡ 0 → unused_bytes size held room left ≡ left
unused_zero size held room left e = ap (λ k. unused_bytes size k room left) e ∙ unused_none size room left

-- what is not used yet stays the same while rows are read into the room, and then begins with the row that is taken
pub row_taken : (h : Header) (size held0 held1 next : ℕ) (room0 room1 left0 left1 : List ℕ) → size ≡ file_row_size h → unused_bytes size held0 room0 left0 ≡ unused_bytes size held1 room1 left1 → held1 ≡ next + 1 → held1 * size ≤ length room1 → unused_bytes (file_row_size h) held0 room0 left0 ≡ slice_range room1 (length room1 - held1 * size) (length room1 - held1 * size + size) ++ unused_bytes (file_row_size h) next room1 left1
row_taken h size held0 held1 next room0 room1 left0 left1 same e one within =
    let from = length room1 - held1 * size in
    subst (λ s. unused_bytes s held0 room0 left0 ≡ slice_range room1 from (from + size) ++ unused_bytes s next room1 left1) same (e ∙ unused_next size held1 next from room1 left1 one within refl)

pub length-row_taken : (size held next : ℕ) (room : List ℕ) → held ≡ next + 1 → held * size ≤ length room → length (slice_range room (length room - held * size) (length room - held * size + size)) ≡ size
length-row_taken size held next room e within =
    let from = length room - held * size in
    let all : held * size ≡ next * size + size = ap (λ k. k * size) e ∙ omega arith in
    let same : (from + size) - from ≡ size = omega arith in
    let rest = length-drop from room in
    let fits : (from + size) - from ≤ length (drop from room) = omega arith in
    length-take-le ((from + size) - from) (drop from room) fits ∙ same

pub length-row_at : (size from : ℕ) (room : List ℕ) → from + size ≤ length room → length (slice_range room from (from + size)) ≡ size
length-row_at size from room within =
    let same : (from + size) - from ≡ size = omega arith in
    let rest = length-drop from room in
    let fits : (from + size) - from ≤ length (drop from room) = omega arith in
    length-take-le ((from + size) - from) (drop from room) fits ∙ same

-- ---- one row on

pub drop-row : (at size : ℕ) (raster bytes more : List ℕ) → drop at raster ≡ bytes ++ more → length bytes ≡ size → drop (at + size) raster ≡ more
drop-row at size raster bytes more e h =
    sym (drop-drop size at raster) ∙ ap (drop size) e ∙ ap (λ n. drop n (bytes ++ more)) (sym h) ∙ drop-append_seam bytes more

-- a byte of the row stands in the raster at the row's place
row_byte : (at : ℕ) (raster bytes more : List ℕ) (j : ℕ) → drop at raster ≡ bytes ++ more → j < length bytes → slice_index raster (at + j) ≡ slice_index bytes j
row_byte at raster bytes more j e h =
    sym (get_or-drop at raster j 0) ∙ ap (λ l. get_or l j 0) e ∙ get_or_append_left bytes more 0 j h

pub number_in_row : (m y n at i : ℕ) (raster bytes more : List ℕ) → drop at raster ≡ bytes ++ more → at ≡ y * (n * sample_bytes m) → length bytes ≡ n * sample_bytes m → i < n → number_in m raster (y * n + i) ≡ number_in m bytes i
number_in_row m y n at i raster bytes more e place size inside =
    let P : Bool → Type 0 = λ t. at ≡ y * (n * cond t 1 2) → length bytes ≡ n * cond t 1 2 →
    cond t (slice_index raster (y * n + i)) (256 * slice_index raster (2 * (y * n + i)) + slice_index raster (2 * (y * n + i) + 1))
    ≡ cond t (slice_index bytes i) (256 * slice_index bytes (2 * i) + slice_index bytes (2 * i + 1)) in
    elim (nat_lt m 256) as P [
      | true ↦ λ one count.
          let same : y * n + i ≡ at + i = omega arith in
          ap (slice_index raster) same ∙ row_byte at raster bytes more i e (omega arith)
      | false ↦ λ two count.
          let high : 2 * (y * n + i) ≡ at + 2 * i = omega arith in
          let low : 2 * (y * n + i) + 1 ≡ at + (2 * i + 1) = omega arith in
          ap (λ v. 256 * v + slice_index raster (2 * (y * n + i) + 1)) (ap (slice_index raster) high ∙ row_byte at raster bytes more (2 * i) e (omega arith))
          ∙ ap (λ v. 256 * slice_index bytes (2 * i) + v) (ap (slice_index raster) low ∙ row_byte at raster bytes more (2 * i + 1) e (omega arith))
    ] place size

lt_or_ge : (a b : ℕ) → (a < b) ⊎ (b ≤ a)
lt_or_ge a b =
    let P : Bool → Type 0 = λ t. nat_lt a b ≡ t → (a < b) ⊎ (b ≤ a) in
    elim (nat_lt a b) as P [ true ↦ λ e. inl (grind (arith, nat_tests)) | false ↦ λ e. inr (grind (arith, nat_tests)) ] refl

pub none_more : (m y n at : ℕ) (raster bytes more : List ℕ) → drop at raster ≡ bytes ++ more → at ≡ y * (n * sample_bytes m) → length bytes ≡ n * sample_bytes m → NoneAbove m raster (y * n) → NoneAbove m bytes n → NoneAbove m raster ((y + 1) * n)
none_more m y n at raster bytes more e place size before here = λ i h.
    elim (lt_or_ge i (y * n)) as (λ _. number_in m raster i ≤ m) [
      | inl low ↦ before i low
      | inr high ↦
          let same : y * n + (i - y * n) ≡ i = omega arith in
          let inside : i - y * n < n = omega arith in
          subst (λ j. number_in m raster j ≤ m) same (rw (number_in_row m y n at (i - y * n) raster bytes more e place size inside) (here (i - y * n) inside))
    ]

pub some_before : (m y n : ℕ) (raster : List ℕ) → SomeAbove m raster (y * n) → SomeAbove m raster ((y + 1) * n)
some_before m y n raster (i, inside, above) = (i, omega arith, above)

pub some_here : (m y n at : ℕ) (raster bytes more : List ℕ) → drop at raster ≡ bytes ++ more → at ≡ y * (n * sample_bytes m) → length bytes ≡ n * sample_bytes m → SomeAbove m bytes n → SomeAbove m raster ((y + 1) * n)
some_here m y n at raster bytes more e place size (i, inside, above) =
    (y * n + i, omega arith, rw (number_in_row m y n at i raster bytes more e place size inside) above)

-- ---- the whole raster

pub row_size-count : (h : Header) → IsPageFormat (Some h.format) → file_row_size h ≡ row_count h * sample_bytes h.maxval
row_size-count h is = by_format h.format h.width h.maxval is
  where
    by_format : (f : PnmFormat) (w m : ℕ) → IsPageFormat (Some f) → raster_length f w 1 m ≡ w * 1 * channels_of f * sample_bytes m
    by_format Pbm w m is = absurd is
    by_format Pgm w m is = omega arith
    by_format Ppm w m is = refl

pub row_size-most : (h : Header) → IsPageFormat (Some h.format) → h.width ≤ 16384 → file_row_size h ≤ 98304
row_size-most h is most = by_format h.format h.width h.maxval is most
  where
    bytes : (m : ℕ) → sample_bytes m ≤ 2
    bytes m = elim (nat_lt m 256) as (λ t. cond t 1 2 ≤ 2) [ true ↦ omega arith | false ↦ omega arith ]

    product : (n b : ℕ) → b ≤ 2 → n * b ≤ n * 2
    product n b h = mul-le-mul_left n h

    by_format : (f : PnmFormat) (w m : ℕ) → IsPageFormat (Some f) → w ≤ 16384 → raster_length f w 1 m ≤ 98304
    by_format Pbm w m is most = absurd is
    by_format Pgm w m is most = let two = product (w * 1) (sample_bytes m) (bytes m) in omega arith
    by_format Ppm w m is most = let two = product (w * 1 * 3) (sample_bytes m) (bytes m) in omega arith

pub raster_size-rows : (h : Header) → IsPageFormat (Some h.format) → raster_size h ≡ h.height * file_row_size h
raster_size-rows h is = by_format h.format h.width h.height h.maxval is
  where
    by_format : (f : PnmFormat) (w y m : ℕ) → IsPageFormat (Some f) → raster_length f w y m ≡ y * raster_length f w 1 m
    by_format Pbm w y m is = absurd is
    by_format Pgm w y m is = omega arith
    by_format Ppm w y m is = omega arith

pub sample_count-rows : (h : Header) → sample_count h ≡ h.height * row_count h
sample_count-rows h = omega arith

-- y rows of the raster were read, and the others are left
pub record RowsRead (h : Header) (raster left : List ℕ) (y : ℕ) : Type 0 where
  pub page : IsPageFormat (Some h.format)
  pub left_is : left ≡ drop (y * file_row_size h) raster
  pub within : y * file_row_size h ≤ length raster

-- the bytes that are left, and those of the rows
pub rows_left : (h : Header) (raster left : List ℕ) (y : ℕ) → RowsRead h raster left y → length left + y * file_row_size h ≡ length raster
rows_left h raster left y r = let size = length-drop (y * file_row_size h) raster in let same = ap length r.left_is in let low = r.within in omega arith

pub rows_short : (h : Header) (raster left : List ℕ) (y rows : ℕ) → RowsRead h raster left y → rows + y ≡ h.height → length left < rows * file_row_size h → length raster < raster_size h
rows_short h raster left y rows r all short =
    let both : (rows + y) * file_row_size h ≡ h.height * file_row_size h = ap (λ k. k * file_row_size h) all in
    omega (arith, rows_left h raster left y r, raster_size-rows h r.page)

pub rows_next : (h : Header) (raster left bytes more : List ℕ) (y : ℕ) → RowsRead h raster left y → left ≡ bytes ++ more → length bytes ≡ file_row_size h → RowsRead h raster more (y + 1)
rows_next h raster left bytes more y r e size =
    let place : y * file_row_size h + file_row_size h ≡ (y + 1) * file_row_size h = omega arith in
    record {
      page = r.page;
      left_is = sym (drop-row (y * file_row_size h) (file_row_size h) raster bytes more (sym r.left_is ∙ e) size) ∙ ap (λ k. drop k raster) place;
      within = let all = rows_left h raster left y r in let both = ap length e ∙ length-append bytes more in omega arith;
    }

row_place : (h : Header) (y : ℕ) → IsPageFormat (Some h.format) → y * file_row_size h ≡ y * (row_count h * sample_bytes h.maxval)
row_place h y is = ap (λ k. y * k) (row_size-count h is)

pub none_step : (h : Header) (raster left bytes more : List ℕ) (y : ℕ) (fit fits : Bool) → RowsRead h raster left y → left ≡ bytes ++ more → length bytes ≡ file_row_size h → (fit ≡ true → NoneAbove h.maxval raster (y * row_count h)) → MatchBool fits (NoneAbove h.maxval bytes (row_count h)) (SomeAbove h.maxval bytes (row_count h)) → (fit && fits) ≡ true → NoneAbove h.maxval raster ((y + 1) * row_count h)
none_step h raster left bytes more y true true r e size before here both =
    none_more h.maxval y (row_count h) (y * file_row_size h) raster bytes more (sym r.left_is ∙ e) (row_place h y r.page) (size ∙ row_size-count h r.page) (before refl) here
none_step h raster left bytes more y true false r e size before here both = cc both
none_step h raster left bytes more y false fits r e size before here both = cc both

pub some_step : (h : Header) (raster left bytes more : List ℕ) (y : ℕ) (fit fits : Bool) → RowsRead h raster left y → left ≡ bytes ++ more → length bytes ≡ file_row_size h → (fit ≡ false → SomeAbove h.maxval raster (y * row_count h)) → MatchBool fits (NoneAbove h.maxval bytes (row_count h)) (SomeAbove h.maxval bytes (row_count h)) → (fit && fits) ≡ false → SomeAbove h.maxval raster ((y + 1) * row_count h)
some_step h raster left bytes more y true true r e size before here both = cc both
some_step h raster left bytes more y true false r e size before here both =
    some_here h.maxval y (row_count h) (y * file_row_size h) raster bytes more (sym r.left_is ∙ e) (row_place h y r.page) (size ∙ row_size-count h r.page) here
some_step h raster left bytes more y false fits r e size before here both = some_before h.maxval y (row_count h) raster (before refl)

pub rows_all : (h : Header) (raster left : List ℕ) (y : ℕ) → RowsRead h raster left y → y ≡ h.height → ReadsRaster h raster left
rows_all h raster left y r all =
    let size : y * file_row_size h ≡ raster_size h = ap (λ k. k * file_row_size h) all ∙ sym (raster_size-rows h r.page) in
    let within = r.within in
    record { size = omega arith; left_is = r.left_is ∙ ap (λ k. drop k raster) size }

pub rows_fit : (h : Header) (raster : List ℕ) (y : ℕ) (fit : Bool) → y ≡ h.height → (fit ≡ true → NoneAbove h.maxval raster (y * row_count h)) → (fit ≡ false → SomeAbove h.maxval raster (y * row_count h)) → MatchBool fit (NoneAbove h.maxval raster (sample_count h)) (SomeAbove h.maxval raster (sample_count h))
rows_fit h raster y fit all none some =
    let count : y * row_count h ≡ sample_count h = ap (λ k. k * row_count h) all ∙ sym (sample_count-rows h) in
    by_fit fit none some count
  where
    by_fit : (fit : Bool) → (fit ≡ true → NoneAbove h.maxval raster (y * row_count h)) → (fit ≡ false → SomeAbove h.maxval raster (y * row_count h)) → y * row_count h ≡ sample_count h → MatchBool fit (NoneAbove h.maxval raster (sample_count h)) (SomeAbove h.maxval raster (sample_count h))
    by_fit true none some count = subst (NoneAbove h.maxval raster) count (none refl)
    by_fit false none some count = subst (SomeAbove h.maxval raster) count (some refl)

-- a row that stands at the front is the one that is read, and no number of it is above the greatest
pub row_fits : (h : Header) (rows : ℕ) (left bytes more : List ℕ) → HasRows h rows left → left ≡ bytes ++ more → length bytes ≡ file_row_size h → SomeAbove h.maxval bytes (row_count h) → ⊥
row_fits h rows left bytes more row e size (i, inside, above) =
    let front : take (file_row_size h) left ≡ bytes = ap (take (file_row_size h)) e ∙ ap (λ n. take n (bytes ++ more)) (sym size) ∙ take-append_seam bytes more in
    let below : number_in h.maxval bytes i ≤ h.maxval = subst (λ l. number_in h.maxval l i ≤ h.maxval) front (row.none_above i inside) in
    omega arith

-- the same, and these are upper bytes of its samples
pub gives_part : (h : Header) (at : ℕ) (left bytes more part : List ℕ) → left ≡ bytes ++ more → length bytes ≡ file_row_size h → ((i : ℕ) → i < length part → slice_index part i ≡ number_in h.maxval bytes (at + i) * 65535 / h.maxval / 256) → GivesPartOf h at left more part
gives_part h at left bytes more part e size each =
    let front : take (file_row_size h) left ≡ bytes = ap (take (file_row_size h)) e ∙ ap (λ n. take n (bytes ++ more)) (sym size) ∙ take-append_seam bytes more in
    record {
      size = let both = ap length e ∙ length-append bytes more in omega arith;
      after_is = sym (ap (drop (file_row_size h)) e ∙ ap (λ n. drop n (bytes ++ more)) (sym size) ∙ drop-append_seam bytes more);
      part_is = λ i less. each i less ∙ ap (λ row. number_in h.maxval row (at + i) * 65535 / h.maxval / 256) (sym front);
    }

-- the same, and these are the bytes of every third of its numbers
pub gives_thirds : (h : Header) (at : ℕ) (left bytes more part : List ℕ) → left ≡ bytes ++ more → length bytes ≡ file_row_size h → ((j : ℕ) → j < length part → slice_index part j ≡ third_byte h.maxval bytes at j) → GivesThirdsOf h at left more part
gives_thirds h at left bytes more part e size each =
    let front : take (file_row_size h) left ≡ bytes = ap (take (file_row_size h)) e ∙ ap (λ n. take n (bytes ++ more)) (sym size) ∙ take-append_seam bytes more in
    record {
      size = let both = ap length e ∙ length-append bytes more in omega arith;
      after_is = sym (ap (drop (file_row_size h)) e ∙ ap (λ n. drop n (bytes ++ more)) (sym size) ∙ drop-append_seam bytes more);
      part_is = λ j less. each j less ∙ ap (λ row. third_byte h.maxval row at j) (sym front);
    }

-- the next rows of a whole raster stand at the front of what is left
pub has_rows : (h : Header) (raster left : List ℕ) (y rows : ℕ) → IsPageHeader h → IsRaster h raster → y < h.height → rows ≡ h.height - y → left ≡ drop (y * file_row_size h) raster → HasRows h rows left
has_rows h raster left y rows page is less count_is e =
    let n = file_row_size h in
    let all : length raster ≡ h.height * n = is.size ∙ raster_size-rows h page.format in
    let rest : length left ≡ length raster - y * n = ap length e ∙ length-drop (y * n) raster in
    let up : suc y * n ≤ h.height * n = mul-le-mul_right n less in
    let within : n ≤ length left = omega arith in
    let narrow : h.height * n ≤ h.height * 98304 = mul-le-mul_left h.height (row_size-most h page.format page.width_most) in
    let low = page.height_most in
    let whole : drop (y * n) raster ≡ take n left ++ drop n left = sym e ∙ sym (take-append-drop n left) in
    let size : length (take n left) ≡ n = length-take-le n left within in
    let count = row_size-count h page.format in
    let both : (rows + y) * n ≡ h.height * n = ap (λ k. k * n) (omega arith) in
    record {
      size = omega arith;
      few = omega arith;
      none_above = λ i inside.
          let number = number_in_row h.maxval y (row_count h) (y * n) i raster (take n left) (drop n left) whole (row_place h y page.format) (size ∙ count) inside in
          let place : y * row_count h + i < sample_count h = rw (sample_count-rows h) (let up2 : suc y * row_count h ≤ h.height * row_count h = mul-le-mul_right (row_count h) less in omega arith) in
          subst (λ v. v ≤ h.maxval) number (is.none_above (y * row_count h + i) place);
    }
