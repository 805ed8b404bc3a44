-- What is written of descriptors and parameters is a spelling of them, and what is refused has none.
use Rattle.std.proofs.Common.{◌≡◌, ◌≢◌, ℕ, zero, suc, ◌≤◌, ◌<◌, ◌^◌, Bool, true, false, ◌||◌, List, ◌++◌, length, Option, Some, None, refl, sym, ap, subst, ◌∙◌, arith, ◌⊎◌, inl, inr, eqb}
use Rattle.std.specs.Prelude.{nat_lt}
use Rattle.std.specs.Int.{w32, to_be_bytes}
use Rattle.std.proofs.lemmas.Bool.{cases_lt, lt-ltb, le-ltb, eqb-true, eq-eqb}
use Rattle.wire_format.specs.Format.{Format, after, map_format, places}
use Rattle.wire_format.specs.Writer.{WritesFormat, append_text}
use Rattle.sane_fixed.specs.Kind.{kind_code}
use Rattle.sane_fixed.specs.Unit.{unit_code}
use Rattle.sane_fixed.specs.FrameFormat.{frame_format_code}
use Rattle.sane_fixed.specs.declared.kind.Kind.{Kind}
use Rattle.sane_fixed.specs.declared.kind.Kind.TheVariants as kinds
use Rattle.sane_fixed.specs.declared.unit.Unit.{Unit as Measure}
use Rattle.sane_fixed.specs.declared.unit.Unit.TheVariants as units
use Rattle.sane_fixed.specs.declared.frame_format.FrameFormat.{FrameFormat}
use Rattle.sane_fixed.specs.declared.frame_format.FrameFormat.TheVariants as frames
use Rattle.sane_fixed.specs.declared.params.Params.{Params}
use Rattle.option_desc.specs.declared.descriptor.Constraint.{Constraint}
use Rattle.option_desc.specs.declared.descriptor.Descriptor.{Descriptor}
use Rattle.wire_message.specs.Message.{from_to, word, string, is_set, kind_at, unit_at, frame_at, lines_at, constraint, descriptor, next_descriptor, descriptors, params}
use Rattle.wire_writing.specs.RequestWriting.{write_any, write_string, code_text}
use Rattle.wire_writing.specs.ReplyWriting.{constraint_long, constraint_text, size_text, kind_text, write_descriptor, write_descriptors, flag_code, lines_text, params_text}
use Rattle.wire_writing.proofs.Spelled.{any-writes, any_short}
use Rattle.wire_writing.proofs.Devices.{string_at, length_spelled}
use Rattle.wire_writing.proofs.Options.{constraint_at}
use Rattle.wire_writing.proofs.AtValue.{At, at_value, by_value, same_at, nowhere, behind_front, behind_only, first_at, made_at, word_spelled, code_at_most, if_few, AllSpelled, places_all, counted_at}

pub any_at : (n : ℕ) → At word false (write_any.text n) n
any_at n = same_at word (write_any.long n) false (write_any.text n) (write_any.text n) n (at_value word write_any n (any-writes n)) (any_short n) refl

-- ---- codes

pub kind_number : (n : ℕ) → n ≤ 5 → kind_code (kind_at n) ≡ n
kind_number zero le = refl
kind_number (suc zero) le = refl
kind_number (suc (suc zero)) le = refl
kind_number (suc (suc (suc zero))) le = refl
kind_number (suc (suc (suc (suc zero)))) le = refl
kind_number (suc (suc (suc (suc (suc zero))))) le = refl
kind_number (suc (suc (suc (suc (suc (suc n)))))) le = absurd (omega (arith, le))

pub kind_again : (k : Kind) → (kind_at (kind_code k) ≡ k) × (kind_code k ≤ 5)
kind_again kinds.Bool = (refl, omega arith)
kind_again kinds.Int = (refl, omega arith)
kind_again kinds.Fixed = (refl, omega arith)
kind_again kinds.String = (refl, omega arith)
kind_again kinds.Button = (refl, omega arith)
kind_again kinds.Group = (refl, omega arith)

unit_number : (n : ℕ) → n ≤ 6 → unit_code (unit_at n) ≡ n
unit_number zero le = refl
unit_number (suc zero) le = refl
unit_number (suc (suc zero)) le = refl
unit_number (suc (suc (suc zero))) le = refl
unit_number (suc (suc (suc (suc zero)))) le = refl
unit_number (suc (suc (suc (suc (suc zero))))) le = refl
unit_number (suc (suc (suc (suc (suc (suc zero)))))) le = refl
unit_number (suc (suc (suc (suc (suc (suc (suc n))))))) le = absurd (omega (arith, le))

unit_again : (u : Measure) → (unit_at (unit_code u) ≡ u) × (unit_code u ≤ 6)
unit_again units.None = (refl, omega arith)
unit_again units.Pixel = (refl, omega arith)
unit_again units.Bit = (refl, omega arith)
unit_again units.Mm = (refl, omega arith)
unit_again units.Dpi = (refl, omega arith)
unit_again units.Percent = (refl, omega arith)
unit_again units.Microsecond = (refl, omega arith)

frame_number : (n : ℕ) → n ≤ 4 → frame_format_code (frame_at n) ≡ n
frame_number zero le = refl
frame_number (suc zero) le = refl
frame_number (suc (suc zero)) le = refl
frame_number (suc (suc (suc zero))) le = refl
frame_number (suc (suc (suc (suc zero)))) le = refl
frame_number (suc (suc (suc (suc (suc n))))) le = absurd (omega (arith, le))

frame_again : (f : FrameFormat) → (frame_at (frame_format_code f) ≡ f) × (frame_format_code f ≤ 4)
frame_again frames.Gray = (refl, omega arith)
frame_again frames.Rgb = (refl, omega arith)
frame_again frames.Red = (refl, omega arith)
frame_again frames.Green = (refl, omega arith)
frame_again frames.Blue = (refl, omega arith)

-- behind a code that tells what it stands for
behind_code : {A B : Type 0} (high : ℕ) (at : ℕ → A) (number : A → ℕ) (G : ℕ → Format B) (tells : B → A) (code : ℕ) (b : B) (long : Bool) (text : Option (List ℕ)) → code ≤ high → high < 2 ^ 32
    → ((n : ℕ) → n ≤ high → number (at n) ≡ n) → ((n : ℕ) (k : List ℕ) → (G n).spells k b → at n ≡ tells b) → number (tells b) ≡ code → At (G code) long text b
    → At (after (from_to 0 high) G) long (append_text (code_text code) text) b
behind_code high at number G tells code b long text le small again told is g =
    behind_front (from_to 0 high) G (to_be_bytes w32 code) code b long text (word_spelled 0 high code (omega arith) le (omega (arith, le, small))) g
    (λ x f k s t.
    let same : x ≡ code = sym (again x (code_at_most 0 high f x s)) ∙ ap number (told x k t) ∙ is in
    (k, subst (λ (n : ℕ). (G n).spells k b) same t))

-- ---- descriptors

abbrev with_codes : ℕ → ℕ → Descriptor → Descriptor
with_codes k u d = record { name = d.name; title = d.title; about = d.about; kind = kind_at k; unit = unit_at u; size = d.size; caps = record { 0 = d.caps.0 }; constraint = d.constraint }

numbers_at : (k u : ℕ) (d : Descriptor)
    → At (after word (λ size. after word (λ caps. map_format (λ c. record { name = d.name; title = d.title; about = d.about; kind = kind_at k; unit = unit_at u; size = size; caps = record { 0 = caps }; constraint = c }) constraint)))
    (constraint_long d.constraint) (size_text d) (with_codes k u d)
numbers_at k u d =
    first_at word (λ size. after word (λ caps. map_format (λ c. record { name = d.name; title = d.title; about = d.about; kind = kind_at k; unit = unit_at u; size = size; caps = record { 0 = caps }; constraint = c }) constraint))
    d.size (with_codes k u d) false (constraint_long d.constraint) (write_any.text d.size) (append_text (write_any.text d.caps.0) (constraint_text d.constraint)) (any_at d.size)
    (first_at word (λ caps. map_format (λ c. record { name = d.name; title = d.title; about = d.about; kind = kind_at k; unit = unit_at u; size = d.size; caps = record { 0 = caps }; constraint = c }) constraint)
    d.caps.0 (with_codes k u d) false (constraint_long d.constraint) (write_any.text d.caps.0) (constraint_text d.constraint) (any_at d.caps.0)
    (made_at (λ (c : Constraint). record { name = d.name; title = d.title; about = d.about; kind = kind_at k; unit = unit_at u; size = d.size; caps = record { 0 = d.caps.0 }; constraint = c }) constraint d.constraint (constraint_long d.constraint) (constraint_text d.constraint) (constraint_at d.constraint)
    (λ x e. sym (ap (λ (y : Descriptor). y.constraint) e)))
    (λ x n s. sym (ap (λ (y : Descriptor). y.caps.0) s.behind.1)))
    (λ x n s. sym (ap (λ (y : Descriptor). y.size) s.behind.behind.1))

abbrev behind_unit : Descriptor → ℕ → ℕ → Format Descriptor
behind_unit d k u = after word (λ size. after word (λ caps. map_format (λ c. record { name = d.name; title = d.title; about = d.about; kind = kind_at k; unit = unit_at u; size = size; caps = record { 0 = caps }; constraint = c }) constraint))

unit_at_value : (k u : ℕ) (d : Descriptor) → u ≤ 6 → At (after (from_to 0 6) (behind_unit d k)) (constraint_long d.constraint) (append_text (code_text u) (size_text d)) (with_codes k u d)
unit_at_value k u d le =
    behind_code 6 unit_at unit_code (behind_unit d k) (λ (y : Descriptor). y.unit) u (with_codes k u d) (constraint_long d.constraint) (size_text d) le (omega arith) unit_number
    (λ n t s. sym (ap (λ (y : Descriptor). y.unit) s.behind.behind.behind.1)) (unit_number u le) (numbers_at k u d)

kind_at_value : (k u : ℕ) (d : Descriptor) → k ≤ 5 → u ≤ 6
    → At (after (from_to 0 5) (λ n. after (from_to 0 6) (behind_unit d n))) (constraint_long d.constraint) (append_text (code_text k) (append_text (code_text u) (size_text d))) (with_codes k u d)
kind_at_value k u d le small =
    behind_code 5 kind_at kind_code (λ n. after (from_to 0 6) (behind_unit d n)) (λ (y : Descriptor). y.kind) k (with_codes k u d) (constraint_long d.constraint) (append_text (code_text u) (size_text d)) le (omega arith) kind_number
    (λ n t s. sym (ap (λ (y : Descriptor). y.kind) s.behind.behind.behind.behind.1)) (kind_number k le) (unit_at_value k u d small)

codes_at : (d : Descriptor) → At (after (from_to 0 5) (λ n. after (from_to 0 6) (behind_unit d n))) (constraint_long d.constraint) (kind_text d) d
codes_at d =
    let k = kind_again d.kind in
    let u = unit_again d.unit in
    let is : with_codes (kind_code d.kind) (unit_code d.unit) d ≡ d = λ i. record { name = d.name; title = d.title; about = d.about; kind = k.0 i; unit = u.0 i; size = d.size; caps = d.caps; constraint = d.constraint } in
    subst (λ (y : Descriptor). At (after (from_to 0 5) (λ n. after (from_to 0 6) (behind_unit d n))) (constraint_long d.constraint) (kind_text d) y) is
    (kind_at_value (kind_code d.kind) (unit_code d.unit) d k.1 u.1)

abbrev described : List ℕ → List ℕ → List ℕ → Format Descriptor
described name title about = after (from_to 0 5) (λ k. after (from_to 0 6) (λ u. after word (λ size. after word (λ caps.
    map_format (λ c. record { name = name; title = title; about = about; kind = kind_at k; unit = unit_at u; size = size; caps = record { 0 = caps }; constraint = c }) constraint))))

abbrev four_long : Descriptor → Bool
four_long d = write_string.long d.name || (write_string.long d.title || (write_string.long d.about || constraint_long d.constraint))

descriptor_at : (d : Descriptor) → At descriptor (four_long d) (append_text (write_string.text d.name) (append_text (write_string.text d.title) (append_text (write_string.text d.about) (kind_text d)))) d
unfolding descriptor
descriptor_at d =
    first_at string (λ name. after string (λ title. after string (λ about. described name title about))) d.name d _ _ _ _ (string_at d.name)
    (first_at string (λ title. after string (λ about. described d.name title about)) d.title d _ _ _ _ (string_at d.title)
    (first_at string (λ about. described d.name d.title about) d.about d _ _ _ _ (string_at d.about) (codes_at d)
    (λ x k s. sym (ap (λ (y : Descriptor). y.about) s.behind.behind.behind.behind.behind.1)))
    (λ x k s. sym (ap (λ (y : Descriptor). y.title) s.behind.behind.behind.behind.behind.behind.1)))
    (λ x k s. sym (ap (λ (y : Descriptor). y.name) s.behind.behind.behind.behind.behind.behind.behind.1))

or_four : (a b c d : Bool) → (a || (b || (c || d))) ≡ (a || b || c || d)
or_four true b c d = refl
or_four false true c d = refl
or_four false false c d = refl

next_at : (d : Descriptor) → At next_descriptor (four_long d) (write_descriptor.text d) d
unfolding next_descriptor
next_at d = behind_front (from_to 0 0) (λ pointer. descriptor) (to_be_bytes w32 0) 0 d (four_long d) _ (word_spelled 0 0 0 (omega arith) (omega arith) (omega arith)) (descriptor_at d) (λ x f k s t. (k, t))

next-descriptor-writes : (d : Descriptor) → WritesFormat next_descriptor write_descriptor d
next-descriptor-writes d = by_value next_descriptor write_descriptor d
    (same_at next_descriptor (four_long d) (write_descriptor.long d) (write_descriptor.text d) (write_descriptor.text d) d (next_at d) (or_four (write_string.long d.name) (write_string.long d.title) (write_string.long d.about) (constraint_long d.constraint)) refl)

array_spelled : (all : List Descriptor) → length all ≤ 1024 → (text : List ℕ) → (places (length all) next_descriptor).spells text all → descriptors.spells (to_be_bytes w32 (length all) ++ text) all
unfolding descriptors
array_spelled all le text s = record { first = length all; front = to_be_bytes w32 (length all); back = text; whole = refl; in_front = length_spelled (length all) le; behind = s }

each_spelled : (text : List ℕ) (all : List Descriptor) → descriptors.spells text all → AllSpelled next_descriptor all
unfolding descriptors
each_spelled text all s = places_all s.first next_descriptor s.back all s.behind

pub descriptors_at : (all : List Descriptor) → At descriptors (write_descriptors.long all) (write_descriptors.text all) all
descriptors_at all =
    if_few descriptors 1024 (length all) _ _ all (λ le.
    counted_at descriptors next_descriptor write_descriptor all (to_be_bytes w32 (length all)) next-descriptor-writes (array_spelled all le) (λ text s. each_spelled text all s))

-- ---- parameters

lines_cases : (n : ℕ) → ((n ≡ 4294967295) × (lines_at n ≡ None)) ⊎ ((n ≢ 4294967295) × (lines_at n ≡ Some n))
lines_cases n = by (eqb n 4294967295) refl
  where
    by : (t : Bool) → eqb n 4294967295 ≡ t → ((n ≡ 4294967295) × (lines_at n ≡ None)) ⊎ ((n ≢ 4294967295) × (lines_at n ≡ Some n))
    by true e = inl (eqb-true n 4294967295 e, rw e refl)
    by false e = inr (λ is. let t = eq-eqb n 4294967295 is in let no = sym t ∙ e in absurd (cc no), rw e refl)

known : (n m : ℕ) → lines_at n ≡ Some m → (n ≡ m) × (n ≢ 4294967295)
known n m e =
    elim (lines_cases n) [
      | inl h ↦ let no = sym h.1 ∙ e in absurd (cc no)
      | inr h ↦ (let is = sym h.1 ∙ e in cc is, h.0)
    ]

unknown : (n : ℕ) → lines_at n ≡ None → n ≡ 4294967295
unknown n e =
    elim (lines_cases n) [
      | inl h ↦ h.0
      | inr h ↦ let no = sym h.1 ∙ e in absurd (cc no)
    ]

abbrev made_of : (FrameFormat → Bool → ℕ → ℕ → Option ℕ → ℕ → Params)
made_of format last bytes pixels lines depth = record { format = format; last_frame = last; bytes_per_line = bytes; pixels_per_line = pixels; lines = lines; depth = depth }

abbrev behind_pixels : FrameFormat → Bool → ℕ → ℕ → Format Params
behind_pixels format last bytes pixels = after word (λ lines. map_format (λ depth. made_of format last bytes pixels (lines_at lines) depth) word)

depth_at : (format : FrameFormat) (last : Bool) (bytes pixels : ℕ) (lines : Option ℕ) (depth : ℕ) → At (map_format (λ depth. made_of format last bytes pixels lines depth) word) false (write_any.text depth) (made_of format last bytes pixels lines depth)
depth_at format last bytes pixels lines depth = made_at (λ d. made_of format last bytes pixels lines d) word depth false (write_any.text depth) (any_at depth) (λ x e. sym (ap (λ (p : Params). p.depth) e))

lines_at_value : (format : FrameFormat) (last : Bool) (bytes pixels : ℕ) (lines : Option ℕ) (depth : ℕ)
    → At (behind_pixels format last bytes pixels) false (append_text (lines_text lines) (write_any.text depth)) (made_of format last bytes pixels lines depth)
lines_at_value format last bytes pixels None depth =
    behind_only word (λ n. map_format (λ d. made_of format last bytes pixels (lines_at n) d) word) (to_be_bytes w32 4294967295) 4294967295 (made_of format last bytes pixels None depth) false (write_any.text depth)
    (word_spelled 0 4294967295 4294967295 (omega arith) (omega arith) (omega arith)) (depth_at format last bytes pixels None depth)
    (λ x k s. unknown x (sym (ap (λ (p : Params). p.lines) s.behind.1)))
lines_at_value format last bytes pixels (Some n) depth =
    elim (cases_lt 4294967294 n) [
      | inl h ↦
          let low : nat_lt n 0 ≡ false = le-ltb n 0 (omega arith) in
          let t : nat_lt 4294967294 n ≡ true = lt-ltb 4294967294 n h in
          let none : lines_text (Some n) ≡ None = rw (low, t) refl in
          rw none
          (nowhere (behind_pixels format last bytes pixels) false (made_of format last bytes pixels (Some n) depth) (λ text s.
          let is = known s.first n (sym (ap (λ (p : Params). p.lines) s.behind.behind.1)) in
          let le = code_at_most 0 4294967295 s.front s.first s.in_front in
          is.1 (omega (arith, le, is.0, h))))
      | inr le ↦
          let low : nat_lt n 0 ≡ false = le-ltb n 0 (omega arith) in
          let t : nat_lt 4294967294 n ≡ false = le-ltb 4294967294 n le in
          let some : lines_text (Some n) ≡ code_text n = rw (low, t) refl in
          let here : lines_at n ≡ Some n = elim (lines_cases n) [ inl h ↦ absurd (omega (arith, le, h.0)) | inr h ↦ h.1 ] in
          rw some
          (behind_only word (λ m. map_format (λ d. made_of format last bytes pixels (lines_at m) d) word) (to_be_bytes w32 n) n (made_of format last bytes pixels (Some n) depth) false (write_any.text depth)
          (word_spelled 0 4294967295 n (omega arith) (omega (arith, le)) (omega (arith, le)))
          (subst (λ (l : Option ℕ). At (map_format (λ d. made_of format last bytes pixels l d) word) false (write_any.text depth) (made_of format last bytes pixels (Some n) depth)) (sym here) (depth_at format last bytes pixels (Some n) depth))
          (λ x k s. (known x n (sym (ap (λ (p : Params). p.lines) s.behind.1))).0))
    ]

abbrev behind_flag : FrameFormat → Bool → Format Params
behind_flag format last = after word (λ bytes. after word (λ pixels. behind_pixels format last bytes pixels))

abbrev counts_text : Params → Option (List ℕ)
counts_text p = append_text (write_any.text p.bytes_per_line) (append_text (write_any.text p.pixels_per_line) (append_text (lines_text p.lines) (write_any.text p.depth)))

counts_at : (p : Params) → At (behind_flag p.format p.last_frame) false (counts_text p) p
counts_at p =
    first_at word (λ bytes. after word (λ pixels. behind_pixels p.format p.last_frame bytes pixels)) p.bytes_per_line p false false (write_any.text p.bytes_per_line) (append_text (write_any.text p.pixels_per_line) (append_text (lines_text p.lines) (write_any.text p.depth))) (any_at p.bytes_per_line)
    (first_at word (λ pixels. behind_pixels p.format p.last_frame p.bytes_per_line pixels) p.pixels_per_line p false false (write_any.text p.pixels_per_line) (append_text (lines_text p.lines) (write_any.text p.depth)) (any_at p.pixels_per_line)
    (lines_at_value p.format p.last_frame p.bytes_per_line p.pixels_per_line p.lines p.depth)
    (λ x k s. sym (ap (λ (q : Params). q.pixels_per_line) s.behind.behind.1)))
    (λ x k s. sym (ap (λ (q : Params). q.bytes_per_line) s.behind.behind.behind.1))

flag_again : (b : Bool) → (is_set (flag_code b) ≡ b) × (flag_code b ≤ 1)
flag_again true = (refl, omega arith)
flag_again false = (refl, omega arith)

flag_at : (p : Params) → At (after word (λ n. behind_flag p.format (is_set n))) false (append_text (code_text (flag_code p.last_frame)) (counts_text p)) p
flag_at p =
    let again = flag_again p.last_frame in
    behind_front word (λ n. behind_flag p.format (is_set n)) (to_be_bytes w32 (flag_code p.last_frame)) (flag_code p.last_frame) p false (counts_text p)
    (word_spelled 0 4294967295 (flag_code p.last_frame) (omega arith) (omega (arith, again.1)) (omega (arith, again.1)))
    (subst (λ (b : Bool). At (behind_flag p.format b) false (counts_text p) p) (sym again.0) (counts_at p))
    (λ x f k s t.
    let set : is_set x ≡ p.last_frame = sym (ap (λ (q : Params). q.last_frame) t.behind.behind.behind.behind.1) in
    (k, subst (λ (b : Bool). (behind_flag p.format b).spells k p) (set ∙ sym again.0) t))

pub params_at : (p : Params) → At params false (params_text p) p
unfolding params
params_at p =
    let again = frame_again p.format in
    behind_code 4 frame_at frame_format_code (λ n. after word (λ m. behind_flag (frame_at n) (is_set m))) (λ (q : Params). q.format) (frame_format_code p.format) p false (append_text (code_text (flag_code p.last_frame)) (counts_text p)) again.1 (omega arith) frame_number
    (λ n k t. sym (ap (λ (q : Params). q.format) t.behind.behind.behind.behind.behind.1)) refl
    (subst (λ (f : FrameFormat). At (after word (λ m. behind_flag f (is_set m))) false (append_text (code_text (flag_code p.last_frame)) (counts_text p)) p) (sym again.0) (flag_at p))
