use Rattle.std.proofs.Common.{rules, ℕ, ◌≡◌, ◌≤◌, ◌<◌, ◌+◌, ◌-◌, ◌*◌, ◌/◌, ◌%◌, ◌∙◌, inl, inr, arith, ap, length, sym, subst, List}
use Rattle.std.specs.Prelude.{slice_index}
use Rattle.std.proofs.lemmas.Bool.{cases_lt}
use Rattle.frame_join.specs.ColorPlanes.{Planes, Plane, nth_plane, side_byte}
use Rattle.frame_join.specs.FrameFile.{place_in}
use Rattle.frame_join.proofs.WeaveLaws.{side_word_of, one_of_six, place_turn, place_one, place_two, place_low, place_back, place_in_pixel}
use Rattle.frame_join.proofs.planes.Planes.put_side_words.Goals as goal

pub returns : goal.returns
returns c =
    let planes : Planes = record { red = c.self.inside.red; green = c.self.inside.green; blue = c.self.inside.blue } in
    let order = c.args.order in
    let y = c.args.y in
    let from = c.args.from in
    let size = length c.args.buf.now in
    let head = c.min-head.result in
    let count = (size - head) / 6 in
    let end = head + 6 * count in
    let pixel = (from + head) / 6 in
    let place = 2 * pixel in
    let turn = c.place_in-turn.result in
    let buf = c.weave_words.new.buf in
    -- what the slices of the three colors hold
    let red : (k : ℕ) → k < 2 * count → slice_index c.in-Some-Some-Some.red.now k ≡ slice_index planes.red.bytes (y * planes.red.line + (place + k)) = search rules in
    let green : (k : ℕ) → k < 2 * count → slice_index c.in-Some-Some-Some.green.now k ≡ slice_index planes.green.bytes (y * planes.green.line + (place + k)) = search rules in
    let blue : (k : ℕ) → k < 2 * count → slice_index c.in-Some-Some-Some.blue.now k ≡ slice_index planes.blue.bytes (y * planes.blue.line + (place + k)) = search rules in
    let reds : length c.in-Some-Some-Some.red.now ≡ 2 * count = search rules in
    let low : head ≤ size = omega (arith, c.min-head.ensures) in
    let whole : head < size → (from + head) % 6 ≡ 0 = λ less. omega (arith, c.min-head.ensures, less) in
    -- the bytes of whole pixels
    let Has : ℕ → ℕ → Type 0 = λ k o. slice_index buf (head + 6 * k + place_in order 16 o) ≡ slice_index (nth_plane planes (o / 2)).bytes (y * (nth_plane planes (o / 2)).line + (2 * (pixel + k) + o % 2)) in
    let first : (p : Plane) (k : ℕ) → slice_index p.bytes (y * p.line + (place + 2 * k)) ≡ slice_index p.bytes (y * p.line + (2 * (pixel + k) + 0)) =
    λ p k. ap (λ (t : ℕ). slice_index p.bytes (y * p.line + t)) (let e : place + 2 * k ≡ 2 * (pixel + k) + 0 = omega arith in e) in
    let second : (p : Plane) (k : ℕ) → slice_index p.bytes (y * p.line + (place + (2 * k + 1))) ≡ slice_index p.bytes (y * p.line + (2 * (pixel + k) + 1)) =
    λ p k. ap (λ (t : ℕ). slice_index p.bytes (y * p.line + t)) (let e : place + (2 * k + 1) ≡ 2 * (pixel + k) + 1 = omega arith in e) in
    let at : (xs : List ℕ) (i j : ℕ) → i ≡ j → slice_index xs i ≡ slice_index xs j = λ xs i j e. ap (slice_index xs) e in
    let turn_is : turn ≡ place_in order 16 0 = search rules in
    let turn_low : turn ≤ 1 = omega (arith, turn_is, place_two order 0 (omega arith), place_turn order) in
    let red_two : (k : ℕ) → k < count → (t : ℕ) → t < 2 → slice_index buf (head + 6 * k + 0 + t) ≡ slice_index planes.red.bytes (y * planes.red.line + (place + (2 * k + (turn + t) % 2))) =
    λ k less t low. elim (cases_lt t 1) as (λ _. slice_index buf (head + 6 * k + 0 + t) ≡ slice_index planes.red.bytes (y * planes.red.line + (place + (2 * k + (turn + t) % 2)))) [
      | inl none ↦
          at buf (head + 6 * k + 0 + t) (head + 6 * k) (omega (arith, none)) ∙ (c.weave_words.ensures.red k (omega (arith, reds, less))
          ∙ (at c.in-Some-Some-Some.red.now (2 * k + turn) (2 * k + (turn + t) % 2) (omega (arith, none, turn_low)) ∙ red (2 * k + (turn + t) % 2) (omega (arith, less))))
      | inr some ↦
          at buf (head + 6 * k + 0 + t) (head + 6 * k + 1) (omega (arith, some, low)) ∙ (c.weave_words.ensures.red_other k (omega (arith, reds, less))
          ∙ (at c.in-Some-Some-Some.red.now (2 * k + (1 - turn)) (2 * k + (turn + t) % 2) (omega (arith, some, low, turn_low)) ∙ red (2 * k + (turn + t) % 2) (omega (arith, less))))
    ] in
    let green_two : (k : ℕ) → k < count → (t : ℕ) → t < 2 → slice_index buf (head + 6 * k + 2 + t) ≡ slice_index planes.green.bytes (y * planes.green.line + (place + (2 * k + (turn + t) % 2))) =
    λ k less t low. elim (cases_lt t 1) as (λ _. slice_index buf (head + 6 * k + 2 + t) ≡ slice_index planes.green.bytes (y * planes.green.line + (place + (2 * k + (turn + t) % 2)))) [
      | inl none ↦
          at buf (head + 6 * k + 2 + t) (head + 6 * k + 2) (omega (arith, none)) ∙ (c.weave_words.ensures.green k (omega (arith, reds, less))
          ∙ (at c.in-Some-Some-Some.green.now (2 * k + turn) (2 * k + (turn + t) % 2) (omega (arith, none, turn_low)) ∙ green (2 * k + (turn + t) % 2) (omega (arith, less))))
      | inr some ↦
          at buf (head + 6 * k + 2 + t) (head + 6 * k + 3) (omega (arith, some, low)) ∙ (c.weave_words.ensures.green_other k (omega (arith, reds, less))
          ∙ (at c.in-Some-Some-Some.green.now (2 * k + (1 - turn)) (2 * k + (turn + t) % 2) (omega (arith, some, low, turn_low)) ∙ green (2 * k + (turn + t) % 2) (omega (arith, less))))
    ] in
    let blue_two : (k : ℕ) → k < count → (t : ℕ) → t < 2 → slice_index buf (head + 6 * k + 4 + t) ≡ slice_index planes.blue.bytes (y * planes.blue.line + (place + (2 * k + (turn + t) % 2))) =
    λ k less t low. elim (cases_lt t 1) as (λ _. slice_index buf (head + 6 * k + 4 + t) ≡ slice_index planes.blue.bytes (y * planes.blue.line + (place + (2 * k + (turn + t) % 2)))) [
      | inl none ↦
          at buf (head + 6 * k + 4 + t) (head + 6 * k + 4) (omega (arith, none)) ∙ (c.weave_words.ensures.blue k (omega (arith, reds, less))
          ∙ (at c.in-Some-Some-Some.blue.now (2 * k + turn) (2 * k + (turn + t) % 2) (omega (arith, none, turn_low)) ∙ blue (2 * k + (turn + t) % 2) (omega (arith, less))))
      | inr some ↦
          at buf (head + 6 * k + 4 + t) (head + 6 * k + 5) (omega (arith, some, low)) ∙ (c.weave_words.ensures.blue_other k (omega (arith, reds, less))
          ∙ (at c.in-Some-Some-Some.blue.now (2 * k + (1 - turn)) (2 * k + (turn + t) % 2) (omega (arith, some, low, turn_low)) ∙ blue (2 * k + (turn + t) % 2) (omega (arith, less))))
    ] in
    let zero : (k : ℕ) → k < count → Has k 0 = λ k less.
    at buf (head + 6 * k + place_in order 16 0) (head + 6 * k + 0 + turn) (omega (arith, place_one order 0 (omega arith), turn_is))
    ∙ (red_two k less turn (omega (arith, turn_low)) ∙ (ap (λ (q : ℕ). slice_index planes.red.bytes (y * planes.red.line + (place + q))) (let e : 2 * k + (turn + turn) % 2 ≡ 2 * k = omega (arith, turn_low) in e) ∙ first planes.red k)) in
    let one : (k : ℕ) → k < count → Has k 1 = λ k less.
    at buf (head + 6 * k + place_in order 16 1) (head + 6 * k + 0 + (1 - turn)) (omega (arith, place_two order 0 (omega arith), turn_is))
    ∙ (red_two k less (1 - turn) (omega (arith, turn_low)) ∙ (ap (λ (q : ℕ). slice_index planes.red.bytes (y * planes.red.line + (place + q))) (let e : 2 * k + (turn + (1 - turn)) % 2 ≡ 2 * k + 1 = omega (arith, turn_low) in e) ∙ second planes.red k)) in
    let two : (k : ℕ) → k < count → Has k 2 = λ k less.
    at buf (head + 6 * k + place_in order 16 2) (head + 6 * k + 2 + turn) (omega (arith, place_one order 1 (omega arith), turn_is))
    ∙ (green_two k less turn (omega (arith, turn_low)) ∙ (ap (λ (q : ℕ). slice_index planes.green.bytes (y * planes.green.line + (place + q))) (let e : 2 * k + (turn + turn) % 2 ≡ 2 * k = omega (arith, turn_low) in e) ∙ first planes.green k)) in
    let three : (k : ℕ) → k < count → Has k 3 = λ k less.
    at buf (head + 6 * k + place_in order 16 3) (head + 6 * k + 2 + (1 - turn)) (omega (arith, place_two order 1 (omega arith), turn_is))
    ∙ (green_two k less (1 - turn) (omega (arith, turn_low)) ∙ (ap (λ (q : ℕ). slice_index planes.green.bytes (y * planes.green.line + (place + q))) (let e : 2 * k + (turn + (1 - turn)) % 2 ≡ 2 * k + 1 = omega (arith, turn_low) in e) ∙ second planes.green k)) in
    let four : (k : ℕ) → k < count → Has k 4 = λ k less.
    at buf (head + 6 * k + place_in order 16 4) (head + 6 * k + 4 + turn) (omega (arith, place_one order 2 (omega arith), turn_is))
    ∙ (blue_two k less turn (omega (arith, turn_low)) ∙ (ap (λ (q : ℕ). slice_index planes.blue.bytes (y * planes.blue.line + (place + q))) (let e : 2 * k + (turn + turn) % 2 ≡ 2 * k = omega (arith, turn_low) in e) ∙ first planes.blue k)) in
    let five : (k : ℕ) → k < count → Has k 5 = λ k less.
    at buf (head + 6 * k + place_in order 16 5) (head + 6 * k + 4 + (1 - turn)) (omega (arith, place_two order 2 (omega arith), turn_is))
    ∙ (blue_two k less (1 - turn) (omega (arith, turn_low)) ∙ (ap (λ (q : ℕ). slice_index planes.blue.bytes (y * planes.blue.line + (place + q))) (let e : 2 * k + (turn + (1 - turn)) % 2 ≡ 2 * k + 1 = omega (arith, turn_low) in e) ∙ second planes.blue k)) in
    let any : (k o : ℕ) → k < count → o < 6 → Has k o = λ k o more less. one_of_six (λ o. Has k o) (zero k more) (one k more) (two k more) (three k more) (four k more) (five k more) o less in
    let woven : (i : ℕ) → head ≤ i → i < end → slice_index buf i ≡ side_byte planes 16 y (place_in order 16 (from + i)) =
    λ i above less.
    let k = (i - head) / 6 in
    let r = (i - head) % 6 in
    let o = place_in order 16 r in
    let low : o < 6 = place_low order r (omega arith) in
    let few : k < count = omega (arith, above, less) in
    let start = whole (omega (arith, above, less)) in
    let at : i ≡ head + 6 * k + place_in order 16 o = omega (arith, above, place_back order r (omega arith)) in
    let where_is : place_in order 16 (from + i) ≡ 6 * (pixel + k) + o = place_in_pixel order (from + i) (pixel + k) r (omega (arith, above, start)) (omega arith) in
    ap (slice_index buf) at ∙ (any k o few low ∙ sym (side_word_of planes y (place_in order 16 (from + i)) (pixel + k) o where_is low)) in
    let seen : (i : ℕ) → i < size → slice_index c.put_between-3.new.buf i ≡ side_byte planes 16 y (place_in order 16 (from + i)) =
    λ i less. elim (cases_lt i end) as (λ _. slice_index c.put_between-3.new.buf i ≡ side_byte planes 16 y (place_in order 16 (from + i))) [
      | inl below ↦ c.put_between-3.ensures.before i below ∙ elim (cases_lt i head) as (λ _. slice_index buf i ≡ side_byte planes 16 y (place_in order 16 (from + i))) [
        | inl front ↦ c.weave_words.ensures.before i front ∙ subst (λ (q : Planes). slice_index c.put_between-2.new.buf i ≡ side_byte q 16 y (place_in order 16 (from + i))) (sym c.self.view_is) (c.put_between-2.ensures.here i (omega arith) front)
        | inr behind ↦ woven i behind below
      ]
      | inr rest ↦ search rules
    ] in
    subst (λ (planes : Planes). (i : ℕ) → i < size → slice_index c.put_between-3.new.buf i ≡ side_byte planes 16 y (place_in order 16 (from + i))) c.self.view_is seen
