use Rattle.std.proofs.Common.{rules, ℕ, ◌≡◌, ◌≤◌, ◌<◌, ◌+◌, ◌-◌, ◌*◌, ◌/◌, ◌%◌, ◌∙◌, inl, inr, arith, ap, length, sym, subst}
use Rattle.std.specs.Prelude.{slice_index}
use Rattle.std.proofs.lemmas.Bool.{cases_lt}
use Rattle.frame_join.specs.ColorPlanes.{Planes, nth_plane, side_byte}
use Rattle.frame_join.proofs.WeaveLaws.{side_byte_of}
use Rattle.frame_join.proofs.planes.Planes.put_side.Goals as goal

pub returns : goal.returns
returns c =
    let planes : Planes = record { red = c.self.inside.red; green = c.self.inside.green; blue = c.self.inside.blue } in
    let y = c.args.y in
    let from = c.args.from in
    let size = length c.args.buf.now in
    let head = c.min-head.result in
    let count = (size - head) / 3 in
    let end = head + 3 * count in
    let place = (from + head) / 3 in
    let buf = c.weave.new.buf in
    -- what the slices of the three colors hold
    let red : (k : ℕ) → k < count → slice_index c.in-Some-Some-Some.red.now k ≡ slice_index planes.red.bytes (y * planes.red.line + (place + k)) = search rules in
    let green : (k : ℕ) → k < count → slice_index c.in-Some-Some-Some.green.now k ≡ slice_index planes.green.bytes (y * planes.green.line + (place + k)) = search rules in
    let blue : (k : ℕ) → k < count → slice_index c.in-Some-Some-Some.blue.now k ≡ slice_index planes.blue.bytes (y * planes.blue.line + (place + k)) = search rules in
    let reds : length c.in-Some-Some-Some.red.now ≡ count = search rules in
    let low : head ≤ size = omega (arith, c.min-head.ensures) in
    let whole : head < size → (from + head) % 3 ≡ 0 = λ less. omega (arith, c.min-head.ensures, less) in
    -- the bytes of whole pixels
    let Has : ℕ → ℕ → Type 0 = λ k o. slice_index buf (head + 3 * k + o) ≡ slice_index (nth_plane planes o).bytes (y * (nth_plane planes o).line + (place + k)) in
    let reddish : (k : ℕ) → k < count → Has k 0 =
    λ k less. ap (slice_index buf) (let e : head + 3 * k + 0 ≡ head + 3 * k = omega arith in e) ∙ (c.weave.ensures.red k (omega (arith, reds, less)) ∙ red k less) in
    let greenish : (k : ℕ) → k < count → Has k 1 = λ k less. c.weave.ensures.green k (omega (arith, reds, less)) ∙ green k less in
    let bluish : (k : ℕ) → k < count → Has k 2 = λ k less. c.weave.ensures.blue k (omega (arith, reds, less)) ∙ blue k less in
    let any : (k o : ℕ) → k < count → o < 3 → Has k o =
    λ k o more less. elim (cases_lt o 1) as (λ _. Has k o) [
      | inl none ↦ let e : o ≡ 0 = omega arith in subst (λ (o : ℕ). Has k o) (sym e) (reddish k more)
      | inr some ↦ elim (cases_lt o 2) as (λ _. Has k o) [
        | inl one ↦ let e : o ≡ 1 = omega arith in subst (λ (o : ℕ). Has k o) (sym e) (greenish k more)
        | inr two ↦ let e : o ≡ 2 = omega arith in subst (λ (o : ℕ). Has k o) (sym e) (bluish k more)
      ]
    ] in
    let woven : (i : ℕ) → head ≤ i → i < end → slice_index buf i ≡ side_byte planes 8 y (from + i) =
    λ i above less.
    let k = (i - head) / 3 in
    let o = (i - head) % 3 in
    let at : i ≡ head + 3 * k + o = omega (arith, above) in
    let few : k < count = omega (arith, above, less) in
    let start = whole (omega (arith, above, less)) in
    let pixel : from + i ≡ 3 * (place + k) + o = omega (arith, above, start) in
    ap (slice_index buf) at ∙ (any k o few (omega arith) ∙ sym (side_byte_of planes y (from + i) (place + k) o pixel (omega arith))) in
    let seen : (i : ℕ) → i < size → slice_index c.put_between-3.new.buf i ≡ side_byte planes 8 y (from + i) =
    λ i less. elim (cases_lt i end) as (λ _. slice_index c.put_between-3.new.buf i ≡ side_byte planes 8 y (from + i)) [
      | inl below ↦ c.put_between-3.ensures.before i below ∙ elim (cases_lt i head) as (λ _. slice_index buf i ≡ side_byte planes 8 y (from + i)) [
        | inl front ↦ c.weave.ensures.before i front ∙ search rules
        | inr behind ↦ woven i behind below
      ]
      | inr rest ↦ search rules
    ] in
    subst (λ (planes : Planes). (i : ℕ) → i < size → slice_index c.put_between-3.new.buf i ≡ side_byte planes 8 y (from + i)) c.self.view_is seen
