-- A division by a greatest value, as a product and a shift.
use Rattle.std.proofs.Common.{ℕ, ◌≡◌, ◌≤◌, ◌<◌, ◌+◌, ◌*◌, ◌/◌, ◌%◌, ◌∙◌, ap, sym, subst, arith}
use Rattle.std.proofs.Math.Nat.{mul_assoc, mul-add, mul_comm, le_of_mul-le-mul_right, lt_of_mul-lt-mul_right, mul-le-mul, mul-le-mul_left, div-eq_of_lt-le, div-le_of_le-mul, lt-div-mul-add}
use Rattle.std.proofs.lemmas.Nat.{div-add-mod'}

-- the factor times m is 65535 * 2 ^ 32 and no more than m above it
product_above : (v d m r : ℕ) → d * m + r ≡ 281470681743360 → v * (d + 1) * m + v * r ≡ 281470681743360 * v + v * m
product_above v d m r e =
    let whole : v * (d * m + r) ≡ v * 281470681743360 = ap (λ (n : ℕ). v * n) e in
    let parts : v * (d * m + r) ≡ v * (d * m) + v * r = mul-add v (d * m) r in
    let outer : v * (d + 1) * m ≡ v * ((d + 1) * m) = mul_assoc v (d + 1) m in
    let more : (d + 1) * m ≡ d * m + m = omega arith in
    let inner : v * ((d + 1) * m) ≡ v * (d * m) + v * m = ap (λ (n : ℕ). v * n) more ∙ mul-add v (d * m) m in
    omega (arith, whole, parts, outer, inner)

-- so a product with it has the quotient as its upper half
pub scaled_by_factor : (v m : ℕ) → 1 ≤ m → m ≤ 65535 → v ≤ m → v * (281470681743360 / m + 1) / 4294967296 ≡ v * 65535 / m
scaled_by_factor v m some most limit =
    let d = 281470681743360 / m in
    let r = 281470681743360 % m in
    let q = v * 65535 / m in
    let positive : 0 < m = omega (arith, some) in
    let parts : d * m + r ≡ 281470681743360 = div-add-mod' 281470681743360 m in
    let above : v * (d + 1) * m + v * r ≡ 281470681743360 * v + v * m = product_above v d m r parts in
    let over : 281470681743360 < d * m + m = lt-div-mul-add positive in
    let rest : r < m = omega (arith, parts, over) in
    let left : v * r ≤ v * m = mul-le-mul_left v (omega (arith, rest)) in
    let below : v ≤ 65535 = omega (arith, limit, most) in
    let short : v * m ≤ 65535 * 65535 = mul-le-mul below most in
    let whole : q * m + v * 65535 % m ≡ v * 65535 = div-add-mod' (v * 65535) m in
    let next : v * 65535 < q * m + m = lt-div-mul-add positive in
    let low : q * 4294967296 * m ≤ v * (d + 1) * m =
    omega (arith, above, left, whole, mul_assoc q 4294967296 m, mul_comm 4294967296 m) in
    let high : v * (d + 1) * m < (q + 1) * 4294967296 * m =
    omega (arith, above, short, next) in
    let above_low : q * 4294967296 ≤ v * (d + 1) = le_of_mul-le-mul_right low positive in
    let below_high : v * (d + 1) < (q + 1) * 4294967296 = lt_of_mul-lt-mul_right m high in
    div-eq_of_lt-le 4294967296 above_low below_high

-- the same of numbers that are these
pub scaled_is : (x v f m n : ℕ) → x ≡ v → f ≡ 281470681743360 / m + 1 → m ≡ n → 1 ≤ m → m ≤ 65535 → v ≤ n → x * f / 4294967296 ≡ v * 65535 / n
scaled_is x v f m n ex ef em some most limit =
    let within : v ≤ m = subst (λ (k : ℕ). v ≤ k) (sym em) limit in
    ap (λ (k : ℕ). k * f / 4294967296) ex ∙ (ap (λ (k : ℕ). v * k / 4294967296) ef
    ∙ (scaled_by_factor v m some most within ∙ ap (λ (k : ℕ). v * 65535 / k) em))

-- and it is a number of two bytes
pub scaled_fits : (v n : ℕ) → v ≤ n → v * 65535 / n < 65536
scaled_fits v n limit =
    let most : v * 65535 ≤ n * 65535 = omega (arith, limit) in
    let small : v * 65535 / n ≤ 65535 = div-le_of_le-mul n most in
    omega (arith, small)

-- ---- the same of a byte, whose factor has four bytes

byte_product_above : (v d m r : ℕ) → d * m + r ≡ 4294901760 → v * (d + 1) * m + v * r ≡ 4294901760 * v + v * m
byte_product_above v d m r e =
    let whole : v * (d * m + r) ≡ v * 4294901760 = ap (λ (n : ℕ). v * n) e in
    let parts : v * (d * m + r) ≡ v * (d * m) + v * r = mul-add v (d * m) r in
    let outer : v * (d + 1) * m ≡ v * ((d + 1) * m) = mul_assoc v (d + 1) m in
    let more : (d + 1) * m ≡ d * m + m = omega arith in
    let inner : v * ((d + 1) * m) ≡ v * (d * m) + v * m = ap (λ (n : ℕ). v * n) more ∙ mul-add v (d * m) m in
    omega (arith, whole, parts, outer, inner)

byte_by_factor : (v m : ℕ) → 1 ≤ m → m ≤ 255 → v ≤ m → v * (4294901760 / m + 1) / 65536 ≡ v * 65535 / m
byte_by_factor v m some most limit =
    let d = 4294901760 / m in
    let r = 4294901760 % m in
    let q = v * 65535 / m in
    let positive : 0 < m = omega (arith, some) in
    let parts : d * m + r ≡ 4294901760 = div-add-mod' 4294901760 m in
    let above : v * (d + 1) * m + v * r ≡ 4294901760 * v + v * m = byte_product_above v d m r parts in
    let over : 4294901760 < d * m + m = lt-div-mul-add positive in
    let rest : r < m = omega (arith, parts, over) in
    let left : v * r ≤ v * m = mul-le-mul_left v (omega (arith, rest)) in
    let below : v ≤ 255 = omega (arith, limit, most) in
    let short : v * m ≤ 255 * 255 = mul-le-mul below most in
    let whole : q * m + v * 65535 % m ≡ v * 65535 = div-add-mod' (v * 65535) m in
    let next : v * 65535 < q * m + m = lt-div-mul-add positive in
    let low : q * 65536 * m ≤ v * (d + 1) * m =
    omega (arith, above, left, whole, mul_assoc q 65536 m, mul_comm 65536 m) in
    let high : v * (d + 1) * m < (q + 1) * 65536 * m =
    omega (arith, above, short, next) in
    let above_low : q * 65536 ≤ v * (d + 1) = le_of_mul-le-mul_right low positive in
    let below_high : v * (d + 1) < (q + 1) * 65536 = lt_of_mul-lt-mul_right m high in
    div-eq_of_lt-le 65536 above_low below_high

-- by a factor in two parts
pub byte_scaled : (v m u l : ℕ) → 1 ≤ m → m ≤ 255 → v ≤ m → u * 65536 + l ≡ 4294901760 / m + 1 → v * u + v * l / 65536 ≡ v * 65535 / m
byte_scaled v m u l some most limit factor =
    let by_factor : v * (u * 65536 + l) / 65536 ≡ v * 65535 / m =
    ap (λ (f : ℕ). v * f / 65536) factor ∙ byte_by_factor v m some most limit in
    let parts : v * (u * 65536 + l) ≡ v * (u * 65536) + v * l = mul-add v (u * 65536) l in
    let split : (v * u * 65536 + v * l) / 65536 ≡ v * u + v * l / 65536 = omega arith in
    sym split ∙ (ap (λ (p : ℕ). p / 65536) (omega (arith, parts, mul_assoc v u 65536)) ∙ by_factor)

-- the same of numbers that are these
pub byte_scaled_is : (x y z v u l m n : ℕ) → x ≡ v → y ≡ l → z ≡ v → m ≡ n → 1 ≤ m → m ≤ 255 → v ≤ n → u * 65536 + l ≡ 4294901760 / m + 1 → z * u + x * y / 65536 ≡ v * 65535 / n
byte_scaled_is x y z v u l m n ex ey ez em some most limit factor =
    let within : v ≤ m = subst (λ (k : ℕ). v ≤ k) (sym em) limit in
    ap (λ (k : ℕ). k * u + x * y / 65536) ez ∙ (ap (λ (k : ℕ). v * u + k * y / 65536) ex ∙ (ap (λ (k : ℕ). v * u + v * k / 65536) ey
    ∙ (byte_scaled v m u l some most within factor ∙ ap (λ (k : ℕ). v * 65535 / k) em)))
