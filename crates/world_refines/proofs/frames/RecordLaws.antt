-- Records on a data connection: one more of counted bytes, and the end.
use Rattle.std.specs.List.{AllByRecursion}
use Rattle.std.specs.Int.{w32, to_be_bytes, from_be_bytes}
use Rattle.std.proofs.Common.{◌≡◌, ◌∙◌, ℕ, ◌<◌, List, [], ◌∷◌, ◌++◌, refl, sym, ap, subst, length, take, drop, append_assoc, arith}
use Rattle.std.proofs.lemmas.List.{append-nil, drop_at, take_at}
use Rattle.std.proofs.lemmas.Nat.{from_be_bytes-to_be_bytes_4}
use Rattle.data_records.specs.declared.records.RecordPhase.{RecordPhase}
use Rattle.data_records.specs.declared.records.RecordPhase.TheVariants as phases
use Rattle.data_records.specs.Records.{CarriesRecords, RecordsContinue, IsRecords, all_counted, counted_record, end_record, joined_bodies}

-- one step of a reader, and then another
pub carries_then : (old between new : RecordPhase) (u v g h : List ℕ) → CarriesRecords old between u g → CarriesRecords between new v h → CarriesRecords old new (u ++ v) (g ++ h)
carries_then old between new u v g h first next text payload status = (
  λ c.
      let a = (first (v ++ text) payload status).0 (subst (λ (t : List ℕ). RecordsContinue old t payload status) (append_assoc u v text) c) in
      let b = (next text a.0 status).0 a.2 in
      (b.0, a.1 ∙ ap (λ (t : List ℕ). g ++ t) b.1 ∙ sym (append_assoc g h b.0), b.2),
  λ m.
      let b = (next text (h ++ m.0) status).1 (m.0, refl, m.2) in
      let a = (first (v ++ text) payload status).1 (h ++ m.0, m.1 ∙ append_assoc g h m.0, b) in
      subst (λ (t : List ℕ). RecordsContinue old t payload status) (sym (append_assoc u v text)) a,
)

-- the length in a head
told_length : (n : ℕ) → n < 4294967295 → from_be_bytes w32 (to_be_bytes w32 n) ≡ n
told_length n short = from_be_bytes-to_be_bytes_4 n (omega (arith, short))

same_length : (n m : ℕ) → n < 4294967295 → m < 4294967295 → to_be_bytes w32 n ≡ to_be_bytes w32 m → n ≡ m
same_length n m a b e = sym (told_length n a) ∙ (ap (from_be_bytes w32) e ∙ told_length m b)

-- no length is that of the end
not_end : (n : ℕ) → n < 4294967295 → to_be_bytes w32 n ≡ 255 ∷ 255 ∷ 255 ∷ 255 ∷ [] → ⊥
not_end n short e =
    let is : n ≡ 4294967295 = sym (told_length n short) ∙ ap (from_be_bytes w32) e in
    omega (arith, short, is)

pub same_body : (body text other rest : List ℕ) → length body ≡ length other → body ++ text ≡ other ++ rest → (other ≡ body) × (rest ≡ text)
same_body body text other rest long e =
    let front : take (length body) (other ++ rest) ≡ other = take_at other rest (length body) (sym long) in
    let back : drop (length body) (other ++ rest) ≡ rest = drop_at other rest (length body) (sym long) in (
      sym front ∙ (ap (take (length body)) (sym e) ∙ take_at body text (length body) refl),
      sym back ∙ (ap (drop (length body)) (sym e) ∙ drop_at body text (length body) refl),
    )

-- what stands behind a counted record
pub behind_counted : (body text payload : List ℕ) (status : ℕ) (bodies : List (List ℕ)) → length body < 4294967295 → AllByRecursion (λ b. length b < 4294967295) bodies → to_be_bytes w32 (length body) ++ (body ++ text) ≡ all_counted bodies ++ end_record status → payload ≡ joined_bodies bodies →
    (more : List ℕ) × (payload ≡ body ++ more) × IsRecords text more status
behind_counted body text payload status [] short all e p = absurd (not_end (length body) short (ap (take 4) e))
behind_counted body text payload status (x ∷ xs) short all e p =
    let shown : to_be_bytes w32 (length body) ++ (body ++ text) ≡ to_be_bytes w32 (length x) ++ (x ++ (all_counted xs ++ end_record status)) = e ∙ simp append_assoc in
    let long : length body ≡ length x = same_length (length body) (length x) short all.0 (ap (take 4) shown) in
    let tail : body ++ text ≡ x ++ (all_counted xs ++ end_record status) = ap (drop 4) shown in
    let same = same_body body text x (all_counted xs ++ end_record status) long tail in
    (joined_bodies xs, p ∙ ap (λ (b : List ℕ). b ++ joined_bodies xs) same.0, record { bodies = xs; short = all.1; text_is = sym same.1; payload_is = refl })

-- a counted record carries its bytes
pub counted_carries : (body : List ℕ) → length body < 4294967295 → CarriesRecords phases.Head phases.Head (counted_record body) body
counted_carries body short text payload status = (
  λ r. behind_counted body text payload status r.bodies short r.short (sym (append_assoc (to_be_bytes w32 (length body)) body text) ∙ r.text_is) r.payload_is,
  λ m.
      let r = m.2 in
      record {
        bodies = body ∷ r.bodies;
        short = (short, r.short);
        text_is = ap (λ (t : List ℕ). counted_record body ++ t) r.text_is ∙ sym (append_assoc (counted_record body) (all_counted r.bodies) (end_record status));
        payload_is = m.1 ∙ ap (λ (t : List ℕ). body ++ t) r.payload_is;
      },
)

-- what was carried so far, and then one more
pub carries_more : (phase : RecordPhase) (text flight body : List ℕ) → length body < 4294967295 → CarriesRecords phase phases.Head text flight → CarriesRecords phase phases.Head (text ++ counted_record body) (flight ++ body)
carries_more phase text flight body short c = carries_then phase phases.Head phases.Head text (counted_record body) flight body c (counted_carries body short)

-- or the end
pub carries_end : (phase : RecordPhase) (text flight : List ℕ) (status : ℕ) → CarriesRecords phase phases.Head text flight → RecordsContinue phase (text ++ end_record status) flight status
carries_end phase text flight status c = (c (end_record status) flight status).1 ([], sym (append-nil flight), record { bodies = []; short = tt; text_is = refl; payload_is = refl })
