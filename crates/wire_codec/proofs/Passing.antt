-- What is passed over fails where reading it does.
use Rattle.std.proofs.Common.{◌≡◌, ℕ, zero, suc, ◌-◌, List, ◌∷◌, Result, Ok, Err, refl}
use Rattle.wire_format.specs.declared.fault.ReadStop.{ReadStop}
use Rattle.wire_format.specs.declared.fault.ReadError.{ReadError}
use Rattle.wire_format.specs.declared.fault.ReadError.TheVariants as errors
use Rattle.wire_format.specs.WordKinds.{word_of_kind}
use Rattle.wire_message.specs.Kinds.{length_from}
use Rattle.wire_message.specs.Message.{entry, passed_entry, string_list}
use Rattle.wire_format.specs.Format.{◌>>=◌, Format, ReadingFails, map_format, places}

abbrev put_first : {A : Type 0} → A → List A × List ℕ → Result (List A × List ℕ) ReadStop
put_first a x = Ok (a ∷ x.0, x.1)

with_first : {A B : Type 0} (a : A) (b : B) (stop : ReadStop) (r : Result (List A × List ℕ) ReadStop) (t : Result (List B × List ℕ) ReadStop) → (r ≡ Err stop → t ≡ Err stop) → (r >>= put_first a) ≡ Err stop → (t >>= put_first b) ≡ Err stop
with_first a b stop (Ok x) t f h = absurd cc
with_first a b stop (Err s) t f h = let same : t ≡ Err stop = f cc in rw same refl

abbrev made_of : {A B : Type 0} → (A → B) → A × List ℕ → Result (B × List ℕ) ReadStop
made_of make x = Ok (make x.0, x.1)

abbrev then_places : {A : Type 0} → ℕ → Format A → A × List ℕ → Result (List A × List ℕ) ReadStop
then_places n F x = (places n F).read x.1 >>= put_first x.0

passed_first : {A B : Type 0} (make : A → B) (F : Format A) (n : ℕ) (stop : ReadStop) (r : Result (A × List ℕ) ReadStop) → ((rest : List ℕ) → (places n (map_format make F)).read rest ≡ Err stop → (places n F).read rest ≡ Err stop)
    → ((r >>= made_of make) >>= then_places n (map_format make F)) ≡ Err stop → (r >>= then_places n F) ≡ Err stop
passed_first make F n stop (Ok x) others e = with_first (make x.0) x.0 stop ((places n (map_format make F)).read x.1) ((places n F).read x.1) (others x.1) e
passed_first make F n stop (Err s) others e = cc

passed : {A B : Type 0} (make : A → B) (F : Format A) (n : ℕ) (bytes : List ℕ) (stop : ReadStop) → (places n (map_format make F)).read bytes ≡ Err stop → (places n F).read bytes ≡ Err stop
unfolding places
passed make F zero bytes stop h = absurd cc
passed make F (suc n) bytes stop h = passed_first make F n stop (F.read bytes) (λ rest. passed make F n rest stop) h

pub list_fails : (bytes rest : List ℕ) (count : ℕ) (e : ReadError) → (word_of_kind (length_from 1)).read bytes ≡ Ok (count, rest) → ReadingFails e ((places (count - 1) passed_entry).read rest) → ReadingFails e (string_list.read bytes)
unfolding string_list
list_fails bytes rest count errors.Memory first h = tt
list_fails bytes rest count (errors.Stop stop) first h = let all = passed (λ text. 0) entry (count - 1) rest stop h in rw (first, all) refl
