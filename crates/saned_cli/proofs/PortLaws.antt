-- What a data port keeps, connection by connection.
use Rattle.std.proofs.Common.{◌≡◌, ℕ, ◌+◌, Bool, true, false, List, [], ◌∷◌, ◌++◌, Option, Some, None, refl, sym, ap, ◌∙◌, subst, arith, ◌⊎◌, inl, inr}
use Rattle.std.specs.Prelude.{filter, map, cond}
use Rattle.std.specs.Option.{option_or}
use Rattle.std.proofs.lemmas.List.{append-nil, map-append}
use Rattle.std.proofs.lemmas.List.Elements.{filter-append}
use Rattle.socket_calls.specs.SocketCall.{SocketRecord, with_socket_calls}
use Rattle.socket_calls.specs.SocketCall.SocketCall.{Closes, Peeks}
use Rattle.socket_calls.specs.declared.calls.Peeked.{Peeked}
use Rattle.socket_calls.specs.declared.calls.Peeked.TheVariants.{Nothing, End, Speech, Break}
use Rattle.saned_cli.specs.Guarding.{closed_in, last_ended, last_waiting, looked_at, times_among}
use Rattle.saned_cli.specs.Inside.{AreLooks, HasLooked, admitted_numbers, is_admitted, is_let_in, newcomer_numbers, without_standing}
use Rattle.saned_cli.specs.Guarding.{closing}
use Rattle.saned_cli.specs.Guarding.{PortAndCalls, numbers_of}
use Rattle.saned_cli.specs.declared.table_reading.Newcomer.{Newcomer}
use Rattle.saned_cli.proofs.CallLaws.{looked_at_none, looked_on, times_append}
use Rattle.saned_cli.proofs.TableLaws.{went_on}

-- a connection was looked at, and one was closed
record LookAnd (older : Option ℕ) (number : ℕ) (peeked : Peeked) : Type 0 where
  looks : AreLooks (closing older ++ Peeks number peeked ∷ [])
  looked : looked_at (closing older ++ Peeks number peeked ∷ []) ≡ number ∷ []

look_and : (older : Option ℕ) (number : ℕ) (peeked : Peeked) → LookAnd older number peeked
look_and None number peeked = record { looks = record { no_accepts = refl; no_readings = refl; none_came = refl; none_taken = refl }; looked = refl }
look_and (Some one) number peeked = record { looks = record { no_accepts = refl; no_readings = refl; none_came = refl; none_taken = refl }; looked = refl }

waits : (older : Option ℕ) (number : ℕ) → last_waiting (closing older ++ Peeks number Nothing ∷ []) ≡ Some number
waits None number = refl
waits (Some one) number = refl

waits_on : (older : Option ℕ) (number : ℕ) → last_ended (closing older ++ Peeks number Nothing ∷ []) ≡ None
waits_on None number = refl
waits_on (Some one) number = refl

ends : (older : Option ℕ) (number : ℕ) → last_ended (closing older ++ Peeks number End ∷ []) ≡ Some number
ends None number = refl
ends (Some one) number = refl

ends_on : (older : Option ℕ) (number : ℕ) → last_waiting (closing older ++ Peeks number End ∷ []) ≡ None
ends_on None number = refl
ends_on (Some one) number = refl

or_of : (newest was : Option ℕ) (n : ℕ) → newest ≡ Some n → Some n ≡ option_or newest was
or_of newest was n e = rw e refl

or_none : (newest was : Option ℕ) → newest ≡ None → was ≡ option_or newest was
or_none newest was e = rw e refl

-- one is put into its place, and the older one is closed
stands_now : (k n : ℕ) (older ended place : Option ℕ) (peeked : Peeked) → place ≡ Some n
    → times_among k (numbers_of older ++ numbers_of ended) + times_among k (n ∷ []) ≡ times_among k (closed_in (closing older ++ Peeks n peeked ∷ [])) + times_among k (numbers_of place ++ numbers_of ended)
stands_now k n None ended place peeked at = rw at (omega arith)
stands_now k n (Some one) ended place peeked at = rw at (omega arith)

closed_for : (k n : ℕ) (older place : Option ℕ) (peeked : Peeked) → place ≡ Some n
    → times_among k (numbers_of older) + times_among k (n ∷ []) ≡ times_among k (closed_in (closing older ++ Peeks n peeked ∷ [])) + times_among k (numbers_of place)
closed_for k n None place peeked at = rw at (omega arith)
closed_for k n (Some one) place peeked at = rw at (omega arith)

ended_now : (k n : ℕ) (standing older place : Option ℕ) (peeked : Peeked) → place ≡ Some n
    → times_among k (numbers_of standing ++ numbers_of older) + times_among k (n ∷ []) ≡ times_among k (closed_in (closing older ++ Peeks n peeked ∷ [])) + times_among k (numbers_of standing ++ numbers_of place)
ended_now k n standing older place peeked at =
    omega (arith, closed_for k n older place peeked at, times_append k (numbers_of standing) (numbers_of older), times_append k (numbers_of standing) (numbers_of place))

peeked_as : (was mid : Option SocketRecord) (n : ℕ) (peeked found : Peeked) → mid ≡ with_socket_calls (Peeks n peeked ∷ []) was → peeked ≡ found → mid ≡ with_socket_calls (Peeks n found ∷ []) was
peeked_as was mid n peeked found told is = subst (λ (p : Peeked). mid ≡ with_socket_calls (Peeks n p ∷ []) was) is told

pub kept_waiting : (n : ℕ) (was : PortAndCalls) (mid now : Option SocketRecord) (peeked : Peeked) (place : Option ℕ)
    → mid ≡ with_socket_calls (Peeks n peeked ∷ []) was.calls → peeked ≡ Nothing → now ≡ with_socket_calls (closing was.port.standing) mid → place ≡ Some n
    → HasLooked (n ∷ []) (n ∷ []) was (record { port = record was.port { standing = place }; calls = now })
kept_waiting n was mid now peeked place told is closed at = record {
  since = closing was.port.standing ++ Peeks n Nothing ∷ [];
  grew = went_on (closing was.port.standing) (Peeks n Nothing ∷ []) was.calls mid now (peeked_as was.calls mid n peeked Nothing told is) closed;
  looks = (look_and was.port.standing n Nothing).looks;
  port_is = refl;
  owner_is = refl;
  looked = (look_and was.port.standing n Nothing).looked;
  standing_is = at ∙ or_of _ was.port.standing n (waits was.port.standing n);
  ended_is = or_none _ was.port.ended (waits_on was.port.standing n);
  closed = λ k. stands_now k n was.port.standing was.port.ended place Nothing at;
}

pub kept_ended : (n : ℕ) (was : PortAndCalls) (mid now : Option SocketRecord) (peeked : Peeked) (place : Option ℕ)
    → mid ≡ with_socket_calls (Peeks n peeked ∷ []) was.calls → peeked ≡ End → now ≡ with_socket_calls (closing was.port.ended) mid → place ≡ Some n
    → HasLooked (n ∷ []) (n ∷ []) was (record { port = record was.port { ended = place }; calls = now })
kept_ended n was mid now peeked place told is closed at = record {
  since = closing was.port.ended ++ Peeks n End ∷ [];
  grew = went_on (closing was.port.ended) (Peeks n End ∷ []) was.calls mid now (peeked_as was.calls mid n peeked End told is) closed;
  looks = (look_and was.port.ended n End).looks;
  port_is = refl;
  owner_is = refl;
  looked = (look_and was.port.ended n End).looked;
  standing_is = or_none _ was.port.standing (ends_on was.port.ended n);
  ended_is = at ∙ or_of _ was.port.ended n (ends was.port.ended n);
  closed = λ k. ended_now k n was.port.standing was.port.ended place End at;
}

let_go : (n : ℕ) (was : PortAndCalls) (mid now : Option SocketRecord) (peeked : Peeked) → (last_waiting (Closes n ∷ Peeks n peeked ∷ []) ≡ None) × (last_ended (Closes n ∷ Peeks n peeked ∷ []) ≡ None) → mid ≡ with_socket_calls (Peeks n peeked ∷ []) was.calls
    → now ≡ with_socket_calls (Closes n ∷ []) mid → HasLooked (n ∷ []) (n ∷ []) was (record { port = was.port; calls = now })
let_go n was mid now peeked neither told closed = record {
  since = Closes n ∷ Peeks n peeked ∷ [];
  grew = went_on (Closes n ∷ []) (Peeks n peeked ∷ []) was.calls mid now told closed;
  looks = record { no_accepts = refl; no_readings = refl; none_came = refl; none_taken = refl };
  port_is = refl;
  owner_is = refl;
  looked = refl;
  standing_is = or_none _ was.port.standing neither.0;
  ended_is = or_none _ was.port.ended neither.1;
  closed = λ k. omega arith;
}

pub kept_none : (n : ℕ) (was : PortAndCalls) (mid now : Option SocketRecord) (peeked : Peeked) → (peeked ≡ Speech) ⊎ (peeked ≡ Break)
    → mid ≡ with_socket_calls (Peeks n peeked ∷ []) was.calls → now ≡ with_socket_calls (Closes n ∷ []) mid → HasLooked (n ∷ []) (n ∷ []) was (record { port = was.port; calls = now })
kept_none n was mid now peeked (inl is) told closed = let_go n was mid now Speech (refl, refl) (peeked_as was.calls mid n peeked Speech told is) closed
kept_none n was mid now peeked (inr is) told closed = let_go n was mid now Break (refl, refl) (peeked_as was.calls mid n peeked Break told is) closed

pub nothing_looked_at : (was : PortAndCalls) (kept place : Option ℕ) → kept ≡ None → place ≡ None
    → HasLooked (numbers_of kept) (numbers_of kept) (without_standing was) (record { port = record was.port { standing = place }; calls = was.calls })
nothing_looked_at was kept place none empty =
    subst (λ (k : Option ℕ). HasLooked (numbers_of k) (numbers_of k) (without_standing was) (record { port = record was.port { standing = place }; calls = was.calls })) (sym none)
    (subst (λ (p : Option ℕ). HasLooked [] [] (without_standing was) (record { port = record was.port { standing = p }; calls = was.calls })) (sym empty) (looked_at_none (without_standing was)))

pub one_looked_at : (was now : PortAndCalls) (kept place : Option ℕ) (n : ℕ) → kept ≡ Some n → place ≡ None
    → HasLooked (n ∷ []) (n ∷ []) (record { port = record was.port { standing = place }; calls = was.calls }) now → HasLooked (numbers_of kept) (numbers_of kept) (without_standing was) now
one_looked_at was now kept place n one empty looks =
    subst (λ (k : Option ℕ). HasLooked (numbers_of k) (numbers_of k) (without_standing was) now) (sym one)
    (subst (λ (p : Option ℕ). HasLooked (n ∷ []) (n ∷ []) (record { port = record was.port { standing = p }; calls = was.calls }) now) empty looks)

-- ---- newcomers, one by one

pub admitted_more : {W : Type 0} (number : W → ℕ) (owner : Option ℕ) (all : List (Newcomer W)) (it : Newcomer W) → is_admitted owner it ≡ true
    → admitted_numbers number owner (all ++ it ∷ []) ≡ admitted_numbers number owner all ++ number it.stream ∷ []
admitted_more {W} number owner all it is =
    ap (λ (l : List (Newcomer W)). map (λ it. number it.stream) l) (filter-append (is_admitted owner) all (it ∷ []))
    ∙ (map-append (λ it. number it.stream) (filter (is_admitted owner) all) (filter (is_admitted owner) (it ∷ []))
    ∙ ap (λ (b : Bool). admitted_numbers number owner all ++ map (λ it. number it.stream) (cond b (it ∷ []) [])) is)

pub admitted_same : {W : Type 0} (number : W → ℕ) (owner : Option ℕ) (all : List (Newcomer W)) (it : Newcomer W) → is_admitted owner it ≡ false
    → admitted_numbers number owner (all ++ it ∷ []) ≡ admitted_numbers number owner all
admitted_same {W} number owner all it is =
    ap (λ (l : List (Newcomer W)). map (λ it. number it.stream) l) (filter-append (is_admitted owner) all (it ∷ []))
    ∙ (map-append (λ it. number it.stream) (filter (is_admitted owner) all) (filter (is_admitted owner) (it ∷ []))
    ∙ (ap (λ (b : Bool). admitted_numbers number owner all ++ map (λ it. number it.stream) (cond b (it ∷ []) [])) is ∙ append-nil (admitted_numbers number owner all)))

newcomer_more : {W : Type 0} (number : W → ℕ) (all : List (Newcomer W)) (it : Newcomer W) → newcomer_numbers number (all ++ it ∷ []) ≡ newcomer_numbers number all ++ number it.stream ∷ []
newcomer_more {W} number all it = map-append (λ it. number it.stream) all (it ∷ [])

closed_one : (had numbers : List ℕ) (n : ℕ) (was mid : PortAndCalls) (now : Option SocketRecord) → HasLooked had numbers was mid → now ≡ with_socket_calls (Closes n ∷ []) mid.calls
    → HasLooked (had ++ n ∷ []) numbers was (record { port = mid.port; calls = now })
closed_one had numbers n was mid now looks closed =
    let one : HasLooked (n ∷ []) [] mid (record { port = mid.port; calls = now }) = record {
      since = Closes n ∷ [];
      grew = closed;
      looks = record { no_accepts = refl; no_readings = refl; none_came = refl; none_taken = refl };
      port_is = refl;
      owner_is = refl;
      looked = refl;
      standing_is = refl;
      ended_is = refl;
      closed = λ k. omega arith;
    } in
    subst (λ (l : List ℕ). HasLooked (had ++ n ∷ []) l was (record { port = mid.port; calls = now })) (append-nil numbers) (looked_on had (n ∷ []) numbers [] was mid (record { port = mid.port; calls = now }) looks one)

pub let_in : {W : Type 0} (number : W → ℕ) (owner : Option ℕ) (all : List (Newcomer W)) (it : Newcomer W) (owner_now : Option ℕ) (is_let : Bool) (stream : W) (is_his : Bool) (was mid now : PortAndCalls)
    → HasLooked (newcomer_numbers number all) (admitted_numbers number owner all) was mid → mid.port.owner ≡ owner_now → was.port.owner ≡ owner → is_let ≡ is_let_in owner_now is_his → is_let ≡ true → is_his ≡ it.is_his
    → stream ≡ it.stream → HasLooked (number stream ∷ []) (number stream ∷ []) mid now → HasLooked (newcomer_numbers number (all ++ it ∷ [])) (admitted_numbers number owner (all ++ it ∷ [])) was now
let_in {W} number owner all it owner_now is_let stream is_his was mid now looks mid_owner was_owner let_is is his at one =
    let same : owner_now ≡ owner = sym mid_owner ∙ (looks.owner_is ∙ was_owner) in
    let kept : is_admitted owner it ≡ true = ap (λ (o : Option ℕ). is_let_in o it.is_his) (sym same) ∙ (ap (λ (b : Bool). is_let_in owner_now b) (sym his) ∙ (sym let_is ∙ is)) in
    let look : HasLooked (number it.stream ∷ []) (number it.stream ∷ []) mid now = subst (λ (s : W). HasLooked (number s ∷ []) (number s ∷ []) mid now) at one in
    subst (λ (h : List ℕ). HasLooked h (admitted_numbers number owner (all ++ it ∷ [])) was now) (sym (newcomer_more number all it))
    (subst (λ (l : List ℕ). HasLooked (newcomer_numbers number all ++ number it.stream ∷ []) l was now) (sym (admitted_more number owner all it kept))
    (looked_on (newcomer_numbers number all) (number it.stream ∷ []) (admitted_numbers number owner all) (number it.stream ∷ []) was mid now looks look))

pub kept_out : {W : Type 0} (number : W → ℕ) (owner : Option ℕ) (all : List (Newcomer W)) (it : Newcomer W) (owner_now : Option ℕ) (is_let : Bool) (stream : W) (is_his : Bool) (was mid : PortAndCalls)
    (now : Option SocketRecord) → HasLooked (newcomer_numbers number all) (admitted_numbers number owner all) was mid → mid.port.owner ≡ owner_now → was.port.owner ≡ owner → is_let ≡ is_let_in owner_now is_his → is_let ≡ false
    → is_his ≡ it.is_his → stream ≡ it.stream → now ≡ with_socket_calls (Closes (number stream) ∷ []) mid.calls
    → HasLooked (newcomer_numbers number (all ++ it ∷ [])) (admitted_numbers number owner (all ++ it ∷ [])) was (record { port = mid.port; calls = now })
kept_out {W} number owner all it owner_now is_let stream is_his was mid now looks mid_owner was_owner let_is is his at closed =
    let same : owner_now ≡ owner = sym mid_owner ∙ (looks.owner_is ∙ was_owner) in
    let out : is_admitted owner it ≡ false = ap (λ (o : Option ℕ). is_let_in o it.is_his) (sym same) ∙ (ap (λ (b : Bool). is_let_in owner_now b) (sym his) ∙ (sym let_is ∙ is)) in
    let gone : now ≡ with_socket_calls (Closes (number it.stream) ∷ []) mid.calls = subst (λ (s : W). now ≡ with_socket_calls (Closes (number s) ∷ []) mid.calls) at closed in
    subst (λ (h : List ℕ). HasLooked h (admitted_numbers number owner (all ++ it ∷ [])) was (record { port = mid.port; calls = now })) (sym (newcomer_more number all it))
    (subst (λ (l : List ℕ). HasLooked (newcomer_numbers number all ++ number it.stream ∷ []) l was (record { port = mid.port; calls = now })) (sym (admitted_same number owner all it out))
    (closed_one (newcomer_numbers number all) (admitted_numbers number owner all) (number it.stream) was mid now looks gone))
