-- Newcomers to a port.
use Rattle.std.proofs.Common.{◌≡◌, ℕ, ◌+◌, ◌<◌, length, Bool, false, List, [], ◌∷◌, ◌++◌, Option, Some, None, Result, Ok, Err, refl, sym, ap, ◌∙◌, subst, arith, ◌⊎◌, inl, inr}
use Rattle.std.specs.Prelude.{map}
use Rattle.std.proofs.lemmas.List.{append-nil, length-append, length-map, map-append}
use Rattle.socket_calls.specs.SocketCall.{SocketCall, SocketRecord, arrival_call, comer_of, with_socket_calls}
use Rattle.socket_calls.specs.SocketCall.SocketCall.{Comes, FailsToAccept, NobodyComes}
use Rattle.socket_calls.specs.declared.calls.Arrival.{Arrival}
use Rattle.saned_cli.specs.Guarding.{ComerSeen, accepts_in, closed_in, comers_in, last_ended, last_waiting, looked_at, most_at_once, readings_in, taken_in}
use Rattle.saned_cli.specs.Inside.{HaveCome, comer_seen, unmarked_one}
use Rattle.saned_cli.specs.declared.table_reading.Newcomer.{Newcomer}
use Rattle.saned_cli.proofs.TableLaws.{went_on}

-- so many calls at most, and those that came
pub record HaveComeBy {W : Type 0} (number : W → ℕ) (port : ℕ) (most : ℕ) (was : Option SocketRecord) (all : List (Newcomer W)) (now : Option SocketRecord) : Type 0 where
  pub since : SocketRecord
  pub grew : now ≡ with_socket_calls since was
  pub asked : accepts_in since ≡ most
  pub many : length all ≡ most
  pub no_readings : readings_in since ≡ 0
  pub none_taken : taken_in since ≡ []
  pub none_looked : looked_at since ≡ []
  pub none_waits : last_waiting since ≡ None
  pub none_ended : last_ended since ≡ None
  pub none_closed : closed_in since ≡ []
  pub came : comers_in since ≡ map (comer_seen number port) all
  pub unmarked_yet : map unmarked_one all ≡ all

pub nobody_yet : {W : Type 0} (number : W → ℕ) (port : ℕ) (was : Option SocketRecord) (all : List (Newcomer W)) → all ≡ [] → was ≡ with_socket_calls [] was → HaveComeBy number port 0 was all was
nobody_yet number port was all none same = record {
  since = [];
  grew = same;
  asked = refl;
  many = ap (λ l. length l) none;
  no_readings = refl;
  none_taken = refl;
  none_looked = refl;
  none_waits = refl;
  none_ended = refl;
  none_closed = refl;
  came = ap (λ l. map (comer_seen number port) l) (sym none);
  unmarked_yet = ap (λ l. map unmarked_one l) none ∙ sym none;
}

pub have_come : {W : Type 0} (number : W → ℕ) (port : ℕ) (most : ℕ) (was : Option SocketRecord) (all same : List (Newcomer W)) (now : Option SocketRecord) → HaveComeBy number port most was all now
    → most ≡ most_at_once → same ≡ all → HaveCome number port was same now
have_come number port most was all same now h le is = record {
  since = h.since;
  grew = h.grew;
  few = omega (arith, h.asked, le);
  asks = inr (inl (h.asked ∙ le));
  no_readings = h.no_readings;
  none_taken = h.none_taken;
  none_looked = h.none_looked;
  none_waits = h.none_waits;
  none_ended = h.none_ended;
  none_closed = h.none_closed;
  came = h.came ∙ ap (λ l. map (comer_seen number port) l) (sym is);
  unmarked_yet = ap (λ l. map unmarked_one l) is ∙ (h.unmarked_yet ∙ sym is);
}

one_more : {W : Type 0} (number : W → ℕ) (port : ℕ) (all : List (Newcomer W)) (it : Newcomer W) (seen : ComerSeen) → comer_seen number port it ≡ seen
    → map (comer_seen number port) all ++ seen ∷ [] ≡ map (comer_seen number port) (all ++ it ∷ [])
one_more number port all it seen e = ap (λ (s : ComerSeen). map (comer_seen number port) all ++ s ∷ []) (sym e) ∙ sym (map-append (comer_seen number port) all (it ∷ []))

unmarked_more : {W : Type 0} (all : List (Newcomer W)) (it : Newcomer W) → map unmarked_one all ≡ all → it.is_his ≡ false → map unmarked_one (all ++ it ∷ []) ≡ all ++ it ∷ []
unmarked_more {W} all it before fresh =
    let one : unmarked_one it ≡ it = ap (λ (b : Bool). let made : Newcomer W = record it { is_his = b } in made) (sym fresh) in
    map-append unmarked_one all (it ∷ []) ∙ (ap (λ (l : List (Newcomer W)). l ++ unmarked_one it ∷ []) before ∙ ap (λ (x : Newcomer W). all ++ x ∷ []) one)

pub one_came : {W E : Type 0} (number : W → ℕ) (port : ℕ) (most : ℕ) (was mid now : Option SocketRecord) (all room news : List (Newcomer W)) (it : Newcomer W) (came : Arrival W) (result : Result (Option (Arrival W)) E)
    → HaveComeBy number port most was all mid → now ≡ with_socket_calls (arrival_call number port result ∷ []) mid → result ≡ Ok (Some came) → news ≡ room ++ it ∷ [] → room ≡ all → it.stream ≡ came.stream → it.peer ≡ came.peer → it.is_his ≡ false
    → HaveComeBy number port (most + 1) was news now
one_came {W} {E} number port most was mid now all room news it came result h told is pushed same stream peer fresh =
    let grown : news ≡ all ++ it ∷ [] = pushed ∙ ap (λ (l : List (Newcomer W)). l ++ it ∷ []) same in
    let call : now ≡ with_socket_calls (Comes port (comer_of number came) ∷ []) mid = subst (λ (r : Result (Option (Arrival W)) E). now ≡ with_socket_calls (arrival_call number port r ∷ []) mid) is told in
    let seen : comer_seen number port it ≡ record { port = port; number = number came.stream; peer = came.peer } = ap (λ (s : W). record { port = port; number = number s; peer = it.peer }) stream ∙ ap (λ p. record { port = port; number = number came.stream; peer = p }) peer in
    record {
      since = Comes port (comer_of number came) ∷ h.since;
      grew = went_on (Comes port (comer_of number came) ∷ []) h.since was mid now h.grew call;
      asked = omega (arith, h.asked);
      many = omega (arith, ap (λ l. length l) grown, length-append all (it ∷ []), h.many);
      no_readings = omega (arith, h.no_readings);
      none_taken = append-nil (taken_in h.since) ∙ h.none_taken;
      none_looked = append-nil (looked_at h.since) ∙ h.none_looked;
      none_waits = h.none_waits;
      none_ended = h.none_ended;
      none_closed = append-nil (closed_in h.since) ∙ h.none_closed;
      came = ap (λ l. l ++ record { port = port; number = number came.stream; peer = came.peer } ∷ []) h.came ∙ (one_more number port all it _ seen ∙ ap (λ l. map (comer_seen number port) l) (sym grown));
      unmarked_yet = ap (λ l. map unmarked_one l) grown ∙ (unmarked_more all it h.unmarked_yet fresh ∙ sym grown);
    }

-- nobody comes any more
fewer : {W : Type 0} (number : W → ℕ) (port most : ℕ) (since calls : SocketRecord) (all : List (Newcomer W)) → comers_in calls ≡ map (comer_seen number port) all → length all ≡ most → accepts_in calls ≡ most + 1 → length (comers_in calls) < accepts_in calls
fewer number port most since calls all came many asked = omega (arith, ap (λ l. length l) came, length-map all (comer_seen number port), many, asked)

nobody_now : {W : Type 0} (number : W → ℕ) (port : ℕ) (most : ℕ) (was mid now : Option SocketRecord) (all : List (Newcomer W)) (call : SocketCall) → (call ≡ NobodyComes port) ⊎ (call ≡ FailsToAccept port)
    → HaveComeBy number port most was all mid → now ≡ with_socket_calls (call ∷ []) mid → most < most_at_once → HaveCome number port was all now
nobody_now number port most was mid now all call (inl is) h told le =
    let at : now ≡ with_socket_calls (NobodyComes port ∷ []) mid = subst (λ (k : SocketCall). now ≡ with_socket_calls (k ∷ []) mid) is told in
    let came : comers_in (NobodyComes port ∷ h.since) ≡ map (comer_seen number port) all = append-nil (comers_in h.since) ∙ h.came in
    let asked : accepts_in (NobodyComes port ∷ h.since) ≡ most + 1 = omega (arith, h.asked) in
    record {
      since = NobodyComes port ∷ h.since;
      grew = went_on (NobodyComes port ∷ []) h.since was mid now h.grew at;
      few = omega (arith, asked, le);
      asks = inr (inr (fewer number port most h.since (NobodyComes port ∷ h.since) all came h.many asked));
      no_readings = omega (arith, h.no_readings);
      none_taken = append-nil (taken_in h.since) ∙ h.none_taken;
      none_looked = append-nil (looked_at h.since) ∙ h.none_looked;
      none_waits = h.none_waits;
      none_ended = h.none_ended;
      none_closed = append-nil (closed_in h.since) ∙ h.none_closed;
      came = came;
      unmarked_yet = h.unmarked_yet;
    }
nobody_now number port most was mid now all call (inr is) h told le =
    let at : now ≡ with_socket_calls (FailsToAccept port ∷ []) mid = subst (λ (k : SocketCall). now ≡ with_socket_calls (k ∷ []) mid) is told in
    let came : comers_in (FailsToAccept port ∷ h.since) ≡ map (comer_seen number port) all = append-nil (comers_in h.since) ∙ h.came in
    let asked : accepts_in (FailsToAccept port ∷ h.since) ≡ most + 1 = omega (arith, h.asked) in
    record {
      since = FailsToAccept port ∷ h.since;
      grew = went_on (FailsToAccept port ∷ []) h.since was mid now h.grew at;
      few = omega (arith, asked, le);
      asks = inr (inr (fewer number port most h.since (FailsToAccept port ∷ h.since) all came h.many asked));
      no_readings = omega (arith, h.no_readings);
      none_taken = append-nil (taken_in h.since) ∙ h.none_taken;
      none_looked = append-nil (looked_at h.since) ∙ h.none_looked;
      none_waits = h.none_waits;
      none_ended = h.none_ended;
      none_closed = append-nil (closed_in h.since) ∙ h.none_closed;
      came = came;
      unmarked_yet = h.unmarked_yet;
    }

no_arrival : {W E : Type 0} (number : W → ℕ) (port : ℕ) (result : Result (Option (Arrival W)) E) → ((it : Arrival W) → result ≡ Ok (Some it) → ⊥)
    → (arrival_call number port result ≡ NobodyComes port) ⊎ (arrival_call number port result ≡ FailsToAccept port)
no_arrival number port (Ok (Some it)) not = absurd (not it refl)
no_arrival number port (Ok None) not = inl refl
no_arrival number port (Err e) not = inr refl

pub no_more_came : {W E : Type 0} (number : W → ℕ) (port : ℕ) (most : ℕ) (was mid now : Option SocketRecord) (all : List (Newcomer W)) (result : Result (Option (Arrival W)) E)
    → HaveComeBy number port most was all mid → now ≡ with_socket_calls (arrival_call number port result ∷ []) mid → ((it : Arrival W) → result ≡ Ok (Some it) → ⊥) → most < most_at_once
    → HaveCome number port was all now
no_more_came number port most was mid now all result h told not le =
    nobody_now number port most was mid now all (arrival_call number port result) (no_arrival number port result not) h told le

-- there was no room for any
pub nobody_asked : {W : Type 0} (number : W → ℕ) (port : ℕ) (was : Option SocketRecord) (all : List (Newcomer W)) → all ≡ [] → was ≡ with_socket_calls [] was → HaveCome number port was all was
nobody_asked number port was all none same = record {
  since = [];
  grew = same;
  few = omega arith;
  asks = inl refl;
  no_readings = refl;
  none_taken = refl;
  none_looked = refl;
  none_waits = refl;
  none_ended = refl;
  none_closed = refl;
  came = ap (λ l. map (comer_seen number port) l) (sym none);
  unmarked_yet = ap (λ l. map unmarked_one l) none ∙ sym none;
}
