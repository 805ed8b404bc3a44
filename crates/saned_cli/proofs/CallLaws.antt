-- Calls behind calls, and what they bring together.
use Rattle.std.proofs.Common.{◌≡◌, ℕ, ◌+◌, List, [], ◌∷◌, ◌++◌, append_assoc, Option, Some, None, refl, sym, ap, ◌∙◌, arith, length, inl, inr}
use Rattle.std.specs.Option.{option_or}
use Rattle.std.proofs.lemmas.List.{append-nil}
use Rattle.socket_calls.specs.SocketCall.{SocketCall, SocketRecord, with_socket_calls}
use Rattle.saned_cli.specs.Guarding.{AsksForAll, ComerSeen, accept_by, accepts_in, closed_by, closed_in, comers_by, comers_in, counted, ended_among, gathered, looked_by, newest_by, reading_by, taken_by, times_among, waiting_by}
use Rattle.saned_cli.specs.Inside.{AreLooks, HasLooked}
use Rattle.saned_cli.specs.Guarding.{PortAndCalls}
use Rattle.saned_cli.proofs.TableLaws.{went_on}

pub gathered_more : {X : Type 0} (by : SocketCall → List X) (more since : SocketRecord) → gathered by (more ++ since) ≡ gathered by since ++ gathered by more
gathered_more by [] since = sym (append-nil (gathered by since))
gathered_more by (call ∷ more) since = ap (λ l. l ++ by call) (gathered_more by more since) ∙ append_assoc (gathered by since) (gathered by more) (by call)

pub same_calls : (was : Option SocketRecord) → was ≡ with_socket_calls [] was
same_calls None = refl
same_calls (Some past) = refl

or_assoc : (a b c : Option ℕ) → option_or a (option_or b c) ≡ option_or (option_or a b) c
or_assoc None b c = refl
or_assoc (Some n) b c = refl

pub newest_more : (by : SocketCall → Option ℕ) (more since : SocketRecord) → newest_by by (more ++ since) ≡ option_or (newest_by by more) (newest_by by since)
newest_more by [] since = refl
newest_more by (call ∷ more) since = ap (λ (o : Option ℕ). option_or (by call) o) (newest_more by more since) ∙ or_assoc (by call) (newest_by by more) (newest_by by since)

pub counted_more : (by : SocketCall → ℕ) (more since : SocketRecord) → counted by (more ++ since) ≡ counted by more + counted by since
counted_more by [] since = omega arith
counted_more by (call ∷ more) since = let e : counted by (more ++ since) ≡ counted by more + counted by since = counted_more by more since in omega (arith, e)

pub none_more : {X : Type 0} (by : SocketCall → List X) (more since : SocketRecord) → gathered by more ≡ [] → gathered by since ≡ [] → gathered by (more ++ since) ≡ []
none_more by more since a b = gathered_more by more since ∙ cc (a, b)

-- ---- how often a number stands

pub times_append : (n : ℕ) (xs ys : List ℕ) → times_among n (xs ++ ys) ≡ times_among n xs + times_among n ys
times_append n [] ys = omega arith
times_append n (x ∷ xs) ys = let rest : times_among n (xs ++ ys) ≡ times_among n xs + times_among n ys = times_append n xs ys in omega (arith, rest)

pub closed_times : (n : ℕ) (more since : SocketRecord) → times_among n (closed_in (more ++ since)) ≡ times_among n (closed_in more) + times_among n (closed_in since)
closed_times n more since =
    let both : times_among n (closed_in (more ++ since)) ≡ times_among n (closed_in since ++ closed_in more) = ap (λ (l : List ℕ). times_among n l) (gathered_more closed_by more since) in
    omega (arith, both, times_append n (closed_in since) (closed_in more))

-- ---- as many were asked for, and the same came

pub asks_same : (now was : SocketRecord) → accepts_in now ≡ accepts_in was → comers_in now ≡ comers_in was → AsksForAll was → AsksForAll now
asks_same now was asked came (inl none) = inl (asked ∙ none)
asks_same now was asked came (inr (inl most)) = inr (inl (asked ∙ most))
asks_same now was asked came (inr (inr fewer)) = inr (inr (omega (arith, asked, ap (λ (l : List ComerSeen). length l) came, fewer)))

looks_more : (more since : SocketRecord) → AreLooks more → AreLooks since → AreLooks (more ++ since)
looks_more more since a b = record {
  no_accepts = omega (arith, counted_more accept_by more since, a.no_accepts, b.no_accepts);
  no_readings = omega (arith, counted_more reading_by more since, a.no_readings, b.no_readings);
  none_came = none_more comers_by more since a.none_came b.none_came;
  none_taken = none_more taken_by more since a.none_taken b.none_taken;
}

newest_step : (by : SocketCall → Option ℕ) (more since : SocketRecord) (was mid now : Option ℕ) → now ≡ option_or (newest_by by more) mid
    → mid ≡ option_or (newest_by by since) was → now ≡ option_or (newest_by by (more ++ since)) was
newest_step by more since was mid now a b =
    a ∙ (ap (λ (o : Option ℕ). option_or (newest_by by more) o) b ∙ (or_assoc (newest_by by more) (newest_by by since) was ∙ ap (λ (o : Option ℕ). option_or o was) (sym (newest_more by more since))))

pub looked_on : (had more first then : List ℕ) (was mid now : PortAndCalls) → HasLooked had first was mid → HasLooked more then mid now → HasLooked (had ++ more) (first ++ then) was now
looked_on had more first then was mid now a b = record {
  since = b.since ++ a.since;
  grew = went_on b.since a.since was.calls mid.calls now.calls a.grew b.grew;
  looks = looks_more b.since a.since b.looks a.looks;
  port_is = b.port_is ∙ a.port_is;
  owner_is = b.owner_is ∙ a.owner_is;
  looked = gathered_more looked_by b.since a.since ∙ cc (a.looked, b.looked);
  standing_is = newest_step waiting_by b.since a.since was.port.standing mid.port.standing now.port.standing b.standing_is a.standing_is;
  ended_is = newest_step ended_among b.since a.since was.port.ended mid.port.ended now.port.ended b.ended_is a.ended_is;
  closed = λ n. omega (arith, a.closed n, b.closed n, closed_times n b.since a.since, times_append n had more);
}

pub looked_at_none : (it : PortAndCalls) → HasLooked [] [] it it
looked_at_none it = record {
  since = [];
  grew = same_calls it.calls;
  looks = record { no_accepts = refl; no_readings = refl; none_came = refl; none_taken = refl };
  port_is = refl;
  owner_is = refl;
  looked = refl;
  standing_is = refl;
  ended_is = refl;
  closed = λ n. omega arith;
}
