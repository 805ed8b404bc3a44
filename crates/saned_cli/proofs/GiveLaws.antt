-- What a look ends with.
use Rattle.std.proofs.Common.{◌≡◌, ℕ, ◌+◌, ◌≤◌, List, [], ◌∷◌, ◌++◌, Option, Some, None, sym, ap, ◌∙◌, subst, arith}
use Rattle.std.specs.Prelude.{IfSome, filter, map}
use Rattle.std.specs.Option.{option_map, option_or}
use Rattle.std.proofs.lemmas.List.{append-nil}
use Rattle.socket_calls.specs.SocketCall.{SocketRecord, with_socket_calls}
use Rattle.socket_calls.specs.SocketCall.SocketCall.{Closes}
use Rattle.saned_cli.specs.Guarding.{AsksForAll, ComerSeen, IsHis, IsKeptFor, KeepsHis, PortView, WhereTold, accepts_in, came_in, closed_in, comers_in, is_comer_of, kept_by, last_ended, last_waiting}
use Rattle.saned_cli.specs.Guarding.{looked_at, most_at_once, readings_in, taken_in, times_among}
use Rattle.saned_cli.specs.Inside.{LooksOnce}
use Rattle.saned_cli.specs.Guarding.{closing}
use Rattle.saned_cli.specs.Guarding.{ForgetsEnded, GivesNewest, PortAndCalls, numbers_of}
use Rattle.saned_cli.proofs.CallLaws.{asks_same, same_calls, times_append}
use Rattle.saned_cli.proofs.TableLaws.{went_on}
use Rattle.saned_cli.proofs.HisLaws.{at_port, keeps_later, of_kept, where_later}

-- a look, and one that is closed behind it
record Behind (was mid : PortAndCalls) (older : Option ℕ) (now : Option SocketRecord) : Type 0 where
  since : SocketRecord
  grew : now ≡ with_socket_calls since was.calls
  few_accepts : accepts_in since ≤ most_at_once
  asks : AsksForAll since
  few_readings : readings_in since ≤ 1
  none_taken : taken_in since ≡ []
  standing_is : mid.port.standing ≡ last_waiting since
  ended_is : mid.port.ended ≡ option_or (last_ended since) was.port.ended
  closed : (n : ℕ) → (times_among n (kept_by was.port) + times_among n (came_in since)) + times_among n (numbers_of older)
      ≡ times_among n (closed_in since) + times_among n (kept_by mid.port)
  lines : List (List ℕ)
  looked : looked_at since
      ≡ numbers_of was.port.standing ++ map (λ it. it.number) (filter (is_comer_of was.port.owner was.port.port lines) (comers_in since))

closed_behind : (was mid : PortAndCalls) (older : Option ℕ) (now : Option SocketRecord) → now ≡ with_socket_calls (closing older) mid.calls → LooksOnce was mid → Behind was mid older now
closed_behind was mid None now grew looks = record {
  since = looks.since;
  grew = grew ∙ (sym (same_calls mid.calls) ∙ looks.grew);
  few_accepts = looks.few_accepts;
  asks = looks.asks;
  few_readings = looks.few_readings;
  none_taken = looks.none_taken;
  standing_is = looks.standing_is;
  ended_is = looks.ended_is;
  closed = λ n. omega (arith, looks.closed n);
  lines = looks.lines;
  looked = looks.looked;
}
closed_behind was mid (Some one) now grew looks = record {
  since = Closes one ∷ looks.since;
  grew = went_on (Closes one ∷ []) looks.since was.calls mid.calls now looks.grew grew;
  few_accepts = omega (arith, looks.few_accepts);
  asks = asks_same (Closes one ∷ looks.since) looks.since (omega arith) (append-nil (comers_in looks.since)) looks.asks;
  few_readings = omega (arith, looks.few_readings);
  none_taken = append-nil (taken_in looks.since) ∙ looks.none_taken;
  standing_is = looks.standing_is;
  ended_is = looks.ended_is;
  closed = λ n.
      let came : times_among n (came_in (Closes one ∷ looks.since)) ≡ times_among n (came_in looks.since) = ap (λ (l : List ComerSeen). times_among n (map (λ it. it.number) l)) (append-nil (comers_in looks.since)) in
      omega (arith, looks.closed n, came, times_append n (closed_in looks.since) (one ∷ []));
  lines = looks.lines;
  looked = append-nil (looked_at looks.since) ∙ (looks.looked ∙ ap (λ (l : List ComerSeen). numbers_of was.port.standing ++ map (λ it. it.number) (filter (is_comer_of was.port.owner was.port.port looks.lines) l)) (sym (append-nil (comers_in looks.since))));
}

-- what is kept, closed, given
accounts : (n : ℕ) (kept came closed given left : List ℕ) → times_among n kept + times_among n came ≡ times_among n closed + (times_among n given + times_among n left)
    → times_among n (kept ++ came) ≡ times_among n (closed ++ (given ++ left))
accounts n kept came closed given left e = omega (arith, e, times_append n kept came, times_append n closed (given ++ left), times_append n given left)

pub forgot : (was mid : PortAndCalls) (ended : Option ℕ) (now : Option SocketRecord) → LooksOnce was mid → ended ≡ None → now ≡ with_socket_calls (closing mid.port.ended) mid.calls
    → ForgetsEnded was (record { port = record mid.port { ended = ended }; calls = now })
forgot was mid ended now looks none grew = let behind = closed_behind was mid mid.port.ended now grew looks in record {
  since = behind.since;
  grew = behind.grew;
  few_accepts = behind.few_accepts;
  asks = behind.asks;
  few_readings = behind.few_readings;
  none_taken = behind.none_taken;
  port_is = looks.port_is;
  owner_is = looks.owner_is;
  standing_is = behind.standing_is;
  none_ended = none;
  closed = λ n.
      let gone : times_among n (numbers_of ended) ≡ 0 = ap (λ (o : Option ℕ). times_among n (numbers_of o)) none in
      accounts n (kept_by was.port) (came_in behind.since) (closed_in behind.since) [] (numbers_of mid.port.standing ++ numbers_of ended)
      (omega (arith, behind.closed n, gone, times_append n (numbers_of mid.port.standing) (numbers_of mid.port.ended), times_append n (numbers_of mid.port.standing) (numbers_of ended)));
}

pub keeps_standing : (mid : PortAndCalls) (ended : Option ℕ) (since : SocketRecord) (now : Option SocketRecord) → now ≡ with_socket_calls since mid.calls → KeepsHis mid.calls mid.port → ended ≡ None
    → KeepsHis now (record mid.port { ended = ended })
keeps_standing mid ended since now grew keeps none =
    let later : KeepsHis now mid.port = keeps_later mid.port since mid.calls now grew keeps in
    subst (λ (e : Option ℕ). KeepsHis now (record mid.port { ended = e })) (sym none) (record { standing_his = later.standing_his; ended_his = tt })

-- the newest that waits, or else the newest that ended
pub gave : (was mid : PortAndCalls) (older standing ended given : Option ℕ) (now : Option SocketRecord) → LooksOnce was mid → now ≡ with_socket_calls (closing older) mid.calls → standing ≡ None → ended ≡ None
    → ((n : ℕ) → times_among n (kept_by mid.port) ≡ times_among n (numbers_of older) + times_among n (numbers_of given))
    → given ≡ option_or mid.port.standing mid.port.ended → GivesNewest was (record { port = record mid.port { standing = standing; ended = ended }; calls = now }) given
gave was mid older standing ended given now looks grew no_standing no_ended split is = let behind = closed_behind was mid older now grew looks in record {
  since = behind.since;
  grew = behind.grew;
  few_accepts = behind.few_accepts;
  asks = behind.asks;
  few_readings = behind.few_readings;
  none_taken = behind.none_taken;
  port_is = looks.port_is;
  owner_is = looks.owner_is;
  none_standing = no_standing;
  none_ended = no_ended;
  newest = is ∙ cc (behind.standing_is, behind.ended_is);
  closed = λ n.
      let none : times_among n (numbers_of standing ++ numbers_of ended) ≡ 0 = ap (λ (o : Option ℕ). times_among n (numbers_of o ++ numbers_of ended)) no_standing ∙ ap (λ (o : Option ℕ). times_among n (numbers_of o)) no_ended in
      accounts n (kept_by was.port) (came_in behind.since) (closed_in behind.since) (numbers_of given) (numbers_of standing ++ numbers_of ended) (omega (arith, behind.closed n, split n, none));
  lines = behind.lines;
  looked = behind.looked;
}

pub closes_none : (kept : Option ℕ) (was : Option SocketRecord) → kept ≡ None → was ≡ with_socket_calls (closing kept) was
closes_none kept was none = subst (λ (k : Option ℕ). was ≡ with_socket_calls (closing k) was) (sym none) (same_calls was)

pub closes_one : (kept : Option ℕ) (n : ℕ) (was now : Option SocketRecord) → kept ≡ Some n → now ≡ with_socket_calls (Closes n ∷ []) was → now ≡ with_socket_calls (closing kept) was
closes_one kept n was now one grew = subst (λ (k : Option ℕ). now ≡ with_socket_calls (closing k) was) (sym one) grew

pub give_his : {W : Type 0} (number : W → ℕ) (was mid : PortView) (calls : Option SocketRecord) (kept given : Option W) → given ≡ kept → mid.port ≡ was.port → mid.owner ≡ was.owner
    → IsKeptFor mid (option_map number kept) calls → IfSome given (λ w. WhereTold (IsHis was.port was.owner (number w)) calls)
give_his number was mid calls kept None is port owner his = tt
give_his number was mid calls kept (Some w) is port owner his =
    at_port mid was calls (number w) (sym port) (sym owner) (of_kept mid (option_map number kept) calls (number w) his (ap (λ o. option_map number o) (sym is)))

pub standing_his : (was mid : PortView) (kept : Option ℕ) (calls now : Option SocketRecord) (n : ℕ) (since : SocketRecord) → mid.port ≡ was.port → mid.owner ≡ was.owner → IsKeptFor mid kept calls → kept ≡ Some n
    → now ≡ with_socket_calls since calls → WhereTold (IsHis was.port was.owner n) now
standing_his was mid kept calls now n since port owner his is grew = at_port mid was now n (sym port) (sym owner) (where_later mid.port mid.owner n since calls now grew (of_kept mid kept calls n his is))

-- where none stands, what ended is given; where one stands, that is, and what ended is closed
pub gives_ended : (standing ended given : Option ℕ) → standing ≡ None → given ≡ ended → (n : ℕ) → times_among n (numbers_of standing ++ numbers_of ended) ≡ times_among n (numbers_of None) + times_among n (numbers_of given)
gives_ended standing ended given none is n =
    let alone : times_among n (numbers_of standing ++ numbers_of ended) ≡ times_among n (numbers_of given) = ap (λ (o : Option ℕ). times_among n (numbers_of o ++ numbers_of ended)) none ∙ ap (λ (o : Option ℕ). times_among n (numbers_of o)) (sym is) in
    omega (arith, alone)

pub gives_standing : (standing ended older : Option ℕ) (one : ℕ) → standing ≡ Some one → older ≡ ended
    → (n : ℕ) → times_among n (numbers_of standing ++ numbers_of ended) ≡ times_among n (numbers_of older) + times_among n (numbers_of (Some one))
gives_standing standing ended older one is same n =
    let at : times_among n (numbers_of standing) ≡ times_among n (numbers_of (Some one)) = ap (λ (o : Option ℕ). times_among n (numbers_of o)) is in
    let left : times_among n (numbers_of older) ≡ times_among n (numbers_of ended) = ap (λ (o : Option ℕ). times_among n (numbers_of o)) same in
    omega (arith, at, left, times_append n (numbers_of standing) (numbers_of ended))
