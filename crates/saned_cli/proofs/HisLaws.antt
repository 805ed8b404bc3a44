-- Whom a port keeps, by the record of calls.
use Rattle.std.proofs.Common.{◌≡◌, ℕ, List, [], ◌∷◌, ◌++◌, append_assoc, Option, Some, None, refl, sym, ap, ◌∙◌, subst, ◌⊎◌, inl, inr}
use Rattle.std.specs.Option.{option_or}
use Rattle.std.specs.declared.net.socket_addr.SocketAddrV4.{SocketAddrV4}
use Rattle.socket_calls.specs.SocketCall.{SocketCall, SocketRecord, with_socket_calls}
use Rattle.socket_calls.specs.SocketCall.SocketCall.{Comes, Peeks}
use Rattle.socket_calls.specs.declared.calls.Peeked.TheVariants.{Nothing, End}
use Rattle.saned_cli.specs.Guarding.{IsHis, IsKeptFor, IsTheOwners, KeepsHis, PortView, WhereTold, ended_among}
use Rattle.saned_cli.specs.Guarding.{looked_at, looked_by, newest_by, waiting_by}
use Rattle.saned_cli.specs.Inside.{HasLooked}
use Rattle.saned_cli.specs.Guarding.{PortAndCalls}

-- ---- in a list

abbrev pub Has : {X : Type 0} → List X → X → Type 0
Has [] x = ⊥
Has (y ∷ ys) x = (y ≡ x) ⊎ Has ys x

pub has_left : {X : Type 0} (xs ys : List X) (x : X) → Has xs x → Has (xs ++ ys) x
has_left [] ys x h = absurd h
has_left (y ∷ xs) ys x (inl e) = inl e
has_left (y ∷ xs) ys x (inr h) = inr (has_left xs ys x h)

pub has_right : {X : Type 0} (xs ys : List X) (x : X) → Has ys x → Has (xs ++ ys) x
has_right [] ys x h = h
has_right (y ∷ xs) ys x h = inr (has_right xs ys x h)

pub has_cases : {X : Type 0} (xs ys : List X) (x : X) → Has (xs ++ ys) x → Has xs x ⊎ Has ys x
has_cases [] ys x h = inr h
has_cases (y ∷ xs) ys x (inl e) = inl (inl e)
has_cases (y ∷ xs) ys x (inr h) = elim (has_cases xs ys x h) [ inl l ↦ inl (inr l) | inr r ↦ inr r ]

-- ---- the newest was looked at

or_cases : (a b : Option ℕ) (n : ℕ) → option_or a b ≡ Some n → (a ≡ Some n) ⊎ (b ≡ Some n)
or_cases None b n e = inr e
or_cases (Some m) b n e = inl e

newest_looked : (by : SocketCall → Option ℕ) → ((call : SocketCall) (n : ℕ) → by call ≡ Some n → Has (looked_by call) n) → (since : SocketRecord) (n : ℕ) → newest_by by since ≡ Some n → Has (looked_at since) n
newest_looked by each [] n e = cc
newest_looked by each (call ∷ past) n e = elim (or_cases (by call) (newest_by by past) n e) [ inl here ↦ has_right (looked_at past) (looked_by call) n (each call n here) | inr there ↦ has_left (looked_at past) (looked_by call) n (newest_looked by each past n there) ]

waiting_looked : (call : SocketCall) (n : ℕ) → waiting_by call ≡ Some n → Has (looked_by call) n
waiting_looked (Peeks m Nothing) n e = inl (cc)
waiting_looked call n e = cc

ended_looked : (call : SocketCall) (n : ℕ) → ended_among call ≡ Some n → Has (looked_by call) n
ended_looked (Peeks m End) n e = inl (cc)
ended_looked call n e = cc

-- ---- what was his stays his

his_later : (port : ℕ) (owner : Option ℕ) (later since : SocketRecord) (peer : Option SocketAddrV4) → IsTheOwners later port owner peer → IsTheOwners (since ++ later) port owner peer
his_later port None later since peer h = tt
his_later port (Some user) later since peer h = record {
  after = since ++ h.after;
  reading = h.reading;
  before = h.before;
  later_is = ap (λ (l : SocketRecord). since ++ l) h.later_is ∙ sym (append_assoc since h.after (h.reading ++ h.before));
  lines = h.lines;
  whole = h.whole;
  among = h.among;
}

pub is_his_later : (port : ℕ) (owner : Option ℕ) (n : ℕ) (since calls : SocketRecord) → IsHis port owner n calls → IsHis port owner n (since ++ calls)
is_his_later port owner n since calls h = record {
  comer = h.comer;
  number_is = h.number_is;
  later = since ++ h.later;
  earlier = h.earlier;
  came = ap (λ (l : SocketRecord). since ++ l) h.came ∙ sym (append_assoc since h.later (Comes port h.comer ∷ h.earlier));
  his = his_later port owner h.later since h.comer.peer h.his;
}

told_later : (port : ℕ) (owner : Option ℕ) (n : ℕ) (since : SocketRecord) (was : Option SocketRecord) → WhereTold (IsHis port owner n) was → WhereTold (IsHis port owner n) (with_socket_calls since was)
told_later port owner n since None h = tt
told_later port owner n since (Some calls) h = is_his_later port owner n since calls h

pub where_later : (port : ℕ) (owner : Option ℕ) (n : ℕ) (since : SocketRecord) (was now : Option SocketRecord) → now ≡ with_socket_calls since was → WhereTold (IsHis port owner n) was → WhereTold (IsHis port owner n) now
where_later port owner n since was now grew h = subst (λ (c : Option SocketRecord). WhereTold (IsHis port owner n) c) (sym grew) (told_later port owner n since was h)

-- ---- what a port keeps is his

kept_of : (it : PortView) (kept : Option ℕ) (calls : Option SocketRecord) → ((n : ℕ) → kept ≡ Some n → WhereTold (IsHis it.port it.owner n) calls) → IsKeptFor it kept calls
kept_of it None calls f = tt
kept_of it (Some n) calls f = f n refl

pub of_kept : (it : PortView) (kept : Option ℕ) (calls : Option SocketRecord) (n : ℕ) → IsKeptFor it kept calls → kept ≡ Some n → WhereTold (IsHis it.port it.owner n) calls
of_kept it None calls n h e = cc
of_kept it (Some m) calls n h e = let same : m ≡ n = cc in subst (λ (k : ℕ). WhereTold (IsHis it.port it.owner k) calls) same h

pub at_port : (was now : PortView) (calls : Option SocketRecord) (n : ℕ) → now.port ≡ was.port → now.owner ≡ was.owner → WhereTold (IsHis was.port was.owner n) calls → WhereTold (IsHis now.port now.owner n) calls
at_port was now calls n port owner h = subst (λ (p : ℕ). WhereTold (IsHis p now.owner n) calls) (sym port) (subst (λ (o : Option ℕ). WhereTold (IsHis was.port o n) calls) (sym owner) h)

kept_newest : (by : SocketCall → Option ℕ) → ((call : SocketCall) (n : ℕ) → by call ≡ Some n → Has (looked_by call) n) → (numbers : List ℕ) (since : SocketRecord) (kept newest : Option ℕ) (P : ℕ → Type 0)
    → looked_at since ≡ numbers → newest ≡ option_or (newest_by by since) kept → ((n : ℕ) → Has numbers n → P n) → ((n : ℕ) → kept ≡ Some n → P n) → (n : ℕ) → newest ≡ Some n → P n
kept_newest by each numbers since kept newest P looked is fresh before n e = elim (or_cases (newest_by by since) kept n (sym is ∙ e)) [ inl here ↦ fresh n (subst (λ (l : List ℕ). Has l n) looked (newest_looked by each since n here)) | inr there ↦ before n there ]

pub keeps_on : (had numbers : List ℕ) (was now : PortAndCalls) → HasLooked had numbers was now → KeepsHis was.calls was.port → ((n : ℕ) → Has numbers n → WhereTold (IsHis was.port.port was.port.owner n) now.calls)
    → KeepsHis now.calls now.port
keeps_on had numbers was now looks keeps fresh = record {
  standing_his = kept_of now.port now.port.standing now.calls (λ n e. at_port was.port now.port now.calls n looks.port_is looks.owner_is
      (kept_newest waiting_by waiting_looked numbers looks.since was.port.standing now.port.standing (λ k. WhereTold (IsHis was.port.port was.port.owner k) now.calls) looks.looked looks.standing_is fresh
      (λ k kept. where_later was.port.port was.port.owner k looks.since was.calls now.calls looks.grew (of_kept was.port was.port.standing was.calls k keeps.standing_his kept)) n e));
  ended_his = kept_of now.port now.port.ended now.calls (λ n e. at_port was.port now.port now.calls n looks.port_is looks.owner_is
      (kept_newest ended_among ended_looked numbers looks.since was.port.ended now.port.ended (λ k. WhereTold (IsHis was.port.port was.port.owner k) now.calls) looks.looked looks.ended_is fresh
      (λ k kept. where_later was.port.port was.port.owner k looks.since was.calls now.calls looks.grew (of_kept was.port was.port.ended was.calls k keeps.ended_his kept)) n e));
}

pub keeps_later : (it : PortView) (since : SocketRecord) (was now : Option SocketRecord) → now ≡ with_socket_calls since was → KeepsHis was it → KeepsHis now it
keeps_later it since was now grew keeps = record {
  standing_his = kept_of it it.standing now (λ n e. where_later it.port it.owner n since was now grew (of_kept it it.standing was n keeps.standing_his e));
  ended_his = kept_of it it.ended now (λ n e. where_later it.port it.owner n since was now grew (of_kept it it.ended was n keeps.ended_his e));
}
