-- A whole look at a port.
use Rattle.std.proofs.Common.{◌≡◌, ℕ, ◌+◌, ◌≤◌, Bool, true, false, List, [], ◌∷◌, ◌++◌, append_assoc, Option, Some, None, refl, sym, ap, ◌∙◌, subst, arith, inl, inr, length, take}
use Rattle.std.proofs.Math.Dec.{eqb}
use Rattle.std.proofs.Math.Seq.{take-append_seam}
use Rattle.std.proofs.lemmas.Bool.{eqb-true}
use Rattle.std.specs.Prelude.{cond, filter, map, reverse}
use Rattle.std.specs.Option.{option_or}
use Rattle.std.proofs.lemmas.List.{append-nil}
use Rattle.std.specs.declared.net.socket_addr.SocketAddrV4.{SocketAddrV4}
use Rattle.socket_calls.specs.SocketCall.{Comer, SocketCall, SocketRecord, with_socket_calls}
use Rattle.socket_calls.specs.SocketCall.SocketCall.{BeginsTable, Comes, EndsTable, TellsLine}
use Rattle.saned_cli.specs.TableReadings.{IsWholeReading, is_line_among, lines_told}
use Rattle.saned_cli.specs.TableReadings.IsWholeReading.{HasNoTable, ReadsMost, ReadsToEnd}
use Rattle.saned_cli.specs.Guarding.{AsksForAll, ComerSeen, IsHis, IsTheOwners, KeepsHis, PortView, WhereTold, accept_by, accepts_in, came_in, closed_by, closed_in, comers_by, comers_in, ended_among, is_comer_of}
use Rattle.saned_cli.specs.Guarding.{kept_by, last_ended, last_waiting, looked_at, looked_by, most_at_once, newest_by, reading_by, readings_in, taken_by, taken_in, times_among, waiting_by}
use Rattle.saned_cli.specs.Inside.{HasLooked, HasMarkedFor, HaveCome, LooksOnce, admitted_numbers, comer_seen, marked, newcomer_numbers, unmarked_one, without_standing}
use Rattle.saned_cli.specs.Guarding.{PortAndCalls, numbers_of}
use Rattle.saned_cli.specs.declared.table_reading.Newcomer.{Newcomer}
use Rattle.saned_cli.proofs.CallLaws.{asks_same, closed_times, counted_more, gathered_more, newest_more, none_more, same_calls, times_append}
use Rattle.saned_cli.proofs.TableLaws.{went_on}
use Rattle.saned_cli.proofs.HisLaws.{Has, has_cases, keeps_later, keeps_on, of_kept, where_later}

-- ---- a reading brings nothing else

pub record ReadsOnly (since : SocketRecord) : Type 0 where
  pub no_accepts : accepts_in since ≡ 0
  pub few_readings : readings_in since ≤ 1
  pub none_came : comers_in since ≡ []
  pub none_taken : taken_in since ≡ []
  pub none_looked : looked_at since ≡ []
  pub none_waits : last_waiting since ≡ None
  pub none_ended : last_ended since ≡ None
  pub none_closed : closed_in since ≡ []

nothing_read : ReadsOnly []
nothing_read = record { no_accepts = refl; few_readings = omega arith; none_came = refl; none_taken = refl; none_looked = refl; none_waits = refl; none_ended = refl; none_closed = refl }

lines_only : (lines : List (List ℕ)) → ReadsOnly (map TellsLine lines ++ (BeginsTable true ∷ []))
lines_only [] = record { no_accepts = refl; few_readings = omega arith; none_came = refl; none_taken = refl; none_looked = refl; none_waits = refl; none_ended = refl; none_closed = refl }
lines_only (line ∷ lines) = let so = lines_only lines in record {
  no_accepts = omega (arith, so.no_accepts);
  few_readings = omega (arith, so.few_readings);
  none_came = append-nil _ ∙ so.none_came;
  none_taken = append-nil _ ∙ so.none_taken;
  none_looked = append-nil _ ∙ so.none_looked;
  none_waits = so.none_waits;
  none_ended = so.none_ended;
  none_closed = append-nil _ ∙ so.none_closed;
}

then_ends : (since : SocketRecord) → ReadsOnly since → ReadsOnly (EndsTable ∷ since)
then_ends since so = record {
  no_accepts = omega (arith, so.no_accepts);
  few_readings = omega (arith, so.few_readings);
  none_came = append-nil (comers_in since) ∙ so.none_came;
  none_taken = append-nil (taken_in since) ∙ so.none_taken;
  none_looked = append-nil (looked_at since) ∙ so.none_looked;
  none_waits = so.none_waits;
  none_ended = so.none_ended;
  none_closed = append-nil (closed_in since) ∙ so.none_closed;
}

pub reads_only : (since : SocketRecord) (lines : List (List ℕ)) → IsWholeReading since lines → ReadsOnly since
reads_only since lines (HasNoTable none is) = subst (λ (s : SocketRecord). ReadsOnly s) (sym is) (record { no_accepts = refl; few_readings = omega arith; none_came = refl; none_taken = refl; none_looked = refl; none_waits = refl; none_ended = refl; none_closed = refl })
reads_only since lines (ReadsToEnd few is) = subst (λ (s : SocketRecord). ReadsOnly s) (sym is) (then_ends (lines_told lines) (lines_only (reverse lines)))
reads_only since lines (ReadsMost most is) = subst (λ (s : SocketRecord). ReadsOnly s) (sym is) (lines_only (reverse lines))

-- ---- who is admitted came, and is the owner's

unmarked_first : {W : Type 0} (number : W → ℕ) (port user : ℕ) (lines : List (List ℕ)) (all : List (Newcomer W))
    → admitted_numbers number (Some user) (map (marked port user lines) (map unmarked_one all)) ≡ map (λ it. it.number) (filter (is_comer_of (Some user) port lines) (map (comer_seen number port) all))
unmarked_first number port user lines [] = refl
unmarked_first number port user lines (it ∷ all) = elim (is_line_among port user it.peer lines) as (λ b. map (λ one. number one.stream) (cond b (marked port user lines (unmarked_one it) ∷ filter (λ one. one.is_his) (map (marked port user lines) (map unmarked_one all))) (filter (λ one. one.is_his) (map (marked port user lines) (map unmarked_one all)))) ≡ map (λ one. one.number) (cond b (comer_seen number port it ∷ filter (is_comer_of (Some user) port lines) (map (comer_seen number port) all)) (filter (is_comer_of (Some user) port lines) (map (comer_seen number port) all)))) [ true ↦ ap (λ (l : List ℕ). number it.stream ∷ l) (unmarked_first number port user lines all) | false ↦ unmarked_first number port user lines all ]

all_first : {W : Type 0} (number : W → ℕ) (port : ℕ) (lines : List (List ℕ)) (all : List (Newcomer W))
    → admitted_numbers number None all ≡ map (λ it. it.number) (filter (is_comer_of None port lines) (map (comer_seen number port) all))
all_first number port lines [] = refl
all_first number port lines (it ∷ all) = ap (λ (l : List ℕ). number it.stream ∷ l) (all_first number port lines all)

has_number : (p : ComerSeen → Bool) (comers : List ComerSeen) (n : ℕ) → Has (map (λ it. it.number) (filter p comers)) n → (it : ComerSeen) × Has comers it × (it.number ≡ n) × (p it ≡ true)
has_number p [] n h = absurd h
has_number p (one ∷ comers) n h = elim (p one) as (λ b. p one ≡ b → Has (map (λ it. it.number) (cond b (one ∷ filter p comers) (filter p comers))) n → (it : ComerSeen) × Has (one ∷ comers) it × (it.number ≡ n) × (p it ≡ true)) [
  | true ↦ λ e k. elim k [ inl same ↦ (one, inl refl, same, e) | inr there ↦ let r = has_number p comers n there in (r.0, inr r.1, r.2, r.3) ]
  | false ↦ λ e k. let r = has_number p comers n k in (r.0, inr r.1, r.2, r.3)
] refl h

has_port : {W : Type 0} (number : W → ℕ) (port : ℕ) (all : List (Newcomer W)) (it : ComerSeen) → Has (map (comer_seen number port) all) it → it.port ≡ port
has_port number port [] it h = absurd h
has_port number port (one ∷ all) it (inl e) = ap (λ (c : ComerSeen). c.port) (sym e)
has_port number port (one ∷ all) it (inr h) = has_port number port all it h

-- where a comer stands in the calls
pub record ComesAt (since : SocketRecord) (it : ComerSeen) : Type 0 where
  pub comer : Comer
  pub later : SocketRecord
  pub earlier : SocketRecord
  pub since_is : since ≡ later ++ (Comes it.port comer ∷ earlier)
  pub number_is : comer.number ≡ it.number
  pub peer_is : comer.peer ≡ it.peer

comes_by : (call : SocketCall) (past : SocketRecord) (it : ComerSeen) → Has (comers_by call) it → ComesAt (call ∷ past) it
comes_by (Comes port comer) past it (inl e) = record {
  comer = comer;
  later = [];
  earlier = past;
  since_is = ap (λ (p : ℕ). Comes p comer ∷ past) (ap (λ (c : ComerSeen). c.port) e);
  number_is = ap (λ (c : ComerSeen). c.number) e;
  peer_is = ap (λ (c : ComerSeen). c.peer) e;
}
comes_by (Comes port comer) past it (inr h) = absurd h
comes_by call past it h = absurd h

comes_before : (call : SocketCall) (past : SocketRecord) (it : ComerSeen) → ComesAt past it → ComesAt (call ∷ past) it
comes_before call past it h = record {
  comer = h.comer;
  later = call ∷ h.later;
  earlier = h.earlier;
  since_is = ap (λ (l : SocketRecord). call ∷ l) h.since_is;
  number_is = h.number_is;
  peer_is = h.peer_is;
}

comes_at : (since : SocketRecord) (it : ComerSeen) → Has (comers_in since) it → ComesAt since it
comes_at [] it h = absurd h
comes_at (call ∷ past) it h = elim (has_cases (comers_in past) (comers_by call) it h) [ inl there ↦ comes_before call past it (comes_at past it there) | inr here ↦ comes_by call past it here ]

-- the reading of the newcomers' table: its lines, and the calls of it
abbrev pub ReadingFor : Option ℕ → SocketRecord → List (List ℕ) → Type 0
ReadingFor None since lines = since ≡ []
ReadingFor (Some user) since lines = IsWholeReading since lines

his_by : (owner : Option ℕ) (port : ℕ) (reading later : SocketRecord) (lines : List (List ℕ)) (it : ComerSeen) → ReadingFor owner reading lines → is_comer_of owner port lines it ≡ true
    → IsTheOwners (reading ++ later) port owner it.peer
his_by None port reading later lines it whole among = tt
his_by (Some user) port reading later lines it whole among = record {
  after = [];
  reading = reading;
  before = later;
  later_is = refl;
  lines = lines;
  whole = whole;
  among = among;
}

his_now : (owner : Option ℕ) (port : ℕ) (reading came past : SocketRecord) (lines : List (List ℕ)) (it : ComerSeen) → ReadingFor owner reading lines → is_comer_of owner port lines it ≡ true → it.port ≡ port
    → ComesAt came it → IsHis port owner it.number (reading ++ (came ++ past))
his_now owner port reading came past lines it whole among at h = record {
  comer = h.comer;
  number_is = h.number_is;
  later = reading ++ h.later;
  earlier = h.earlier ++ past;
  came = ap (λ (l : SocketRecord). reading ++ (l ++ past)) h.since_is
      ∙ (ap (λ (l : SocketRecord). reading ++ l) (append_assoc h.later (Comes it.port h.comer ∷ h.earlier) past)
      ∙ (sym (append_assoc reading h.later (Comes it.port h.comer ∷ (h.earlier ++ past))) ∙ ap (λ (p : ℕ). (reading ++ h.later) ++ (Comes p h.comer ∷ (h.earlier ++ past))) at));
  his = subst (λ (p : Option SocketAddrV4). IsTheOwners (reading ++ h.later) port owner p) (sym h.peer_is) (his_by owner port reading h.later lines it whole among);
}

his_past : (owner : Option ℕ) (port : ℕ) (reading came : SocketRecord) (lines : List (List ℕ)) (it : ComerSeen) (was : Option SocketRecord) → ReadingFor owner reading lines → is_comer_of owner port lines it ≡ true
    → it.port ≡ port → ComesAt came it → WhereTold (IsHis port owner it.number) (with_socket_calls reading (with_socket_calls came was))
his_past owner port reading came lines it None whole among at h = tt
his_past owner port reading came lines it (Some past) whole among at h = his_now owner port reading came past lines it whole among at h

-- ---- what comes between the first look and the others

pub record Between (port : ℕ) (owner : Option ℕ) (was now : Option SocketRecord) (came admitted : List ℕ) : Type 0 where
  pub since : SocketRecord
  pub grew : now ≡ with_socket_calls since was
  pub few_accepts : accepts_in since ≤ most_at_once
  pub asks : AsksForAll since
  pub few_readings : readings_in since ≤ 1
  pub none_taken : taken_in since ≡ []
  pub none_looked : looked_at since ≡ []
  pub none_waits : last_waiting since ≡ None
  pub none_ended : last_ended since ≡ None
  pub none_closed : closed_in since ≡ []
  pub came_are : came_in since ≡ came
  pub lines : List (List ℕ)
  pub admitted_are : admitted ≡ map (λ it. it.number) (filter (is_comer_of owner port lines) (comers_in since))
  pub his : (n : ℕ) → Has admitted n → WhereTold (IsHis port owner n) now

came_all : {W : Type 0} (number : W → ℕ) (port : ℕ) (all : List (Newcomer W)) → map (λ it. it.number) (map (comer_seen number port) all) ≡ newcomer_numbers number all
came_all number port [] = refl
came_all number port (it ∷ all) = ap (λ (l : List ℕ). number it.stream ∷ l) (came_all number port all)

came_of : {W : Type 0} (number : W → ℕ) (port : ℕ) (since : SocketRecord) (all : List (Newcomer W)) → comers_in since ≡ map (comer_seen number port) all → came_in since ≡ newcomer_numbers number all
came_of number port since all came = ap (λ (l : List ComerSeen). map (λ it. it.number) l) came ∙ came_all number port all

-- marks change no number
still_came : {W : Type 0} (number : W → ℕ) (port user : ℕ) (lines : List (List ℕ)) (all : List (Newcomer W)) → newcomer_numbers number all ≡ newcomer_numbers number (map (marked port user lines) all)
still_came number port user lines [] = refl
still_came number port user lines (it ∷ all) = ap (λ (l : List ℕ). number it.stream ∷ l) (still_came number port user lines all)

none_of : (p : ComerSeen → Bool) (comers : List ComerSeen) → comers ≡ [] → [] ≡ map (λ it. it.number) (filter p comers)
none_of p comers none = ap (λ (l : List ComerSeen). map (λ it. it.number) (filter p l)) (sym none)

pub nobody_between : {W : Type 0} (number : W → ℕ) (port : ℕ) (owner : Option ℕ) (was now : Option SocketRecord) (all : List (Newcomer W)) → HaveCome number port was all now → all ≡ [] → Between port owner was now [] []
nobody_between number port owner was now all h none = record {
  since = h.since;
  grew = h.grew;
  few_accepts = h.few;
  asks = h.asks;
  few_readings = omega (arith, h.no_readings);
  none_taken = h.none_taken;
  none_looked = h.none_looked;
  none_waits = h.none_waits;
  none_ended = h.none_ended;
  none_closed = h.none_closed;
  came_are = came_of number port h.since all h.came ∙ ap (λ l. newcomer_numbers number l) none;
  lines = [];
  admitted_are = none_of (is_comer_of owner port []) (comers_in h.since) (h.came ∙ ap (λ l. map (comer_seen number port) l) none);
  his = λ n no. absurd no;
}

-- a reading behind those that came
read_between : {W : Type 0} (number : W → ℕ) (port : ℕ) (owner : Option ℕ) (was mid now : Option SocketRecord) (all : List (Newcomer W)) (reading : SocketRecord) (lines : List (List ℕ)) (came admitted : List ℕ)
    → HaveCome number port was all mid → ReadingFor owner reading lines → ReadsOnly reading → now ≡ with_socket_calls reading mid
    → newcomer_numbers number all ≡ came → admitted ≡ map (λ it. it.number) (filter (is_comer_of owner port lines) (map (comer_seen number port) all)) → Between port owner was now came admitted
read_between number port owner was mid now all reading lines came admitted h whole reads grew numbers are =
    let both : now ≡ with_socket_calls (reading ++ h.since) was = went_on reading h.since was mid now h.grew grew in
    let comers : comers_in (reading ++ h.since) ≡ map (comer_seen number port) all = gathered_more comers_by reading h.since ∙ (ap (λ (l : List ComerSeen). comers_in h.since ++ l) reads.none_came ∙ (append-nil (comers_in h.since) ∙ h.came)) in
    let admitted_here : admitted ≡ map (λ it. it.number) (filter (is_comer_of owner port lines) (comers_in h.since)) = are ∙ ap (λ (l : List ComerSeen). map (λ it. it.number) (filter (is_comer_of owner port lines) l)) (sym h.came) in
    record {
      since = reading ++ h.since;
      grew = both;
      few_accepts = omega (arith, counted_more accept_by reading h.since, reads.no_accepts, h.few);
      asks = asks_same (reading ++ h.since) h.since (omega (arith, counted_more accept_by reading h.since, reads.no_accepts)) (comers ∙ sym h.came) h.asks;
      few_readings = omega (arith, counted_more reading_by reading h.since, reads.few_readings, h.no_readings);
      none_taken = none_more taken_by reading h.since reads.none_taken h.none_taken;
      none_looked = none_more looked_by reading h.since reads.none_looked h.none_looked;
      none_waits = newest_more waiting_by reading h.since ∙ cc (reads.none_waits, h.none_waits);
      none_ended = newest_more ended_among reading h.since ∙ cc (reads.none_ended, h.none_ended);
      none_closed = none_more closed_by reading h.since reads.none_closed h.none_closed;
      came_are = came_of number port (reading ++ h.since) all comers ∙ numbers;
      lines = lines;
      admitted_are = are ∙ ap (λ (l : List ComerSeen). map (λ it. it.number) (filter (is_comer_of owner port lines) l)) (sym comers);
      his = λ n has.
          let r = has_number (is_comer_of owner port lines) (comers_in h.since) n (subst (λ (l : List ℕ). Has l n) admitted_here has) in
          let at : r.0.port ≡ port = has_port number port all r.0 (subst (λ (l : List ComerSeen). Has l r.0) h.came r.1) in
          subst (λ (k : ℕ). WhereTold (IsHis port owner k) now) r.2
          (subst (λ (c : Option SocketRecord). WhereTold (IsHis port owner r.0.number) c) (sym (grew ∙ ap (λ (c : Option SocketRecord). with_socket_calls reading c) h.grew))
          (his_past owner port reading h.since lines r.0 was whole r.3 at (comes_at h.since r.0 r.1)));
    }

pub marked_between : {W : Type 0} (number : W → ℕ) (port : ℕ) (owner : Option ℕ) (was mid now : Option SocketRecord) (all same news : List (Newcomer W)) → HaveCome number port was all mid → same ≡ all
    → HasMarkedFor port owner mid same news now → Between port owner was now (newcomer_numbers number news) (admitted_numbers number owner news)
marked_between {W} number port None was mid now all same news h is marks =
    read_between number port None was mid now all [] [] (newcomer_numbers number news) (admitted_numbers number None news) h refl nothing_read (marks.0 ∙ same_calls mid)
    (ap (λ (l : List (Newcomer W)). newcomer_numbers number l) (sym (marks.1 ∙ is))) (ap (λ (l : List (Newcomer W)). admitted_numbers number None l) (marks.1 ∙ is) ∙ all_first number port [] all)
marked_between {W} number port (Some user) was mid now all same news h is marks =
    read_between number port (Some user) was mid now all marks.since marks.lines (newcomer_numbers number news) (admitted_numbers number (Some user) news) h marks.whole (reads_only marks.since marks.lines marks.whole) marks.grew
    (still_came number port user marks.lines all ∙ ap (λ (l : List (Newcomer W)). newcomer_numbers number l) (sym (marks.marks ∙ ap (λ (l : List (Newcomer W)). map (marked port user marks.lines) l) is)))
    (ap (λ (l : List (Newcomer W)). admitted_numbers number (Some user) l) (marks.marks ∙ ap (λ (l : List (Newcomer W)). map (marked port user marks.lines) l) (is ∙ sym h.unmarked_yet)) ∙ unmarked_first number port user marks.lines all)

-- ---- the whole look

or_nil : (a : Option ℕ) → option_or a None ≡ a
or_nil None = refl
or_nil (Some n) = refl

or_or : (a b c : Option ℕ) → option_or a (option_or b c) ≡ option_or (option_or a b) c
or_or None b c = refl
or_or (Some n) b c = refl

newest_of_three : (by : SocketCall → Option ℕ) (more mid since : SocketRecord) → newest_by by mid ≡ None → newest_by by (more ++ (mid ++ since)) ≡ option_or (newest_by by more) (newest_by by since)
newest_of_three by more mid since none = newest_more by more (mid ++ since) ∙ ap (λ (o : Option ℕ). option_or (newest_by by more) o) (newest_more by mid since ∙ ap (λ (o : Option ℕ). option_or o (newest_by by since)) none)

comers_of_three : (more mid since : SocketRecord) → comers_in more ≡ [] → comers_in since ≡ [] → comers_in (more ++ (mid ++ since)) ≡ comers_in mid
comers_of_three more mid since a b = gathered_more comers_by more (mid ++ since) ∙ (ap (λ (l : List ComerSeen). comers_in (mid ++ since) ++ l) a ∙ (append-nil (comers_in (mid ++ since)) ∙ (gathered_more comers_by mid since ∙ ap (λ (l : List ComerSeen). l ++ comers_in mid) b)))

looked_of_three : (more mid since : SocketRecord) → looked_at mid ≡ [] → looked_at (more ++ (mid ++ since)) ≡ looked_at since ++ looked_at more
looked_of_three more mid since none = gathered_more looked_by more (mid ++ since) ∙ ap (λ (l : List ℕ). l ++ looked_at more) (gathered_more looked_by mid since ∙ (ap (λ (l : List ℕ). looked_at since ++ l) none ∙ append-nil (looked_at since)))

pub marked_at : {W : Type 0} (number : W → ℕ) (port given : ℕ) (owner : Option ℕ) (was mid now : Option SocketRecord) (all same news items : List (Newcomer W)) → given ≡ port → HaveCome number port was all mid → same ≡ all
    → HasMarkedFor given owner mid same news now → items ≡ news → Between port owner was now (newcomer_numbers number items) (admitted_numbers number owner items)
marked_at {W} number port given owner was mid now all same news items at h is marks front =
    subst (λ (l : List (Newcomer W)). Between port owner was now (newcomer_numbers number l) (admitted_numbers number owner l)) (sym front) (marked_between number port owner was mid now all same news h is (subst (λ (p : ℕ). HasMarkedFor p owner mid same news now) at marks))

pub whole_front : {X : Type 0} (n : ℕ) (xs ys : List X) → n ≡ length xs → take n (xs ++ ys) ≡ xs
whole_front n xs ys e = subst (λ (k : ℕ). take k (xs ++ ys) ≡ xs) (sym e) (take-append_seam xs ys)

pub nil_of : {X : Type 0} (xs : List X) (n : ℕ) (test : Bool) → n ≡ length xs → test ≡ eqb n 0 → test ≡ true → xs ≡ []
nil_of [] n test e is so = refl
nil_of (x ∷ xs) n test e is so = let zero_is : n ≡ 0 = eqb-true n 0 (sym is ∙ so) in absurd (omega (arith, zero_is, e))

-- what was kept and came is closed or kept, over the three parts of a look
look_closed : (n : ℕ) (was mid now : PortAndCalls) (calls : Option SocketRecord) (came admitted : List ℕ) (first : HasLooked (numbers_of was.port.standing) (numbers_of was.port.standing) (without_standing was) mid)
    (between : Between mid.port.port mid.port.owner mid.calls calls came admitted) (then : HasLooked came admitted (record { port = mid.port; calls = calls }) now)
    → times_among n (kept_by was.port) + times_among n (came_in (then.since ++ (between.since ++ first.since))) ≡ times_among n (closed_in (then.since ++ (between.since ++ first.since))) + times_among n (kept_by now.port)
look_closed n was mid now calls came admitted first between then =
    let comers : came_in (then.since ++ (between.since ++ first.since)) ≡ came = ap (λ (l : List ComerSeen). map (λ it. it.number) l) (comers_of_three then.since between.since first.since then.looks.none_came first.looks.none_came) ∙ between.came_are in
    let came_times : times_among n (came_in (then.since ++ (between.since ++ first.since))) ≡ times_among n came = ap (λ (l : List ℕ). times_among n l) comers in
    let none : times_among n (closed_in between.since) ≡ 0 = ap (λ (l : List ℕ). times_among n l) between.none_closed in
    omega (arith, first.closed n, then.closed n, came_times, none, closed_times n then.since (between.since ++ first.since), closed_times n between.since first.since, times_append n (numbers_of was.port.standing) (numbers_of was.port.ended))

pub look_done : (was mid now : PortAndCalls) (calls : Option SocketRecord) (came admitted : List ℕ) → HasLooked (numbers_of was.port.standing) (numbers_of was.port.standing) (without_standing was) mid
    → Between mid.port.port mid.port.owner mid.calls calls came admitted → HasLooked came admitted (record { port = mid.port; calls = calls }) now → LooksOnce was now
look_done was mid now calls came admitted first between then = record {
  since = then.since ++ (between.since ++ first.since);
  grew = went_on then.since (between.since ++ first.since) was.calls calls now.calls (went_on between.since first.since was.calls mid.calls calls first.grew between.grew) then.grew;
  few_accepts = omega (arith, counted_more accept_by then.since (between.since ++ first.since), counted_more accept_by between.since first.since, then.looks.no_accepts, between.few_accepts, first.looks.no_accepts);
  asks = asks_same (then.since ++ (between.since ++ first.since)) between.since
      (omega (arith, counted_more accept_by then.since (between.since ++ first.since), counted_more accept_by between.since first.since, then.looks.no_accepts, first.looks.no_accepts))
      (comers_of_three then.since between.since first.since then.looks.none_came first.looks.none_came) between.asks;
  few_readings = omega (arith, counted_more reading_by then.since (between.since ++ first.since), counted_more reading_by between.since first.since, then.looks.no_readings, between.few_readings, first.looks.no_readings);
  none_taken = none_more taken_by then.since (between.since ++ first.since) then.looks.none_taken (none_more taken_by between.since first.since between.none_taken first.looks.none_taken);
  port_is = then.port_is ∙ first.port_is;
  owner_is = then.owner_is ∙ first.owner_is;
  standing_is = then.standing_is ∙ (ap (λ (o : Option ℕ). option_or (last_waiting then.since) o) (first.standing_is ∙ or_nil (last_waiting first.since)) ∙ sym (newest_of_three waiting_by then.since between.since first.since between.none_waits));
  ended_is = then.ended_is ∙ (ap (λ (o : Option ℕ). option_or (last_ended then.since) o) first.ended_is
      ∙ (or_or (last_ended then.since) (last_ended first.since) was.port.ended ∙ ap (λ (o : Option ℕ). option_or o was.port.ended) (sym (newest_of_three ended_among then.since between.since first.since between.none_ended))));
  closed = λ n. look_closed n was mid now calls came admitted first between then;
  lines = between.lines;
  looked = looked_of_three then.since between.since first.since between.none_looked ∙ (ap (λ (l : List ℕ). l ++ looked_at then.since) first.looked ∙ ap (λ (l : List ℕ). numbers_of was.port.standing ++ l) (then.looked ∙ (between.admitted_are
      ∙ (ap (λ (o : Option ℕ). map (λ it. it.number) (filter (is_comer_of o mid.port.port between.lines) (comers_in between.since))) first.owner_is
      ∙ (ap (λ (p : ℕ). map (λ it. it.number) (filter (is_comer_of was.port.owner p between.lines) (comers_in between.since))) first.port_is
      ∙ ap (λ (l : List ComerSeen). map (λ it. it.number) (filter (is_comer_of was.port.owner was.port.port between.lines) l)) (sym (comers_of_three then.since between.since first.since then.looks.none_came first.looks.none_came)))))));
}

stood : (it : PortView) (kept : Option ℕ) (n : ℕ) → Has (numbers_of kept) n → kept ≡ Some n
stood it None n h = absurd h
stood it (Some m) n (inl e) = ap (λ (k : ℕ). Some k) e
stood it (Some m) n (inr h) = absurd h

pub keeps_done : (was mid now : PortAndCalls) (calls : Option SocketRecord) (came admitted : List ℕ) → HasLooked (numbers_of was.port.standing) (numbers_of was.port.standing) (without_standing was) mid
    → Between mid.port.port mid.port.owner mid.calls calls came admitted → HasLooked came admitted (record { port = mid.port; calls = calls }) now → KeepsHis was.calls was.port → KeepsHis now.calls now.port
keeps_done was mid now calls came admitted first between then keeps =
    let at_first : KeepsHis mid.calls mid.port = keeps_on (numbers_of was.port.standing) (numbers_of was.port.standing) (without_standing was) mid first (record { standing_his = tt; ended_his = keeps.ended_his })
    (λ n h. where_later was.port.port was.port.owner n first.since was.calls mid.calls first.grew (of_kept was.port was.port.standing was.calls n keeps.standing_his (stood was.port was.port.standing n h))) in
    let between_them : KeepsHis calls mid.port = keeps_later mid.port between.since mid.calls calls between.grew at_first in
    keeps_on came admitted (record { port = mid.port; calls = calls }) now then between_them (λ n h. where_later mid.port.port mid.port.owner n then.since calls now.calls then.grew (between.his n h))
