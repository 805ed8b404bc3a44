-- What the listeners do, call by call.
use Rattle.std.proofs.Common.{◌≡◌, ℕ, zero, suc, ◌+◌, ◌-◌, ◌<◌, ◌≤◌, List, [], ◌∷◌, ◌++◌, Option, Some, None, Result, Ok, Err, refl, sym, ap, ◌∙◌, subst, arith, length, get_or, ◌⊎◌, inl, inr}
use Rattle.std.specs.Prelude.{IfSome, map}
use Rattle.std.specs.Option.{option_map}
use Rattle.std.specs.Result.{result_ok}
use Rattle.std.specs.List.{remove}
use Rattle.std.proofs.lemmas.List.{map-append}
use Rattle.socket_calls.specs.SocketCall.{SocketRecord, listening_call, listening_port, with_socket_calls}
use Rattle.socket_calls.specs.SocketCall.{Comer, SocketCall}
use Rattle.socket_calls.specs.SocketCall.SocketCall.{Closes, Comes, FailsToAccept, Listens, NobodyComes, Takes}
use Rattle.socket_calls.specs.declared.calls.ListeningAt.{ListeningAt}
use Rattle.saned_cli.specs.Guarding.{EachKeepsHis, IsHis, KeepsHis, PortView, WhereTold, ending_of, port_view}
use Rattle.saned_cli.specs.NetViews.{Accepts, AsksForPort, DialsFrame, TakesOrCloses, Forgets, HasNoPort, IsForFrame, NetView, OpensPort, ShutsPort, WithoutPort, most_left_out, refused_from}
use Rattle.saned_cli.specs.NetViews.Accepts.{Came, LeftOut, Nobody}
use Rattle.saned_cli.specs.NetViews.AsksForPort.{AtAnyPort, AtLast, BeforeLast}
use Rattle.saned_cli.specs.declared.data_ports.PortRange.{PortRange}
use Rattle.saned_cli.specs.NetViews.DialsFrame.{NoSuchPort, OfPort}
use Rattle.saned_cli.specs.NetViews.Forgets.{ForgetsAt, NoPort}
use Rattle.saned_cli.specs.NetViews.ShutsPort.{ShutsNone, ShutsOne}
use Rattle.saned_cli.specs.NetViews.TakesOrCloses.{GivesNone, GivesOne, HasNoMemory}
use Rattle.saned_cli.specs.Inside.{EndsAmong, ForgetsAmong, GivesAmong, HasAccepted, HasAskedOwner, HasListened, IsPlaceAmong, PortsAndCalls}
use Rattle.saned_cli.specs.Inside.EndsAmong.{EndsThere, NowhereEnds}
use Rattle.saned_cli.specs.Inside.ForgetsAmong.{ForgetsThere, NowhereForgets}
use Rattle.saned_cli.specs.Inside.GivesAmong.{AtPlace, NoPlace}
use Rattle.saned_cli.specs.declared.data_port.DataPort.{DataPort}
use Rattle.saned_cli.proofs.CallLaws.{same_calls}
use Rattle.saned_cli.proofs.TableLaws.{went_on}
use Rattle.saned_cli.proofs.HisLaws.{where_later}
use Rattle.saned_cli.proofs.KeptLaws.{each_keeps_on}

-- ---- a listener asked for

listens : {L E : Type 0} (asked : ℕ) (result : Result (ListeningAt L) E) → listening_call asked result ≡ Listens asked (option_map listening_port (result_ok result))
listens asked (Ok at) = refl
listens asked (Err e) = refl

pub asked_any : {L E : Type 0} (range : Option PortRange) (result : Result (ListeningAt L) E) (was now : Option SocketRecord) → range ≡ None → now ≡ with_socket_calls (listening_call 0 result ∷ []) was
    → HasListened range was now (option_map listening_port (result_ok result))
asked_any range result was now none grew = record { since = listening_call 0 result ∷ []; grew = grew; asks = AtAnyPort none (ap (λ (call : SocketCall). call ∷ []) (listens 0 result)) }

-- so many were refused so far, and this port is the next
pub record RefusedSoFar (first last at : ℕ) (was now : Option SocketRecord) : Type 0 where
  pub refused : ℕ
  pub at_is : at ≡ first + refused
  pub few : refused ≤ last - first
  pub grew : now ≡ with_socket_calls (refused_from first refused) was

pub none_refused : (first last : ℕ) (was : Option SocketRecord) → RefusedSoFar first last first was was
none_refused first last was = record { refused = 0; at_is = omega arith; few = omega arith; grew = same_calls was }

pub refused_too : {L E : Type 0} (first last at : ℕ) (result : Result (ListeningAt L) E) (was mid now : Option SocketRecord) → RefusedSoFar first last at was mid → now ≡ with_socket_calls (listening_call at result ∷ []) mid
    → result_ok result ≡ None → at < last → RefusedSoFar first last (at + 1) was now
refused_too first last at result was mid now so grew none before =
    let call : listening_call at result ≡ Listens (first + so.refused) None = listens at result ∙ (ap (λ o. Listens at (option_map listening_port o)) none ∙ ap (λ (n : ℕ). Listens n None) so.at_is) in
    record {
      refused = suc so.refused;
      at_is = omega (arith, so.at_is);
      few = omega (arith, so.at_is, before);
      grew = went_on (Listens (first + so.refused) None ∷ []) (refused_from first so.refused) was mid now so.grew (grew ∙ ap (λ (c : SocketCall). with_socket_calls (c ∷ []) mid) call);
    }

pub asked_before : {L E : Type 0} (range : Option PortRange) (named : PortRange) (at : ℕ) (had : Option ℕ) (result : Result (ListeningAt L) E) (was mid now : Option SocketRecord) → range ≡ Some named
    → RefusedSoFar named.first named.last at was mid → now ≡ with_socket_calls (listening_call at result ∷ []) mid → at < named.last → option_map listening_port (result_ok result) ≡ had → (had ≡ None → ⊥) → HasListened range was now had
asked_before range named at had result was mid now is so grew before at_is not = record {
  since = listening_call at result ∷ refused_from named.first so.refused;
  grew = went_on (listening_call at result ∷ []) (refused_from named.first so.refused) was mid now so.grew grew;
  asks = BeforeLast named is so.refused (omega (arith, so.at_is, before)) not
      (ap (λ (c : SocketCall). c ∷ refused_from named.first so.refused) (listens at result ∙ (ap (λ (o : Option ℕ). Listens at o) at_is ∙ ap (λ (n : ℕ). Listens n had) so.at_is)));
}

pub asked_last : {L E : Type 0} (range : Option PortRange) (named : PortRange) (at : ℕ) (result : Result (ListeningAt L) E) (was mid now : Option SocketRecord) → range ≡ Some named → RefusedSoFar named.first named.last at was mid
    → now ≡ with_socket_calls (listening_call named.last result ∷ []) mid → named.last ≤ at → HasListened range was now (option_map listening_port (result_ok result))
asked_last range named at result was mid now is so grew behind =
    let all : so.refused ≡ named.last - named.first = omega (arith, so.at_is, so.few, behind) in record {
      since = listening_call named.last result ∷ refused_from named.first so.refused;
      grew = went_on (listening_call named.last result ∷ []) (refused_from named.first so.refused) was mid now so.grew grew;
      asks = AtLast named is (ap (λ (c : SocketCall). c ∷ refused_from named.first so.refused) (listens named.last result) ∙ ap (λ (n : ℕ). Listens named.last (option_map listening_port (result_ok result)) ∷ refused_from named.first n) all);
    }

-- ---- a port no longer there

record RemovesAt {X V : Type 0} (f : X → V) (xs : List X) (i : ℕ) (x : X) : Type 0 where
  front : List V
  back : List V
  was_is : map f xs ≡ front ++ (f x ∷ back)
  now_is : map f (remove xs i) ≡ front ++ back

removes_at : {X V : Type 0} (f : X → V) (xs : List X) (i : ℕ) (d x : X) → i < length xs → x ≡ get_or xs i d → RemovesAt f xs i x
removes_at f [] i d x lt e = absurd (omega (arith, lt))
removes_at f (z ∷ xs) zero d x lt e = record { front = []; back = map f xs; was_is = ap (λ w. f w ∷ map f xs) (sym e); now_is = refl }
removes_at f (z ∷ xs) (suc i) d x lt e = let rest = removes_at f xs i d x (omega (arith, lt)) e in record {
  front = f z ∷ rest.front;
  back = rest.back;
  was_is = ap (λ l. f z ∷ l) rest.was_is;
  now_is = ap (λ l. f z ∷ l) rest.now_is;
}

pub without_port : {L W : Type 0} (number : W → ℕ) (port : ℕ) (ports slice news : List (DataPort L W)) (at : ℕ) (it : DataPort L W) → slice ≡ ports → IsPlaceAmong port slice at → it ≡ get_or ports at it → news ≡ remove ports at
    → WithoutPort port (map (port_view number) ports) (map (port_view number) news) (port_view number it)
without_port {L} {W} number port ports slice news at it same place is removed =
    let here : IsPlaceAmong port ports at = subst (λ (s : List (DataPort L W)). IsPlaceAmong port s at) same place in
    let split = removes_at (port_view number) ports at it it here.0 is in record {
      front = split.front;
      back = split.back;
      was_is = split.was_is;
      now_is = ap (λ (l : List (DataPort L W)). map (port_view number) l) removed ∙ split.now_is;
      port_is = ap (λ (x : DataPort L W). listening_port x.at) is ∙ here.1 it;
    }

each_without : (calls : Option SocketRecord) (front back : List PortView) (it : PortView) → EachKeepsHis calls (front ++ (it ∷ back)) → EachKeepsHis calls (front ++ back)
each_without calls [] back it each = each.1
each_without calls (one ∷ front) back it each = (each.0, each_without calls front back it each.1)

pub keeps_without : (port : ℕ) (ports news : List PortView) (it : PortView) (was now : Option SocketRecord) → WithoutPort port ports news it → now ≡ with_socket_calls (ending_of it) was → EachKeepsHis was ports → EachKeepsHis now news
keeps_without port ports news it was now at grew each =
    subst (λ (l : List PortView). EachKeepsHis now l) (sym at.now_is)
    (each_keeps_on (ending_of it) was now (at.front ++ at.back) grew (each_without was at.front at.back it (subst (λ (l : List PortView). EachKeepsHis was l) at.was_is each)))

-- ---- a connection taken

pub ends_grew : (was now : Option SocketRecord) (given taken : Option ℕ) → TakesOrCloses was now given taken → (since : SocketRecord) × (now ≡ with_socket_calls since was)
ends_grew was now given taken (GivesNone g t same) = ([], same ∙ same_calls was)
ends_grew was now given taken (GivesOne n g t grew) = (Takes n ∷ [], grew)
ends_grew was now given taken (HasNoMemory n g t grew) = (Closes n ∷ [], grew)

pub keeps_end : (was now : Option SocketRecord) (given taken : Option ℕ) (ports : List PortView) → TakesOrCloses was now given taken → EachKeepsHis was ports → EachKeepsHis now ports
keeps_end was now given taken ports ends each = let grew = ends_grew was now given taken ends in each_keeps_on grew.0 was now ports grew.1 each

pub gives_none : (was : Option SocketRecord) (given : Option ℕ) → given ≡ None → TakesOrCloses was was given None
gives_none was given none = GivesNone none refl refl

nowhere : (port : ℕ) (was : NetView) (mid : PortsAndCalls) (given taken : Option ℕ) (now : Option SocketRecord) → HasNoPort port was.ports → given ≡ None → mid ≡ record { ports = was.ports; calls = was.calls } → TakesOrCloses mid.calls now given taken
    → DialsFrame port was (record was { calls = now; ports = mid.ports; left_out = most_left_out }) taken
nowhere port was mid given taken now nowhere_is none same (GivesNone g t grew) =
    NoSuchPort nowhere_is t (ap (λ (c : Option SocketRecord). let n : NetView = record was { calls = c; ports = mid.ports; left_out = most_left_out } in n) grew ∙ ap (λ (m : PortsAndCalls). let n : NetView = record was { calls = m.calls; ports = m.ports; left_out = most_left_out } in n) same)
nowhere port was mid given taken now nowhere_is none same (GivesOne n g t grew) = cc (none, g)
nowhere port was mid given taken now nowhere_is none same (HasNoMemory n g t grew) = cc (none, g)

dials : (port : ℕ) (was : NetView) (mid : PortsAndCalls) (given taken : Option ℕ) (now : Option SocketRecord) → GivesAmong port (record { ports = was.ports; calls = was.calls }) mid given → TakesOrCloses mid.calls now given taken
    → DialsFrame port was (record was { calls = now; ports = mid.ports; left_out = most_left_out }) taken
dials port was mid given taken now (NoPlace nowhere_is none same) ends = nowhere port was mid given taken now nowhere_is none same ends
dials port was mid given taken now (AtPlace it left at gives) ends = OfPort it left at mid.calls given gives ends refl

for_later : (port : ℕ) (ports : List PortView) (n m : ℕ) (since : SocketRecord) (was now : Option SocketRecord) → IsForFrame port ports n was → n ≡ m → now ≡ with_socket_calls since was → IsForFrame port ports m now
for_later port ports n m since was now h same grew = record {
  it = h.it;
  among = h.among;
  port_is = h.port_is;
  his = subst (λ (k : ℕ). WhereTold (IsHis h.it.port h.it.owner k) now) same (where_later h.it.port h.it.owner n since was now grew h.his);
}

pub frame_his : {C : Type 0} (f : C → ℕ) (port : ℕ) (ports : List PortView) (n : ℕ) (was now : Option SocketRecord) (result : Option C) → TakesOrCloses was now (Some n) (option_map f result) → IsForFrame port ports n was
    → IfSome result (λ c. IsForFrame port ports (f c) now)
frame_his f port ports n was now None ends h = tt
frame_his f port ports n was now (Some c) (GivesNone g t same) h = cc
frame_his f port ports n was now (Some c) (GivesOne m g t grew) h = for_later port ports n (f c) (Takes m ∷ []) was now h (cc) grew
frame_his f port ports n was now (Some c) (HasNoMemory m g t grew) h = cc

-- ---- a control connection

pub nobody_accepted : (was : NetView) (now : Option SocketRecord) (call : SocketCall) → (call ≡ NobodyComes was.control) ⊎ (call ≡ FailsToAccept was.control) → now ≡ with_socket_calls (call ∷ []) was.calls
    → Accepts was (record was { owner = None; left_out = 0; calls = now }) None
nobody_accepted was now call is grew = Nobody call is refl (ap (λ (c : Option SocketRecord). let n : NetView = record was { owner = None; left_out = 0; calls = c } in n) grew)

last_of : (n : ℕ) (was now : Option SocketRecord) (taken : Option ℕ) → TakesOrCloses was now (Some n) taken
    → (last : SocketCall) × (((last ≡ Takes n) × (taken ≡ Some n)) ⊎ ((last ≡ Closes n) × (taken ≡ None))) × (now ≡ with_socket_calls (last ∷ []) was)
last_of n was now taken (GivesNone g t same) = cc
last_of n was now taken (GivesOne m g t grew) = (Takes n, inl (refl, t ∙ sym g), subst (λ (k : ℕ). now ≡ with_socket_calls (Takes k ∷ []) was) (cc) grew)
last_of n was now taken (HasNoMemory m g t grew) = (Closes n, inr (refl, t), subst (λ (k : ℕ). now ≡ with_socket_calls (Closes k ∷ []) was) (cc) grew)

pub accepted : (was : NetView) (comer : Comer) (came asked now : Option SocketRecord) (owner taken : Option ℕ) → came ≡ with_socket_calls (Comes was.control comer ∷ []) was.calls
    → HasAskedOwner comer.peer comer.ours came owner asked → TakesOrCloses asked now (Some comer.number) taken → Accepts was (record was { owner = owner; left_out = 0; calls = now }) taken
accepted was comer came asked now owner taken first then ends = let last = last_of comer.number asked now taken ends in
    Came comer then.since owner then.asked last.0 last.1 (ap (λ (c : Option SocketRecord). let n : NetView = record was { owner = owner; left_out = 0; calls = c } in n)
    (went_on (last.0 ∷ []) (then.since ++ (Comes was.control comer ∷ [])) was.calls asked now (went_on then.since (Comes was.control comer ∷ []) was.calls came asked first then.grew) last.2))

pub keeps_accepted : (ports : List PortView) (control : ℕ) (comer : Comer) (was came asked now : Option SocketRecord) (owner given taken : Option ℕ) → came ≡ with_socket_calls (Comes control comer ∷ []) was
    → HasAskedOwner comer.peer comer.ours came owner asked → TakesOrCloses asked now given taken → EachKeepsHis was ports → EachKeepsHis now ports
keeps_accepted ports control comer was came asked now owner given taken first then ends each =
    keeps_end asked now given taken ports ends (each_keeps_on then.since came asked ports then.grew (each_keeps_on (Comes control comer ∷ []) was came ports first each))

-- ---- the same of listeners that are seen as a whole

pub left_out_seen : (was inside : NetView) → inside ≡ was → inside.left_out < most_left_out → Accepts was (record inside { owner = None; left_out = inside.left_out + 1 }) None
left_out_seen was inside seen few = subst (λ (w : NetView). Accepts w (record inside { owner = None; left_out = inside.left_out + 1 }) None) seen (LeftOut refl few refl)

pub dials_seen : (port : ℕ) (was inside : NetView) (mid : PortsAndCalls) (given taken : Option ℕ) (now : Option SocketRecord) (room : ℕ) → inside ≡ was → room ≡ inside.room
    → GivesAmong port (record { ports = inside.ports; calls = inside.calls }) mid given → TakesOrCloses mid.calls now given taken
    → DialsFrame port was (record inside { calls = now; ports = mid.ports; room = room; left_out = most_left_out }) taken
dials_seen port was inside mid given taken now room seen same gives ends =
    subst (λ (w : NetView). DialsFrame port w (record inside { calls = now; ports = mid.ports; room = room; left_out = most_left_out }) taken) seen
    (subst (λ (n : ℕ). DialsFrame port inside (record inside { calls = now; ports = mid.ports; room = n; left_out = most_left_out }) taken) (sym same) (dials port inside mid given taken now gives ends))

pub nobody_seen : {W : Type 0} (number : W → ℕ) (was inside : NetView) (now : Option SocketRecord) → inside ≡ was → HasAccepted number inside.control inside.calls None now → Accepts was (record inside { owner = None; left_out = 0; calls = now }) None
nobody_seen number was inside now seen h = subst (λ (w : NetView). Accepts w (record inside { owner = None; left_out = 0; calls = now }) None) seen (nobody_accepted inside now h.0 h.1 h.2)

pub keeps_nobody : {W : Type 0} (number : W → ℕ) (control : ℕ) (ports : List PortView) (was now : Option SocketRecord) → HasAccepted number control was None now → EachKeepsHis was ports → EachKeepsHis now ports
keeps_nobody number control ports was now h each = each_keeps_on (h.0 ∷ []) was now ports h.2 each

pub accepted_seen : (was inside : NetView) (comer : Comer) (came asked now : Option SocketRecord) (owner taken : Option ℕ) → inside ≡ was → came ≡ with_socket_calls (Comes inside.control comer ∷ []) inside.calls
    → HasAskedOwner comer.peer comer.ours came owner asked → TakesOrCloses asked now (Some comer.number) taken → Accepts was (record inside { owner = owner; left_out = 0; calls = now }) taken
accepted_seen was inside comer came asked now owner taken seen first then ends =
    subst (λ (w : NetView). Accepts w (record inside { owner = owner; left_out = 0; calls = now }) taken) seen (accepted inside comer came asked now owner taken first then ends)

forgets_from : (port : ℕ) (was : NetView) (mid : PortsAndCalls) → ForgetsAmong port (record { ports = was.ports; calls = was.calls }) mid → Forgets port was (record was { calls = mid.calls; ports = mid.ports; left_out = most_left_out })
forgets_from port was mid (NowhereForgets nowhere_is same) = NoPort nowhere_is (ap (λ (m : PortsAndCalls). let n : NetView = record was { calls = m.calls; ports = m.ports; left_out = most_left_out } in n) same)
forgets_from port was mid (ForgetsThere it left at forgets) = ForgetsAt it left at forgets refl

pub forgets_seen : (port : ℕ) (was inside : NetView) (mid : PortsAndCalls) (room : ℕ) → inside ≡ was → room ≡ inside.room → ForgetsAmong port (record { ports = inside.ports; calls = inside.calls }) mid
    → Forgets port was (record inside { calls = mid.calls; ports = mid.ports; room = room; left_out = most_left_out })
forgets_seen port was inside mid room seen same h =
    subst (λ (w : NetView). Forgets port w (record inside { calls = mid.calls; ports = mid.ports; room = room; left_out = most_left_out })) seen
    (subst (λ (n : ℕ). Forgets port inside (record inside { calls = mid.calls; ports = mid.ports; room = n; left_out = most_left_out })) (sym same) (forgets_from port inside mid h))

shuts_from : (port : ℕ) (was : NetView) (mid : PortsAndCalls) → EndsAmong port (record { ports = was.ports; calls = was.calls }) mid → ShutsPort port was (record was { calls = mid.calls; ports = mid.ports })
shuts_from port was mid (NowhereEnds nowhere_is same) = ShutsNone nowhere_is (ap (λ (m : PortsAndCalls). let n : NetView = record was { calls = m.calls; ports = m.ports } in n) same)
shuts_from port was mid (EndsThere it at grew) = ShutsOne it at grew refl

pub shuts_seen : (port : ℕ) (was inside : NetView) (mid : PortsAndCalls) (room : ℕ) → inside ≡ was → room ≡ inside.room → EndsAmong port (record { ports = inside.ports; calls = inside.calls }) mid
    → ShutsPort port was (record inside { calls = mid.calls; ports = mid.ports; room = room })
shuts_seen port was inside mid room seen same h =
    subst (λ (w : NetView). ShutsPort port w (record inside { calls = mid.calls; ports = mid.ports; room = room })) seen
    (subst (λ (n : ℕ). ShutsPort port inside (record inside { calls = mid.calls; ports = mid.ports; room = n })) (sym same) (shuts_from port inside mid h))

-- ---- a port that is made

pub opens_full : (was inside : NetView) (owner : Option ℕ) → inside ≡ was → inside.room ≤ length inside.ports → owner ≡ None → OpensPort was (record inside { owner = owner }) None
opens_full was inside owner seen full gone = subst (λ (w : NetView). OpensPort w (record inside { owner = owner }) None) seen (record {
  since = [];
  grew = same_calls inside.calls;
  asked = inl (refl, refl, full);
  rest = ap (λ (o : Option ℕ). let n : NetView = record inside { owner = o } in n) gone;
  none = λ e. refl;
  some = λ it e. cc;
})

pub opens_none : (was inside : NetView) (mid : Option SocketRecord) (owner had : Option ℕ) → inside ≡ was → HasListened inside.range inside.calls mid had → had ≡ None → owner ≡ None → OpensPort was (record inside { owner = owner; calls = mid }) None
opens_none was inside mid owner had seen h not gone = subst (λ (w : NetView). OpensPort w (record inside { owner = owner; calls = mid }) None) seen (record {
  since = h.since;
  grew = h.grew;
  asked = inr (subst (λ (p : Option ℕ). AsksForPort inside.range h.since p) not h.asks);
  rest = ap (λ (o : Option ℕ). let n : NetView = record inside { owner = o; calls = mid } in n) gone;
  none = λ e. refl;
  some = λ it e. cc;
})

pub opens_one : (was inside : NetView) (mid : Option SocketRecord) (port room : ℕ) (owner left had : Option ℕ) (news : List PortView) → inside ≡ was → HasListened inside.range inside.calls mid had → had ≡ Some port → room ≡ inside.room → owner ≡ inside.owner
    → left ≡ None → news ≡ inside.ports ++ (record { port = port; owner = owner; standing = None; ended = None }) ∷ [] → OpensPort was (record inside { calls = mid; owner = left; room = room; ports = news }) (Some port)
opens_one was inside mid port room owner left had news seen h is same own gone are = subst (λ (w : NetView). OpensPort w (record inside { calls = mid; owner = left; room = room; ports = news }) (Some port)) seen (record {
  since = h.since;
  grew = h.grew;
  asked = inr (subst (λ (p : Option ℕ). AsksForPort inside.range h.since p) is h.asks);
  rest = ap (λ (o : Option ℕ). let n : NetView = record inside { calls = mid; owner = o; room = room; ports = news } in n) gone ∙ ap (λ (k : ℕ). let n : NetView = record inside { calls = mid; owner = None; room = k; ports = news } in n) same;
  none = λ e. cc;
  some = λ it e. let one : port ≡ it = cc in are ∙ (ap (λ (o : Option ℕ). inside.ports ++ (record { port = port; owner = o; standing = None; ended = None }) ∷ []) own ∙ ap (λ (p : ℕ). inside.ports ++ (record { port = p; owner = inside.owner; standing = None; ended = None }) ∷ []) one);
})

each_more : (calls : Option SocketRecord) (ports : List PortView) (it : PortView) → EachKeepsHis calls ports → KeepsHis calls it → EachKeepsHis calls (ports ++ it ∷ [])
each_more calls [] it each keeps = (keeps, tt)
each_more calls (one ∷ ports) it each keeps = (each.0, each_more calls ports it each.1 keeps)

pub keeps_opened : (range : Option PortRange) (ports news : List PortView) (port : ℕ) (owner had : Option ℕ) (was mid : Option SocketRecord) → HasListened range was mid had → news ≡ ports ++ (record { port = port; owner = owner; standing = None; ended = None }) ∷ []
    → EachKeepsHis was ports → EachKeepsHis mid news
keeps_opened range ports news port owner had was mid h are each =
    subst (λ (l : List PortView). EachKeepsHis mid l) (sym are) (each_more mid ports (record { port = port; owner = owner; standing = None; ended = None }) (each_keeps_on h.since was mid ports h.grew each) (record { standing_his = tt; ended_his = tt }))

pub keeps_listened : (range : Option PortRange) (ports : List PortView) (had : Option ℕ) (was mid : Option SocketRecord) → HasListened range was mid had → EachKeepsHis was ports → EachKeepsHis mid ports
keeps_listened range ports had was mid h each = each_keeps_on h.since was mid ports h.grew each

pub viewed_more : {L W : Type 0} (number : W → ℕ) (ports news : List (DataPort L W)) (it : DataPort L W) (port : ℕ) → news ≡ ports ++ it ∷ [] → port ≡ listening_port it.at
    → map (port_view number) news ≡ map (port_view number) ports ++ (record { port = port; owner = it.owner; standing = option_map number it.standing; ended = option_map number it.ended }) ∷ []
viewed_more {L} {W} number ports news it port pushed is =
    ap (λ (l : List (DataPort L W)). map (port_view number) l) pushed
    ∙ (map-append (port_view number) ports (it ∷ [])
    ∙ ap (λ (p : ℕ). map (port_view number) ports ++ (record { port = p; owner = it.owner; standing = option_map number it.standing; ended = option_map number it.ended }) ∷ []) (sym is))
