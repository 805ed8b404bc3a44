-- One data port among all.
use Rattle.std.proofs.Common.{◌≡◌, ℕ, zero, suc, ◌<◌, List, [], ◌∷◌, ◌++◌, Option, Some, None, refl, sym, ap, ◌∙◌, subst, arith, length, get_or, set}
use Rattle.std.specs.Prelude.{◌≢◌, Contains, IfSome, map}
use Rattle.std.proofs.lemmas.List.Elements.{All-map, Contains-append_right}
use Rattle.socket_calls.specs.SocketCall.{SocketRecord, listening_port, with_socket_calls}
use Rattle.saned_cli.specs.Guarding.{EachKeepsHis, IsHis, IsKeptFor, KeepsHis, PortView, WhereTold, port_view}
use Rattle.saned_cli.specs.NetViews.{AtPort, HasNoPort, IsForFrame}
use Rattle.saned_cli.specs.Inside.{HasNoPlace, IsPlaceAmong}
use Rattle.saned_cli.specs.declared.data_port.DataPort.{DataPort}
use Rattle.saned_cli.proofs.HisLaws.{keeps_later}

-- ---- a list with one element at its place

record SplitsAt {X V : Type 0} (f : X → V) (xs : List X) (i : ℕ) (x y : X) : Type 0 where
  front : List V
  back : List V
  was_is : map f xs ≡ front ++ (f x ∷ back)
  now_is : map f (set xs i y) ≡ front ++ (f y ∷ back)

splits_at : {X V : Type 0} (f : X → V) (xs : List X) (i : ℕ) (d x y : X) → i < length xs → x ≡ get_or xs i d → SplitsAt f xs i x y
splits_at f [] i d x y lt e = absurd (omega (arith, lt))
splits_at f (z ∷ xs) zero d x y lt e = record { front = []; back = map f xs; was_is = ap (λ w. f w ∷ map f xs) (sym e); now_is = refl }
splits_at f (z ∷ xs) (suc i) d x y lt e = let rest = splits_at f xs i d x y (omega (arith, lt)) e in record {
  front = f z ∷ rest.front;
  back = rest.back;
  was_is = ap (λ l. f z ∷ l) rest.was_is;
  now_is = ap (λ l. f z ∷ l) rest.now_is;
}

pub at_port_of : {L W : Type 0} (number : W → ℕ) (port : ℕ) (ports slice : List (DataPort L W)) (at : ℕ) (it left : DataPort L W) → slice ≡ ports → IsPlaceAmong port slice at → it ≡ get_or ports at it
    → AtPort port (map (port_view number) ports) (map (port_view number) (set ports at left)) (port_view number it) (port_view number left)
at_port_of {L} {W} number port ports slice at it left same place is =
    let here : IsPlaceAmong port ports at = subst (λ (s : List (DataPort L W)). IsPlaceAmong port s at) same place in
    let split = splits_at (port_view number) ports at it it left here.0 is in record {
      front = split.front;
      back = split.back;
      was_is = split.was_is;
      now_is = split.now_is;
      port_is = ap (λ (x : DataPort L W). listening_port x.at) is ∙ here.1 it;
    }

pub no_port_of : {L W : Type 0} (number : W → ℕ) (port : ℕ) (ports slice : List (DataPort L W)) → slice ≡ ports → HasNoPlace port slice → HasNoPort port (map (port_view number) ports)
no_port_of {L} {W} number port ports slice same none =
    All-map (λ it. it.port ≢ port) (port_view number) ports (subst (λ (s : List (DataPort L W)). HasNoPlace port s) same none)

-- ---- what each port keeps

each_at : (calls : Option SocketRecord) (front back : List PortView) (it : PortView) → EachKeepsHis calls (front ++ (it ∷ back)) → KeepsHis calls it
each_at calls [] back it each = each.0
each_at calls (one ∷ front) back it each = each_at calls front back it each.1

pub keeps_at : (port : ℕ) (was now : List PortView) (it left : PortView) (calls : Option SocketRecord) → AtPort port was now it left → EachKeepsHis calls was → KeepsHis calls it
keeps_at port was now it left calls at each = each_at calls at.front at.back it (subst (λ (l : List PortView). EachKeepsHis calls l) at.was_is each)

each_later : (since : SocketRecord) (was now : Option SocketRecord) (ports : List PortView) → now ≡ with_socket_calls since was → EachKeepsHis was ports → EachKeepsHis now ports
each_later since was now [] grew each = tt
each_later since was now (it ∷ ports) grew each = (keeps_later it since was now grew each.0, each_later since was now ports grew each.1)

pub each_keeps_on : (since : SocketRecord) (was now : Option SocketRecord) (ports : List PortView) → now ≡ with_socket_calls since was → EachKeepsHis was ports → EachKeepsHis now ports
each_keeps_on since was now ports grew each = each_later since was now ports grew each

each_put : (since : SocketRecord) (was now : Option SocketRecord) (front back : List PortView) (it left : PortView) → now ≡ with_socket_calls since was → EachKeepsHis was (front ++ (it ∷ back)) → KeepsHis now left
    → EachKeepsHis now (front ++ (left ∷ back))
each_put since was now [] back it left grew each keeps = (keeps, each_later since was now back grew each.1)
each_put since was now (one ∷ front) back it left grew each keeps = (keeps_later one since was now grew each.0, each_put since was now front back it left grew each.1 keeps)

pub keeps_put : (port : ℕ) (ports news : List PortView) (it left : PortView) (since : SocketRecord) (was now : Option SocketRecord) → AtPort port ports news it left → now ≡ with_socket_calls since was → EachKeepsHis was ports
    → KeepsHis now left → EachKeepsHis now news
keeps_put port ports news it left since was now at grew each keeps =
    subst (λ (l : List PortView). EachKeepsHis now l) (sym at.now_is) (each_put since was now at.front at.back it left grew (subst (λ (l : List PortView). EachKeepsHis was l) at.was_is each) keeps)

none_kept : (it : PortView) (kept : Option ℕ) (calls : Option SocketRecord) → kept ≡ None → IsKeptFor it kept calls
none_kept it kept calls none = subst (λ (k : Option ℕ). IsKeptFor it k calls) (sym none) tt

pub keeps_none : (it : PortView) (calls : Option SocketRecord) → it.standing ≡ None → it.ended ≡ None → KeepsHis calls it
keeps_none it calls standing ended = record { standing_his = none_kept it it.standing calls standing; ended_his = none_kept it it.ended calls ended }

-- ---- whom a frame goes to

here : (front back : List PortView) (it : PortView) → Contains (front ++ (it ∷ back)) it
here front back it = Contains-append_right front (it ∷ back) it (0, omega arith, refl)

pub for_frame : {W : Type 0} (number : W → ℕ) (port : ℕ) (was now : List PortView) (it left : PortView) (calls : Option SocketRecord) (given : Option W) → AtPort port was now it left
    → IfSome given (λ w. WhereTold (IsHis it.port it.owner (number w)) calls) → IfSome given (λ w. IsForFrame port was (number w) calls)
for_frame number port was now it left calls None at h = tt
for_frame number port was now it left calls (Some w) at h = record {
  it = it;
  among = subst (λ (l : List PortView). Contains l it) (sym at.was_is) (here at.front at.back it);
  port_is = at.port_is;
  his = h;
}
