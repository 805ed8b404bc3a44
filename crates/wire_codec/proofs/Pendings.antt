-- Where as many bytes as are wanted have not come, and none of them is a fault, more is wanted still.
use Rattle.std.proofs.Common.{◌≡◌, ℕ, ◌-◌, ◌≤◌, ◌<◌, true, List, ◌++◌, length, take, drop, Option, Some, None, sym, ap, subst, ◌∙◌, arith}
use Rattle.std.specs.List.{list_all}
use Rattle.std.specs.Prelude.{IfSome}
use Rattle.std.proofs.lemmas.List.{take-append-drop, take-append-le, take_all, length-append}
use Rattle.wire_format.specs.declared.fault.MissingBytes.{MissingBytes}
use Rattle.wire_format.specs.Format.{IsBytes, is_from}
use Rattle.wire_format.specs.Lawful.{IsStillWaiting, still_missing}
use Rattle.wire_format.proofs.ReadLimits.{limited_waits}
use Rattle.wire_format.proofs.Runs.{all_true}
use Rattle.wire_codec.specs.declared.decoder.Pending.{Pending}
use Rattle.wire_message.specs.declared.message.Procedure.{Procedure}
use Rattle.wire_message.specs.Message.{message_limit, request, reply}
use Rattle.wire_codec.specs.PendingMessages.{IsPending, StopsForMore}
use Rattle.wire_message.proofs.Messages.{request_laws, reply_reads}

still_at : (procedure : Option Procedure) (front more : List ℕ) (wanted : MissingBytes) → IsBytes (front ++ more) → StopsForMore procedure front wanted → IsStillWaiting wanted more → length (front ++ more) ≤ message_limit
    → StopsForMore procedure (front ++ more) (still_missing wanted (length more))
still_at None front more wanted fits stops still within = limited_waits message_limit request request_laws.reads front more wanted fits stops still within
still_at (Some procedure) front more wanted fits stops still within = limited_waits message_limit (reply procedure) (reply_reads procedure) front more wanted fits stops still within

pub still_pending : (rest : List ℕ) (p : Pending) → IsBytes rest → IsPending rest p → length rest ≤ message_limit → length (drop p.seen rest) < p.wanted.count → list_all (is_from p.wanted.least) (drop p.seen rest) ≡ true
    → IsPending rest (record { procedure = p.procedure; wanted = record { count = p.wanted.count - length (drop p.seen rest); least = p.wanted.least }; seen = length rest })
still_pending rest p fits pending within fewer from =
    let whole : take p.seen rest ++ drop p.seen rest ≡ rest = take-append-drop p.seen rest in
    let still : IsStillWaiting p.wanted (drop p.seen rest) = record { fewer = fewer; from = all_true p.wanted.least (drop p.seen rest) from } in
    let here = still_at p.procedure (take p.seen rest) (drop p.seen rest) p.wanted (subst IsBytes (sym whole) fits) pending.stops still (subst (λ (l : List ℕ). length l ≤ message_limit) (sym whole) within) in
    let all : take (length rest) rest ≡ rest = take_all (length rest) rest (omega arith) in
    record {
      within = omega arith;
      stops = subst (λ (l : List ℕ). StopsForMore p.procedure l (still_missing p.wanted (length (drop p.seen rest)))) (whole ∙ sym all) here;
    }

-- what was seen whole stops so
pub seen_whole : (rest : List ℕ) (p : Pending) → IsPending rest p → p.seen ≡ length rest → StopsForMore p.procedure rest p.wanted
seen_whole rest p pending seen = subst (λ (l : List ℕ). StopsForMore p.procedure l p.wanted) (ap (λ (n : ℕ). take n rest) seen ∙ take_all (length rest) rest (omega arith)) pending.stops

-- the same of more bytes
pub pending_more : (rest more : List ℕ) (pending : Option Pending) → IfSome pending (IsPending rest) → IfSome pending (IsPending (rest ++ more))
pending_more rest more None h = tt
pending_more rest more (Some p) h = record {
  within = omega (arith, h.within, length-append rest more);
  stops = subst (λ (l : List ℕ). StopsForMore p.procedure l p.wanted) (sym (take-append-le p.seen rest more h.within)) h.stops;
}
