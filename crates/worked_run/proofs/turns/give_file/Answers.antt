use Rattle.std.proofs.Common.{◌≡◌, ◌∙◌, ◌<◌, ◌++◌, inl, ℕ, Bool, true, false, List, [], ◌∷◌, length, take, nat_eq, refl, sym, ap, subst, arith, rules, append-nil}
use Rattle.std.proofs.lemmas.Bool.Decides.{nat_tests}
use Rattle.std.proofs.lemmas.List.{length-take}
use Rattle.client_replies.specs.ProtocolStates.{turns}
use Rattle.net_client.specs.ClientStates.{ClientState}
use Rattle.net_jobs.specs.JobJournal.{GivesFileBytes, JobMove}
use Rattle.net_jobs.specs.JobJournal.JobMove.{Gives}
use Rattle.net_jobs.specs.JobSteps.{GivesOut}
use Rattle.net_jobs.proofs.Giving.{gives_by, gives_more, gives_none}
use Rattle.worked_run.specs.Rounds.{GivesFile}
use Rattle.worked_run.proofs.turns.give_file.Goals as goal

zero_of : (n : ℕ) → nat_eq n 0 ≡ true → n ≡ 0
zero_of n e = grind (arith, nat_tests)

gives_two : (scan : Bool) (old mid new : ClientState) (first second : List ℕ) → scan ≡ true → turns old.outcome old.progress ≡ false → second ≡ [] → GivesFileBytes old first mid → GivesFileBytes mid second new → GivesFile scan old first new
gives_two scan old mid new first second on still none one two =
    let last : GivesFileBytes mid [] new = subst (λ (l : List ℕ). GivesFileBytes mid l new) none two in
    let all = gives_more old mid new (Gives first ∷ []) [] (gives_more old old mid [] first (gives_none old) one) last in
    record {
      gives = Gives [] ∷ Gives first ∷ [];
      gave = append-nil first;
      out = subst (λ (b : Bool). GivesOut b false old (Gives [] ∷ Gives first ∷ []) new) (sym on) (inl (record { still = still; runs_out = record { are = all.are; leads = all.leads; before = Gives first ∷ []; dry = refl } }));
    }

pub returns : goal.returns
returns c = λ e.
    let n = c.take_file-count.result in
    let m = c.take_file.result in
    let first : List ℕ = take n c.take_file-count.new.buf in
    let second : List ℕ = take m c.take_file.new.buf in
    let first_size : length first ≡ n = omega (arith, length-take n c.take_file-count.new.buf, c.take_file-count.ensures.count, c.take_file-count.auto.buf) in
    let second_size : length second ≡ m = omega (arith, length-take m c.take_file.new.buf, c.take_file.ensures.count, c.take_file.auto.buf) in
    let one = gives_by c.args.client.now c.take_file-count.new.self first n _ first_size (omega arith) c.take_file-count.ensures.outcome c.take_file-count.ensures.ended c.take_file-count.ensures.same c.take_file-count.ensures.taken in
    let two = gives_by c.take_file-count.new.self c.take_file.new.self second m _ second_size (omega (arith, c.take_file-count.auto.buf)) c.take_file.ensures.outcome c.take_file.ensures.ended c.take_file.ensures.same c.take_file.ensures.taken in
    let none : second ≡ [] = ap (λ (k : ℕ). take k c.take_file.new.buf) (zero_of m e) in (
      first,
      gives_two c.args.scan c.args.client.now c.take_file-count.new.self c.take_file.new.self first second c.if-not-scan.false (sym c.is_turning.ensures ∙ c.if-is_turning.false) none one two,
      (let a = c.extend_from_slice.ensures.items in let b = c.is_err.ensures in let d = c.if-is_err.false in search rules),
    )
