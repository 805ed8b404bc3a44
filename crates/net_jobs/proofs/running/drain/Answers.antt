use Rattle.std.proofs.Common.{◌≡◌, ◌∙◌, ◌∷◌, rules, arith, ap, sym, subst, take, length, refl, ℕ, List, Bool, true, false, inl, inr, []}
use Rattle.std.proofs.lemmas.List.{append-nil, length-take}
use Rattle.client_replies.specs.ProtocolStates.{turns}
use Rattle.net_client.specs.ClientStates.{ClientState}
use Rattle.net_jobs.specs.JobJournal.{Gives, GivesFileBytes, given_by}
use Rattle.net_jobs.specs.Inside.{EndsFile, PageGoesOn}
use Rattle.net_jobs.proofs.Giving.{gives_by, gives_none, gives_more}
use Rattle.net_jobs.proofs.Pages.{Pulls, begun, one_more, at_end, turned, stopped, never}
use Rattle.net_jobs.proofs.running.drain.Goals.{else-is_page-via-then-is_page+else-not-is_turning, else-is_page-via-else-is_page}
use Rattle.net_jobs.proofs.running.drain.Goals as goal

pub loop-i-init : goal.loop-i-init
loop-i-init g c = record { room = refl; calls = (refl, refl); outcome = refl; gave = ([], gives_none c.args.client.now, λ before outputs k past filing. begun past _ k before outputs _ filing.serves filing.under_way) }

pub returns-then-n-eq0-clause-drained : goal.returns-then-n-eq0-clause-drained
returns-then-n-eq0-clause-drained g c = λ done.
    let piece : List ℕ = take c.take_file-n.result c.take_file-n.new.buf in
    let none : piece ≡ [] = ap (λ (n : ℕ). take n c.take_file-n.new.buf) c.if-n-eq0.true in
    let size : length piece ≡ c.take_file-n.result = omega (arith, length-take c.take_file-n.result c.take_file-n.new.buf, c.take_file-n.ensures.count, c.take_file-n.auto.buf) in
    let pulls : Pulls c.loop-i.client piece c.take_file-n.result c.take_file-n.new.self
    = record { carried = λ q at. (c.take_file-n.ensures.taken q at).carried; ended = c.take_file-n.ensures.ended; same = c.take_file-n.ensures.same; page = λ on q at. (c.take_file-n.ensures.taken q at).page on; size = size } in
    let gives : GivesFileBytes c.loop-i.client piece c.take_file-n.new.self =
    gives_by c.loop-i.client c.take_file-n.new.self piece c.take_file-n.result _ size (omega (arith, c.loop-i.invariant.room, c.requires)) c.take_file-n.ensures.outcome c.take_file-n.ensures.ended c.take_file-n.ensures.same c.take_file-n.ensures.taken in
    let all = gives_more c.args.client.now c.loop-i.client c.take_file-n.new.self c.loop-i.invariant.gave.0 piece c.loop-i.invariant.gave.1 gives in
    let same : given_by c.loop-i.invariant.gave.0 ≡ given_by (Gives piece ∷ c.loop-i.invariant.gave.0) = sym (append-nil (given_by c.loop-i.invariant.gave.0)) ∙ ap (λ (l : List ℕ). given_by (Gives l ∷ c.loop-i.invariant.gave.0)) (sym none) in (
      Gives piece ∷ c.loop-i.invariant.gave.0,
      all,
      λ before outputs k past filing.
          let on = subst (λ (l : List ℕ). PageGoesOn past c.args.client.now k before outputs l c.take_file-n.new.self (g.K.FileSink.state c.loop-i.to c.loop-i.sink)) same
          (at_end past c.args.client.now c.loop-i.client c.take_file-n.new.self k c.loop-i._i c.take_file-n.result before outputs _ (given_by c.loop-i.invariant.gave.0) piece none pulls
          (λ q at alive joined p shows. (c.take_file-n.ensures.taken q at).denotes alive joined none (omega (arith, c.loop-i.invariant.room, c.requires)) p shows)
          (c.loop-i.invariant.gave.2 before outputs k past filing)) in (
            inl (
              record { are = all.are; leads = all.leads; before = c.loop-i.invariant.gave.0; dry = ap (λ (l : List ℕ). Gives l ∷ c.loop-i.invariant.gave.0) none },
              ap (λ (v : ClientState). turns v.outcome v.progress) on.rest,
            ),
            inl on,
          ),
    )

pub returns-then-not-take-clause-short : goal.returns-then-not-take-clause-short
returns-then-not-take-clause-short g c = λ failed.
    let piece : List ℕ = take c.take_file-n.result c.take_file-n.new.buf in
    let size : length piece ≡ c.take_file-n.result = omega (arith, length-take c.take_file-n.result c.take_file-n.new.buf, c.take_file-n.ensures.count, c.take_file-n.auto.buf) in
    let pulls : Pulls c.loop-i.client piece c.take_file-n.result c.take_file-n.new.self
    = record { carried = λ q at. (c.take_file-n.ensures.taken q at).carried; ended = c.take_file-n.ensures.ended; same = c.take_file-n.ensures.same; page = λ on q at. (c.take_file-n.ensures.taken q at).page on; size = size } in
    let gives : GivesFileBytes c.loop-i.client piece c.take_file-n.new.self =
    gives_by c.loop-i.client c.take_file-n.new.self piece c.take_file-n.result _ size (omega (arith, c.loop-i.invariant.room, c.requires)) c.take_file-n.ensures.outcome c.take_file-n.ensures.ended c.take_file-n.ensures.same c.take_file-n.ensures.taken in (
      Gives piece ∷ c.loop-i.invariant.gave.0,
      gives_more c.args.client.now c.loop-i.client c.take_file-n.new.self c.loop-i.invariant.gave.0 piece c.loop-i.invariant.gave.1 gives,
      λ before outputs k past filing. inl (stopped past c.args.client.now c.loop-i.client c.take_file-n.new.self k c.loop-i._i c.take_file-n.result c.file_number-number.result before outputs _ _ (given_by c.loop-i.invariant.gave.0) piece c.if-n-eq0.false pulls c.no_front_is_whole.ensures c.no_whole_prefix.ensures filing.scanning c.file_number-number.ensures filing.number
          (λ had h. c.take.ensures.front c.if-not-take.true before outputs had h)
          (c.loop-i.invariant.gave.2 before outputs k past filing)),
    )

pub returns-then-not-is_turning-clause-drained : goal.returns-then-not-is_turning-clause-drained
returns-then-not-is_turning-clause-drained g c = λ done.
    let piece : List ℕ = take c.take_file-n.result c.take_file-n.new.buf in
    let size : length piece ≡ c.take_file-n.result = omega (arith, length-take c.take_file-n.result c.take_file-n.new.buf, c.take_file-n.ensures.count, c.take_file-n.auto.buf) in
    let pulls : Pulls c.loop-i.client piece c.take_file-n.result c.take_file-n.new.self
    = record { carried = λ q at. (c.take_file-n.ensures.taken q at).carried; ended = c.take_file-n.ensures.ended; same = c.take_file-n.ensures.same; page = λ on q at. (c.take_file-n.ensures.taken q at).page on; size = size } in
    let gives : GivesFileBytes c.loop-i.client piece c.take_file-n.new.self =
    gives_by c.loop-i.client c.take_file-n.new.self piece c.take_file-n.result _ size (omega (arith, c.loop-i.invariant.room, c.requires)) c.take_file-n.ensures.outcome c.take_file-n.ensures.ended c.take_file-n.ensures.same c.take_file-n.ensures.taken in (
      Gives piece ∷ c.loop-i.invariant.gave.0,
      gives_more c.args.client.now c.loop-i.client c.take_file-n.new.self c.loop-i.invariant.gave.0 piece c.loop-i.invariant.gave.1 gives,
      λ before outputs k past filing.
          let out =
          turned past c.args.client.now c.loop-i.client c.take_file-n.new.self k c.loop-i._i c.take_file-n.result c.file_number-number.result before outputs _ (g.K.FileSink.state c.take.new.to c.take.new.self) _ true (given_by c.loop-i.invariant.gave.0) piece
          c.if-n-eq0.false pulls (sym c.is_turning-is_page.ensures ∙ c.if-is_page.true) (sym c.is_turning.ensures ∙ c.if-not-is_turning.true) c.file_number-number.ensures filing.number
          (λ had h. c.take.ensures.whole (search rules) before outputs had h)
          (subst (λ (b : Bool). EndsFile (g.K.FileSink.state c.take.new.to c.take.new.self) b (g.K.FileSink.state c.end_file.new.to c.end_file.new.self)) done c.end_file.ensures.ends)
          (c.loop-i.invariant.gave.2 before outputs k past filing) in (
            inr (record {
              begins = out.turning;
              before = c.loop-i.invariant.gave.0;
              bytes = piece;
              gives_are = refl;
              are = c.loop-i.invariant.gave.1.are;
              mid = c.loop-i.client;
              leads = c.loop-i.invariant.gave.1.leads;
              turning = sym c.is_turning-is_page.ensures ∙ c.if-is_page.true;
              last = gives;
              turned = sym c.is_turning.ensures ∙ c.if-not-is_turning.true;
            }),
            inr out,
          ),
    )

pub returns-then-not-is_turning-clause-short : goal.returns-then-not-is_turning-clause-short
returns-then-not-is_turning-clause-short g c = λ failed.
    let piece : List ℕ = take c.take_file-n.result c.take_file-n.new.buf in
    let size : length piece ≡ c.take_file-n.result = omega (arith, length-take c.take_file-n.result c.take_file-n.new.buf, c.take_file-n.ensures.count, c.take_file-n.auto.buf) in
    let pulls : Pulls c.loop-i.client piece c.take_file-n.result c.take_file-n.new.self
    = record { carried = λ q at. (c.take_file-n.ensures.taken q at).carried; ended = c.take_file-n.ensures.ended; same = c.take_file-n.ensures.same; page = λ on q at. (c.take_file-n.ensures.taken q at).page on; size = size } in
    let gives : GivesFileBytes c.loop-i.client piece c.take_file-n.new.self =
    gives_by c.loop-i.client c.take_file-n.new.self piece c.take_file-n.result _ size (omega (arith, c.loop-i.invariant.room, c.requires)) c.take_file-n.ensures.outcome c.take_file-n.ensures.ended c.take_file-n.ensures.same c.take_file-n.ensures.taken in (
      Gives piece ∷ c.loop-i.invariant.gave.0,
      gives_more c.args.client.now c.loop-i.client c.take_file-n.new.self c.loop-i.invariant.gave.0 piece c.loop-i.invariant.gave.1 gives,
      λ before outputs k past filing. inr (
          turned past c.args.client.now c.loop-i.client c.take_file-n.new.self k c.loop-i._i c.take_file-n.result c.file_number-number.result before outputs _ (g.K.FileSink.state c.take.new.to c.take.new.self) _ false (given_by c.loop-i.invariant.gave.0) piece
          c.if-n-eq0.false pulls (sym c.is_turning-is_page.ensures ∙ c.if-is_page.true) (sym c.is_turning.ensures ∙ c.if-not-is_turning.true) c.file_number-number.ensures filing.number
          (λ had h. c.take.ensures.whole (search rules) before outputs had h)
          (subst (λ (b : Bool). EndsFile (g.K.FileSink.state c.take.new.to c.take.new.self) b (g.K.FileSink.state c.end_file.new.to c.end_file.new.self)) failed c.end_file.ensures.ends)
          (c.loop-i.invariant.gave.2 before outputs k past filing)),
    )

pub loop-i-preserved : goal.loop-i-preserved
loop-i-preserved g c =
    let piece : List ℕ = take c.take_file-n.result c.take_file-n.new.buf in
    let size : length piece ≡ c.take_file-n.result = omega (arith, length-take c.take_file-n.result c.take_file-n.new.buf, c.take_file-n.ensures.count, c.take_file-n.auto.buf) in
    let pulls : Pulls c.loop-i.client piece c.take_file-n.result c.take_file-n.new.self
    = record { carried = λ q at. (c.take_file-n.ensures.taken q at).carried; ended = c.take_file-n.ensures.ended; same = c.take_file-n.ensures.same; page = λ on q at. (c.take_file-n.ensures.taken q at).page on; size = size } in
    let gives : GivesFileBytes c.loop-i.client piece c.take_file-n.new.self =
    gives_by c.loop-i.client c.take_file-n.new.self piece c.take_file-n.result _ size (omega (arith, c.loop-i.invariant.room, c.requires)) c.take_file-n.ensures.outcome c.take_file-n.ensures.ended c.take_file-n.ensures.same c.take_file-n.ensures.taken in
    let still : turns c.loop-i.client.outcome c.loop-i.client.progress ≡ true → turns c.take_file-n.new.self.outcome c.take_file-n.new.self.progress ≡ true = elim c.else-is_page.branch [
      | else-is_page-via-then-is_page+else-not-is_turning w ↦ λ t. sym w.is_turning.ensures ∙ w.if-not-is_turning.false
      | else-is_page-via-else-is_page w ↦ λ t. absurd (let clash : true ≡ false = sym t ∙ sym c.is_turning-is_page.ensures ∙ w.if-is_page.false in cc)
    ] in
    record {
      room = search rules;
      calls = c.loop-i.invariant.calls;
      outcome = c.take_file-n.ensures.outcome ∙ c.loop-i.invariant.outcome;
      gave = (
        Gives piece ∷ c.loop-i.invariant.gave.0,
        gives_more c.args.client.now c.loop-i.client c.take_file-n.new.self c.loop-i.invariant.gave.0 piece c.loop-i.invariant.gave.1 gives,
        λ before outputs k past filing.
            one_more past c.args.client.now c.loop-i.client c.take_file-n.new.self k c.loop-i._i c.take_file-n.result c.file_number-number.result before outputs _ _ (given_by c.loop-i.invariant.gave.0) piece c.if-n-eq0.false pulls still c.file_number-number.ensures filing.number
            (λ had h. c.take.ensures.whole (search rules) before outputs had h)
            (c.loop-i.invariant.gave.2 before outputs k past filing),
      );
    }

pub returns-clause-short : goal.returns-clause-short
returns-clause-short g c = λ failed. (
  c.loop-i.invariant.gave.0,
  c.loop-i.invariant.gave.1,
  λ before outputs k past filing.
      absurd (never past c.args.client.now c.loop-i.client k c.loop-i._i before outputs _ (given_by c.loop-i.invariant.gave.0) filing.scanning (omega (arith, c.loop-i-test.false)) c.no_file_is_endless.ensures (c.loop-i.invariant.gave.2 before outputs k past filing)),
)

pub returns-then-not-is_turning-clause-calls : goal.returns-then-not-is_turning-clause-calls
returns-then-not-is_turning-clause-calls g c = c.loop-i.invariant.calls

pub returns-then-not-take-clause-failed : goal.returns-then-not-take-clause-failed
returns-then-not-take-clause-failed g c = λ short before outputs k past filing. c.take.ensures.failed c.if-not-take.true

pub returns-then-not-is_turning-clause-failed : goal.returns-then-not-is_turning-clause-failed
returns-then-not-is_turning-clause-failed g c = λ short before outputs k past filing. c.end_file.ensures.failed short

pub returns-clause-failed : goal.returns-clause-failed
returns-clause-failed g c = λ short before outputs k past filing.
    absurd (never past c.args.client.now c.loop-i.client k c.loop-i._i before outputs _ (given_by c.loop-i.invariant.gave.0) filing.scanning (omega (arith, c.loop-i-test.false)) c.no_file_is_endless.ensures (c.loop-i.invariant.gave.2 before outputs k past filing))
