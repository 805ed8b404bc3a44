-- What came in a piece of the control connection.
use Rattle.std.proofs.Common.{◌≡◌, ◌≢◌, ◌∙◌, ℕ, ◌<◌, Option, Some, None, true, false, List, [], ◌∷◌, ◌++◌, length, refl, sym, ap, subst, append_assoc, arith, length-append, inl, inr}
use Rattle.std.proofs.lemmas.List.{append-nil}
use Rattle.wire_format.specs.Format.{Parts}
use Rattle.wire_format.specs.WordKinds.{WordKind, IsWordOf}
use Rattle.wire_format.specs.Lawful.{SpellsFront}
use Rattle.wire_format.specs.Limit.{limited_format, NeedsMore, IsNoStart}
use Rattle.wire_format.specs.Writer.{behind}
use Rattle.sane_fixed.specs.declared.status.Status.TheVariants as statuses
use Rattle.frame_join.specs.FrameHistory.{JoinHistory}
use Rattle.wire_message.specs.declared.message_fault.WireFault.{WireFault}
use Rattle.wire_message.specs.declared.message_fault.WireFault.TheVariants as wire
use Rattle.wire_message.specs.declared.message.Procedure.{Procedure}
use Rattle.wire_message.specs.declared.message.Procedure.TheVariants as procedures
use Rattle.wire_message.specs.declared.message.Reply.{Reply}
use Rattle.wire_codec.specs.Decoders.{DecoderState}
use Rattle.wire_message.specs.Message.{message_limit, reply, devices, descriptors}
use Rattle.scan_job.specs.declared.outcome.Outcome.TheVariants.{Ended}
use Rattle.scan_job.specs.declared.outcome.Why.TheVariants as whys
use Rattle.client_replies.specs.declared.progress.JobTarget.{JobTarget}
use Rattle.client_replies.specs.declared.progress.Progress.TheVariants as stages
use Rattle.net_client.specs.ClientStates.{ClientState, protocol_of, ClientRepresents, sent_by, after_client_end}
use Rattle.client_replies.specs.ProtocolStates.{ProtocolState, is_running, answer_to, after_reply}
use Rattle.net_client.specs.Inside.{HearsReply, outcome_by, StopsReading}
use Rattle.net_client.specs.ReplyPieces.{awaited_procedure, IsReply, HearsReplies, HasHeard, EndsOutOfMemoryHere, Heeds, Whole, Garbled, OutOfMemoryBehind}
use Rattle.client_replies.proofs.Fitting.{may_end}
use Rattle.net_client.proofs.Hearings.{fits_at, hears_none, hears_more}

-- ---- a reply has bytes

word_some : {A : Type 0} (K : WordKind A) (text : List ℕ) (x : A) → IsWordOf K text x → 0 < length text
word_some K text x w = subst (λ (l : List ℕ). 0 < length l) (sym w.text_is) (omega arith)

in_front : {A B : Type 0} (F : List ℕ → A → Type 0) (G : A → List ℕ → B → Type 0) (text : List ℕ) (b : B) → ((t : List ℕ) (a : A) → F t a → 0 < length t) → Parts F G text b → 0 < length text
in_front F G text b some p = omega (arith, ap length p.whole, length-append p.front p.back, some p.front p.first p.in_front)

descriptors_some : (text : List ℕ) (r : _) → descriptors.spells text r → 0 < length text
unfolding descriptors
descriptors_some text r s = in_front _ _ text r (λ t a w. word_some _ t a w) s

reply_some : (p : Procedure) (text : List ℕ) (r : Reply) → (reply p).spells text r → 0 < length text
unfolding reply
reply_some procedures.Close text r s = in_front _ _ text r (λ t a w. word_some _ t a w) s
reply_some procedures.GetOptionDescriptors text r s = in_front _ _ text r (λ t a w. descriptors_some t a w) s
reply_some procedures.Cancel text r s = in_front _ _ text r (λ t a w. word_some _ t a w) s
reply_some procedures.Authorize text r s = in_front _ _ text r (λ t a w. word_some _ t a w) s
reply_some procedures.Exit text r s = absurd s
reply_some q text r s = in_front _ _ text r (λ t a w. in_front _ _ t a (λ u b v. word_some _ u b v) w) s

limited_some : (p : Procedure) (text : List ℕ) (r : Reply) → (limited_format message_limit (reply p)).spells text r → 0 < length text
unfolding limited_format
limited_some p text r s = reply_some p text r s.1

pub takes_some : (p : Procedure) (old new : List ℕ) (r : Reply) → SpellsFront (limited_format message_limit (reply p)) old new r → length new < length old
takes_some p old new r t = omega (arith, ap length t.whole, length-append t.text new, limited_some p t.text r t.spelled)

-- ---- the replies of a piece

pub fed_first : (old : ClientState) (past : JoinHistory) (piece : List ℕ) (input : DecoderState) → ClientRepresents past old → input.rest ≡ old.input.rest ++ piece → HasHeard old past piece (record old { input = input })
fed_first old past piece input serves e = record {
  told = [];
  text = [];
  sent = [];
  history_then = past;
  whole = sym e;
  hears = hears_none old.target (protocol_of old past);
  serves = record { stands = serves.stands; fits = serves.fits };
  out = sym (append-nil old.out);
  target = refl;
}

behind_some : (old new : List ℕ) (text : Option (List ℕ)) → behind old text ≡ Some new → (said : List ℕ) × (text ≡ Some said) × (new ≡ old ++ said)
behind_some old new None e = absurd (cc)
behind_some old new (Some said) e = (said, refl, sym (cc (e)))

pub heard_more : (old mid got new : ClientState) (past : JoinHistory) (piece : List ℕ) (p : Procedure) (r : Reply) → HasHeard old past piece mid → awaited_procedure mid.progress ≡ Some p
    → got ≡ record mid { input = got.input } → SpellsFront (limited_format message_limit (reply p)) mid.input.rest got.input.rest r
    → ((q : JoinHistory) → ClientRepresents q got → HearsReply got q r new) → HasHeard old past piece new
heard_more old mid got new past piece p r h waits got_is takes hears =
    let then_ : JoinHistory = h.history_then in
    let serves : ClientRepresents then_ got = subst (λ (v : ClientState). ClientRepresents then_ v) (sym got_is) (record { stands = h.serves.stands; fits = h.serves.fits }) in
    let one : HearsReply (record mid { input = got.input }) then_ r new = subst (λ (v : ClientState). HearsReply v then_ r new) got_is (hears then_ serves) in
    let said = behind_some mid.out new.out (sent_by mid.target (protocol_of mid then_) r) one.said in
    let is : IsReply mid.progress takes.text r = record { procedure = p; awaited_is = waits; spelled = takes.spelled } in
    let more = hears_more old.target (protocol_of old past) (protocol_of mid then_) h.told h.text h.sent takes.text said.0 r h.hears is (subst (λ (e : JobTarget). sent_by e (protocol_of mid then_) r ≡ Some said.0) h.target said.1) in
    let protocol : protocol_of new (answer_to mid.target (protocol_of mid then_) r).history ≡ after_reply old.target (protocol_of mid then_) r = one.protocol ∙ ap (λ (e : JobTarget). after_reply e (protocol_of mid then_) r) h.target in
    let input : new.input ≡ got.input = ap (λ (v : ClientState). v.input) one.rest in
    record {
      told = h.told ++ r ∷ [];
      text = h.text ++ takes.text;
      sent = h.sent ++ said.0;
      history_then = (answer_to mid.target (protocol_of mid then_) r).history;
      whole = h.whole ∙ ap (λ (l : List ℕ). h.text ++ l) takes.whole ∙ sym (append_assoc h.text takes.text got.input.rest) ∙ ap (λ (w : DecoderState). (h.text ++ takes.text) ++ w.rest) (sym input);
      hears = subst (λ (t : ProtocolState). HearsReplies old.target (protocol_of old past) (h.told ++ r ∷ []) (h.text ++ takes.text) (h.sent ++ said.0) t) (sym protocol) more;
      serves = one.serves;
      out = said.2 ∙ ap (λ (l : List ℕ). l ++ said.0) h.out ∙ append_assoc old.out h.sent said.0;
      target = ap (λ (v : ClientState). v.target) one.rest ∙ h.target;
    }

-- ---- how a piece ends

pub stop_starved : (old : ClientState) (past : JoinHistory) (input : DecoderState) → is_running old.outcome ≡ true → ClientRepresents past old → EndsOutOfMemoryHere old past (record old { outcome = Ended statuses.NoMem whys.Memory; progress = stages.Over; input = input })
stop_starved old past input running serves =
    let at = fits_at past old running serves in
    record {
      starved = record {
        outcome = refl;
        progress = refl;
        target = refl;
        out = refl;
        history_then = past;
        given = refl;
        serves = record { stands = serves.stands; fits = may_end old.target.task old.progress past at.0 at.1 };
      };
      ended = refl;
    }

same_procedure : (p q : Procedure) (o : Option Procedure) (rest : List ℕ) → o ≡ Some p → o ≡ Some q → NeedsMore message_limit (reply p) rest → NeedsMore message_limit (reply q) rest
same_procedure p q o rest a b w = subst (λ (x : Procedure). NeedsMore message_limit (reply x) rest) (cc) w

wants_on : (old mid : ClientState) (past : JoinHistory) (piece : List ℕ) (p : Procedure) → HasHeard old past piece mid → awaited_procedure mid.progress ≡ Some p → NeedsMore message_limit (reply p) mid.input.rest → Heeds old past piece mid
wants_on old mid past piece p h waits wants = Whole h (λ running q e. same_procedure p q (awaited_procedure mid.progress) mid.input.rest waits e wants)

garbles : (old mid new : ClientState) (past : JoinHistory) (piece : List ℕ) (p : Procedure) → HasHeard old past piece mid → is_running mid.outcome ≡ true → awaited_procedure mid.progress ≡ Some p
    → new ≡ record (after_client_end statuses.IoError whys.Malformed mid) { input = new.input } → IsNoStart message_limit (reply p) mid.input.rest → Heeds old past piece new
garbles old mid new past piece p h running waits ends none = Garbled mid h running (record { procedure = p; awaited_is = waits; no_start = none; ends = ends })

fails_by : (fault : WireFault) (old mid new : ClientState) (past : JoinHistory) (piece : List ℕ) (p : Procedure) → HasHeard old past piece mid → is_running mid.outcome ≡ true → awaited_procedure mid.progress ≡ Some p
    → new ≡ record mid { outcome = outcome_by fault; progress = stages.Over; input = new.input } → (fault ≢ wire.NoMem → IsNoStart message_limit (reply p) mid.input.rest) → Heeds old past piece new
fails_by wire.NoMem old mid new past piece p h running waits ends none =
    OutOfMemoryBehind mid h running (subst (λ (v : ClientState). EndsOutOfMemoryHere mid h.history_then v) (sym ends) (stop_starved mid h.history_then new.input running h.serves))
fails_by wire.BadCode old mid new past piece p h running waits ends none = garbles old mid new past piece p h running waits ends (none (λ e. cc))
fails_by wire.BadValue old mid new past piece p h running waits ends none = garbles old mid new past piece p h running waits ends (none (λ e. cc))
fails_by wire.TooLong old mid new past piece p h running waits ends none = garbles old mid new past piece p h running waits ends (none (λ e. cc))

pub stops : (old mid new : ClientState) (past : JoinHistory) (piece : List ℕ) (p : Procedure) → HasHeard old past piece mid → is_running mid.outcome ≡ true → awaited_procedure mid.progress ≡ Some p → StopsReading p mid new → Heeds old past piece new
stops old mid new past piece p h running waits (inl s) = subst (λ (v : ClientState). Heeds old past piece v) (sym s.0) (wants_on old mid past piece p h waits s.1)
stops old mid new past piece p h running waits (inr f) = fails_by f.fault old mid new past piece p h running waits f.ends f.no_start

pub starves : (old mid got new : ClientState) (past : JoinHistory) (piece : List ℕ) → HasHeard old past piece mid → is_running mid.outcome ≡ true → got ≡ record mid { input = got.input } → ((q : JoinHistory) → ClientRepresents q got → EndsOutOfMemoryHere got q new) → Heeds old past piece new
starves old mid got new past piece h running got_is starved_by =
    let then_ : JoinHistory = h.history_then in
    let serves : ClientRepresents then_ got = subst (λ (v : ClientState). ClientRepresents then_ v) (sym got_is) (record { stands = h.serves.stands; fits = h.serves.fits }) in
    let choked : EndsOutOfMemoryHere (record mid { input = got.input }) then_ new = subst (λ (v : ClientState). EndsOutOfMemoryHere v then_ new) got_is (starved_by then_ serves) in
    let s = choked.starved in
    OutOfMemoryBehind mid h running (record {
      starved = record { outcome = s.outcome; progress = s.progress; target = s.target; out = s.out; history_then = s.history_then; given = s.given; serves = s.serves };
      ended = choked.ended;
    })

pub is_over : (old mid : ClientState) (past : JoinHistory) (piece : List ℕ) → HasHeard old past piece mid → is_running mid.outcome ≡ false → Heeds old past piece mid
is_over old mid past piece h over = Whole h (λ running q e. absurd (let clash : true ≡ false = sym running ∙ over in cc))
