-- The options that are shown, and the replies to GET.
use Rattle.std.proofs.Common.{arith, ◌≡◌, ◌∙◌, ◌≤◌, ◌<◌, ◌+◌, ℕ, Option, Some, None, Bool, true, false, List, [], ◌∷◌, ◌++◌, refl, sym, ap, subst, length, lt-ltb}
use Rattle.std.specs.Prelude.{if◌then◌else◌, position, slice_get, nat_lt}
use Rattle.sane_fixed.specs.declared.kind.Kind.{Kind}
use Rattle.sane_fixed.specs.declared.status.Status.{Status}
use Rattle.sane_fixed.specs.declared.status.Status.TheVariants as statuses
use Rattle.option_desc.specs.declared.descriptor.Descriptor.{Descriptor}
use Rattle.option_desc.specs.declared.value.Value.{Value}
use Rattle.wire_message.specs.declared.message.Reply.{Reply}
use Rattle.wire_message.specs.declared.message.Reply.TheVariants as replies
use Rattle.wire_message.specs.declared.message.WireValue.{WireValue}
use Rattle.scan_job.specs.declared.job.Task.{Task}
use Rattle.scan_job.specs.declared.job.Task.TheVariants as tasks
use Rattle.client_replies.specs.declared.progress.Progress.TheVariants as stages
use Rattle.client_replies.specs.declared.progress.Notes.{Notes}
use Rattle.client_replies.specs.GivenValues.{wire_value_in}
use Rattle.client_replies.specs.ReplyTurns.{turn, wants_value, element_number, gets_at, gets, next_shown, of_kind, after_get_value, got_good, got_without_resource, was_got}
use Rattle.scan_job.specs.KnownValues.{with_known_value}
use Rattle.client_replies.specs.ProtocolStates.{shows}
use Rattle.system_model.specs.Client as model
use Rattle.system_model.specs.ClientReplies.{hear_at}
use Rattle.client_refines.specs.DecodedReplies.{reply_if_good, reply_without_resource, got_or_acked as got_sense, decoded_reply_at}
use Rattle.client_refines.specs.ClientRefinement.{values_wanted_from, AreFilled, KnowsAs}
use Rattle.client_refines.proofs.KnownOptions.{head, first, next_wanted, set_wanted}
use Rattle.client_refines.proofs.Sides.{Side, FilesAs, Goes, Hears, awry_ends, refused}

-- ---- options shown

pub few_is : (n : ℕ) → nat_lt n 1024 ≡ true → element_number (Some n) ≡ Some n
few_is n e = ap (λ (b : Bool). if b then Some n else None) e

shows_by : (x : Side) (notes : Notes) (m : model.ClientView) (ns : List ℕ) → values_wanted_from 0 notes.known ≡ ns → position wants_value notes.known ≡ head ns → AreFilled notes.known → FilesAs x m → KnowsAs tasks.Show x.pages notes m
    → Goes x tasks.Show (turn notes (next_shown notes.known)) (record m { stage = model.next_value ns })
shows_by x notes m [] e p a f k =
    subst (λ (r : Option ℕ). Goes x tasks.Show (turn notes (gets notes.known (element_number r))) (record m { stage = model.Done })) (sym p)
    (f, record { stage = refl; settings = k.answers; devices = k.none; options = (k.descriptors, k.told, k.only) })
shows_by x notes m (n ∷ left) e p a f k =
    let i = next_wanted 0 notes.known n left e in
    let same : n ≡ 0 + i.place = i.number in
    let here : n ≡ i.place = omega arith in
    let below : i.place < length notes.known = i.below in
    let most : length notes.known ≤ 1024 = k.few in
    let small : n < 1024 = omega arith in
    let at_n : slice_get notes.known n ≡ Some i.option = ap (λ (j : ℕ). slice_get notes.known j) here ∙ i.stands in
    subst (λ (r : Option ℕ). Goes x tasks.Show (turn notes (gets notes.known r)) (record m { stage = model.Running (model.Getting n left) })) (sym (ap element_number p ∙ few_is n (lt-ltb n 1024 small)))
    (subst (λ (o : Option (Descriptor × Option Value)). Goes x tasks.Show (turn notes (gets_at o n)) (record m { stage = model.Running (model.Getting n left) })) (sym at_n)
    (f, (k, ((left, (refl, e)), a))))

pub shows_next : (x : Side) (notes : Notes) (m : model.ClientView) → AreFilled notes.known → FilesAs x m → KnowsAs tasks.Show x.pages notes m
    → Goes x tasks.Show (turn notes (next_shown notes.known)) (record m { stage = model.next_value (values_wanted_from 0 notes.known) })
shows_next x notes m a f k = shows_by x notes m (values_wanted_from 0 notes.known) refl (first notes.known) a f k

-- ---- GET

gets_value : (x : Side) (notes : Notes) (m : model.ClientView) (n : ℕ) (left : List ℕ) (v : Option Value) → values_wanted_from 0 notes.known ≡ n ∷ left → AreFilled notes.known → FilesAs x m → KnowsAs tasks.Show x.pages notes m
    → Goes x tasks.Show (after_get_value notes n v) (hear_at (model.Getting n left) x.job m (got_sense v))
gets_value x notes m n left None e a f k = awry_ends x tasks.Show notes m f
gets_value x notes m n left (Some value) e a f k =
    let s = set_wanted 0 notes.known n n left value a (omega arith) e in
    let most : length notes.known ≤ 1024 = k.few in
    let long : length (with_known_value n value notes.known) ≡ length notes.known = s.long in
    subst (λ (ns : List ℕ). Goes x tasks.Show (after_get_value notes n (Some value)) (record m { stage = model.next_value ns; values = m.values ++ value ∷ [] })) s.wanted
    (shows_next x (record notes { known = with_known_value n value notes.known }) (record m { values = m.values ++ value ∷ [] }) s.filled f
    (record {
      answers = k.answers;
      none = k.none;
      descriptors = k.descriptors ∙ sym s.same;
      told = ap (λ (vs : List Value). vs ++ value ∷ []) k.told ∙ sym s.values;
      only = s.only k.only;
      few = omega arith;
      number = k.number;
      alone = k.alone;
    }))

gets_told : (x : Side) (notes : Notes) (m : model.ClientView) (n : ℕ) (left : List ℕ) (kind : Kind) (status : Status) (given : Kind) (found : WireValue) → values_wanted_from 0 notes.known ≡ n ∷ left → AreFilled notes.known → FilesAs x m
    → KnowsAs tasks.Show x.pages notes m → Hears x tasks.Show (got_good notes n kind status given found) m (model.Getting n left) (reply_if_good status (got_sense (of_kind kind given (wire_value_in kind found))))
gets_told x notes m n left kind statuses.Good given found e a f k = gets_value x notes m n left (of_kind kind given (wire_value_in kind found)) e a f k
gets_told x notes m n left kind status given found e a f k = refused x tasks.Show notes m (model.Getting n left) status (λ s. refl) f

gets_plain : (x : Side) (notes : Notes) (m : model.ClientView) (n : ℕ) (left : List ℕ) (kind : Kind) (status : Status) (given : Kind) (found : WireValue) (resource : List ℕ) → values_wanted_from 0 notes.known ≡ n ∷ left → AreFilled notes.known
    → FilesAs x m → KnowsAs tasks.Show x.pages notes m → Hears x tasks.Show (got_without_resource notes n kind status given found resource) m (model.Getting n left) (reply_without_resource resource (reply_if_good status (got_sense (of_kind kind given (wire_value_in kind found)))))
gets_plain x notes m n left kind status given found [] e a f k = gets_told x notes m n left kind status given found e a f k
gets_plain x notes m n left kind status given found (c ∷ bytes) e a f k = awry_ends x tasks.Show notes m f

gets_show : (x : Side) (notes : Notes) (m : model.ClientView) (n : ℕ) (left : List ℕ) (kind : Kind) (size : ℕ) (r : Reply) → values_wanted_from 0 notes.known ≡ n ∷ left → AreFilled notes.known → FilesAs x m → KnowsAs tasks.Show x.pages notes m
    → Hears x tasks.Show (was_got notes n kind r) m (model.Getting n left) (decoded_reply_at x.place (stages.Getting n kind size) r)
gets_show x notes m n left kind size (replies.ControlOption status info given found resource) e a f k = gets_plain x notes m n left kind status given found resource e a f k
gets_show x notes m n left kind size r e a f k = awry_ends x tasks.Show notes m f

pub gets_reply : (x : Side) (task : Task) (notes : Notes) (m : model.ClientView) (n : ℕ) (left : List ℕ) (kind : Kind) (size : ℕ) (r : Reply) → shows task ≡ true → values_wanted_from 0 notes.known ≡ n ∷ left → AreFilled notes.known → FilesAs x m
    → KnowsAs task x.pages notes m → Hears x task (was_got notes n kind r) m (model.Getting n left) (decoded_reply_at x.place (stages.Getting n kind size) r)
gets_reply x tasks.Show notes m n left kind size r s e a f k = gets_show x notes m n left kind size r e a f k
gets_reply x task notes m n left kind size r s e a f k = absurd (let clash : false ≡ true = s in cc)
