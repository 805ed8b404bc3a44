-- A SESSION OF A WORLD IS ANSWERED BY THE RULES FOR ONE DEVICE.
use Rattle.std.proofs.Common.{◌≡◌, ◌∙◌, ◌≢◌, ℕ, List, [], ◌∷◌, Bool, true, false, Option, Some, None, option_map, refl, sym, subst, ap, cond, eqb, eqb-true}
use Rattle.std.proofs.lemmas.Bool.{eqb-false}
use Rattle.page_picture.specs.Shows.{Frame}
use Rattle.option_desc.specs.declared.value.Value.{Value}
use Rattle.system_model.specs.AbstractMessages.{same_text, Challenge, AbstractRequest, Init, GetDevices, Open, Authorize, Get, Set, Start, Close, Exit, AbstractReply, Greeted, Listed}
use Rattle.device_api.specs.Kinds.{Page}
use Rattle.system_model.specs.Devices.{Make, AbstractAcceptedSet, has_readable_value, picture_frames, accept_value}
use Rattle.system_model.specs.AbstractDevices.{AbstractDevice, ScanPhase, Resting, Between, Reading, is_resting, put_back, device_let_go, is_held_by}
use Rattle.system_model.specs.Daemon.{TransferState, Quiet, Waiting, Streaming, Ending, Environment, FailureCounts, AnswerEffect, session_over_effect, hand_out_device, take_listed, open_listed, allow, get_reply, put_reply, set_reply, begin_page, begin_pass, start_page, start_at, start_or_fail, start_effect, serve, answer_if, answer_awaited}
use Rattle.system_model.specs.SystemStates.{with_entry}
use Rattle.system_model.specs.AbstractSessions.{AbstractSession, reply_alone, all_over, words_after, open_effect, words_left, framed_by, word_call, closes, plain_call, awaited_call, only_word, one_word_session, call_to, FollowsOneWord, OneWordIsEnough}
use Rattle.system_model.proofs.Opened.{held_other}

-- one device among all
put_self : (table : ℕ → AbstractDevice) (d e : ℕ) (b : Bool) → (b ≡ true → e ≡ d) → table e ≡ cond b (table d) (table e)
put_self table d e true h = ap table (h refl)
put_self table d e false h = refl

self_put : (table : ℕ → AbstractDevice) (d e : ℕ) → table e ≡ with_entry table d (table d) e
self_put table d e = put_self table d e (eqb e d) (eqb-true e d)

go_put : (i d : ℕ) (table : ℕ → AbstractDevice) (e : ℕ) (b : Bool) → (b ≡ true → e ≡ d) → (b ≡ false → e ≢ d) → ((e : ℕ) → e ≢ d → (table e).holder ≢ Some i) → device_let_go i (table e) ≡ cond b (device_let_go i (table d)) (table e)
go_put i d table e true here there n = ap (λ (x : ℕ). device_let_go i (table x)) (here refl)
go_put i d table e false here there n = ap (λ (x : Bool). cond x (put_back (table e)) (table e)) (held_other i (table e).holder (n e (there refl)))

-- WHAT STAYS
said : (i d : ℕ) (table : ℕ → AbstractDevice) (c : TransferState) (h : Bool) (reply : AbstractReply) (v : AnswerEffect) → is_held_by i (table d).holder ≡ h → v.told ≡ reply ∷ [] → v.device ≡ table d → v.transfer ≡ c → v.awaited ≡ None → v.goes_on ≡ true →
    FollowsOneWord i d table (reply_alone reply table (one_word_session h d c None)) v
said i d table c h reply v e t dv cv av g =
    let n : is_held_by i v.device.holder ≡ h = ap (λ (x : AbstractDevice). is_held_by i x.holder) dv ∙ e in
    record {
      told = sym t;
      goes_on = sym g;
      table_is = λ w. self_put table d w ∙ ap (λ (x : AbstractDevice). with_entry table d x w) (sym dv);
      session = λ z. record { words = λ w. ap (λ (b : Bool). only_word b d w) (sym n); transfer = sym cv; framed = refl; awaited = ap (λ (a : Option Challenge). option_map (λ y. (y, d)) a) (sym av) };
    }

ended : (i d : ℕ) (table : ℕ → AbstractDevice) (s : AbstractSession) (dev : AbstractDevice) → dev ≡ device_let_go i (table d) → ((e : ℕ) → e ≢ d → (table e).holder ≢ Some i) → FollowsOneWord i d table (all_over i table s) (session_over_effect dev)
ended i d table s dev e n =
    record {
      told = refl;
      goes_on = refl;
      table_is = λ w. go_put i d table w (eqb w d) (eqb-true w d) (eqb-false w d) n ∙ ap (λ (x : AbstractDevice). with_entry table d x w) (sym e);
      session = λ z. cc;
    }

lets_go : (i : ℕ) (dev : AbstractDevice) (h : Bool) → is_held_by i dev.holder ≡ h → cond h (put_back dev) dev ≡ device_let_go i dev
lets_go i dev h e = ap (λ (b : Bool). cond b (put_back dev) dev) (sym e)

-- OPEN AND AUTHORIZE
kept_taken : (i : ℕ) (k : Make) (dev : AbstractDevice) (c : TransferState) (h : Option ℕ) → dev.holder ≡ h → is_held_by i dev.holder ≡ true → (hand_out_device i k dev c h).device ≡ dev
kept_taken i k dev c None e h = let x : is_held_by i None ≡ true = subst (λ (z : Option ℕ). is_held_by i z ≡ true) e h in cc
kept_taken i k dev c (Some j) e h = refl

kept_listed : (i : ℕ) (k : Make) (dev : AbstractDevice) (c : TransferState) (listed : Bool) → is_held_by i dev.holder ≡ true → (take_listed i k dev c listed).device ≡ dev
kept_listed i k dev c false h = refl
kept_listed i k dev c true h = kept_taken i k dev c dev.holder refl h

kept_opened : (i : ℕ) (k : Make) (dev : AbstractDevice) (c : TransferState) (challenge : Challenge) (listed guarded : Bool) → is_held_by i dev.holder ≡ true → (open_listed i k dev c challenge listed guarded).device ≡ dev
kept_opened i k dev c challenge false guarded h = refl
kept_opened i k dev c challenge true true h = refl
kept_opened i k dev c challenge true false h = kept_taken i k dev c dev.holder refl h

kept_allowed : (i : ℕ) (k : Make) (dev : AbstractDevice) (c : TransferState) (same allowed : Bool) → is_held_by i dev.holder ≡ true → (allow i k dev c same allowed).device ≡ dev
kept_allowed i k dev c true true h = kept_listed i k dev c dev.listed h
kept_allowed i k dev c true false h = refl
kept_allowed i k dev c false allowed h = refl

only_put : (d w : ℕ) (b : Bool) → cond b (Some d) (cond b (cond false (Some d) None) None) ≡ cond b (cond true (Some d) None) None
only_put d w true = refl
only_put d w false = refl

first_word : (n : Bool) (d w : ℕ) → words_after n (only_word false d) 0 d w ≡ only_word n d w
first_word true d w = only_put d w (eqb w 0)
first_word false d w = refl

handed : (i d : ℕ) (table : ℕ → AbstractDevice) (s : AbstractSession) (c : TransferState) (v : AnswerEffect) (h : Bool) (word : ℕ) → is_held_by i (table d).holder ≡ h → (h ≡ true → v.device ≡ table d) → (h ≡ false → word ≡ 0) →
    s.words ≡ only_word h d → s.framed ≡ 0 → FollowsOneWord i d table (open_effect i table s word d h v) v
handed i d table s c v true word e k z w f =
    let n : is_held_by i v.device.holder ≡ true = ap (λ (x : AbstractDevice). is_held_by i x.holder) (k refl) ∙ e in
    record {
      told = refl;
      goes_on = refl;
      table_is = λ x. refl;
      session = λ y. record { words = λ x. ap (λ (g : ℕ → Option ℕ). g x) w ∙ ap (λ (b : Bool). only_word b d x) (sym n); transfer = refl; framed = f; awaited = refl };
    }
handed i d table s c v false word e k z w f =
    record {
      told = refl;
      goes_on = refl;
      table_is = λ x. refl;
      session = λ y. record {
        words = λ x. ap (λ (g : ℕ → Option ℕ). words_after (is_held_by i v.device.holder) g word d x) w ∙ ap (λ (n : ℕ). words_after (is_held_by i v.device.holder) (only_word false d) n d x) (z refl) ∙ first_word (is_held_by i v.device.holder) d x;
        transfer = refl;
        framed = f;
        awaited = refl;
      };
    }

-- REQUESTS TO A DEVICE: it stays held, and no challenge is sent
abbrev Stays : AbstractDevice → AnswerEffect → Type 0
Stays dev v = (v.device.holder ≡ dev.holder) × (v.awaited ≡ None)

get_stays : (k : Make) (dev : AbstractDevice) (c : TransferState) (n : ℕ) (b : Bool) → Stays dev (get_reply k dev c n b)
get_stays k dev c n true = (refl, refl)
get_stays k dev c n false = (refl, refl)

put_stays : (dev : AbstractDevice) (c : TransferState) (o : Option AbstractAcceptedSet) → Stays dev (put_reply dev c o)
put_stays dev c None = (refl, refl)
put_stays dev c (Some o) = (refl, refl)

set_stays : (k : Make) (dev : AbstractDevice) (c : TransferState) (n : ℕ) (v : Value) (b : Bool) → Stays dev (set_reply k dev c n v b)
set_stays k dev c n v true = put_stays dev c (accept_value k dev.options n v)
set_stays k dev c n v false = (refl, refl)

page_stays : (k : Make) (dev : AbstractDevice) (c : TransferState) (page : Page) (fs : List Frame) → Stays dev (begin_page k dev c page fs)
page_stays k dev c page [] = (refl, refl)
page_stays k dev c page (f ∷ more) = (refl, refl)

tray_stays : (k : Make) (dev : AbstractDevice) (c : TransferState) (again : Bool) (tray : List Page) → Stays dev (start_page k dev c again tray)
tray_stays k dev c again [] = (refl, refl)
tray_stays k dev c again (page ∷ tray) = page_stays k dev c page (picture_frames k dev.options page)

pass_stays : (k : Make) (dev : AbstractDevice) (c : TransferState) (fs : List Frame) → Stays dev (begin_pass k dev c fs)
pass_stays k dev c [] = (refl, refl)
pass_stays k dev c (f ∷ more) = (refl, refl)

at_stays : (k : Make) (dev : AbstractDevice) (c : TransferState) (again : Bool) (ph : ScanPhase) → Stays dev (start_at k dev c again ph)
at_stays k dev c again Resting = tray_stays k dev c again dev.tray
at_stays k dev c again (Between last more) = pass_stays k dev c more
at_stays k dev c again (Reading f rest more) = (refl, refl)

fail_stays : (k : Make) (dev : AbstractDevice) (c : TransferState) (again : Bool) (fault : Option FailureCounts) → Stays dev (start_or_fail k dev c again fault)
fail_stays k dev c again None = at_stays k dev c again dev.phase
fail_stays k dev c again (Some f) = (refl, refl)

start_stays : (k : Make) (dev : AbstractDevice) (x : Environment) (c : TransferState) → Stays dev (start_effect k dev x c)
start_stays k dev x Quiet = fail_stays k dev Quiet x.again x.fault
start_stays k dev x Waiting = (refl, refl)
start_stays k dev x Streaming = (refl, refl)
start_stays k dev x Ending = (refl, refl)

framed_zero : (old c : TransferState) → framed_by old c 0 0 ≡ 0
framed_zero Quiet c = refl
framed_zero Waiting c = refl
framed_zero Streaming c = refl
framed_zero Ending c = refl

served : (i d : ℕ) (make : ℕ → Make) (table : ℕ → AbstractDevice) (c : TransferState) (x : Environment) (q : AbstractRequest) → closes q ≡ false → is_held_by i (table d).holder ≡ true → Stays (table d) (serve i (make d) (table d) c x q) →
    FollowsOneWord i d table (word_call i make table (one_word_session true d c None) x q 0 (Some d)) (serve i (make d) (table d) c x q)
served i d make table c x q o e s =
    let n : is_held_by i (serve i (make d) (table d) c x q).device.holder ≡ true = ap (λ (h : Option ℕ). is_held_by i h) s.0 ∙ e in
    record {
      told = refl;
      goes_on = refl;
      table_is = λ w. refl;
      session = λ z. record {
        words = λ w. ap (λ (b : Bool). words_left b (only_word true d) 0 w) o ∙ ap (λ (b : Bool). only_word b d w) (sym n);
        transfer = refl;
        framed = framed_zero c (serve i (make d) (table d) c x q).transfer;
        awaited = ap (λ (a : Option Challenge). option_map (λ y. (y, d)) a) (sym s.1);
      };
    }

no_word : (d w : ℕ) (b : Bool) → cond b None (cond b (cond true (Some d) None) None) ≡ cond b (cond false (Some d) None) None
no_word d w true = refl
no_word d w false = refl

closed : (i d : ℕ) (make : ℕ → Make) (table : ℕ → AbstractDevice) (c : TransferState) (x : Environment) →
    FollowsOneWord i d table (word_call i make table (one_word_session true d c None) x Close 0 (Some d)) (serve i (make d) (table d) c x Close)
closed i d make table c x =
    record {
      told = refl;
      goes_on = refl;
      table_is = λ w. refl;
      session = λ z. record { words = λ w. no_word d w (eqb w 0); transfer = refl; framed = framed_zero c (serve i (make d) (table d) c x Close).transfer; awaited = refl };
    }

-- EACH REQUEST
plain : (i d : ℕ) (make : ℕ → Make) (table : ℕ → AbstractDevice) (c : TransferState) (x : ℕ → Environment) (q : AbstractRequest) (h : Bool) → is_held_by i (table d).holder ≡ h → ((e : ℕ) → e ≢ d → (table e).holder ≢ Some i) →
    FollowsOneWord i d table (plain_call i make table (one_word_session h d c None) x (call_to d q) q) (answer_if h i (make d) (table d) c (x d) q)
plain i d make table c x Init true e n = said i d table c true Greeted _ e refl refl refl refl refl
plain i d make table c x GetDevices true e n = said i d table c true (Listed (x d).listed) _ e refl refl refl refl refl
plain i d make table c x Open true e n =
    subst (λ (b : Bool). FollowsOneWord i d table (open_effect i table (one_word_session true d c None) 1 d b (open_listed i (make d) (table d) c (x d).challenge (table d).listed (x d).guarded)) (open_listed i (make d) (table d) c (x d).challenge (table d).listed (x d).guarded)) (sym e)
    (handed i d table (one_word_session true d c None) c _ true 1 e (λ z. kept_opened i (make d) (table d) c (x d).challenge (table d).listed (x d).guarded e) (λ z. cc) refl refl)
plain i d make table c x (Authorize y) true e n = ended i d table _ _ (lets_go i (table d) true e) n
plain i d make table c x (Get m) true e n = served i d make table c (x d) (Get m) refl e (get_stays (make d) (table d) c m (has_readable_value (make d) (table d).options m))
plain i d make table c x (Set m v) true e n = served i d make table c (x d) (Set m v) refl e (set_stays (make d) (table d) c m v (is_resting (table d).phase))
plain i d make table c x Start true e n = served i d make table c (x d) Start refl e (start_stays (make d) (table d) (x d) c)
plain i d make table c x Close true e n = closed i d make table c (x d)
plain i d make table c x Exit true e n = ended i d table _ _ (lets_go i (table d) true e) n
plain i d make table c x q true e n = served i d make table c (x d) q refl e (refl, refl)
plain i d make table c x Open false e n =
    subst (λ (b : Bool). FollowsOneWord i d table (open_effect i table (one_word_session false d c None) 0 d b (open_listed i (make d) (table d) c (x d).challenge (table d).listed (x d).guarded)) (open_listed i (make d) (table d) c (x d).challenge (table d).listed (x d).guarded)) (sym e)
    (handed i d table (one_word_session false d c None) c _ false 0 e (λ z. cc) (λ z. refl) refl refl)
plain i d make table c x (Authorize y) false e n = ended i d table _ _ (lets_go i (table d) false e) n
plain i d make table c x Exit false e n = ended i d table _ _ (lets_go i (table d) false e) n
plain i d make table c x q false e n = said i d table c false _ _ e refl refl refl refl refl

allowed : (i d : ℕ) (make : ℕ → Make) (table : ℕ → AbstractDevice) (c : TransferState) (sent y : Challenge) (x : ℕ → Environment) (h : Bool) → is_held_by i (table d).holder ≡ h →
    FollowsOneWord i d table (awaited_call i make table (one_word_session h d c (Some sent)) x sent d (Authorize y)) (answer_awaited i (make d) (table d) c (x d) sent (Authorize y))
allowed i d make table c sent y x true e =
    subst (λ (b : Bool). FollowsOneWord i d table (open_effect i table (one_word_session true d c (Some sent)) 1 d b (allow i (make d) (table d) c (same_text y sent) ((x d).allows sent))) (allow i (make d) (table d) c (same_text y sent) ((x d).allows sent))) (sym e)
    (handed i d table (one_word_session true d c (Some sent)) c _ true 1 e (λ z. kept_allowed i (make d) (table d) c (same_text y sent) ((x d).allows sent) e) (λ z. cc) refl refl)
allowed i d make table c sent y x false e =
    subst (λ (b : Bool). FollowsOneWord i d table (open_effect i table (one_word_session false d c (Some sent)) 0 d b (allow i (make d) (table d) c (same_text y sent) ((x d).allows sent))) (allow i (make d) (table d) c (same_text y sent) ((x d).allows sent))) (sym e)
    (handed i d table (one_word_session false d c (Some sent)) c _ false 0 e (λ z. cc) (λ z. refl) refl refl)

awaits : (i d : ℕ) (make : ℕ → Make) (table : ℕ → AbstractDevice) (c : TransferState) (sent : Challenge) (x : ℕ → Environment) (q : AbstractRequest) (h : Bool) → is_held_by i (table d).holder ≡ h → ((e : ℕ) → e ≢ d → (table e).holder ≢ Some i) →
    FollowsOneWord i d table (awaited_call i make table (one_word_session h d c (Some sent)) x sent d q) (answer_awaited i (make d) (table d) c (x d) sent q)
awaits i d make table c sent x (Authorize y) h e n = allowed i d make table c sent y x h e
awaits i d make table c sent x q h e n = ended i d table _ _ refl n

pub one_word_enough : OneWordIsEnough
one_word_enough i d make table c None x q n = plain i d make table c x q (is_held_by i (table d).holder) refl n
one_word_enough i d make table c (Some sent) x q n = awaits i d make table c sent x q (is_held_by i (table d).holder) refl n
