-- The daemon's rules in full, for a session with four device words: what the model for one device leaves out.
use Rattle.std.specs.Prelude.{◌≤◌, ℕ, ◌≡◌, ◌≢◌, ◌⊎◌, List, [], ◌∷◌, Bool, true, false, Option, Some, None, option_map}
use Rattle.std.specs.Prelude.{if◌then◌else◌, ◌==◌}
use Rattle.sane_fixed.specs.declared.status.Status.TheVariants.{Unsupported, Inval}
use Rattle.system_model.specs.AbstractMessages.{same_text, Challenge, AbstractRequest, Init}
use Rattle.system_model.specs.AbstractMessages.{GetDevices, Open, Authorize, Describe, Cancel, Close, Exit}
use Rattle.system_model.specs.AbstractMessages.{AbstractReply, Greeted, Listed, Described, Acked, Refused}
use Rattle.system_model.specs.Devices.{Make}
use Rattle.system_model.specs.AbstractDevices.{AbstractDevice, put_down, put_back, device_let_go, is_held_by}
use Rattle.system_model.specs.Daemon.{TransferState, Quiet, Environment, AnswerEffect, reply_effect, open_listed, allow}
use Rattle.system_model.specs.Daemon.{serve, answer}
use Rattle.system_model.specs.SystemStates.{with_entry}

-- a request as it comes: the device word that it has, and the place of the device that it names
pub record AddressedRequest : Type 0 where
  pub request : AbstractRequest
  pub word : ℕ
  pub place : ℕ

pub record AbstractSession : Type 0 where
  -- the place of the device behind each word (those from 4 on are never used)
  pub words : ℕ → Option ℕ
  -- its frame, and the word that this is a frame of
  pub transfer : TransferState
  pub framed : ℕ
  -- the challenge that was sent, and the place that it was sent for
  pub awaited : Option (Challenge × ℕ)

-- what an answer does to all devices
pub record FullEffect : Type 0 where
  pub told : List AbstractReply
  pub table : ℕ → AbstractDevice
  pub session : AbstractSession
  pub goes_on : Bool

abbrev pub or_word : Option ℕ → ℕ → Option ℕ → Option ℕ
or_word None n later = Some n
or_word (Some d) n later = later

-- the least word that is free
abbrev pub least_free_word : (ℕ → Option ℕ) → Option ℕ
least_free_word words = or_word (words 0) 0 (or_word (words 1) 1 (or_word (words 2) 2 (or_word (words 3) 3 None)))

-- what is said and changes no device
abbrev pub reply_alone : AbstractReply → (ℕ → AbstractDevice) → AbstractSession → FullEffect
reply_alone reply table s = record { told = reply ∷ []; table = table; session = s; goes_on = true }

-- the session is over, and every device that it holds is given back
abbrev pub all_over : ℕ → (ℕ → AbstractDevice) → AbstractSession → FullEffect
all_over i table s = record { told = []; table = λ e. device_let_go i (table e); session = s; goes_on = false }

-- the words once a device was handed out, or not
abbrev pub words_after : Bool → (ℕ → Option ℕ) → ℕ → ℕ → ℕ → Option ℕ
words_after true words w d = with_entry words w (Some d)
words_after false words w d = words

-- what was answered for the device at place d, which gets word w where it is handed out
abbrev pub open_effect : ℕ → (ℕ → AbstractDevice) → AbstractSession → ℕ → ℕ → Bool → AnswerEffect → FullEffect
open_effect i table s w d held v =
    record {
      told = v.told;
      table = with_entry table d v.device;
      goes_on = v.goes_on;
      session =
          record s {
            words = words_after (if held then false else is_held_by i v.device.holder) s.words w d;
            transfer =
                v.transfer;
            awaited = option_map (λ c. (c, d)) v.awaited;
          };
    }

-- OPEN: a word is free, the device is listed, it is guarded, it is taken
abbrev pub open_call : ℕ → (ℕ → Make) → (ℕ → AbstractDevice) → AbstractSession → Environment → ℕ → Option ℕ → FullEffect
open_call i make table s x d None = reply_alone (Refused Unsupported) table s
open_call i make table s x d (Some w) =
    open_effect i table s w d (is_held_by i (table d).holder)
    (open_listed i (make d) (table d) s.transfer x.challenge (table d).listed x.guarded)

abbrev pub allow_call : ℕ → (ℕ → Make) → (ℕ → AbstractDevice) → AbstractSession → Environment → Challenge → ℕ
    → Challenge → Option ℕ → FullEffect
allow_call i make table s x sent d c None = reply_alone (Refused Unsupported) table (record s { awaited = None })
allow_call i make table s x sent d c (Some w) =
    open_effect i table s w d (is_held_by i (table d).holder)
    (allow i (make d) (table d) s.transfer (same_text c sent) (x.allows sent))

-- an unknown device word
abbrev pub unknown_word_reply : AbstractRequest → AbstractReply
unknown_word_reply Describe = Described []
unknown_word_reply Cancel = Acked
unknown_word_reply Close = Acked
unknown_word_reply q = Refused Inval

-- a request to a device whose frame is not the session's: CANCEL and CLOSE leave that frame alone
abbrev pub serve_away : ℕ → Make → AbstractDevice → TransferState → Environment → AbstractRequest → AnswerEffect
serve_away i k dev c x Cancel = reply_effect Acked (put_down dev) c
serve_away i k dev c x Close = reply_effect Acked (put_back dev) c
serve_away i k dev c x q = serve i k dev c x q

abbrev pub serve_word : Bool → ℕ → Make → AbstractDevice → TransferState → Environment → AbstractRequest → AnswerEffect
serve_word true i k dev c x q = serve i k dev c x q
serve_word false i k dev c x q = serve_away i k dev c x q

abbrev pub closes : AbstractRequest → Bool
closes Close = true
closes q = false

-- the words once this was answered to word w
abbrev pub words_left : Bool → (ℕ → Option ℕ) → ℕ → ℕ → Option ℕ
words_left true words w = with_entry words w None
words_left false words w = words

-- a frame that comes to be is of the word that it was started for
abbrev pub framed_by : TransferState → TransferState → ℕ → ℕ → ℕ
framed_by Quiet c w framed = w
framed_by old c w framed = framed

abbrev pub word_call : ℕ → (ℕ → Make) → (ℕ → AbstractDevice) → AbstractSession → Environment → AbstractRequest → ℕ
    → Option ℕ → FullEffect
word_call i make table s x q w None = reply_alone (unknown_word_reply q) table s
word_call i make table s x q w (Some d) =
    let v = serve_word (w == s.framed) i (make d) (table d) s.transfer x q in
    record {
      told = v.told;
      table = with_entry table d v.device;
      goes_on = v.goes_on;
      session =
          record {
            words = words_left (closes q) s.words w;
            transfer = v.transfer;
            framed =
                framed_by s.transfer v.transfer w s.framed;
            awaited = None;
          };
    }

-- the model in full: of each place, what surrounds an answer there
abbrev pub plain_call : ℕ → (ℕ → Make) → (ℕ → AbstractDevice) → AbstractSession → (ℕ → Environment) → AddressedRequest
    → AbstractRequest → FullEffect
plain_call i make table s x call Init = reply_alone Greeted table s
plain_call i make table s x call GetDevices = reply_alone (Listed (x call.place).listed) table s
plain_call i make table s x call Open = open_call i make table s (x call.place) call.place (least_free_word s.words)
plain_call i make table s x call (Authorize c) = all_over i table s
plain_call i make table s x call Exit = all_over i table s
plain_call i make table s x call q = word_call i make table s (x call.place) q call.word (s.words call.word)

abbrev pub awaited_call : ℕ → (ℕ → Make) → (ℕ → AbstractDevice) → AbstractSession → (ℕ → Environment) → Challenge → ℕ
    → AbstractRequest → FullEffect
awaited_call i make table s x sent d (Authorize c) = allow_call i make table s (x d) sent d c (least_free_word s.words)
awaited_call i make table s x sent d q = all_over i table s

abbrev pub answer_call : ℕ → (ℕ → Make) → (ℕ → AbstractDevice) → AbstractSession → (ℕ → Environment)
    → Option (Challenge × ℕ) → AddressedRequest → FullEffect
answer_call i make table s x None call = plain_call i make table s x call call.request
answer_call i make table s x (Some (sent, d)) call = awaited_call i make table s x sent d call.request

-- a session has four words at most
abbrev pub WordsAreFour : Type 0
WordsAreFour =
    (i : ℕ) (make : ℕ → Make) (table : ℕ → AbstractDevice) (s : AbstractSession) (x : ℕ → Environment)
    (awaited : Option (Challenge × ℕ)) (call : AddressedRequest) (w : ℕ) →
    4 ≤ w → s.words w ≡ None → (answer_call i make table s x awaited call).session.words w ≡ None

-- CANCEL and CLOSE of one device word leave the frame of another as it is.
abbrev pub OthersFramesStay : Type 0
OthersFramesStay =
    (i : ℕ) (make : ℕ → Make) (table : ℕ → AbstractDevice) (s : AbstractSession) (x : ℕ → Environment)
    (call : AddressedRequest) → (call.request ≡ Cancel) ⊎ (call.request ≡ Close) → (call.word == s.framed) ≡ false →
    ((answer_call i make table s x None call).session.transfer ≡ s.transfer)
    × (s.transfer ≢ Quiet → (answer_call i make table s x None call).session.framed ≡ s.framed)

-- A SESSION THAT OPENS ONE DEVICE
abbrev pub only_word : Bool → ℕ → ℕ → Option ℕ
only_word held d w = if w == 0 then (if held then Some d else None) else None

-- it holds the device at place d as word 0, or none
abbrev pub one_word_session : Bool → ℕ → TransferState → Option Challenge → AbstractSession
one_word_session held d c awaited =
    record { words = only_word held d; transfer = c; framed = 0; awaited = option_map (λ x. (x, d)) awaited }

abbrev pub call_to : ℕ → AbstractRequest → AddressedRequest
call_to d q = record { request = q; word = 0; place = d }

-- two sessions are alike
pub record IsLike (s t : AbstractSession) : Type 0 where
  pub words : (w : ℕ) → s.words w ≡ t.words w
  pub transfer : s.transfer ≡ t.transfer
  pub framed : s.framed ≡ t.framed
  pub awaited : s.awaited ≡ t.awaited

-- what comes by the model in full is what is served by those for one device
pub record FollowsOneWord (i d : ℕ) (table : ℕ → AbstractDevice) (comes : FullEffect) (v : AnswerEffect) : Type 0 where
  pub told : comes.told ≡ v.told
  pub goes_on : comes.goes_on ≡ v.goes_on
  pub table_is : (e : ℕ) → comes.table e ≡ with_entry table d v.device e
  pub session : v.goes_on ≡ true
      → IsLike comes.session (one_word_session (is_held_by i v.device.holder) d v.transfer v.awaited)

-- A session of a world, which opens one device and has its requests for word 0, is answered by the model for one
-- device.
abbrev pub OneWordIsEnough : Type 0
OneWordIsEnough =
    (i d : ℕ) (make : ℕ → Make) (table : ℕ → AbstractDevice) (c : TransferState) (awaited : Option Challenge)
    (x : ℕ → Environment) (q : AbstractRequest) →
    ((e : ℕ) → e ≢ d → (table e).holder ≢ Some i) →
    FollowsOneWord i d table
    (answer_call i make table (one_word_session (is_held_by i (table d).holder) d c awaited) x
    (one_word_session (is_held_by i (table d).holder) d c awaited).awaited (call_to d q))
    (answer i (make d) (table d) c awaited (x d) q)
