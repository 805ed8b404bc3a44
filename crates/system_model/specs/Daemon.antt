-- The daemon's rules, for a session that opens one device: what it answers, and what that does.
use Rattle.std.specs.Prelude.{ℕ, List, [], ◌∷◌, Bool, true, false, Option, Some, None, ◌==◌}
use Rattle.sane_fixed.specs.declared.status.Status.TheVariants.{DeviceBusy, Inval, NoDocs, IoError, AccessDenied}
use Rattle.option_desc.specs.declared.value.Value.{Value}
use Rattle.sane_fixed.specs.declared.params.Params.{Params}
use Rattle.page_picture.specs.Shows.{Frame}
use Rattle.system_model.specs.AbstractMessages.{same_text, Challenge}
use Rattle.system_model.specs.AbstractMessages.{AbstractRequest, Init, GetDevices, Open, Authorize, Describe, Get, Set}
use Rattle.system_model.specs.AbstractMessages.{Parameters, Start, Cancel, Close, Exit, AbstractReply, Greeted, Listed}
use Rattle.system_model.specs.AbstractMessages.{Opened, Challenged, Described, Got, Gave, Shaped, Begun, Acked, Refused}
use Rattle.device_api.specs.Kinds.{Page, after_start}
use Rattle.system_model.specs.Devices.{Make, AbstractAcceptedSet, default_options, descriptors_in_force, accept_value}
use Rattle.system_model.specs.Devices.{has_readable_value, readable_value, order_of, picture_frames, params_at_rest}
use Rattle.system_model.specs.Causes.{Cause, Disallowed, WasUnlisted, WasHeld, HadNoPicture, SourceFailed, TrayWasEmpty}
use Rattle.system_model.specs.Causes.{TrayRanOut}
use Rattle.system_model.specs.AbstractDevices.{AbstractDevice, ScanPhase, Resting, Between, Reading, Begin, is_resting}
use Rattle.system_model.specs.AbstractDevices.{is_held_by, put_down, put_back, device_let_go}

-- the frame of a session
pub data TransferState : Type 0 where
  Quiet : TransferState
  Waiting : TransferState
  Streaming : TransferState
  Ending : TransferState

-- a page source's count of failures before and after a call in which it failed
pub record FailureCounts : Type 0 where
  pub before : ℕ
  pub after : ℕ

-- what an answer depends on beside its session and its device
pub record Environment : Type 0 where
  -- whether the page source fails at a start
  pub fault : Option FailureCounts
  -- the challenge that comes next
  pub challenge : Challenge
  -- the listed devices, in their order
  pub listed : List ℕ
  -- whether a users line names the device's backend, and whether the user and password are allowed there for a
  -- challenge
  pub guarded : Bool
  pub allows : Challenge → Bool
  -- whether a page was started for the session before
  pub again : Bool

-- what an answer does
pub record AnswerEffect : Type 0 where
  pub told : List AbstractReply
  pub device : AbstractDevice
  pub transfer : TransferState
  -- the challenge that the session waits for an answer to
  pub awaited : Option Challenge
  -- the page that was started
  pub begun : List Begin
  -- the devices that were listed
  pub shown : Option (List ℕ)
  pub causes : List Cause
  -- whether the session goes on
  pub goes_on : Bool

abbrev pub reply_effect : AbstractReply → AbstractDevice → TransferState → AnswerEffect
reply_effect reply dev c =
    record {
      told = reply ∷ [];
      device = dev;
      transfer = c;
      awaited = None;
      begun = [];
      shown = None;
      causes =
          [];
      goes_on = true;
    }

-- the session is over, and its device is given back
abbrev pub session_over_effect : AbstractDevice → AnswerEffect
session_over_effect dev =
    record {
      told = [];
      device = dev;
      transfer = Quiet;
      awaited = None;
      begun = [];
      shown = None;
      causes = [];
      goes_on =
          false;
    }

-- whether the holder is another: nobody is refused for what it holds itself
abbrev pub held_cause : Bool → List Cause
held_cause true = []
held_cause false = WasHeld ∷ []

-- the device is handed out, all its options at their default_options
abbrev pub hand_out_device : ℕ → Make → AbstractDevice → TransferState → Option ℕ → AnswerEffect
hand_out_device i k dev c None =
    reply_effect Opened (record dev { holder = Some i; options = default_options k; phase = Resting }) c
hand_out_device i k dev c (Some j) = record (reply_effect (Refused DeviceBusy) dev c) { causes = held_cause (j == i) }

abbrev pub take_listed : ℕ → Make → AbstractDevice → TransferState → Bool → AnswerEffect
take_listed i k dev c false = record (reply_effect (Refused Inval) dev c) { causes = WasUnlisted ∷ [] }
take_listed i k dev c true = hand_out_device i k dev c dev.holder

-- OPEN: a guarded device asks for an answer to a challenge first
abbrev pub open_listed : ℕ → Make → AbstractDevice → TransferState → Challenge → Bool → Bool → AnswerEffect
open_listed i k dev c challenge false guarded =
    record (reply_effect (Refused Inval) dev c) { causes = WasUnlisted ∷ [] }
open_listed i k dev c challenge true true =
    record (reply_effect (Challenged challenge) dev c) { awaited = Some challenge }
open_listed i k dev c challenge true false = hand_out_device i k dev c dev.holder

-- AUTHORIZE: whether the answer is to the challenge that was sent, and whether it is allowed
abbrev pub allow : ℕ → Make → AbstractDevice → TransferState → Bool → Bool → AnswerEffect
allow i k dev c true true = take_listed i k dev c dev.listed
allow i k dev c true false = record (reply_effect (Refused AccessDenied) dev c) { causes = Disallowed ∷ [] }
allow i k dev c false allowed = reply_effect (Refused AccessDenied) dev c

-- GET works during a scan
abbrev pub get_reply : Make → AbstractDevice → TransferState → ℕ → Bool → AnswerEffect
get_reply k dev c n true = reply_effect (Got (readable_value k dev.options n)) dev c
get_reply k dev c n false = reply_effect (Refused Inval) dev c

abbrev pub put_reply : AbstractDevice → TransferState → Option AbstractAcceptedSet → AnswerEffect
put_reply dev c None = reply_effect (Refused Inval) dev c
put_reply dev c (Some put) = reply_effect (Gave put.given put.info) (record dev { options = put.options }) c

abbrev pub set_reply : Make → AbstractDevice → TransferState → ℕ → Value → Bool → AnswerEffect
set_reply k dev c n value true = put_reply dev c (accept_value k dev.options n value)
set_reply k dev c n value false = reply_effect (Refused DeviceBusy) dev c

abbrev pub abstract_params : Make → AbstractDevice → ScanPhase → Params
abstract_params k dev Resting = params_at_rest k dev.options dev.tray
abstract_params k dev (Between last more) = last.params
abstract_params k dev (Reading frame rest more) = frame.params

-- a page is begun, or means no picture: then the tray is as it was
abbrev pub begin_page : Make → AbstractDevice → TransferState → Page → List Frame → AnswerEffect
begin_page k dev c page [] = record (reply_effect (Refused Inval) dev c) { causes = HadNoPicture ∷ [] }
begin_page k dev c page (f ∷ more) =
    record (reply_effect (Begun (order_of k dev.options))
    (record dev { tray = after_start k.model dev.tray; phase = Reading f f.payload more }) Waiting) {
      begun = record { page = page; options = dev.options } ∷ [];
    }

-- the next pass of a page
abbrev pub begin_pass : Make → AbstractDevice → TransferState → List Frame → AnswerEffect
begin_pass k dev c [] = reply_effect (Refused Inval) (put_down dev) c
begin_pass k dev c (f ∷ more) =
    reply_effect (Begun (order_of k dev.options)) (record dev { phase = Reading f f.payload more }) Waiting

abbrev pub empty_cause : Bool → Cause
empty_cause true = TrayRanOut
empty_cause false = TrayWasEmpty

abbrev pub start_page : Make → AbstractDevice → TransferState → Bool → List Page → AnswerEffect
start_page k dev c again [] = record (reply_effect (Refused NoDocs) dev c) { causes = empty_cause again ∷ [] }
start_page k dev c again (page ∷ tray) = begin_page k dev c page (picture_frames k dev.options page)

abbrev pub start_at : Make → AbstractDevice → TransferState → Bool → ScanPhase → AnswerEffect
start_at k dev c again Resting = start_page k dev c again dev.tray
start_at k dev c again (Between last more) = begin_pass k dev c more
start_at k dev c again (Reading frame rest more) = reply_effect (Refused DeviceBusy) dev c

-- the source fails at a start, and the device is at rest; its tray is as it was
abbrev pub start_or_fail : Make → AbstractDevice → TransferState → Bool → Option FailureCounts → AnswerEffect
start_or_fail k dev c again None = start_at k dev c again dev.phase
start_or_fail k dev c again (Some fault) =
    record (reply_effect (Refused IoError) (put_down dev) c) { causes = SourceFailed ∷ [] }

abbrev pub start_effect : Make → AbstractDevice → Environment → TransferState → AnswerEffect
start_effect k dev x Quiet = start_or_fail k dev Quiet x.again x.fault
start_effect k dev x Waiting = reply_effect (Refused DeviceBusy) dev Waiting
start_effect k dev x Streaming = reply_effect (Refused DeviceBusy) dev Streaming
start_effect k dev x Ending = reply_effect (Refused DeviceBusy) dev Ending

abbrev pub cancelled_transfer : TransferState → TransferState
cancelled_transfer Quiet = Quiet
cancelled_transfer Waiting = Quiet
cancelled_transfer Streaming = Ending
cancelled_transfer Ending = Ending

-- a request to the device that the session holds
abbrev pub serve : ℕ → Make → AbstractDevice → TransferState → Environment → AbstractRequest → AnswerEffect
serve i k dev c x Init = reply_effect Greeted dev c
serve i k dev c x GetDevices = record (reply_effect (Listed x.listed) dev c) { shown = Some x.listed }
serve i k dev c x Open = open_listed i k dev c x.challenge dev.listed x.guarded
serve i k dev c x (Authorize challenge) = session_over_effect (put_back dev)
serve i k dev c x Describe = reply_effect (Described (descriptors_in_force k dev.options)) dev c
serve i k dev c x (Get n) = get_reply k dev c n (has_readable_value k dev.options n)
serve i k dev c x (Set n value) = set_reply k dev c n value (is_resting dev.phase)
serve i k dev c x Parameters = reply_effect (Shaped (abstract_params k dev dev.phase)) dev c
serve i k dev c x Start = start_effect k dev x c
serve i k dev c x Cancel = reply_effect Acked (put_down dev) (cancelled_transfer c)
serve i k dev c x Close = reply_effect Acked (put_back dev) (cancelled_transfer c)
serve i k dev c x Exit = session_over_effect (put_back dev)

-- a request where the session holds no device
abbrev pub refuse : ℕ → Make → AbstractDevice → TransferState → Environment → AbstractRequest → AnswerEffect
refuse i k dev c x Init = reply_effect Greeted dev c
refuse i k dev c x GetDevices = record (reply_effect (Listed x.listed) dev c) { shown = Some x.listed }
refuse i k dev c x Open = open_listed i k dev c x.challenge dev.listed x.guarded
refuse i k dev c x (Authorize challenge) = session_over_effect dev
refuse i k dev c x Describe = reply_effect (Described []) dev c
refuse i k dev c x (Get n) = reply_effect (Refused Inval) dev c
refuse i k dev c x (Set n value) = reply_effect (Refused Inval) dev c
refuse i k dev c x Parameters = reply_effect (Refused Inval) dev c
refuse i k dev c x Start = reply_effect (Refused Inval) dev c
refuse i k dev c x Cancel = reply_effect Acked dev c
refuse i k dev c x Close = reply_effect Acked dev c
refuse i k dev c x Exit = session_over_effect dev

abbrev pub answer_if : Bool → ℕ → Make → AbstractDevice → TransferState → Environment → AbstractRequest → AnswerEffect
answer_if true i k dev c x q = serve i k dev c x q
answer_if false i k dev c x q = refuse i k dev c x q

-- a request where an answer to a challenge is awaited: any other ends the session
abbrev pub answer_awaited : ℕ → Make → AbstractDevice → TransferState → Environment → Challenge → AbstractRequest
    → AnswerEffect
answer_awaited i k dev c x sent (Authorize challenge) = allow i k dev c (same_text challenge sent) (x.allows sent)
answer_awaited i k dev c x sent q = session_over_effect (device_let_go i dev)

-- **answer (`answer`), answer in full (`answer_call`)**: the daemon's reply to a request and what it does to the
-- device, for a session that opens one device; the same with four device words.
--
-- the daemon's rules: the answer to client i's request, where this is the device that its job names
abbrev pub answer : ℕ → Make → AbstractDevice → TransferState → Option Challenge → Environment → AbstractRequest
    → AnswerEffect
answer i k dev c None x q = answer_if (is_held_by i dev.holder) i k dev c x q
answer i k dev c (Some sent) x q = answer_awaited i k dev c x sent q
