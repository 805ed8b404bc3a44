-- That each session of a daemon sends string values as the daemon does.
use Rattle.std.specs.Prelude.{◌≡◌, Option, Some, None, List, [], ◌∷◌}
use Rattle.saned_requests.specs.declared.session.Session.{Session}
use Rattle.saned_requests.specs.declared.session.StringSize.{StringSize}
use Rattle.saned_core.specs.declared.session_slot.SessionSlot.{SessionSlot}
use Rattle.saned_core.specs.DaemonStates.{DaemonState}

abbrev pub SendsStrings : {S : Type 0} → StringSize → Option (Session S) → Type 0
SendsStrings strings None = Unit {0}
SendsStrings strings (Some s) = s.strings ≡ strings

abbrev pub SlotSendsStrings : {S : Type 0} → StringSize → Option (SessionSlot S) → Type 0
SlotSendsStrings strings None = Unit {0}
SlotSendsStrings strings (Some slot) = SendsStrings strings slot.session

abbrev pub SlotsSendStrings : {S : Type 0} → StringSize → List (Option (SessionSlot S)) → Type 0
SlotsSendStrings strings [] = Unit {0}
SlotsSendStrings strings (slot ∷ slots) = SlotSendsStrings strings slot × SlotsSendStrings strings slots

abbrev pub HasOneStringSize : {S : Type 0} → DaemonState S → Type 0
HasOneStringSize d = SlotsSendStrings d.strings d.slots
