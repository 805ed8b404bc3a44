-- The events that steps come from: what is so of the event of a step is so of that one.
use Rattle.std.proofs.Common.{Bool, ◌⊎◌, ℕ, List, false, Option, inl, inr, sym, subst}
use Rattle.sane_fixed.specs.declared.status.Status.{Status}
use Rattle.sane_fixed.specs.declared.device_info.DeviceInfo.{DeviceInfo}
use Rattle.system_model.specs.AbstractMessages.{Challenge}
use Rattle.system_model.specs.Daemon.{FailureCounts}
use Rattle.system_model.specs.Actions as model_actions
use Rattle.system_model.specs.Transitions.{By}
use Rattle.event_world.specs.declared.event.Event.{Event}
use Rattle.event_world.specs.declared.event.Event.TheVariants.{Connect, ToDaemon, ToClient, DataConnect, DataTurn, DataToClient, LoseControl, LoseImage, Cancel, Load, Unplug}
use Rattle.scan_world.proofs.Traced.{StepOf}

pub stops_event : (P : Event → Type 0) (infos : List DeviceInfo) (i : ℕ) (e : Event) → P e → StepOf infos e (By i model_actions.Stops) → P (Cancel i)
stops_event P infos i (Connect j) so of = absurd of.1
stops_event P infos i (ToDaemon j n) so of = absurd of.1
stops_event P infos i (ToClient j n) so of = absurd of.1
stops_event P infos i (DataConnect j) so of = absurd of.1
stops_event P infos i (DataTurn j) so of = absurd of.1
stops_event P infos i (DataToClient j n) so of = absurd of.1
stops_event P infos i (LoseControl j) so of = absurd of.1
stops_event P infos i (LoseImage j) so of = absurd of.1
stops_event P infos i (Cancel j) so of = subst (λ (m : ℕ). P (Cancel m)) (sym of.0) so
stops_event P infos i (Load name source) so of = absurd of
stops_event P infos i (Unplug name) so of = absurd of

pub loses_event : (P : Event → Type 0) (infos : List DeviceInfo) (i : ℕ) (e : Event) → P e → StepOf infos e (By i (model_actions.Loses false)) → P (LoseControl i)
loses_event P infos i (Connect j) so of = absurd of.1
loses_event P infos i (ToDaemon j n) so of = absurd of.1
loses_event P infos i (ToClient j n) so of = absurd of.1
loses_event P infos i (DataConnect j) so of = absurd of.1
loses_event P infos i (DataTurn j) so of = absurd of.1
loses_event P infos i (DataToClient j n) so of = absurd of.1
loses_event P infos i (LoseControl j) so of = subst (λ (m : ℕ). P (LoseControl m)) (sym of.0) so
loses_event P infos i (LoseImage j) so of = absurd of.1
loses_event P infos i (Cancel j) so of = absurd of.1
loses_event P infos i (Load name source) so of = absurd of
loses_event P infos i (Unplug name) so of = absurd of

pub image_event : (P : Event → Type 0) (infos : List DeviceInfo) (i : ℕ) (e : Event) → P e → StepOf infos e (By i (model_actions.LosesImage false)) → P (LoseImage i)
image_event P infos i (Connect j) so of = absurd of.1
image_event P infos i (ToDaemon j n) so of = absurd of.1
image_event P infos i (ToClient j n) so of = absurd of.1
image_event P infos i (DataConnect j) so of = absurd of.1
image_event P infos i (DataTurn j) so of = absurd of.1
image_event P infos i (DataToClient j n) so of = absurd of.1
image_event P infos i (LoseControl j) so of = absurd of.1
image_event P infos i (LoseImage j) so of = subst (λ (m : ℕ). P (LoseImage m)) (sym of.0) so
image_event P infos i (Cancel j) so of = absurd of.1
image_event P infos i (Load name source) so of = absurd of
image_event P infos i (Unplug name) so of = absurd of

pub answers_event : (P : Event → Type 0) (infos : List DeviceInfo) (i : ℕ) (challenge : Challenge) (fault : Option FailureCounts) (e : Event) → P e → StepOf infos e (By i (model_actions.Answers challenge fault)) → (n : ℕ) × P (ToDaemon i n)
answers_event P infos i challenge fault (Connect j) so of = absurd of.1
answers_event P infos i challenge fault (ToDaemon j n) so of = (n, subst (λ (m : ℕ). P (ToDaemon m n)) (sym of.0) so)
answers_event P infos i challenge fault (ToClient j n) so of = absurd of.1
answers_event P infos i challenge fault (DataConnect j) so of = absurd of.1
answers_event P infos i challenge fault (DataTurn j) so of = absurd of.1
answers_event P infos i challenge fault (DataToClient j n) so of = absurd of.1
answers_event P infos i challenge fault (LoseControl j) so of = absurd of.1
answers_event P infos i challenge fault (LoseImage j) so of = absurd of.1
answers_event P infos i challenge fault (Cancel j) so of = absurd of.1
answers_event P infos i challenge fault (Load name source) so of = absurd of
answers_event P infos i challenge fault (Unplug name) so of = absurd of

pub breaks_event : (P : Event → Type 0) (infos : List DeviceInfo) (i : ℕ) (memory : Bool) (e : Event) → P e → StepOf infos e (By i (model_actions.Breaks memory)) → (n : ℕ) × P (ToDaemon i n)
breaks_event P infos i memory (Connect j) so of = absurd of.1
breaks_event P infos i memory (ToDaemon j n) so of = (n, subst (λ (m : ℕ). P (ToDaemon m n)) (sym of.0) so)
breaks_event P infos i memory (ToClient j n) so of = absurd of.1
breaks_event P infos i memory (DataConnect j) so of = absurd of.1
breaks_event P infos i memory (DataTurn j) so of = absurd of.1
breaks_event P infos i memory (DataToClient j n) so of = absurd of.1
breaks_event P infos i memory (LoseControl j) so of = absurd of.1
breaks_event P infos i memory (LoseImage j) so of = absurd of.1
breaks_event P infos i memory (Cancel j) so of = absurd of.1
breaks_event P infos i memory (Load name source) so of = absurd of
breaks_event P infos i memory (Unplug name) so of = absurd of

pub named_event : (P : Event → Type 0) (infos : List DeviceInfo) (i : ℕ) (status : Status) (e : Event) → P e → StepOf infos e (By i (model_actions.TurnsNamed status)) → P (DataTurn i)
named_event P infos i status (Connect j) so of = absurd of.1
named_event P infos i status (ToDaemon j n) so of = absurd of.1
named_event P infos i status (ToClient j n) so of = absurd of.1
named_event P infos i status (DataConnect j) so of = absurd of.1
named_event P infos i status (DataTurn j) so of = subst (λ (m : ℕ). P (DataTurn m)) (sym of.0) so
named_event P infos i status (DataToClient j n) so of = absurd of.1
named_event P infos i status (LoseControl j) so of = absurd of.1
named_event P infos i status (LoseImage j) so of = absurd of.1
named_event P infos i status (Cancel j) so of = absurd of.1
named_event P infos i status (Load name source) so of = absurd of
named_event P infos i status (Unplug name) so of = absurd of

pub short_event : (P : Event → Type 0) (infos : List DeviceInfo) (i : ℕ) (e : Event) → P e → StepOf infos e (By i model_actions.TurnsShort) → P (DataTurn i)
short_event P infos i (Connect j) so of = absurd of.1
short_event P infos i (ToDaemon j n) so of = absurd of.1
short_event P infos i (ToClient j n) so of = absurd of.1
short_event P infos i (DataConnect j) so of = absurd of.1
short_event P infos i (DataTurn j) so of = subst (λ (m : ℕ). P (DataTurn m)) (sym of.0) so
short_event P infos i (DataToClient j n) so of = absurd of.1
short_event P infos i (LoseControl j) so of = absurd of.1
short_event P infos i (LoseImage j) so of = absurd of.1
short_event P infos i (Cancel j) so of = absurd of.1
short_event P infos i (Load name source) so of = absurd of
short_event P infos i (Unplug name) so of = absurd of

pub fault_event : (P : Event → Type 0) (infos : List DeviceInfo) (i : ℕ) (fault : FailureCounts) (e : Event) → P e → StepOf infos e (By i (model_actions.TurnsFault fault)) → P (DataTurn i)
fault_event P infos i fault (Connect j) so of = absurd of.1
fault_event P infos i fault (ToDaemon j n) so of = absurd of.1
fault_event P infos i fault (ToClient j n) so of = absurd of.1
fault_event P infos i fault (DataConnect j) so of = absurd of.1
fault_event P infos i fault (DataTurn j) so of = subst (λ (m : ℕ). P (DataTurn m)) (sym of.0) so
fault_event P infos i fault (DataToClient j n) so of = absurd of.1
fault_event P infos i fault (LoseControl j) so of = absurd of.1
fault_event P infos i fault (LoseImage j) so of = absurd of.1
fault_event P infos i fault (Cancel j) so of = absurd of.1
fault_event P infos i fault (Load name source) so of = absurd of
fault_event P infos i fault (Unplug name) so of = absurd of

pub chokes_event : (P : Event → Type 0) (infos : List DeviceInfo) (i : ℕ) (e : Event) → P e → StepOf infos e (By i model_actions.RunsOutOfMemory) → (n : ℕ) × (P (ToClient i n) ⊎ P (DataToClient i n))
chokes_event P infos i (Connect j) so of = absurd of.1
chokes_event P infos i (ToDaemon j n) so of = absurd of.1
chokes_event P infos i (ToClient j n) so of = (n, inl (subst (λ (m : ℕ). P (ToClient m n)) (sym of.0) so))
chokes_event P infos i (DataConnect j) so of = absurd of.1
chokes_event P infos i (DataTurn j) so of = absurd of.1
chokes_event P infos i (DataToClient j n) so of = (n, inr (subst (λ (m : ℕ). P (DataToClient m n)) (sym of.0) so))
chokes_event P infos i (LoseControl j) so of = absurd of.1
chokes_event P infos i (LoseImage j) so of = absurd of.1
chokes_event P infos i (Cancel j) so of = absurd of.1
chokes_event P infos i (Load name source) so of = absurd of
chokes_event P infos i (Unplug name) so of = absurd of
