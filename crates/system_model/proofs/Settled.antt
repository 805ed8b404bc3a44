-- THE ANSWERS THAT PUT SETTINGS IN FORCE AND TELL VALUES: a client in sync is right to hear them.
use Rattle.std.proofs.Common.{◌≡◌, ◌∙◌, ℕ, List, [], ◌∷◌, ◌++◌, Bool, true, false, Option, Some, None, refl, sym, subst, ap, inl, inr, append_assoc, arith}
use Rattle.std.proofs.lemmas.List.{append-nil}
use Rattle.option_desc.specs.declared.value.Value.{Value}
use Rattle.system_model.specs.AbstractMessages.{RequestedSetting, AbstractReport, Gave, Got}
use Rattle.system_model.specs.Devices.{Make, OptionsInForce, AbstractAcceptedSet, descriptors_in_force, readable_options, readable_value, resolve_setting, accept_value}
use Rattle.system_model.specs.AbstractInForce.{SettingsResult, abstract_force, with_reports_before, report_of, values_of}
use Rattle.system_model.specs.Client.{AbstractTask, List_, Show, SetOnly, Scan, Batch, ClientView, AbstractProgress, Putting, Getting, stage_after_settings, asks_setting, stage_of_next_setting, stage_after_put, next_value}
use Rattle.system_model.specs.ClientReplies.{hear_at}
use Rattle.system_model.specs.AbstractDevices.{AbstractDevice}
use Rattle.system_model.specs.Daemon.{AnswerEffect, reply_effect, put_reply}
use Rattle.system_model.specs.SystemStates.{SessionView}
use Rattle.system_model.specs.Actions.{session_after_answer}
use Rattle.system_model.specs.Sync.{SettingsInForce, AllInForce, InSync}
use Rattle.system_model.specs.Invariants.{IsRight, IsRightlyDone}
use Rattle.system_model.proofs.Laws.{steady, told, few}

-- the client hears what v tells, and is right
abbrev pub Answers : ℕ → Make → SessionView → ClientView → AbstractProgress → AnswerEffect → Type 0
Answers i k b m g v =
    (v.goes_on ≡ true) × ((r : _) × (v.told ≡ r ∷ []) × IsRight i k (session_after_answer b v) (hear_at g b.job m r) v.device (hear_at g b.job m r).stage)

onto_onto : (xs ys : List AbstractReport) (f : Option SettingsResult) → with_reports_before xs (with_reports_before ys f) ≡ with_reports_before (xs ++ ys) f
onto_onto xs ys None = refl
onto_onto xs ys (Some f) = simp append_assoc

pub onto_nil : (f : Option SettingsResult) → with_reports_before [] f ≡ f
onto_nil None = refl
onto_nil (Some f) = refl

pub done_at : (k : Make) (b : SessionView) (m : ClientView) (task : AbstractTask) → b.job.task ≡ task → IsRightlyDone k b m task → IsRightlyDone k b m b.job.task
done_at k b m task e h = subst (λ (t : AbstractTask). IsRightlyDone k b m t) (sym e) h

pub right_at : (i : ℕ) (k : Make) (b : SessionView) (dev : AbstractDevice) (m n : ClientView) → m ≡ n → IsRight i k b n dev n.stage → IsRight i k b m dev m.stage
right_at i k b dev m n e h = subst (λ (x : ClientView). IsRight i k b x dev x.stage) (sym e) h

-- WHERE THE SETTINGS ARE IN FORCE
value_next : (i : ℕ) (k : Make) (b : SessionView) (m : ClientView) (dev : AbstractDevice) (ns : List ℕ) (o : OptionsInForce) (h : SettingsInForce i k b m dev [] o) → b.job.task ≡ Show →
    m.known ≡ descriptors_in_force k o → readable_options (descriptors_in_force k o) ≡ ns → AllInForce k b.job b.sent m.reports o → IsRight i k b m dev (next_value ns)
value_next i k b m dev [] o h t d e s =
    done_at k b m Show t (record { options = o; settled = s; known = d; values = rw (h.values, e) refl })
value_next i k b m dev (n ∷ ns) o h t d e s =
    record {
      options = o;
      held = h.held;
      still = h.still;
      settled = s;
      task = t;
      known = d;
      so_far = rw (h.values, d, e) refl;
      told = rw e at (told k o);
      few = rw e at (few k o);
    }

settled : (i : ℕ) (k : Make) (b : SessionView) (m : ClientView) (dev : AbstractDevice) (o : OptionsInForce) (task : AbstractTask) → b.job.task ≡ task → m.known ≡ descriptors_in_force k o → SettingsInForce i k b m dev [] o →
    IsRight i k b m dev (stage_after_settings task m.known)
settled i k b m dev o List_ e d h = absurd (h.opens e)
settled i k b m dev o Show e d h =
    subst (λ ds. IsRight i k b m dev (next_value (readable_options ds))) (sym d)
    (value_next i k b m dev (readable_options (descriptors_in_force k o)) o h e d refl (record { forced = h.so_far ∙ rw (append-nil m.reports) refl; permitted = h.permitted }))
settled i k b m dev o SetOnly e d h = done_at k b m SetOnly e (o, record { forced = h.so_far ∙ rw (append-nil m.reports) refl; permitted = h.permitted })
settled i k b m dev o Scan e d h =
    inl (record {
      options = o;
      held = h.held;
      still = h.still;
      settled = record { forced = h.so_far ∙ rw (append-nil m.reports) refl; permitted = h.permitted };
      scans = rw e tt;
      frames = h.frames;
      pictures = rw (h.started, h.pages) tt;
      fewer = rw h.pages (omega arith);
    })
settled i k b m dev o (Batch n) e d h =
    inl (record {
      options = o;
      held = h.held;
      still = h.still;
      settled = record { forced = h.so_far ∙ rw (append-nil m.reports) refl; permitted = h.permitted };
      scans = rw e tt;
      frames = h.frames;
      pictures = rw (h.started, h.pages) tt;
      fewer = rw h.pages (omega arith);
    })

asks_right : (i : ℕ) (k : Make) (b : SessionView) (m : ClientView) (dev : AbstractDevice) (requested : RequestedSetting) (left : List RequestedSetting) (o : OptionsInForce) (r : Option (ℕ × Value)) →
    m.known ≡ descriptors_in_force k o → resolve_setting m.known requested ≡ r → SettingsInForce i k b m dev (requested ∷ left) o → IsRight i k b m dev (asks_setting requested left r)
asks_right i k b m dev requested left o None d e h =
    let f : resolve_setting (descriptors_in_force k o) requested ≡ None = cc in
    inr ((h.so_far ∙ rw f refl, h.opens), (refl, inl refl))
asks_right i k b m dev requested left o (Some (n, value)) d e h = record { options = o; settles = h; known = d; resolved = e }

-- the client goes on in its settings
pub next_right : (i : ℕ) (k : Make) (b : SessionView) (m : ClientView) (dev : AbstractDevice) (left : List RequestedSetting) (o : OptionsInForce) →
    m.known ≡ descriptors_in_force k o → SettingsInForce i k b m dev left o → IsRight i k b m dev (stage_of_next_setting b.job.task m.known left)
next_right i k b m dev [] o d h = settled i k b m dev o b.job.task refl d h
next_right i k b m dev (requested ∷ left) o d h = asks_right i k b m dev requested left o (resolve_setting m.known requested) d refl h

-- SETTINGS AND VALUES
put_goes : (i : ℕ) (k : Make) (b : SessionView) (m : ClientView) (dev : AbstractDevice) (left : List RequestedSetting) (o : OptionsInForce) (x : Bool) →
    (x ≡ false → m.known ≡ descriptors_in_force k o) → SettingsInForce i k b m dev left o → IsRight i k b m dev (stage_after_put b.job.task m.known left x)
put_goes i k b m dev left o true d h = (o, h)
put_goes i k b m dev left o false d h = next_right i k b m dev left o (d refl) h

pub put_right : (i : ℕ) (k : Make) (b : SessionView) (m : ClientView) (dev : AbstractDevice) (n : ℕ) (value : Value) (requested : RequestedSetting) (left : List RequestedSetting) (o : OptionsInForce) (put : Option AbstractAcceptedSet) →
    SettingsInForce i k b m dev (requested ∷ left) o → m.known ≡ descriptors_in_force k o → resolve_setting m.known requested ≡ Some (n, value) → accept_value k o n value ≡ put →
    Answers i k b m (Putting n value requested left) (put_reply dev b.transfer put)
put_right i k b m dev n value requested left o None h d r e =
    let f : resolve_setting (descriptors_in_force k o) requested ≡ Some (n, value) = cc in
    (refl, (_, refl, inr ((h.so_far ∙ rw (f, e) refl, h.opens), (refl, inr refl))))
put_right i k b m dev n value requested left o (Some put) h d r e =
    let f : resolve_setting (descriptors_in_force k o) requested ≡ Some (n, value) = cc in (
      refl,
      (
        Gave put.given put.info,
        refl,
        put_goes i k (session_after_answer b (put_reply dev b.transfer (Some put))) (hear_at (Putting n value requested left) b.job m (Gave put.given put.info)) (put_reply dev b.transfer (Some put)).device
            left put.options put.info.reload_options (λ z. d ∙ sym (steady k o n value put e z))
            (record {
              held = record { mine = h.held.mine; options_are = refl; phase_is = h.held.phase_is };
              still = record { transfer = h.still.transfer; flight = h.still.flight; ending = h.still.ending; awaited = refl };
              so_far = h.so_far ∙ rw (f, e) (onto_onto m.reports (report_of requested value put ∷ []) (abstract_force left k put.options));
              permitted = h.permitted;
              opens = h.opens;
              started = rw h.started refl;
              values = h.values;
              frames = h.frames;
              pages = h.pages;
            }),
      ),
    )

pub got_right : (i : ℕ) (k : Make) (b : SessionView) (m : ClientView) (dev : AbstractDevice) (n : ℕ) (left : List ℕ) (h : InSync i k b m dev (Getting n left)) → Answers i k b m (Getting n left) (reply_effect (Got (readable_value k dev.options n)) dev b.transfer)
got_right i k b m dev n [] h = (
  refl,
  (
    Got (readable_value k dev.options n),
    refl,
    done_at k _ _ Show h.task (record {
      options = h.options;
      settled = h.settled;
      known = h.known;
      values = rw h.held.options_are (h.so_far ∙ ap (λ ds. values_of k h.options (readable_options ds)) h.known);
    }),
  ),
)
got_right i k b m dev n (l ∷ left) h = (
  refl,
  (
    Got (readable_value k dev.options n),
    refl,
    record {
      options = h.options;
      held = h.held;
      still = record { transfer = h.still.transfer; flight = h.still.flight; ending = h.still.ending; awaited = refl };
      settled = h.settled;
      task = h.task;
      known = h.known;
      so_far = rw h.held.options_are (append_assoc m.values (readable_value k h.options n ∷ []) (values_of k h.options (l ∷ left)) ∙ h.so_far);
      told = h.told.1;
      few = let f = h.few in omega arith;
    },
  ),
)
