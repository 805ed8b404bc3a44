-- What is asked for.
use Rattle.std.proofs.Common.{◌≡◌, ◌∙◌, ℕ, Option, Some, List, refl, sym, ap, subst}
use Rattle.std.specs.Prelude.{slice_get, option_map}
use Rattle.std.proofs.lemmas.Option.{slice_get-map}
use Rattle.sane_fixed.specs.declared.kind.Kind.{Kind}
use Rattle.option_desc.specs.declared.descriptor.Descriptor.{Descriptor}
use Rattle.option_desc.specs.declared.value.Value.{Value}
use Rattle.client_replies.specs.GivenValues.{blank_value}
use Rattle.wire_message.specs.WireValues.{wire_of}
use Rattle.frame_join.specs.FrameHistory.{JoinHistory}
use Rattle.scan_job.specs.declared.job.Task.{Task}
use Rattle.scan_job.specs.declared.job.Task.TheVariants as tasks
use Rattle.client_replies.specs.declared.progress.JobTarget.{JobTarget}
use Rattle.client_replies.specs.declared.progress.Progress.{Progress}
use Rattle.client_replies.specs.declared.progress.Progress.TheVariants as stages
use Rattle.client_replies.specs.declared.progress.Notes.{Notes}
use Rattle.client_replies.specs.Asking.{request_for, goodbye, farewell}
use Rattle.system_model.specs.Client as model
use Rattle.client_refines.specs.ClientRefinement.{task_of, descs, WaitsAs, SetIsKnown, GetIsKnown, IsApt}
use Rattle.client_refines.specs.RequestRefinement.{IsGet, IsSet, asks_of, RequestsAreAlike, AsksAlike, AreRequests, AsksAt}

at_running : (target : JobTarget) (word : ℕ) (progress : Progress) (m : model.ClientView) (g : model.AbstractProgress) → m.stage ≡ model.Running g
    → AsksAt target word m.known progress (request_for target word progress) (model.request_awaited g) → AreRequests target (farewell word progress) (asks_of word m.known (model.abstract_farewell (model.Running g))) → AsksAlike target word progress m
at_running target word progress m g e a b = record {
  requests = subst (λ (s : model.JobStage). AsksAt target word m.known progress (request_for target word progress) (model.requests_sent (task_of target.task) s)) (sym e) a;
  farewells = subst (λ (s : model.JobStage). AreRequests target (farewell word progress) (asks_of word m.known (model.abstract_farewell s))) (sym e) b;
}

-- an option of the client's is one of the descriptors
desc_at : (known : List Descriptor) (options : List (Descriptor × Option Value)) (n : ℕ) (option : Descriptor × Option Value) → known ≡ descs options → slice_get options n ≡ Some option → slice_get known n ≡ Some option.0
desc_at known options n option k e =
    ap (λ (ds : List Descriptor). slice_get ds n) k ∙ slice_get-map (λ (o : Descriptor × Option Value). o.0) options n ∙ ap (λ (o : Option (Descriptor × Option Value)). option_map (λ o. o.0) o) e

is_get : (word : ℕ) (known : List Descriptor) (options : List (Descriptor × Option Value)) (n : ℕ) (kind : Kind) (size : ℕ) → known ≡ descs options → GetIsKnown options n kind size → IsGet word known n word n kind (blank_value kind size)
is_get word known options n kind size k g = record {
  device_is = refl;
  number = refl;
  desc = g.option.0;
  stands = desc_at known options n g.option k g.stands;
  kind_is = g.kind_is;
  value_is = ap (λ (y : Kind). blank_value y size) g.kind_is ∙ ap (λ (s : ℕ). blank_value g.option.0.kind s) g.size_is;
}

is_set : (word : ℕ) (known : List Descriptor) (options : List (Descriptor × Option Value)) (n : ℕ) (kind : Kind) (value : Value) → known ≡ descs options → SetIsKnown options n kind value
    → IsSet word known n value word n kind (wire_of value)
is_set word known options n kind value k p = record {
  device_is = refl;
  number = refl;
  desc = p.option.0;
  stands = desc_at known options n p.option k p.stands;
  kind_is = p.kind_is;
  text = p.text;
  reads = p.reads;
  value_is = refl;
}

pub asks_alike : (target : JobTarget) (job : model.AbstractJob) (progress : Progress) (notes : Notes) (past : JoinHistory) (m : model.ClientView) → WaitsAs job progress notes past m → IsApt target progress notes → m.known ≡ descs notes.known
    → AsksAlike target notes.word progress m
asks_alike target job stages.Greeting notes past m w a k = at_running target notes.word stages.Greeting m _ w.0 ((refl, refl), tt) (tt, tt)
asks_alike target job stages.Listing notes past m w a k = at_running target notes.word stages.Listing m _ w.0 (tt, tt) (tt, tt)
asks_alike target job stages.Opening notes past m w a k = at_running target notes.word stages.Opening m _ w.0 (refl, tt) (tt, tt)
asks_alike target job (stages.Allowing resource answer) notes past m w a k = at_running target notes.word (stages.Allowing resource answer) m _ w.0.1.0 ((w.0.1.1, refl, a), tt) (tt, tt)
asks_alike target job stages.Reopening notes past m w a k = at_running target notes.word stages.Reopening m _ w.0.1 refl (tt, tt)
asks_alike target job stages.Describing notes past m w a k = at_running target notes.word stages.Describing m _ w.0 (refl, tt) (tt, tt)
asks_alike target job (stages.Putting n kind name value) notes past m w a k = at_running target notes.word (stages.Putting n kind name value) m _ w.0.1.0 (is_set notes.word m.known notes.known n kind value k a, tt) (tt, tt)
asks_alike target job (stages.Getting n kind size) notes past m w a k = at_running target notes.word (stages.Getting n kind size) m _ w.0.1.0 (is_get notes.word m.known notes.known n kind size k a, tt) (tt, tt)
asks_alike target job (stages.Starting first) notes past m w a k = at_running target notes.word (stages.Starting first) m _ w.0 (refl, tt) (tt, tt)
asks_alike target job (stages.Shaping port order) notes past m w a k = at_running target notes.word (stages.Shaping port order) m _ w.0 (refl, tt) (refl, (tt, tt))
asks_alike target job (stages.Imaging port made) notes past m w a k = at_running target notes.word (stages.Imaging port made) m _ w.stage tt (refl, (tt, tt))
asks_alike target job stages.Turning notes past m w a k = at_running target notes.word stages.Turning m _ w.0 (refl, refl) (tt, tt)
asks_alike target job stages.Over notes past m w a k = absurd w

goodbyes_by : (target : JobTarget) (task : Task) (word : ℕ) (known : List Descriptor) → AreRequests target (goodbye task word) (asks_of word known (model.abstract_goodbye (task_of task)))
goodbyes_by target tasks.List word known = (tt, tt)
goodbyes_by target tasks.Show word known = (refl, (tt, tt))
goodbyes_by target tasks.SetOnly word known = (refl, (tt, tt))
goodbyes_by target tasks.Scan word known = (refl, (tt, tt))
goodbyes_by target (tasks.Batch count) word known = (refl, (tt, tt))

pub goodbyes_alike : (target : JobTarget) (word : ℕ) (known : List Descriptor) → AreRequests target (goodbye target.task word) (asks_of word known (model.abstract_goodbye (task_of target.task)))
goodbyes_alike target word known = goodbyes_by target target.task word known

pub requests_alike : RequestsAreAlike
requests_alike = (asks_alike, goodbyes_alike)
