-- The files of finished pages, by the laws of the model.
use Rattle.std.specs.Prelude.{cond}
use Rattle.std.specs.List.{AllByRecursion}
use Rattle.std.proofs.Common.{◌≡◌, ◌⊎◌, inl, inr, ◌∙◌, ℕ, zero, suc, ◌<◌, ◌≤◌, List, [], ◌∷◌, ◌++◌, Option, Some, None, Bool, true, false, refl, sym, ap, subst, map, length, slice_get, arith}
use Rattle.std.proofs.lemmas.List.{append-nil}
use Rattle.page_picture.specs.Page.{IsPageView}
use Rattle.page_picture.specs.Shows.{Frame}
use Rattle.frame_join.specs.FrameHistory.{JoinHistory, is_joined}
use Rattle.scan_job.specs.declared.job.Task.{Task}
use Rattle.scan_job.specs.declared.outcome.Outcome.{Outcome}
use Rattle.client_replies.specs.ProtocolStates.{is_batch}
use Rattle.system_model.specs.Devices.{Make}
use Rattle.system_model.specs.Client as model
use Rattle.system_model.specs.Client.{ClientView, JobStage}
use Rattle.system_model.specs.AbstractMessages.{RequestedSetting}
use Rattle.system_model.specs.AbstractDevices.{Begin}
use Rattle.system_model.specs.SystemStates.{make_for}
use Rattle.system_model.specs.Sync.{ArePictures, IsPictureOfStart}
use Rattle.system_model.proofs.JobPromises.{pages_right}
use Rattle.client_refines.specs.ClientRefinement.{wholes}
use Rattle.daemon_refines.proofs.Moved.{unsome}
use Rattle.event_world.specs.declared.endpoint.Endpoint.{Endpoint}
use Rattle.event_world.specs.JobEvents.{is_done}
use Rattle.event_world.specs.FileDraining.{HasFiles, KeepsFile}
use Rattle.event_world.specs.Worlds.{WorldCore}
use Rattle.world_refines.specs.GhostStates.{Ghost}
use Rattle.world_refines.specs.WorldRefinement.{IsFinished, KeepsFiles, WorldRefines, is_laid, client_at_greeting}
use Rattle.world_refines.specs.WorldPromises.{HasScannedPage, PagesAreMeant}
use Rattle.world_refines.proofs.state.ListEntries.{there}
use Rattle.world_refines.proofs.promise_proofs.PromiseProofs.{meant_by}

-- ---- lists

front_at : {X : Type 0} (xs ys : List X) (k : ℕ) (x : X) → slice_get xs k ≡ Some x → slice_get (xs ++ ys) k ≡ Some x
front_at [] ys k x e = absurd (let clash : None ≡ Some x = e in cc)
front_at (z ∷ xs) ys zero x e = e
front_at (z ∷ xs) ys (suc k) x e = front_at xs ys k x e

map_at : {X Y : Type 0} (f : X → Y) (xs : List X) (k : ℕ) (x : X) → slice_get xs k ≡ Some x → slice_get (map f xs) k ≡ Some (f x)
map_at f [] k x e = absurd (let clash : None ≡ Some x = e in cc)
map_at f (z ∷ xs) zero x e = ap (λ (y : _). Some (f y)) (unsome z x e)
map_at f (z ∷ xs) (suc k) x e = map_at f xs k x e

map_behind : {X Y : Type 0} (f : X → Y) (xs ys : List X) → map f (xs ++ ys) ≡ map f xs ++ map f ys
map_behind f [] ys = refl
map_behind f (x ∷ xs) ys = ap (λ (zs : _). f x ∷ zs) (map_behind f xs ys)

all_at : {X : Type 0} (P : X → Type 0) (xs : List X) (k : ℕ) (x : X) → AllByRecursion P xs → slice_get xs k ≡ Some x → P x
all_at P [] k x h e = absurd (let clash : None ≡ Some x = e in cc)
all_at P (y ∷ xs) zero x h e = subst P (unsome y x e) h.0
all_at P (y ∷ xs) (suc k) x h e = all_at P xs k x h.1 e

behind_at : {X : Type 0} (xs : List X) (y : X) (k : ℕ) (x : X) → slice_get (xs ++ y ∷ []) k ≡ Some x → (slice_get xs k ≡ Some x) ⊎ (x ≡ y)
behind_at [] y zero x e = inr (sym (unsome y x e))
behind_at [] y (suc k) x e = absurd (let clash : None ≡ Some x = e in cc)
behind_at (z ∷ xs) y zero x e = inl e
behind_at (z ∷ xs) y (suc k) x e = behind_at xs y k x e

-- ---- the pages whose files are laid by

pub record ArePages (past : JoinHistory) (pages all : List JoinHistory) (endpoint : Endpoint) : Type 0 where
  pub given : List ℕ
  pub files : HasFiles given all endpoint
  pub rest : List (List Frame)
  pub shown : map (λ (q : JoinHistory). q.ended) pages ++ wholes past.ended ≡ map (λ (q : JoinHistory). q.ended) all ++ rest
  pub finished : (k : ℕ) (q : JoinHistory) → slice_get all k ≡ Some q → IsFinished q

laid_done : (task : Task) (o : Outcome) (past : JoinHistory) (a b c : Bool) → is_done o ≡ a → is_batch task ≡ b → is_joined past.ended ≡ c → is_laid task o past ≡ true → (a ≡ true) × (c ≡ true)
laid_done task o past true true true e f g h = (refl, refl)
laid_done task o past true true false e f g h = absurd (let clash : false ≡ true = sym (ap (λ (x : Bool). cond x (cond (is_batch task) (is_joined past.ended) false) false) e ∙ (ap (λ (x : Bool). cond x (is_joined past.ended) false) f ∙ g)) ∙ h in cc)
laid_done task o past true false c e f g h = absurd (let clash : false ≡ true = sym (ap (λ (x : Bool). cond x (cond (is_batch task) (is_joined past.ended) false) false) e ∙ ap (λ (x : Bool). cond x (is_joined past.ended) false) f) ∙ h in cc)
laid_done task o past false b c e f g h = absurd (let clash : false ≡ true = sym (ap (λ (x : Bool). cond x (cond (is_batch task) (is_joined past.ended) false) false) e) ∙ h in cc)

record HasPages (past : JoinHistory) (pages : List JoinHistory) (endpoint : Endpoint) : Type 0 where
  pub all : List JoinHistory
  pub are : ArePages past pages all endpoint

last_finished : (past : JoinHistory) (pages : List JoinHistory) (k : ℕ) (q : JoinHistory) → ((k : ℕ) (q : JoinHistory) → slice_get pages k ≡ Some q → IsFinished q) → IsFinished past → (slice_get pages k ≡ Some q) ⊎ (q ≡ past) → IsFinished q
last_finished past pages k q each last (inl e) = each k q e
last_finished past pages k q each last (inr e) = subst IsFinished (sym e) last

pages_by : (task : Task) (past : JoinHistory) (pages : List JoinHistory) (endpoint : Endpoint) (laid : Bool) → is_laid task endpoint.client.outcome past ≡ laid → KeepsFiles laid past pages endpoint → ((k : ℕ) (q : JoinHistory) → slice_get pages k ≡ Some q → IsFinished q) → (is_done endpoint.client.outcome ≡ true → is_joined past.ended ≡ true → IsFinished past) → HasPages past pages endpoint
pages_by task past pages endpoint false e h each last = record { all = pages; are = record { given = past.given; files = h; rest = wholes past.ended; shown = refl; finished = each } }
pages_by task past pages endpoint true e h each last =
    let d = laid_done task endpoint.client.outcome past (is_done endpoint.client.outcome) (is_batch task) (is_joined past.ended) refl refl refl e in
    let whole : wholes past.ended ≡ past.ended ∷ [] = ap (λ (b : Bool). cond b (past.ended ∷ []) []) d.1 in
    record {
      all = pages ++ past ∷ [];
      are = record {
        given = [];
        files = h;
        rest = [];
        shown = ap (λ (x : List (List Frame)). map (λ (q : JoinHistory). q.ended) pages ++ x) whole ∙ (sym (map_behind (λ (q : JoinHistory). q.ended) pages (past ∷ [])) ∙ sym (append-nil (map (λ (q : JoinHistory). q.ended) (pages ++ past ∷ []))));
        finished = λ k q at. last_finished past pages k q each (last d.0 d.1) (behind_at pages past k q at);
      };
    }

-- ---- their starts

record HasStart (k : Make) (settings : List RequestedSetting) (begins : List Begin) (n : ℕ) (frames : List Frame) : Type 0 where
  pub begin : Begin
  pub at : slice_get begins n ≡ Some begin
  pub picture : IsPictureOfStart k settings begin frames

start_of : (k : Make) (settings : List RequestedSetting) (begins : List Begin) (pages : List (List Frame)) (n : ℕ) (frames : List Frame) → ArePictures k settings begins pages → slice_get pages n ≡ Some frames → HasStart k settings begins n frames
start_of k settings [] [] n frames h e = absurd (let clash : None ≡ Some frames = e in cc)
start_of k settings [] (p ∷ pages) n frames h e = absurd h
start_of k settings (b ∷ begins) [] n frames h e = absurd h
start_of k settings (b ∷ begins) (p ∷ pages) zero frames h e = record { begin = b; at = refl; picture = subst (λ (x : List Frame). IsPictureOfStart k settings b x) (unsome p frames e) h.0 }
start_of k settings (b ∷ begins) (p ∷ pages) (suc n) frames h e = let more = start_of k settings begins pages n frames h.1 e in record { begin = more.begin; at = more.at; picture = more.picture }

pub woken_pages : (st : JobStage) (m : ClientView) → (client_at_greeting st m).pages ≡ m.pages
woken_pages model.Idle m = refl
woken_pages (model.Running g) m = refl
woken_pages model.Done m = refl
woken_pages (model.Ended status why) m = refl

-- ---- a page

page_meant : (t : Ghost) (w : WorldCore) (i k : ℕ) (endpoint : Endpoint) (file : List ℕ) (q : JoinHistory) → WorldRefines t w → slice_get w.endpoints i ≡ Some endpoint → (p : HasPages (t.history i) (t.pages i) endpoint) → slice_get p.all k ≡ Some q → slice_get endpoint.pages k ≡ Some (Some file) → HasScannedPage t i k file
page_meant t w i k endpoint file q h at p is kept =
    let s = h.endpoints i endpoint at in
    let me = t.system.job i in
    let f = p.are.files.each k q is in
    let same : f.0 ≡ Some file = unsome f.0 (Some file) (sym f.1 ∙ kept) in
    let given : file ≡ q.given = subst (λ (x : Option (List ℕ)). KeepsFile endpoint.out_of_memory q.given x) same f.2 in
    let shown : me.client.pages ≡ map (λ (x : JoinHistory). x.ended) p.all ++ p.are.rest = sym (woken_pages me.client.stage me.client) ∙ (s.exchanges.reads.files.all ∙ p.are.shown) in
    let frames : slice_get me.client.pages k ≡ Some q.ended = ap (λ (x : List (List Frame)). slice_get x k) shown ∙ front_at (map (λ (x : JoinHistory). x.ended) p.all) p.are.rest k q.ended (map_at (λ (x : JoinHistory). x.ended) p.all k q is) in
    let r = pages_right t.system i h.sound in
    let start = start_of (make_for t.system i) me.session.job.settings r.0 me.client.pages k q.ended r.3 frames in
    let started : slice_get me.session.started k ≡ Some start.begin = ap (λ (x : List Begin). slice_get x k) r.2 ∙ front_at r.0 r.1 k start.begin start.at in
    record {
      begin = start.begin;
      started = started;
      meant = λ steady. meant_by t w i endpoint start.begin q file h at start.picture steady (all_at (λ (b : Begin). IsPageView b.page) me.session.started k start.begin (h.begun i steady) started) (p.are.finished k q is) given;
    }

by_place : (t : Ghost) (w : WorldCore) (i k : ℕ) (endpoint : Endpoint) (file : List ℕ) → WorldRefines t w → slice_get w.endpoints i ≡ Some endpoint → k < endpoint.finished → slice_get endpoint.pages k ≡ Some (Some file) → (p : HasPages (t.history i) (t.pages i) endpoint) → ((q : JoinHistory) × (slice_get p.all k ≡ Some q)) ⊎ (length p.all ≤ k) → HasScannedPage t i k file
by_place t w i k endpoint file h at low kept p (inl is) = page_meant t w i k endpoint file is.0 h at p is.1 kept
by_place t w i k endpoint file h at low kept p (inr high) = let count : endpoint.finished ≡ length p.all = p.are.files.count in absurd (omega (arith, low, high, count))

pub pages_are_meant : PagesAreMeant
pages_are_meant t w i k endpoint file h at low kept =
    let s = h.endpoints i endpoint at in
    let p = pages_by (t.jobs i).task (t.history i) (t.pages i) endpoint (is_laid (t.jobs i).task endpoint.client.outcome (t.history i)) refl s.exchanges.files s.exchanges.finished s.exchanges.done in
    by_place t w i k endpoint file h at low kept p (there p.all k)
