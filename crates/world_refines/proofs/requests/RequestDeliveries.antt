-- A delivery of requests to the daemon.
use Rattle.std.specs.Prelude.{length, map, min}
use Rattle.std.proofs.Common.{◌≡◌, ◌⊎◌, inl, inr, ◌∙◌, ℕ, suc, List, [], ◌∷◌, ◌++◌, Some, Bool, true, false, refl, sym, ap, subst, append_assoc, length-append, arith}
use Rattle.std.proofs.lemmas.List.{take-append-drop}
use Rattle.page_picture.specs.Shows.{Frame}
use Rattle.wire_format.specs.Limit.{limited_format}
use Rattle.wire_format.specs.Lawful.{SpellsFront}
use Rattle.wire_message.specs.Message.{message_limit, request as request_format}
use Rattle.wire_message.specs.declared.message.Request.{Request as Asked}
use Rattle.wire_message.specs.declared.message.Reply.{Reply}
use Rattle.wire_codec.specs.Decoders.{AreSpelled}
use Rattle.wire_codec.specs.Decoders.{TakenMessage as taken}
use Rattle.option_desc.specs.declared.descriptor.Descriptor.{Descriptor}
use Rattle.saned_requests.specs.declared.request_answer.RequestAnswer.{RequestAnswer}
use Rattle.saned_requests.specs.RequestAnswers.{Answers, RequestContext}
use Rattle.saned_core.specs.Feeding as daemon
use Rattle.saned_core.specs.Feeding.FeedEndsSession.{Garbled, Ended}
use Rattle.saned_core.specs.Feeding.{EndsWith as ends}
use Rattle.scan_job.specs.declared.job.Job.{Job}
use Rattle.net_client.specs.Sending.{requests_text}
use Rattle.client_replies.specs.ProtocolStates.{ProtocolState, target_of}
use Rattle.system_model.specs.AbstractDevices.{AbstractDevice}
use Rattle.system_model.specs.AbstractMessages.{AbstractRequest}
use Rattle.system_model.specs.AbstractSessions.{AbstractSession}
use Rattle.system_model.specs.Devices.{Make}
use Rattle.system_model.specs.Client.{ClientView}
use Rattle.system_model.specs.Deliveries.{Chance, answers}
use Rattle.system_model.specs.SystemStates.{SystemState as Rules}
use Rattle.system_model.specs.Transitions.{IsUnderWay, MayBreak, Transition, after_all, after_transition}
use Rattle.client_refines.specs.RequestRefinement.{AreRequests, IsRequest, asks_of}
use Rattle.daemon_refines.specs.ContextRefinement.{ContextRefines, PlaceRefines, SlotRefines}
use Rattle.daemon_refines.specs.Failures.{IsCounted}
use Rattle.daemon_refines.proofs.FeedRefines.{Back, back_same, faltered}
use Rattle.daemon_refines.proofs.Greeted.{SameWords, answers_end, same_words}
use Rattle.daemon_refines.proofs.Changes.{Held}
use Rattle.dispatch.specs.Table.{Table}
use Rattle.saned_requests.specs.LeaseLaws.{HoldsWell}
use Rattle.world_refines.proofs.requests.Lent.{holds_well}
use Rattle.event_world.specs.JobEvents.{bytes_not_delivered, delivered_bytes}
use Rattle.world_refines.specs.GhostStates.{Ghost, place_of_info}
use Rattle.world_refines.specs.Wires.{SpellsAsked, SpellsReplies}
use Rattle.world_refines.proofs.requests.Closing.{Closed, answers_then, breaks, breaks_behind_one, broken, closed_behind, ends_by_request}
use Rattle.world_refines.proofs.requests.Cut.{asked_first, cut_at, not_garbled, taken_next}
use Rattle.world_refines.specs.WorldRefinement.{session_by}
use Rattle.world_refines.proofs.requests.Folding.{AnswersOne, AreCounted, InContext, IsReadAs, OneRequest, Ran, answers_to, due_none, run_all, spells_none}
use Rattle.world_refines.proofs.requests.AnswersKeep.{stays}
use Rattle.world_refines.proofs.requests.Spelling.{spell_behind}
use Rattle.world_refines.proofs.replies.Offered.{is_asking}
use Rattle.system_model.specs.Invariants.{Invariant}
use Rattle.world_refines.specs.Speaks.{WaitsQuietly}
use Rattle.world_refines.specs.Answering.{HasAllowedOptions, HasUnsaidReply, IsCutShort}

-- ---- the piece

-- what is whole with the piece, the first of those that were sent, and the others
pub record CutPiece (job : Job) (m : ClientView) (todo : List AbstractRequest) (requests : List Asked) (text rest behind : List ℕ) : Type 0 where
  pub first : List AbstractRequest
  pub others : List AbstractRequest
  pub are : todo ≡ first ++ others
  pub of_first : AreRequests (target_of job) requests (asks_of 0 m.known first)
  pub spelled : SpellsAsked job m first text
  pub still : SpellsAsked job m others (rest ++ behind)

pub moved_left : (n : ℕ) (up : List ℕ) → up ≡ delivered_bytes n up ++ bytes_not_delivered n up
moved_left n up = sym (take-append-drop (min n 4096) up)

pub cut_piece : (job : Job) (m : ClientView) (todo : List AbstractRequest) (asking up : List ℕ) (n : ℕ) (requests : List Asked) (text rest : List ℕ) → SpellsAsked job m todo (asking ++ up) → asking ++ delivered_bytes n up ≡ text ++ rest → AreSpelled (map (λ q. taken.TakenRequest q) requests) text →
    CutPiece job m todo requests text rest (bytes_not_delivered n up)
cut_piece job m todo asking up n requests text rest s whole spelled =
    let all : asking ++ up ≡ text ++ (rest ++ bytes_not_delivered n up) =
    ap (λ (x : List ℕ). asking ++ x) (moved_left n up) ∙ (sym (append_assoc asking (delivered_bytes n up) (bytes_not_delivered n up)) ∙ (ap (λ (x : List ℕ). x ++ bytes_not_delivered n up) whole ∙ append_assoc text rest (bytes_not_delivered n up))) in
    let c = cut_at s.requests requests (asking ++ up) text (rest ++ bytes_not_delivered n up) s.text spelled all in
    let a = asked_first (target_of job) 0 m.known requests c.later todo (subst (λ (qs : List Asked). AreRequests (target_of job) qs (asks_of 0 m.known todo)) c.are s.same) in
    record {
      first = a.first;
      others = a.others;
      are = a.are;
      of_first = a.of_first;
      spelled = record { requests = requests; text = c.first; same = a.of_first };
      still = record { requests = c.later; text = c.text; same = a.of_others };
    }

-- the request in front of the rest
pub record CutNext (job : Job) (m : ClientView) (others : List AbstractRequest) (q : Asked) (front rest behind : List ℕ) : Type 0 where
  pub next : AbstractRequest
  pub later : List AbstractRequest
  pub are : others ≡ next ∷ later
  pub is : IsRequest (target_of job) 0 m.known q next
  pub spelled : SpellsAsked job m (next ∷ []) front

next_by : (job : Job) (m : ClientView) (others : List AbstractRequest) (q : Asked) (later : List Asked) (front rest behind : List ℕ) → requests_text (q ∷ []) ≡ Some front → AreRequests (target_of job) (q ∷ later) (asks_of 0 m.known others) → CutNext job m others q front rest behind
next_by job m [] q later front rest behind text a = absurd a
next_by job m (r ∷ others) q later front rest behind text a = record { next = r; later = others; are = refl; is = a.0; spelled = record { requests = q ∷ []; text = text; same = (a.0, tt) } }

pub cut_next : (job : Job) (m : ClientView) (others : List AbstractRequest) (rest behind left_over : List ℕ) (q : Asked) → SpellsAsked job m others (rest ++ behind) → (t : SpellsFront (limited_format message_limit request_format) rest left_over q) → CutNext job m others q t.text left_over behind
cut_next job m others rest behind left_over q s t =
    let c = taken_next s.requests rest left_over behind q s.text t in
    next_by job m others q c.later t.text left_over behind c.first (subst (λ (qs : List Asked). AreRequests (target_of job) qs (asks_of 0 m.known others)) c.are s.same)

-- ---- how many

pub same_count : (job : Job) (m : ClientView) (qs : List Asked) (first : List AbstractRequest) → AreRequests (target_of job) qs (asks_of 0 m.known first) → length qs ≡ length first
same_count job m [] [] a = refl
same_count job m [] (r ∷ first) a = absurd a
same_count job m (q ∷ qs) [] a = absurd a
same_count job m (q ∷ qs) (r ∷ first) a = ap suc (same_count job m qs first a.1)

-- ---- the session is over in it

-- a source that fails in the only answer has counted that, and what is held behind it are leases of the table
abbrev pub IsCountedAlone : RequestContext → List Chance → RequestContext → Type 0
IsCountedAlone d [] new = Unit {0}
IsCountedAlone d (chance ∷ []) new = IsCounted d.session.held new.session.held 0 chance.1 × HoldsWell new.registry new.session.held
IsCountedAlone d (chance ∷ other ∷ chances) new = Unit {0}

pub counted_alone : (d new : RequestContext) (chances : List Chance) → HoldsWell new.registry new.session.held → AreCounted d chances new → IsCountedAlone d chances new
counted_alone d new [] well c = tt
counted_alone d new (chance ∷ []) well (mid, counted, is) = (subst (λ (x : RequestContext). IsCounted d.session.held x.session.held 0 chance.1) (sym is) counted, well)
counted_alone d new (chance ∷ other ∷ chances) well c = tt

-- behind others it is not the only one
counted_behind : (d mid new : RequestContext) (chances : List Chance) (chance : Chance) → AreCounted d chances mid → IsCounted mid.session.held new.session.held 0 chance.1 → HoldsWell new.registry new.session.held → IsCountedAlone d (chances ++ chance ∷ []) new
counted_behind d mid new [] chance is counted well = (subst (λ (x : RequestContext). IsCounted x.session.held new.session.held 0 chance.1) is counted, well)
counted_behind d mid new (first ∷ []) chance c counted well = tt
counted_behind d mid new (first ∷ other ∷ chances) chance c counted well = tt

-- where another request was to come none was answered
none_counted : (d new : RequestContext) (todo first later : List AbstractRequest) (next r : AbstractRequest) (chances : List Chance) → todo ≡ first ++ next ∷ later → todo ≡ r ∷ [] → length chances ≡ length first → IsCountedAlone d chances new
none_counted d new todo first later next r [] are only count = tt
none_counted d new todo first later next r (chance ∷ []) are only count =
    let all : 1 ≡ length (first ++ next ∷ later) = ap length (sym only ∙ are) in
    let both = length-append first (next ∷ later) in absurd (omega (arith, all, both, count))
none_counted d new todo first later next r (chance ∷ other ∷ chances) are only count = tt

-- the first of these requests has a reply that could not be said
pub record UnsaidAt (t : Ghost) (i : ℕ) (d : RequestContext) (todo : List AbstractRequest) : Type 0 where
  pub next : AbstractRequest
  pub later : List AbstractRequest
  pub todo_is : todo ≡ next ∷ later
  pub request : Asked
  pub is : IsRequest (target_of (t.jobs i)) 0 (t.system.job i).client.known request next
  pub said : RequestAnswer
  pub then_is : RequestContext
  pub answers : Answers t.users d request said then_is
  pub front : List Reply
  pub reply : Reply
  pub behind : List Reply
  pub among : daemon.replies_to said ≡ front ++ reply ∷ behind
  pub unsaid : daemon.IsUnsaid reply

-- the requests that were answered, what is left behind them, and what became of the session
pub record Parts (t : Ghost) (i : ℕ) (d : RequestContext) (todo : List AbstractRequest) (came : List ℕ) (memory : Bool) (new : RequestContext) : Type 0 where
  pub asked : List AbstractRequest
  pub later : List AbstractRequest
  pub rest : List ℕ
  pub text : List ℕ
  pub whole : came ≡ text ++ rest
  pub are : todo ≡ asked ++ later
  pub spelled : SpellsAsked (t.jobs i) (t.system.job i).client asked text
  pub chances : List Chance
  pub count : length chances ≡ length asked
  pub steps : List Transition
  pub counted : (r : AbstractRequest) → todo ≡ r ∷ [] → IsCountedAlone d chances new
  pub steps_are : ((memory ≡ false) × (steps ≡ answers i chances)) ⊎ (IsCutShort memory t.users t.infos (t.jobs i) × (steps ≡ answers i chances ++ broken i memory ∷ []))
  pub cut : memory ≡ false → (steps ≡ answers i chances) ⊎ (IsUnderWay (t.system.job i).client.stage → UnsaidAt t i d todo)
  pub closed : Closed t i t.system d steps memory new

more_count : {X Y : Type 0} (xs : List X) (ys : List Y) (x : X) (y : Y) → length xs ≡ length ys → length (xs ++ x ∷ []) ≡ length (ys ++ y ∷ [])
more_count xs ys x y e = let a = length-append xs (x ∷ []) in let b = length-append ys (y ∷ []) in omega (arith, a, b, e)

spelled_more : (job : Job) (m : ClientView) (first : List AbstractRequest) (next : AbstractRequest) (front back : List ℕ) → SpellsAsked job m first front → SpellsAsked job m (next ∷ []) back → SpellsAsked job m (first ++ next ∷ []) (front ++ back)
spelled_more job m first next front back a b = spell_behind (target_of job) 0 m.known front back first (next ∷ []) a b

known_far : (t : Ghost) (i : ℕ) (d mid : RequestContext) (qs : List Asked) (later : List AbstractRequest) (told : List Reply) (r : Ran t i t.system d qs later told mid) → ((after_all t.system (answers i r.chances)).job i).client.known ≡ (t.system.job i).client.known
known_far t i d mid qs later told r = ap (λ (m : ClientView). m.known) (stays i t.system r.chances).own.client

may_far : (t : Ghost) (i : ℕ) (d mid : RequestContext) (qs : List Asked) (later : List AbstractRequest) (told : List Reply) (r : Ran t i t.system d qs later told mid) → MayBreak (t.system.job i).client.stage → MayBreak ((after_all t.system (answers i r.chances)).job i).client.stage
may_far t i d mid qs later told r may = subst (λ (m : ClientView). MayBreak m.stage) (sym (stays i t.system r.chances).own.client) may

-- what was read so far, and one more request
record OneMore (t : Ghost) (i : ℕ) (d mid : RequestContext) (todo : List AbstractRequest) (came : List ℕ) (q : Asked) : Type 0 where
  first : List AbstractRequest
  next : AbstractRequest
  later : List AbstractRequest
  text : List ℕ
  behind : List ℕ
  whole : came ≡ text ++ behind
  are : todo ≡ (first ++ next ∷ []) ++ later
  spelled : SpellsAsked (t.jobs i) (t.system.job i).client (first ++ next ∷ []) text
  is : IsRequest (target_of (t.jobs i)) 0 (t.system.job i).client.known q next
  qs : List Asked
  told : List Reply
  ran : Ran t i t.system d qs (next ∷ later) told mid
  count : length ran.chances ≡ length first

-- what is held by a request context that is shown
well_of : (t : Ghost) (i : ℕ) (s : Rules) (d : RequestContext) → InContext t i s d → HoldsWell d.registry d.session.held
well_of t i s d h = holds_well i s.make d.session.held d.registry s.device h.shows.devices

same_well : (mid new : RequestContext) → SameWords mid new → HoldsWell mid.registry mid.session.held → HoldsWell new.registry new.session.held
same_well mid new same h = subst (λ (t : Table). HoldsWell t new.session.held) (sym same.registry) (subst (λ (x : Held). HoldsWell mid.registry x) (sym same.held) h)

-- behind it the session is over
by_request : (t : Ghost) (i : ℕ) (d mid new : RequestContext) (todo : List AbstractRequest) (came : List ℕ) (q : Asked) (said : RequestAnswer) → OneRequest t i → (o : OneMore t i d mid todo came q) → Answers t.users mid q said new → daemon.session_goes_on said ≡ false → Parts t i d todo came false new
by_request t i d mid new todo came q said one o g off =
    let r = o.ran in
    let far = after_all t.system (answers i r.chances) in
    let known = known_far t i d mid o.qs (o.next ∷ o.later) o.told r in
    let a = one far mid new q o.next o.later said r.in_context r.todo (subst (λ (k : List Descriptor). IsRequest (target_of (t.jobs i)) 0 k q o.next) (sym known) o.is) g in
    let chance : Chance = (a.challenge, a.fault) in
    let c = closed_behind t i t.system d mid new r.chances (answers i (chance ∷ [])) false r.legal r.others (ends_by_request t i far mid new q o.next o.later said r.in_context r.todo g off a) in
    record {
      asked = o.first ++ o.next ∷ [];
      later = o.later;
      rest = o.behind;
      text = o.text;
      whole = o.whole;
      are = o.are;
      spelled = o.spelled;
      chances = r.chances ++ chance ∷ [];
      count = more_count r.chances o.first chance o.next o.count;
      steps = answers i (r.chances ++ chance ∷ []);
      counted = λ only todo_is. counted_behind d mid new r.chances chance r.counted a.counted (same_well mid new (answers_end t.users mid q said new g off) (well_of t i far mid r.in_context));
      steps_are = inl (refl, refl);
      cut = λ e. inl refl;
      closed = subst (λ (xs : List Transition). Closed t i t.system d xs false new) (sym (answers_then i r.chances (chance ∷ []))) c;
    }

-- behind it the session breaks off
by_break : (t : Ghost) (i : ℕ) (d mid new : RequestContext) (todo : List AbstractRequest) (came : List ℕ) (q : Asked) (said : RequestAnswer) (memory : Bool) → OneRequest t i → MayBreak (t.system.job i).client.stage → (o : OneMore t i d mid todo came q) → Answers t.users mid q said new → daemon.session_goes_on said ≡ true → IsCutShort memory t.users t.infos (t.jobs i) → (memory ≡ false → IsUnderWay (t.system.job i).client.stage → UnsaidAt t i d todo) → Parts t i d todo came memory new
by_break t i d mid new todo came q said memory one may o g on cut unsaid =
    let r = o.ran in
    let far = after_all t.system (answers i r.chances) in
    let known = known_far t i d mid o.qs (o.next ∷ o.later) o.told r in
    let a = one far mid new q o.next o.later said r.in_context r.todo (subst (λ (k : List Descriptor). IsRequest (target_of (t.jobs i)) 0 k q o.next) (sym known) o.is) g in
    let chance : Chance = (a.challenge, a.fault) in
    let still : MayBreak (far.job i).client.stage = may_far t i d mid o.qs (o.next ∷ o.later) o.told r may in
    let c = closed_behind t i t.system d mid new r.chances (answers i (chance ∷ []) ++ broken i memory ∷ []) memory r.legal r.others (breaks_behind_one t i far mid new o.next o.later said memory r.in_context r.todo still on a) in
    let is : answers i r.chances ++ (answers i (chance ∷ []) ++ broken i memory ∷ []) ≡ answers i (r.chances ++ chance ∷ []) ++ broken i memory ∷ [] =
    sym (append_assoc (answers i r.chances) (answers i (chance ∷ [])) (broken i memory ∷ [])) ∙ ap (λ (xs : List Transition). xs ++ broken i memory ∷ []) (sym (answers_then i r.chances (chance ∷ []))) in
    record {
      asked = o.first ++ o.next ∷ [];
      later = o.later;
      rest = o.behind;
      text = o.text;
      whole = o.whole;
      are = o.are;
      spelled = o.spelled;
      chances = r.chances ++ chance ∷ [];
      count = more_count r.chances o.first chance o.next o.count;
      steps = answers i (r.chances ++ chance ∷ []) ++ broken i memory ∷ [];
      counted = λ only todo_is. counted_behind d mid new r.chances chance r.counted a.counted (well_of t i (after_transition far (answers_to i a.challenge a.fault)) new (a.on on));
      steps_are = inr (cut, refl);
      cut = λ e. inr (unsaid e);
      closed = subst (λ (xs : List Transition). Closed t i t.system d xs memory new) is c;
    }

-- ---- a piece, as the daemon's contract tells it

-- what was read and answered so far
record SoFar (t : Ghost) (i : ℕ) (d mid : RequestContext) (todo : List AbstractRequest) (came rest behind : List ℕ) (told : List Reply) : Type 0 where
  first : List AbstractRequest
  others : List AbstractRequest
  text : List ℕ
  whole : came ≡ text ++ rest
  are : todo ≡ first ++ others
  spelled : SpellsAsked (t.jobs i) (t.system.job i).client first text
  still : SpellsAsked (t.jobs i) (t.system.job i).client others (rest ++ behind)
  qs : List Asked
  ran : Ran t i t.system d qs others told mid
  lengths : length qs ≡ length first

so_far : (t : Ghost) (i : ℕ) (d mid : RequestContext) (asking up : List ℕ) (n : ℕ) (rest text : List ℕ) → OneRequest t i → InContext t i t.system d → SpellsAsked (t.jobs i) (t.system.job i).client (t.system.job i).todo (asking ++ up) → (g : daemon.AnsweredSoFar (record { users = t.users; context = d; before = asking; piece = delivered_bytes n up }) (record { context = mid; rest = rest; text = text })) →
    SoFar t i d mid (t.system.job i).todo (asking ++ delivered_bytes n up) rest (bytes_not_delivered n up) g.told
so_far t i d mid asking up n rest text one h spells g =
    let c = cut_piece (t.jobs i) (t.system.job i).client (t.system.job i).todo asking up n g.requests g.reads.text rest spells g.reads.whole g.reads.spelled in
    let ran = run_all t i one t.system d mid g.requests c.first c.others g.told h c.are c.of_first g.answers in
    record {
      first = c.first;
      others = c.others;
      text = g.reads.text;
      whole = g.reads.whole;
      are = c.are;
      spelled = c.spelled;
      still = c.still;
      qs = g.requests;
      ran = ran;
      lengths = same_count (t.jobs i) (t.system.job i).client g.requests c.first c.of_first;
    }

abbrev one_more : (t : Ghost) (i : ℕ) (d mid : RequestContext) (todo : List AbstractRequest) (came rest behind left_over : List ℕ) (told : List Reply) (q : Asked) → SoFar t i d mid todo came rest behind told → SpellsFront (limited_format message_limit request_format) rest left_over q → OneMore t i d mid todo came q
one_more t i d mid todo came rest behind left_over told q f k =
    let m = (t.system.job i).client in
    let n = cut_next (t.jobs i) m f.others rest behind left_over q f.still k in
    let r = subst (λ (x : List AbstractRequest). Ran t i t.system d f.qs x told mid) n.are f.ran in
    record {
      first = f.first;
      next = n.next;
      later = n.later;
      text = f.text ++ k.text;
      behind = left_over;
      whole = f.whole ∙ (ap (λ (x : List ℕ). f.text ++ x) k.whole ∙ sym (append_assoc f.text k.text left_over));
      are = f.are ∙ (ap (λ (x : List AbstractRequest). f.first ++ x) n.are ∙ sym (append_assoc f.first (n.next ∷ []) n.later));
      spelled = spelled_more (t.jobs i) m f.first n.next f.text k.text f.spelled n.spelled;
      is = n.is;
      qs = f.qs;
      told = told;
      ran = r;
      count = r.count ∙ f.lengths;
    }

-- ---- it is over

-- to a client that is under way nothing was said
abbrev pub IsSilent : Ghost → ℕ → List ℕ → Type 0
IsSilent t i text = IsUnderWay (t.system.job i).client.stage → (pages : List (List Frame)) (protocol : ProtocolState) → IsReadAs t i t.system pages protocol → WaitsQuietly protocol.progress (t.system.job i).todo → (front : List ℕ) → SpellsReplies (place_of_info t.infos) protocol.progress (t.system.job i).due front → front ++ text ≡ []

none_said : (told : List Reply) (text : List ℕ) → told ≡ [] → daemon.SaysAll told text → text ≡ []
none_said told text e h = subst (λ (x : List Reply). daemon.SaysAll x text) e h

last_silent : (t : Ghost) (i : ℕ) (s : Rules) (d new : RequestContext) (said : RequestAnswer) (told : List Reply) (back : List ℕ) → AnswersOne t i s d said new → IsUnderWay (s.job i).client.stage → daemon.EndsWith said told → daemon.SaysAll told back → back ≡ []
last_silent t i s d new said told back a u (ends.Done off is) says = none_said told back (is ∙ (a.silent off).0) says
last_silent t i s d new said told back a u (ends.Cut before behind reply e unsaid is) says = none_said told back (is ∙ a.cut u before behind reply e unsaid) says

over_silent : (t : Ghost) (i : ℕ) (d mid new : RequestContext) (todo : List AbstractRequest) (came front back : List ℕ) (q : Asked) (said : RequestAnswer) (last : List Reply) → OneRequest t i → (o : OneMore t i d mid todo came q) → Answers t.users mid q said new → daemon.EndsWith said last → daemon.SaysAll o.told front → daemon.SaysAll last back → IsSilent t i (front ++ back)
over_silent t i d mid new todo came front back q said last one o g ended says_front says_back = λ u pages protocol reads waits f spells.
    let r = o.ran in
    let far = after_all t.system (answers i r.chances) in
    let known = known_far t i d mid o.qs (o.next ∷ o.later) o.told r in
    let a = one far mid new q o.next o.later said r.in_context r.todo (subst (λ (k : List Descriptor). IsRequest (target_of (t.jobs i)) 0 k q o.next) (sym known) o.is) g in
    let under : IsUnderWay (far.job i).client.stage = subst (λ (m : ClientView). IsUnderWay m.stage) (sym (stays i t.system r.chances).own.client) u in
    let none = due_none t i far mid o.next o.later r.in_context under r.todo in
    let empty : f ++ front ≡ [] = spells_none t protocol.progress (far.job i).due (f ++ front) none (r.told_are u pages protocol reads waits f front spells says_front) in
    let last_empty : back ≡ [] = last_silent t i far mid new said last back a under ended says_back in
    sym (append_assoc f front back) ∙ (ap (λ (x : List ℕ). x ++ back) empty ∙ last_empty)

pub record IsOverSo (t : Ghost) (i : ℕ) (d new : RequestContext) (came text : List ℕ) : Type 0 where
  pub parts : Parts t i d (t.system.job i).todo came false new
  pub silent : IsSilent t i text

-- the devices of a request context have options within their limits
allowed_there : (i : ℕ) (make : ℕ → Make) (d : RequestContext) (table : ℕ → AbstractDevice) (s : AbstractSession) → ContextRefines i make d table s → HasAllowedOptions d
allowed_there i make d table s shows =
    record {
      lying = λ k p t at is. (subst (SlotRefines i (make k) d.session.held k (table k) p.info.name) is (subst (PlaceRefines i (make k) d.session.held k (table k)) at (shows.devices.places k))).1.allowed;
      held = λ w l at. (shows.devices.leases w l at).made.allowed;
    }

-- a session that its request did not end was cut short at a reply to it
cut_by : (t : Ghost) (i : ℕ) (d mid new : RequestContext) (todo : List AbstractRequest) (came : List ℕ) (q : Asked) (said : RequestAnswer) (last : List Reply) → OneMore t i d mid todo came q → Answers t.users mid q said new → daemon.session_goes_on said ≡ true → daemon.EndsWith said last → HasUnsaidReply t.users t.infos (t.jobs i)
cut_by t i d mid new todo came q said last o g on (ends.Done off is) = absurd (let clash : true ≡ false = sym on ∙ off in cc)
cut_by t i d mid new todo came q said last o g on (ends.Cut before behind reply at unsaid is) =
    record {
      context = mid;
      devices = o.ran.in_context.infos;
      allowed = allowed_there i (after_all t.system (answers i o.ran.chances)).make mid (after_all t.system (answers i o.ran.chances)).device _ o.ran.in_context.shows;
      request = q;
      known = (t.system.job i).client.known;
      asked = o.next;
      is = o.is;
      said = said;
      then_is = new;
      answers = g;
      before = before;
      reply = reply;
      behind = behind;
      among = at;
      unsaid = unsaid;
    }

-- of a job that is under way that is its only request, in front of which nothing was answered
only_first : (t : Ghost) (i : ℕ) (first : List AbstractRequest) (next : AbstractRequest) (later : List AbstractRequest) → Invariant t.system → IsUnderWay (t.system.job i).client.stage → (t.system.job i).served ≡ true → (t.system.job i).todo ≡ (first ++ next ∷ []) ++ later → first ≡ []
only_first t i [] next later sound on served e = refl
only_first t i (x ∷ first) next later sound on served e = absurd (some_left first next later (is_asking i t.system x ((first ++ next ∷ []) ++ later) sound on served e).none)
  where
    some_left : (first : List AbstractRequest) (next : AbstractRequest) (later : List AbstractRequest) → (first ++ next ∷ []) ++ later ≡ [] → ⊥
    some_left [] next later e = let clash : next ∷ later ≡ [] = e in cc
    some_left (x ∷ first) next later e = let clash : x ∷ ((first ++ next ∷ []) ++ later) ≡ [] = e in cc

none_ran : (d mid : RequestContext) (chances : List Chance) → length chances ≡ 0 → AreCounted d chances mid → mid ≡ d
none_ran d mid [] none c = c
none_ran d mid (chance ∷ chances) none c = absurd (omega (arith, none))

unsaid_at : (t : Ghost) (i : ℕ) (d mid new : RequestContext) (came : List ℕ) (q : Asked) (said : RequestAnswer) (last : List Reply) → InContext t i t.system d → OneMore t i d mid (t.system.job i).todo came q → Answers t.users mid q said new → daemon.session_goes_on said ≡ true → daemon.EndsWith said last → IsUnderWay (t.system.job i).client.stage → UnsaidAt t i d (t.system.job i).todo
unsaid_at t i d mid new came q said last h o g on (ends.Done off is) under = absurd (let clash : true ≡ false = sym on ∙ off in cc)
unsaid_at t i d mid new came q said last h o g on (ends.Cut before behind reply at unsaid is) under =
    let none = only_first t i o.first o.next o.later h.sound under h.served o.are in
    let same : mid ≡ d = none_ran d mid o.ran.chances (o.count ∙ ap length none) o.ran.counted in
    record {
      next = o.next;
      later = o.later;
      todo_is = o.are ∙ ap (λ (xs : List AbstractRequest). (xs ++ o.next ∷ []) ++ o.later) none;
      request = q;
      is = o.is;
      said = said;
      then_is = new;
      answers = subst (λ (x : RequestContext). Answers t.users x q said new) same g;
      front = before;
      reply = reply;
      behind = behind;
      among = at;
      unsaid = unsaid;
    }

over_by : (t : Ghost) (i : ℕ) (d mid new : RequestContext) (todo : List AbstractRequest) (came : List ℕ) (q : Asked) (said : RequestAnswer) (last : List Reply) (b : Bool) → daemon.session_goes_on said ≡ b → OneRequest t i → MayBreak (t.system.job i).client.stage → OneMore t i d mid todo came q → Answers t.users mid q said new → daemon.EndsWith said last → (daemon.session_goes_on said ≡ true → IsUnderWay (t.system.job i).client.stage → UnsaidAt t i d todo) → Parts t i d todo came false new
over_by t i d mid new todo came q said last true e one may o g ended unsaid = by_break t i d mid new todo came q said false one may o g e (cut_by t i d mid new todo came q said last o g e ended) (λ no. unsaid e)
over_by t i d mid new todo came q said last false e one may o g ended unsaid = by_request t i d mid new todo came q said one o g e

closed_so : (t : Ghost) (i : ℕ) (d mid new : RequestContext) (came rest behind front back : List ℕ) (told last : List Reply) → OneRequest t i → InContext t i t.system d → MayBreak (t.system.job i).client.stage → SoFar t i d mid (t.system.job i).todo came rest behind told → daemon.SaysAll told front → daemon.SaysAll last back →
    daemon.FeedEndsSession t.users mid rest last new → IsOverSo t i d new came (front ++ back)
closed_so t i d mid new came rest behind front back told last one h may f says_front says_back (Garbled nay none is) = absurd (not_garbled f.still.requests rest behind f.still.text nay)
closed_so t i d mid new came rest behind front back told last one h may f says_front says_back (Ended left_over q said k g ended) =
    let o = one_more t i d mid (t.system.job i).todo came rest behind left_over told q f k in
    record {
      parts = over_by t i d mid new (t.system.job i).todo came q said last (daemon.session_goes_on said) refl one may o g ended (λ on. unsaid_at t i d mid new came q said last h o g on ended);
      silent = over_silent t i d mid new (t.system.job i).todo came front back q said last one o g ended says_front says_back;
    }

pub is_over : (t : Ghost) (i : ℕ) (d new : RequestContext) (asking up : List ℕ) (n : ℕ) (text : List ℕ) → OneRequest t i → InContext t i t.system d → MayBreak (t.system.job i).client.stage → SpellsAsked (t.jobs i) (t.system.job i).client (t.system.job i).todo (asking ++ up) →
    daemon.FeedsOver (record { users = t.users; context = d; before = asking; piece = delivered_bytes n up }) new text → IsOverSo t i d new (asking ++ delivered_bytes n up) text
is_over t i d new asking up n text one h may spells g =
    let f = so_far t i d g.mid asking up n g.rest g.front one h spells g.so_far in
    subst (IsOverSo t i d new (asking ++ delivered_bytes n up)) (sym g.text_is) (closed_so t i d g.mid new (asking ++ delivered_bytes n up) g.rest (bytes_not_delivered n up) g.front g.back g.so_far.told g.last one h may f g.so_far.says g.says g.closes)

-- ---- it runs out of memory

at_once : (t : Ghost) (i : ℕ) (d mid new : RequestContext) (todo : List AbstractRequest) (came rest behind : List ℕ) (told : List Reply) → MayBreak (t.system.job i).client.stage → (f : SoFar t i d mid todo came rest behind told) →
    ((r : AbstractRequest) → todo ≡ r ∷ [] → IsCountedAlone d f.ran.chances new) → Back i (after_all t.system (answers i f.ran.chances)).make mid (after_all t.system (answers i f.ran.chances)).device new → Parts t i d todo came true new
at_once t i d mid new todo came rest behind told may f counted back =
    let r = f.ran in
    let far = after_all t.system (answers i r.chances) in
    let still : MayBreak (far.job i).client.stage = may_far t i d mid f.qs f.others told r may in
    record {
      asked = f.first;
      later = f.others;
      rest = rest;
      text = f.text;
      whole = f.whole;
      are = f.are;
      spelled = f.spelled;
      chances = r.chances;
      count = r.count ∙ f.lengths;
      steps = answers i r.chances ++ broken i true ∷ [];
      counted = counted;
      steps_are = inr (tt, refl);
      cut = λ e. absurd (let clash : true ≡ false = e in cc);
      closed = closed_behind t i t.system d mid new r.chances (broken i true ∷ []) true r.legal r.others (breaks t i far mid new true r.in_context still (λ nay. absurd (let clash : true ≡ false = nay in cc)) back);
    }

-- another request is whole behind them
none_so_far : (t : Ghost) (i : ℕ) (d mid new : RequestContext) (todo : List AbstractRequest) (came rest behind left_over : List ℕ) (told : List Reply) (q : Asked) → (f : SoFar t i d mid todo came rest behind told) → SpellsFront (limited_format message_limit request_format) rest left_over q →
    (r : AbstractRequest) → todo ≡ r ∷ [] → IsCountedAlone d f.ran.chances new
none_so_far t i d mid new todo came rest behind left_over told q f k r only =
    let n = cut_next (t.jobs i) (t.system.job i).client f.others rest behind left_over q f.still k in
    none_counted d new todo f.first n.later n.next r f.ran.chances (f.are ∙ ap (λ (x : List AbstractRequest). f.first ++ x) n.are) only (f.ran.count ∙ f.lengths)

starved_by : (t : Ghost) (i : ℕ) (d mid new : RequestContext) (todo : List AbstractRequest) (came rest behind left_over : List ℕ) (told : List Reply) (q : Asked) → OneRequest t i → MayBreak (t.system.job i).client.stage → (f : SoFar t i d mid todo came rest behind told) → SpellsFront (limited_format message_limit request_format) rest left_over q →
    Back i (after_all t.system (answers i f.ran.chances)).make mid (after_all t.system (answers i f.ran.chances)).device new ⊎ ((said : RequestAnswer) × Answers t.users mid q said new) → Parts t i d todo came true new
starved_by t i d mid new todo came rest behind left_over told q one may f k (inl back) = at_once t i d mid new todo came rest behind told may f (none_so_far t i d mid new todo came rest behind left_over told q f k) back
starved_by t i d mid new todo came rest behind left_over told q one may f k (inr g) = by_end (daemon.session_goes_on g.0) refl
  where
    by_end : (b : Bool) → daemon.session_goes_on g.0 ≡ b → Parts t i d todo came true new
    by_end true e = by_break t i d mid new todo came q g.0 true one may (one_more t i d mid todo came rest behind left_over told q f k) g.1 e tt (λ no. absurd (let clash : true ≡ false = no in cc))
    by_end false e =
        let far = after_all t.system (answers i f.ran.chances) in
        at_once t i d mid new todo came rest behind told may f (none_so_far t i d mid new todo came rest behind left_over told q f k) (back_same i far.make mid far.device (session_by i far.device (far.job i)) new f.ran.in_context.shows (answers_end t.users mid q g.0 new g.1 e))

starved_so : (t : Ghost) (i : ℕ) (d mid new : RequestContext) (todo : List AbstractRequest) (came rest behind : List ℕ) (told : List Reply) → OneRequest t i → MayBreak (t.system.job i).client.stage → SoFar t i d mid todo came rest behind told → (new ≡ mid) ⊎ daemon.OutOfMemoryNext t.users mid rest new → Parts t i d todo came true new
starved_so t i d mid new todo came rest behind told one may f (inl is) =
    let far = after_all t.system (answers i f.ran.chances) in
    at_once t i d mid new todo came rest behind told may f (λ r only. subst (IsCountedAlone d f.ran.chances) (sym is) (counted_alone d mid f.ran.chances (well_of t i far mid f.ran.in_context) f.ran.counted)) (back_same i far.make mid far.device (session_by i far.device (far.job i)) new f.ran.in_context.shows (same_words mid mid new is refl refl))
starved_so t i d mid new todo came rest behind told one may f (inr g) =
    let far = after_all t.system (answers i f.ran.chances) in
    starved_by t i d mid new todo came rest behind g.left told g.request one may f g.takes (faltered i far.make t.users mid far.device (session_by i far.device (far.job i)) g.request new f.ran.in_context.shows g.out_of_memory)

pub is_starved : (t : Ghost) (i : ℕ) (d new : RequestContext) (asking up : List ℕ) (n : ℕ) → OneRequest t i → InContext t i t.system d → MayBreak (t.system.job i).client.stage → SpellsAsked (t.jobs i) (t.system.job i).client (t.system.job i).todo (asking ++ up) →
    daemon.FeedOutOfMemory (record { users = t.users; context = d; before = asking; piece = delivered_bytes n up }) new → Parts t i d (t.system.job i).todo (asking ++ delivered_bytes n up) true new
is_starved t i d new asking up n one h may spells g =
    let f = so_far t i d g.mid asking up n g.rest g.text one h spells g.so_far in
    starved_so t i d g.mid new (t.system.job i).todo (asking ++ delivered_bytes n up) g.rest (bytes_not_delivered n up) g.so_far.told one may f g.out_of_memory
