-- The value that is given to a setting, or told of an option, comes back from the wire as it is.
use Rattle.std.specs.Prelude.{FitsSigned, bytes_eq, if◌then◌else◌, ◌==◌, ◌&&◌, not, is_none, option_and_then, option_map, codes}
use Rattle.std.specs.Int.{w32}
use Rattle.std.specs.List.{AllByRecursion, list_any}
use Rattle.std.proofs.Common.{◌≡◌, ◌∙◌, ℕ, suc, ℤ, ◌+◌, List, [], ◌∷◌, Option, Some, None, Bool, true, false, refl, sym, ap, subst, slice_get, arith}
use Rattle.std.proofs.lemmas.Option.{slice_get-map}
use Rattle.sane_fixed.specs.declared.kind.Kind.{Kind}
use Rattle.sane_fixed.specs.declared.kind.Kind.TheVariants as kinds
use Rattle.option_desc.specs.declared.descriptor.Descriptor.{Descriptor}
use Rattle.option_desc.specs.declared.value.Value.{Value}
use Rattle.option_desc.specs.declared.value.Value.TheVariants.{Flag, Int, Fixed, Words, Text}
use Rattle.option_desc.specs.Put.{NearestValue}
use Rattle.option_desc.specs.Reads.{pieces_of, read_value, read_as, word_in, words_in}
use Rattle.scan_frames.specs.declared.setup.Setup.{Setup}
use Rattle.device_api.specs.ScannerLimits.{IsAllowed}
use Rattle.device_api.specs.declared.scan_option.ScanOption.{ScanOption}
use Rattle.device_api.specs.Options.{descriptor_of, descriptors_of, is_active, option_at, option_caps, option_kind, option_size, options_of}
use Rattle.sane_fixed.specs.Cap.{has_cap}
use Rattle.device_api.specs.Values.{get_result, option_got, option_value, option_passing}
use Rattle.scan_job.specs.KnownValues.{has_one_value}
use Rattle.client_replies.specs.ReplyTurns.{of_kind, wants_value}
use Rattle.client_replies.specs.GivenValues.{given_like, wire_value_in}
use Rattle.wire_message.specs.WireValues.{wire_of}
use Rattle.system_model.specs.Devices as rules
use Rattle.system_model.specs.Devices.{IsNearest, Make, AbstractAcceptedSet, is_answered_value, accept_value, has_readable_value, readable_value, value_or_false}
use Rattle.system_model.proofs.Laws.{is_nearest}
use Rattle.scan_laws.specs.NearestSet.{GivesNearest}
use Rattle.client_refines.specs.ClientRefinement.{descs, values_wanted_from}
use Rattle.daemon_refines.proofs.Moved.{unsome}
use Rattle.device_api.proofs.OptionForms.{OptionForm, form_of}
use Rattle.device_api.proofs.OptionForms.OptionForm.{OneInt, OneFixed, OneFlag, OneText, Table}
use Rattle.world_refines.proofs.requests.SentValues.{at_number, is_option, passing_is, word_in_fits}
use Rattle.world_refines.proofs.replies.Values.{IsSent, given_again, told_again}

-- ---- what a text reads as can be sent

sent_int : (text : List ℕ) (asked : Value) (o : Option ℤ) → word_in kinds.Int text ≡ o → option_map (λ word. Int word) o ≡ Some asked → IsSent asked
sent_int text asked None e h = absurd (let clash : None ≡ Some asked = h in cc)
sent_int text asked (Some w) e h = subst IsSent (unsome (Int w) asked h) (word_in_fits kinds.Int text w e)

sent_fixed : (text : List ℕ) (asked : Value) (o : Option ℤ) → word_in kinds.Fixed text ≡ o → option_map (λ word. Fixed (record { 0 = word })) o ≡ Some asked → IsSent asked
sent_fixed text asked None e h = absurd (let clash : None ≡ Some asked = h in cc)
sent_fixed text asked (Some w) e h = subst IsSent (unsome (Fixed (record { 0 = w })) asked h) (word_in_fits kinds.Fixed text w e)

more_fit : (kind : Kind) (text : List ℕ) (o : Option ℤ) (p : Option (List ℤ)) (words : List ℤ) → word_in kind text ≡ o → ((ws : List ℤ) → p ≡ Some ws → AllByRecursion (FitsSigned w32) ws) → option_and_then (λ word. option_map (λ words. word ∷ words) p) o ≡ Some words → AllByRecursion (FitsSigned w32) words
more_fit kind text None p words e more h = absurd (let clash : None ≡ Some words = h in cc)
more_fit kind text (Some w) None words e more h = absurd (let clash : None ≡ Some words = h in cc)
more_fit kind text (Some w) (Some ws) words e more h = subst (AllByRecursion (FitsSigned w32)) (unsome (w ∷ ws) words h) (word_in_fits kind text w e, more ws refl)

all_fit : (kind : Kind) (pieces : List (List ℕ)) (words : List ℤ) → words_in kind pieces ≡ Some words → AllByRecursion (FitsSigned w32) words
all_fit kind [] words e = subst (AllByRecursion (FitsSigned w32)) (unsome [] words e) tt
all_fit kind (piece ∷ pieces) words e = more_fit kind piece (word_in kind piece) (words_in kind pieces) words refl (λ ws h. all_fit kind pieces ws h) e

sent_words : (text : List ℕ) (asked : Value) (o : Option (List ℤ)) → words_in kinds.Int (pieces_of text) ≡ o → option_map (λ words. Words words) o ≡ Some asked → IsSent asked
sent_words text asked None e h = absurd (let clash : None ≡ Some asked = h in cc)
sent_words text asked (Some words) e h = subst IsSent (unsome (Words words) asked h) (all_fit kinds.Int (pieces_of text) words e)

sent_flag : (asked : Value) (a b : Bool) → (if a then Some (Flag true) else (if b then Some (Flag false) else None)) ≡ Some asked → IsSent asked
sent_flag asked true b h = subst IsSent (unsome (Flag true) asked h) tt
sent_flag asked false true h = subst IsSent (unsome (Flag false) asked h) tt
sent_flag asked false false h = absurd (let clash : None ≡ Some asked = h in cc)

sent_text : (text : List ℕ) (asked : Value) (b : Bool) → list_any (λ c. c == 0) text ≡ b → (if b then None else Some (Text text)) ≡ Some asked → IsSent asked
sent_text text asked true e h = absurd (let clash : None ≡ Some asked = h in cc)
sent_text text asked false e h = subst IsSent (unsome (Text text) asked h) e

abbrev IsSentAs : Kind → ℕ → List ℕ → Value → Type 0
IsSentAs kind size text asked = read_as kind size text ≡ Some asked → IsSent asked

sent_at : (kind own : Kind) (size n : ℕ) (text : List ℕ) (asked : Value) → kind ≡ own → size ≡ n → IsSentAs own n text asked → IsSentAs kind size text asked
sent_at kind own size n text asked k s h = subst (λ (x : Kind). IsSentAs x size text asked) (sym k) (subst (λ (x : ℕ). IsSentAs own x text asked) (sym s) h)

sent_by : (kind : Kind) (size : ℕ) (text : List ℕ) (asked : Value) → OptionForm kind size → IsSentAs kind size text asked
sent_by kind size text asked (OneInt k s) = sent_at kind kinds.Int size 4 text asked k s (λ e. sent_int text asked (word_in kinds.Int text) refl e)
sent_by kind size text asked (OneFixed k s) = sent_at kind kinds.Fixed size 4 text asked k s (λ e. sent_fixed text asked (word_in kinds.Fixed text) refl e)
sent_by kind size text asked (OneFlag k s) = sent_at kind kinds.Bool size 4 text asked k s (λ e. sent_flag asked (bytes_eq text (codes "yes")) (bytes_eq text (codes "no")) e)
sent_by kind size text asked (OneText k) = sent_at kind kinds.String size size text asked k refl (λ e. sent_text text asked (list_any (λ c. c == 0) text) refl e)
sent_by kind size text asked (Table k s) = sent_at kind kinds.Int size 1024 text asked k s (λ e. sent_words text asked (words_in kinds.Int (pieces_of text)) refl e)

-- ---- by an option's kind

kind_at : (kind own : Kind) (x : Option Value) → kind ≡ own → of_kind own own x ≡ x → of_kind kind kind x ≡ x
kind_at kind own x k h = subst (λ (y : Kind). of_kind y y x ≡ x) (sym k) h

kind_same : (kind : Kind) (size : ℕ) (x : Option Value) → OptionForm kind size → of_kind kind kind x ≡ x
kind_same kind size x (OneInt k s) = kind_at kind kinds.Int x k refl
kind_same kind size x (OneFixed k s) = kind_at kind kinds.Fixed x k refl
kind_same kind size x (OneFlag k s) = kind_at kind kinds.Bool x k refl
kind_same kind size x (OneText k) = kind_at kind kinds.String x k refl
kind_same kind size x (Table k s) = kind_at kind kinds.Int x k refl

-- ---- a setting

option_given : (setup : Setup) (o : ScanOption) (text : List ℕ) (asked given : Value) → read_value (descriptor_of setup o) text ≡ Some asked → NearestValue (descriptor_of setup o).constraint asked given →
    of_kind (descriptor_of setup o).kind (descriptor_of setup o).kind (given_like asked (wire_of given)) ≡ Some given
unfolding read_value descriptor_of
option_given setup o text asked given reads near = kind_same (option_kind o) (option_size o) (given_like asked (wire_of given)) (form_of o) ∙ given_again setup.scene.kind o asked given (sent_by (option_kind o) (option_size o) text asked (form_of o) reads) near

near_at : (k : Make) (setup : Setup) (n : ℕ) (asked given : Value) → IsNearest k setup n asked given → GivesNearest setup n asked given
unfolding IsNearest
near_at k setup n asked given h = h

pub value_given : (k : Make) (setup : Setup) (n : ℕ) (desc : Descriptor) (text : List ℕ) (asked : Value) (put : AbstractAcceptedSet) → slice_get (descriptors_of setup) n ≡ Some desc → read_value desc text ≡ Some asked → accept_value k setup n asked ≡ Some put →
    of_kind desc.kind desc.kind (given_like asked (wire_of put.given)) ≡ Some put.given
value_given k setup n desc text asked put at reads e =
    let near = near_at k setup n asked put.given (is_nearest k setup n asked put e).0 in
    let same : near.desc ≡ desc = unsome near.desc desc (sym near.at ∙ at) in
    let constraint : NearestValue desc.constraint asked put.given = subst (λ (d : Descriptor). NearestValue d.constraint asked put.given) same near.puts.nearest in
    let is = is_option setup n desc at in
    subst (λ (d : Descriptor). of_kind d.kind d.kind (given_like asked (wire_of put.given)) ≡ Some put.given) (sym is.is)
    (option_given setup is.option text asked put.given (subst (λ (d : Descriptor). read_value d text ≡ Some asked) is.is reads) (subst (λ (d : Descriptor). NearestValue d.constraint asked put.given) is.is constraint))

-- ---- an option

got_by : (setup : Setup) (x : Option ScanOption) (o : ScanOption) → ((p : ScanOption) → x ≡ Some p → p ≡ o) → is_answered_value (get_result setup x) ≡ true → value_or_false (get_result setup x) ≡ option_value setup o
got_by setup None o h e = absurd (let clash : false ≡ true = e in cc)
got_by setup (Some p) o h e = ap (option_value setup) (h p refl)

got_is : (k : Make) (setup : Setup) (n : ℕ) (o : ScanOption) → slice_get (options_of setup.scene.kind) n ≡ Some o → has_readable_value k setup n ≡ true → readable_value k setup n ≡ option_value setup o
unfolding has_readable_value readable_value option_got
got_is k setup n o at e =
    got_by setup (option_passing (λ o. is_active setup o && has_cap (option_caps o) 4) (option_at setup.scene.kind n)) o
    (λ p is. at_number setup n o p at (passing_is (λ o. is_active setup o && has_cap (option_caps o) 4) (option_at setup.scene.kind n) p is)) e

option_told : (setup : Setup) (o : ScanOption) → IsAllowed setup → has_one_value (descriptor_of setup o).kind (descriptor_of setup o).size ≡ true →
    of_kind (descriptor_of setup o).kind (descriptor_of setup o).kind (wire_value_in (descriptor_of setup o).kind (wire_of (option_value setup o))) ≡ Some (option_value setup o)
unfolding descriptor_of
option_told setup o allowed one = kind_same (option_kind o) (option_size o) (wire_value_in (option_kind o) (wire_of (option_value setup o))) (form_of o) ∙ told_again setup o allowed one

allowed_at : (k : Make) (setup : Setup) → rules.AreOptionsAllowed k setup → IsAllowed setup
unfolding rules.AreOptionsAllowed
allowed_at k setup h = h

pub value_got : (k : Make) (setup : Setup) (n : ℕ) (desc : Descriptor) → slice_get (descriptors_of setup) n ≡ Some desc → rules.AreOptionsAllowed k setup → has_one_value desc.kind desc.size ≡ true → has_readable_value k setup n ≡ true →
    of_kind desc.kind desc.kind (wire_value_in desc.kind (wire_of (readable_value k setup n))) ≡ Some (readable_value k setup n)
value_got k setup n desc at allowed one e =
    let is = is_option setup n desc at in
    let value = got_is k setup n is.option is.at e in
    subst (λ (v : Value). of_kind desc.kind desc.kind (wire_value_in desc.kind (wire_of v)) ≡ Some v) (sym value)
    (subst (λ (d : Descriptor). of_kind d.kind d.kind (wire_value_in d.kind (wire_of (option_value setup is.option))) ≡ Some (option_value setup is.option)) (sym is.is)
    (option_told setup is.option (allowed_at k setup allowed) (subst (λ (d : Descriptor). has_one_value d.kind d.size ≡ true) is.is one)))

-- ---- what the client knows of it

pub known_desc : (known : List (Descriptor × Option Value)) (n : ℕ) (option : Descriptor × Option Value) (desc : Descriptor) → slice_get known n ≡ Some option → slice_get (descs known) n ≡ Some desc → option.0 ≡ desc
known_desc known n option desc at there = unsome option.0 desc (sym (slice_get-map (λ (o : Descriptor × Option Value). o.0) known n ∙ ap (option_map (λ (o : Descriptor × Option Value). o.0)) at) ∙ there)

-- it asks for an option of one value
pub record IsWanted (k : ℕ) (known : List (Descriptor × Option Value)) (n : ℕ) : Type 0 where
  pub place : ℕ
  pub number : n ≡ k + place
  pub option : Descriptor × Option Value
  pub stands : slice_get known place ≡ Some option
  pub wants : wants_value option ≡ true

wanted_more : (k : ℕ) (o : Descriptor × Option Value) (more : List (Descriptor × Option Value)) (n : ℕ) → IsWanted (k + 1) more n → IsWanted k (o ∷ more) n
wanted_more k o more n i =
    let e : n ≡ k + 1 + i.place = i.number in
    record { place = suc i.place; number = omega (arith, e); option = i.option; stands = i.stands; wants = i.wants }

wanted_if : (b : Bool) (k : ℕ) (o : Descriptor × Option Value) (more : List (Descriptor × Option Value)) (n : ℕ) (left : List ℕ) → wants_value o ≡ b → ((n : ℕ) (left : List ℕ) → values_wanted_from (k + 1) more ≡ n ∷ left → IsWanted (k + 1) more n) →
    (if b then k ∷ values_wanted_from (k + 1) more else values_wanted_from (k + 1) more) ≡ n ∷ left → IsWanted k (o ∷ more) n
wanted_if true k o more n left w h e = let same : k ≡ n = cc in record { place = 0; number = omega (arith, same); option = o; stands = refl; wants = w }
wanted_if false k o more n left w h e = wanted_more k o more n (h n left e)

is_wanted : (k : ℕ) (known : List (Descriptor × Option Value)) (n : ℕ) (left : List ℕ) → values_wanted_from k known ≡ n ∷ left → IsWanted k known n
is_wanted k [] n left e = absurd (let clash : [] ≡ n ∷ left = e in cc)
is_wanted k (o ∷ more) n left e = wanted_if (wants_value o) k o more n left refl (λ n left. is_wanted (k + 1) more n left) e

last_and : (a b c d : Bool) → ((not a && (b && c)) && d) ≡ true → c ≡ true
last_and true b c d e = absurd (let clash : false ≡ true = e in cc)
last_and false true true d e = refl
last_and false true false d e = absurd (let clash : false ≡ true = e in cc)
last_and false false c d e = absurd (let clash : false ≡ true = e in cc)

pub wanted_single : (known : List (Descriptor × Option Value)) (n : ℕ) (left : List ℕ) (option : Descriptor × Option Value) → values_wanted_from 0 known ≡ n ∷ left → slice_get known n ≡ Some option → has_one_value option.0.kind option.0.size ≡ true
wanted_single known n left option e at =
    let w = is_wanted 0 known n left e in
    let place : w.place ≡ n = (let is : n ≡ 0 + w.place = w.number in omega (arith, is)) in
    let same : w.option ≡ option = unsome w.option option (sym w.stands ∙ (ap (slice_get known) place ∙ at)) in
    let one = last_and (has_cap w.option.0.caps.0 32) (has_cap w.option.0.caps.0 4) (has_one_value w.option.0.kind w.option.0.size) (is_none w.option.1) w.wants in
    subst (λ (o : Descriptor × Option Value). has_one_value o.0.kind o.0.size ≡ true) same one
