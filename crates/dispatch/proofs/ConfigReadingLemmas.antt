-- A config file read line by line.
use Rattle.std.proofs.Common.{◌≡◌, ℕ, ◌+◌, ◌≤◌, Bool, true, false, List, [], ◌∷◌, ◌++◌, length, get_or, arith, refl, sym, ap, ◌∙◌, subst, inl, inr}
use Rattle.std.specs.Prelude.{filter, All}
use Rattle.std.specs.List.{AllZip, enumerate_from}
use Rattle.std.proofs.lemmas.List.{append-nil, append_assoc, length_push, get_or_default}
use Rattle.std.proofs.lemmas.List.Elements.{filter-append, All-push}
use Rattle.std.proofs.lemmas.List.Quantifiers.{all_pairs_push}
use Rattle.text_lines.specs.Lines.{lines_of}
use Rattle.text_lines.specs.Limits.{IsWithin}
use Rattle.dispatch.specs.declared.config_line.ConfigLine.{ConfigLine}
use Rattle.dispatch.specs.declared.config_fault.ConfigReason.{ConfigReason}
use Rattle.dispatch.specs.declared.config_fault.ConfigReason.TheVariants.{TooManyLines, LineTooLong, BadByte, WrongFields, UnknownKind, BadIndex, BadDpi, SameName, TooManyDevices, NoMem}
use Rattle.dispatch.specs.ConfigLines.{config_limits, is_telling, DeviceFields, TellsFields, TellsDevice, RefusesName, NamesSameDevice, AddsDevice, HasConfigReason, HasConfigFault, TellLines, TellsConfig}

-- what stands before the rest of a text: so many lines, and the devices that they tell of
pub record IsReadTo (text rest : List ℕ) (number : ℕ) (devices : List ConfigLine) : Type 0 where
  pub done : List (List ℕ)
  pub lines_are : lines_of text ≡ done ++ lines_of rest
  pub number_is : number ≡ length done
  pub few : number ≤ 64
  pub tell : TellLines done devices

numbered_push : (n : ℕ) (xs : List (List ℕ)) (x : List ℕ) → enumerate_from n (xs ++ x ∷ []) ≡ enumerate_from n xs ++ (length xs + n, x) ∷ []
numbered_push n [] x = let place : ◌≡◌ {A = ℕ} n (0 + n) = omega arith in ap (λ (k : ℕ). (k, x) ∷ []) place
numbered_push n (y ∷ ys) x =
    let place : ◌≡◌ {A = ℕ} (length ys + (n + 1)) (length (y ∷ ys) + n) = omega arith in
    ap (λ (l : List (ℕ × List ℕ)). (n, y) ∷ l) (numbered_push (n + 1) ys x ∙ ap (λ (k : ℕ). enumerate_from (n + 1) ys ++ (k, x) ∷ []) place)

abbrev line_tells : ℕ × List ℕ → Bool
line_tells line = is_telling line.1

abbrev Told : ℕ × List ℕ → ConfigLine → Type 0
Told line device = TellsDevice line.0 line.1 device

zip_push : {X Y : Type 0} (R : X → Y → Type 0) (xs : List X) (ys : List Y) (x : X) (y : Y) → AllZip R xs ys → R x y → AllZip R (xs ++ x ∷ []) (ys ++ y ∷ [])
zip_push R [] [] x y all last = (last, tt)
zip_push R [] (b ∷ bs) x y all last = absurd all
zip_push R (a ∷ more) [] x y all last = absurd all
zip_push R (a ∷ more) (b ∷ bs) x y all last = (all.0, zip_push R more bs x y all.1 last)

-- one more line
told_same : (lines : List (ℕ × List ℕ)) (line : ℕ × List ℕ) → line_tells line ≡ false → filter line_tells (lines ++ line ∷ []) ≡ filter line_tells lines
told_same lines line silent =
    let last : filter line_tells (line ∷ []) ≡ [] = rw silent refl in
    filter-append line_tells lines (line ∷ []) ∙ ap (λ l. filter line_tells lines ++ l) last ∙ append-nil (filter line_tells lines)

told_more : (lines : List (ℕ × List ℕ)) (line : ℕ × List ℕ) → line_tells line ≡ true → filter line_tells (lines ++ line ∷ []) ≡ filter line_tells lines ++ line ∷ []
told_more lines line tells =
    let last : filter line_tells (line ∷ []) ≡ line ∷ [] = rw tells refl in
    filter-append line_tells lines (line ∷ []) ∙ ap (λ l. filter line_tells lines ++ l) last

abbrev Within : ℕ × List ℕ → Type 0
Within line = IsWithin config_limits line.0 line.1

pub tell_more : (done : List (List ℕ)) (line : List ℕ) (old new : List ConfigLine) → TellLines done old → AddsDevice (length done + 1) line old new → TellLines (done ++ line ∷ []) new
tell_more done line old new t a =
    let last : ℕ × List ℕ = (length done + 1, line) in
    let numbered = numbered_push 1 done line in
    let within : All Within (enumerate_from 1 (done ++ line ∷ [])) = rw numbered (All-push Within (enumerate_from 1 done) last t.within a.within) in
    elim a.adds [
      | inl same ↦ record {
        within = within;
        told = rw (numbered, told_same (enumerate_from 1 done) last same.0, same.1) t.told;
        other_names = rw same.1 t.other_names;
        few = rw same.1 t.few;
      }
      | inr more ↦
          let device = more.0 in
          record {
            within = within;
            told = rw (numbered, told_more (enumerate_from 1 done) last more.1.tells.fields.fields.telling, more.3) (zip_push Told (filter line_tells (enumerate_from 1 done)) old last device t.told more.1);
            other_names = rw more.3 (all_pairs_push (λ b e. ¬ NamesSameDevice b e) old device t.other_names (λ k d in_range same. more.2.new_name (k, get_or old k d, in_range, get_or_default old k (get_or old k d) d in_range, same)));
            few = omega (arith, more.2.room, ap length more.3, length_push old device);
          }
    ]

pub read_none : (text : List ℕ) → IsReadTo text text 0 []
read_none text = record {
  done = [];
  lines_are = refl;
  number_is = refl;
  few = omega arith;
  tell = record { within = λ k d in_range. absurd (omega (arith, in_range)); told = tt; other_names = λ i j d before in_range. absurd (omega (arith, in_range)); few = omega arith };
}

pub read_more : (text rest line after : List ℕ) (number : ℕ) (old new : List ConfigLine) → IsReadTo text rest number old → lines_of rest ≡ line ∷ lines_of after
    → AddsDevice (number + 1) line old new → IsReadTo text after (number + 1) new
read_more text rest line after number old new r cut adds = record {
  done = r.done ++ line ∷ [];
  lines_are = r.lines_are ∙ ap (λ (l : List (List ℕ)). r.done ++ l) cut ∙ sym (append_assoc r.done (line ∷ []) (lines_of after));
  number_is = omega (arith, length_push r.done line, r.number_is);
  few = adds.within.count;
  tell = tell_more r.done line old new r.tell (subst (λ (n : ℕ). AddsDevice (n + 1) line old new) r.number_is adds);
}

pub read_all : (text rest : List ℕ) (number : ℕ) (devices : List ConfigLine) → IsReadTo text rest number devices → lines_of rest ≡ [] → TellsConfig text devices
read_all text rest number devices r none =
    let all : lines_of text ≡ r.done = r.lines_are ∙ ap (λ (l : List (List ℕ)). r.done ++ l) none ∙ append-nil r.done in
    rw all r.tell

pub read_fault : (text rest line after : List ℕ) (number : ℕ) (devices : List ConfigLine) (reason : ConfigReason) → IsReadTo text rest number devices → lines_of rest ≡ line ∷ lines_of after
    → HasConfigReason reason devices (number + 1) line → HasConfigFault text (number + 1) reason
read_fault text rest line after number devices reason r cut bad = record {
  before = r.done;
  line = line;
  after = lines_of after;
  devices = devices;
  lines_are = r.lines_are ∙ ap (λ (l : List (List ℕ)). r.done ++ l) cut;
  number_is = ap (λ (n : ℕ). n + 1) r.number_is;
  before_tell = r.tell;
  bad = bad;
}

-- a name that is refused is a reason to refuse its line
pub line_refused : (reason : ConfigReason) (devices : List ConfigLine) (number : ℕ) (line : List ℕ) (told : DeviceFields) → TellsFields number line told → RefusesName reason devices told.kind told.index → HasConfigReason reason devices number line
line_refused SameName devices number line told tells bad = (told, tells, bad)
line_refused TooManyDevices devices number line told tells bad = (told, tells, bad)
line_refused TooManyLines devices number line told tells bad = absurd bad
line_refused LineTooLong devices number line told tells bad = absurd bad
line_refused BadByte devices number line told tells bad = absurd bad
line_refused WrongFields devices number line told tells bad = absurd bad
line_refused UnknownKind devices number line told tells bad = absurd bad
line_refused BadIndex devices number line told tells bad = absurd bad
line_refused BadDpi devices number line told tells bad = absurd bad
line_refused NoMem devices number line told tells bad = absurd bad
