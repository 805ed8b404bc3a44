-- What a config's line tells, where its fields are known, and for what a good one is refused.
use Rattle.std.proofs.Common.{◌≡◌, ◌∙◌, ℕ, List, [], ◌∷◌, ◌++◌, Bool, true, false, refl, sym, ap, subst, ◌<◌, ◌≤◌, length, arith, ◌+◌}
use Rattle.std.specs.Prelude.{All, Any, decimal, filter, ◌==◌, ◌&&◌, ◌||◌, nat_le, if◌then◌else◌}
use Rattle.std.specs.List.{AllByRecursion, AllZip, enumerate_from}
use Rattle.std.proofs.lemmas.Fmt.{decimal_injective}
use Rattle.std.proofs.lemmas.List.Elements.{All-from_recursion}
use Rattle.text_lines.specs.Lines.{lines_of}
use Rattle.page_picture.specs.declared.scene.DeviceKind.{DeviceKind}
use Rattle.page_picture.specs.declared.scene.DeviceKind.TheVariants.{Flatbed, Hand, ThreePass, Feeder}
use Rattle.dispatch.specs.ConfigLines.{DeviceFields, HasConfigFault, HasConfigReason, HasItsPages, IsCalled, IsKindPageCount, IsLineByte, TellLines, TellsConfig, TellsDevice, TellsFields, fields_of, is_telling, kind_name}
use Rattle.dispatch.specs.declared.config_fault.ConfigReason.{ConfigReason}
use Rattle.dispatch.specs.declared.config_fault.ConfigReason.TheVariants as reasons
use Rattle.dispatch.specs.declared.config_line.ConfigLine.{ConfigLine}
use Rattle.worked_programs.proofs.Basics.{head_is, not_empty, one_zip, tail_is}

by_length : ℕ → DeviceKind
by_length n = if n == 7 then Flatbed else (if n == 4 then Hand else (if n == 9 then ThreePass else Feeder))

kind_back : (k : DeviceKind) → by_length (length (kind_name k)) ≡ k
unfolding by_length
kind_back Flatbed = refl
kind_back Hand = refl
kind_back ThreePass = refl
kind_back Feeder = refl

pub kind_by_name : (a b : DeviceKind) → kind_name a ≡ kind_name b → a ≡ b
kind_by_name a b e = sym (kind_back a) ∙ ap (λ (name : List ℕ). by_length (length name)) e ∙ kind_back b

-- ---- what a line tells

-- a line with these fields, of one device
pub record IsGoodLine (line : List ℕ) (kind : DeviceKind) (index dpi : ℕ) (pages : List (List ℕ)) : Type 0 where
  pub size : length line ≤ 65536
  pub bytes : All IsLineByte line
  pub fields : fields_of line ≡ kind_name kind ∷ decimal index ∷ decimal dpi ∷ pages
  pub few : index ≤ 99
  pub some_dots : 1 ≤ dpi
  pub coarse : dpi ≤ 1200
  pub count : IsKindPageCount (kind_name kind) (length pages)

pub record IsToldBy (told : DeviceFields) (kind : DeviceKind) (index dpi : ℕ) (pages : List (List ℕ)) : Type 0 where
  pub kind_is : told.kind ≡ kind
  pub index_is : told.index ≡ index
  pub dpi_is : told.dpi ≡ dpi
  pub pages_are : told.pages ≡ pages

pub fields_tell : (number : ℕ) (line : List ℕ) (told : DeviceFields) (kind : DeviceKind) (index dpi : ℕ) (pages : List (List ℕ))
    → IsGoodLine line kind index dpi pages → TellsFields number line told → IsToldBy told kind index dpi pages
fields_tell number line told kind index dpi pages good t =
    let both : kind_name told.kind ∷ t.index_field ∷ t.dpi_field ∷ told.pages ≡ kind_name kind ∷ decimal index ∷ decimal dpi ∷ pages =
    sym t.fields.fields.fields ∙ good.fields in
    let second = tail_is _ _ _ _ both in
    let third = tail_is _ _ _ _ second in
    record {
      kind_is = kind_by_name told.kind kind (head_is _ _ _ _ both);
      index_is = decimal_injective told.index index (omega (arith, t.index_is.2)) (omega (arith, good.few)) (sym t.index_is.0 ∙ head_is _ _ _ _ second);
      dpi_is = decimal_injective told.dpi dpi (omega (arith, t.dpi_is.2)) (omega (arith, good.coarse)) (sym t.dpi_is.0 ∙ head_is _ _ _ _ third);
      pages_are = tail_is _ _ _ _ third;
    }

-- a line tells of this device
pub record IsOfLine (device : ConfigLine) (number : ℕ) (kind : DeviceKind) (index dpi : ℕ) (pages : List (List ℕ)) : Type 0 where
  pub line_is : device.line ≡ number
  pub kind_is : device.kind ≡ kind
  pub index_is : device.index ≡ index
  pub dpi_is : device.dpi ≡ dpi
  pub pages_are : device.pages.items ≡ pages

pub line_tells : (number : ℕ) (line : List ℕ) (device : ConfigLine) (kind : DeviceKind) (index dpi : ℕ) (pages : List (List ℕ))
    → IsGoodLine line kind index dpi pages → TellsDevice number line device → IsOfLine device number kind index dpi pages
line_tells number line device kind index dpi pages good tells =
    let t = fields_tell number line _ kind index dpi pages good tells.tells in
    record { line_is = tells.number_is; kind_is = t.kind_is; index_is = t.index_is; dpi_is = t.dpi_is; pages_are = t.pages_are }

-- the lines of a text that tell something
abbrev pub telling_lines : List ℕ → List (ℕ × List ℕ)
telling_lines text = filter (λ (line : ℕ × List ℕ). is_telling line.1) (enumerate_from 1 (lines_of text))

pub one_line : (text line : List ℕ) (lines : List ConfigLine) (kind : DeviceKind) (index dpi : ℕ) (pages : List (List ℕ))
    → telling_lines text ≡ (1, line) ∷ [] → IsGoodLine line kind index dpi pages → TellsConfig text lines
    → (device : ConfigLine) × (lines ≡ device ∷ []) × IsOfLine device 1 kind index dpi pages
one_line text line lines kind index dpi pages telling good tells =
    let zipped = subst (λ (ls : List (ℕ × List ℕ)). AllZip (λ (l : ℕ × List ℕ)
    (device : ConfigLine). TellsDevice l.0 l.1 device) ls lines) telling tells.told in
    let one = one_zip (λ (l : ℕ × List ℕ) (device : ConfigLine). TellsDevice l.0 l.1 device) (1, line) lines zipped in
    (one.0, one.1, line_tells 1 line one.0 kind index dpi pages good one.2)

-- ---- bytes of a line

abbrev pub is_line_byte : ℕ → Bool
is_line_byte b = (b == 9) || (nat_le 32 b && nat_le b 126)

abbrev pub are_line_bytes : List ℕ → Bool
are_line_bytes [] = true
are_line_bytes (b ∷ bytes) = is_line_byte b && are_line_bytes bytes

is_byte : (b : ℕ) → is_line_byte b ≡ true → IsLineByte b
is_byte b e = grind arith

and_parts : (a b : Bool) → (a && b) ≡ true → (a ≡ true) × (b ≡ true)
and_parts true b e = (refl, e)
and_parts false b e = absurd (let clash : false ≡ true = e in cc)

by_recursion : (bytes : List ℕ) → are_line_bytes bytes ≡ true → AllByRecursion IsLineByte bytes
by_recursion [] e = tt
by_recursion (b ∷ bytes) e = let both = and_parts (is_line_byte b) (are_line_bytes bytes) e in (is_byte b both.0, by_recursion bytes both.1)

pub line_bytes : (bytes : List ℕ) → are_line_bytes bytes ≡ true → All IsLineByte bytes
line_bytes bytes e = All-from_recursion IsLineByte bytes (by_recursion bytes e)

-- ---- refused

-- a good line, behind devices of other names, is refused for want of memory alone
module _ (number : ℕ) (line : List ℕ) (devices : List ConfigLine) (kind : DeviceKind) (index dpi : ℕ) (pages : List (List ℕ))
    (good : IsGoodLine line kind index dpi pages) (early : number ≤ 64) (free : Any (λ earlier. IsCalled kind index earlier) devices → ⊥)
    (room : length devices < 16) where
  fields_are : (fields : List (List ℕ)) → fields_of line ≡ fields → fields ≡ kind_name kind ∷ decimal index ∷ decimal dpi ∷ pages
  fields_are fields is = sym is ∙ good.fields

  pub only_memory : (reason : ConfigReason) → HasConfigReason reason devices number line → reason ≡ reasons.NoMem
  only_memory reasons.TooManyLines bad = absurd (omega (arith, bad, early))
  only_memory reasons.LineTooLong bad = absurd (omega (arith, bad.1, good.size))
  only_memory reasons.BadByte bad = absurd (bad.2 good.bytes)
  only_memory reasons.WrongFields bad = absurd (bad.2 (subst HasItsPages (sym (fields_are bad.0 bad.1.fields)) good.count))
  only_memory reasons.UnknownKind bad = absurd (bad.5 kind (head_is _ _ _ _ (fields_are _ bad.4.fields.fields)))
  only_memory reasons.BadIndex bad =
      let field : bad.1 ≡ decimal index = head_is _ _ _ _ (tail_is _ _ _ _ (fields_are _ bad.4.fields.fields)) in
      absurd (bad.5 index (field, omega arith, good.few))
  only_memory reasons.BadDpi bad =
      let field : bad.2 ≡ decimal dpi = head_is _ _ _ _ (tail_is _ _ _ _ (tail_is _ _ _ _ (fields_are _ bad.5.fields.fields))) in
      absurd (bad.7 dpi (field, good.some_dots, good.coarse))
  only_memory reasons.SameName bad =
      let t = fields_tell number line bad.0 kind index dpi pages good bad.1 in
      absurd (free (subst (λ (n : ℕ). Any (λ earlier. IsCalled kind n earlier) devices) t.index_is
      (subst (λ (k : DeviceKind). Any (λ earlier. IsCalled k bad.0.index earlier) devices) t.kind_is bad.2)))
  only_memory reasons.TooManyDevices bad = absurd (omega (arith, bad.2.1, room))
  only_memory reasons.NoMem bad = refl

pub none_among : (kind : DeviceKind) (index : ℕ) (devices : List ConfigLine) → devices ≡ [] → Any (λ earlier. IsCalled kind index earlier) devices → ⊥
none_among kind index devices none any = omega (arith, subst (λ (ds : List ConfigLine). any.0 < length ds) none any.2)

pub no_devices : (devices : List ConfigLine) → TellLines [] devices → devices ≡ []
no_devices [] t = refl
no_devices (d ∷ ds) t = absurd t.told

only_front : (x y : List ℕ) (before after : List (List ℕ)) → x ∷ [] ≡ before ++ y ∷ after → (before ≡ []) × (y ≡ x)
only_front x y [] after e = (refl, sym (head_is _ _ _ _ e))
only_front x y (b ∷ []) after e = absurd (not_empty _ _ (tail_is _ _ _ _ e))
only_front x y (b ∷ c ∷ before) after e = absurd (not_empty _ _ (tail_is _ _ _ _ e))

pub fault_of_one : (text line : List ℕ) (kind : DeviceKind) (index dpi : ℕ) (pages : List (List ℕ)) → lines_of text ≡ line ∷ []
    → IsGoodLine line kind index dpi pages → (number : ℕ) (reason : ConfigReason) → HasConfigFault text number reason
    → (number ≡ 1) × (reason ≡ reasons.NoMem)
fault_of_one text line kind index dpi pages lines good number reason fault =
    let front = only_front line fault.line fault.before fault.after (sym lines ∙ fault.lines_are) in
    let first : number ≡ 1 = fault.number_is ∙ ap (λ (ls : List (List ℕ)). length ls + 1) front.0 in
    let none : fault.devices ≡ [] = no_devices fault.devices (subst (λ (ls : List (List ℕ)). TellLines ls fault.devices) front.0 fault.before_tell) in
    let bad : HasConfigReason reason fault.devices number line = subst (λ (l : List ℕ). HasConfigReason reason fault.devices number l) front.1 fault.bad in
    let few : length fault.devices ≡ 0 = ap length none in (
      first,
      only_memory number line fault.devices kind index dpi pages good (omega (arith, first)) (none_among kind index fault.devices none)
          (omega (arith, few)) reason bad,
    )
