-- What two lines of a config tell, and for what they are refused.
use Rattle.std.proofs.Common.{◌≡◌, ◌∙◌, ℕ, zero, suc, List, [], ◌∷◌, ◌++◌, true, refl, sym, ap, subst, ◌+◌, length, arith, inl, inr, ◌⊎◌}
use Rattle.std.specs.Prelude.{Any}
use Rattle.std.specs.List.{AllZip}
use Rattle.text_lines.specs.Lines.{lines_of}
use Rattle.page_picture.specs.declared.scene.DeviceKind.{DeviceKind}
use Rattle.dispatch.specs.ConfigLines.{HasConfigFault, HasConfigReason, IsCalled, TellLines, TellsConfig, TellsDevice, is_telling}
use Rattle.dispatch.specs.declared.config_fault.ConfigReason.{ConfigReason}
use Rattle.dispatch.specs.declared.config_fault.ConfigReason.TheVariants as reasons
use Rattle.dispatch.specs.declared.config_line.ConfigLine.{ConfigLine}
use Rattle.worked_programs.proofs.Basics.{head_is, not_empty, one_zip, tail_is, two_zip}
use Rattle.worked_programs.proofs.ConfigTexts.{IsGoodLine, IsOfLine, line_tells, no_devices, none_among, only_memory, telling_lines}

pub two_lines : (text first second : List ℕ) (lines : List ConfigLine) (kind kind2 : DeviceKind) (index dpi index2 dpi2 : ℕ) (pages pages2 : List (List ℕ))
    → telling_lines text ≡ (1, first) ∷ (2, second) ∷ [] → IsGoodLine first kind index dpi pages
    → IsGoodLine second kind2 index2 dpi2 pages2 → TellsConfig text lines
    → (device other : ConfigLine) × (lines ≡ device ∷ other ∷ []) × IsOfLine device 1 kind index dpi pages × IsOfLine other 2 kind2 index2 dpi2 pages2
two_lines text first second lines kind kind2 index dpi index2 dpi2 pages pages2 telling good good2 tells =
    let zipped = subst (λ (ls : List (ℕ × List ℕ)). AllZip (λ (l : ℕ × List ℕ)
    (device : ConfigLine). TellsDevice l.0 l.1 device) ls lines) telling tells.told in
    let two = two_zip (λ (l : ℕ × List ℕ) (device : ConfigLine). TellsDevice l.0 l.1 device) (1, first) (2, second) lines zipped in
    (two.0, two.1, two.2, line_tells 1 first two.0 kind index dpi pages good two.3, line_tells 2 second two.1 kind2 index2 dpi2 pages2 good2 two.4)

-- the first of two, or the second behind it
fronts_of_two : (x y line : List ℕ) (before after : List (List ℕ)) → x ∷ y ∷ [] ≡ before ++ line ∷ after
    → ((before ≡ []) × (line ≡ x)) ⊎ ((before ≡ x ∷ []) × (line ≡ y))
fronts_of_two x y line [] after e = inl (refl, sym (head_is _ _ _ _ e))
fronts_of_two x y line (b ∷ []) after e = inr (ap (λ (l : List ℕ). l ∷ []) (sym (head_is _ _ _ _ e)), sym (head_is _ _ _ _ (tail_is _ _ _ _ e)))
fronts_of_two x y line (b ∷ c ∷ []) after e = absurd (not_empty _ _ (tail_is _ _ _ _ (tail_is _ _ _ _ e)))
fronts_of_two x y line (b ∷ c ∷ d ∷ before) after e = absurd (not_empty _ _ (tail_is _ _ _ _ (tail_is _ _ _ _ e)))

-- the fault of the second line, behind a device of the first
pub record IsOfSecond (second : List ℕ) (kind : DeviceKind) (index : ℕ) (number : ℕ) (reason : ConfigReason) : Type 0 where
  pub at : number ≡ 2
  pub device : ConfigLine
  pub kind_is : device.kind ≡ kind
  pub index_is : device.index ≡ index
  pub bad : HasConfigReason reason (device ∷ []) 2 second

one_before : (first : List ℕ) (kind : DeviceKind) (index dpi : ℕ) (pages : List (List ℕ)) → is_telling first ≡ true → IsGoodLine first kind index dpi pages
    → (devices : List ConfigLine) → TellLines (first ∷ []) devices
    → (device : ConfigLine) × (devices ≡ device ∷ []) × IsOfLine device 1 kind index dpi pages
one_before first kind index dpi pages telling good devices t =
    let zipped : AllZip (λ (l : ℕ × List ℕ) (device : ConfigLine). TellsDevice l.0 l.1 device) ((1, first) ∷ []) devices = rw telling at t.told in
    let one = one_zip (λ (l : ℕ × List ℕ) (device : ConfigLine). TellsDevice l.0 l.1 device) (1, first) devices zipped in
    (one.0, one.1, line_tells 1 first one.0 kind index dpi pages good one.2)

pub fault_of_two : (text first second : List ℕ) (kind : DeviceKind) (index dpi : ℕ) (pages : List (List ℕ)) → lines_of text ≡ first ∷ second ∷ []
    → is_telling first ≡ true → IsGoodLine first kind index dpi pages → (number : ℕ) (reason : ConfigReason)
    → HasConfigFault text number reason → ((number ≡ 1) × (reason ≡ reasons.NoMem)) ⊎ IsOfSecond second kind index number reason
fault_of_two text first second kind index dpi pages lines telling good number reason fault =
    elim (fronts_of_two first second fault.line fault.before fault.after (sym lines ∙ fault.lines_are)) [
      | inl front ↦
          let at : number ≡ 1 = fault.number_is ∙ ap (λ (ls : List (List ℕ)). length ls + 1) front.0 in
          let none : fault.devices ≡ [] = no_devices fault.devices (subst (λ (ls : List (List ℕ)). TellLines ls fault.devices) front.0 fault.before_tell) in
          let bad : HasConfigReason reason fault.devices number first = subst
          (λ (l : List ℕ). HasConfigReason reason fault.devices number l) front.1 fault.bad in
          let few : length fault.devices ≡ 0 = ap length none in
          inl (
            at,
            only_memory number first fault.devices kind index dpi pages good (omega (arith, at)) (none_among kind index fault.devices none)
                (omega (arith, few)) reason bad,
          )
      | inr front ↦
          let at : number ≡ 2 = fault.number_is ∙ ap (λ (ls : List (List ℕ)). length ls + 1) front.0 in
          let one = one_before first kind index dpi pages telling good fault.devices
          (subst (λ (ls : List (List ℕ)). TellLines ls fault.devices) front.0 fault.before_tell) in
          let here : HasConfigReason reason fault.devices number second = subst
          (λ (l : List ℕ). HasConfigReason reason fault.devices number l) front.1 fault.bad in
          let bad : HasConfigReason reason (one.0 ∷ []) 2 second = subst (λ (n : ℕ). HasConfigReason reason (one.0 ∷ []) n second) at
          (subst (λ (ds : List ConfigLine). HasConfigReason reason ds number second) one.1 here) in
          inr (record { at = at; device = one.0; kind_is = one.2.kind_is; index_is = one.2.index_is; bad = bad })
    ]

-- one device is called otherwise
called_otherwise : (device : ConfigLine) (kind kind2 : DeviceKind) (index index2 : ℕ) → device.kind ≡ kind → device.index ≡ index
    → (kind ≡ kind2 → index ≡ index2 → ⊥) → Any (λ earlier. IsCalled kind2 index2 earlier) (device ∷ []) → ⊥
called_otherwise device kind kind2 index index2 is at other (zero, x, few, found, called) =
    let same : device ≡ x = found in
    other (sym is ∙ ap (λ (d : ConfigLine). d.kind) same ∙ called.0) (sym at ∙ ap (λ (d : ConfigLine). d.index) same ∙ called.1)
called_otherwise device kind kind2 index index2 is at other (suc k, x, few, found, called) = absurd (omega (arith, few))

pub second_memory : (second : List ℕ) (kind kind2 : DeviceKind) (index index2 dpi2 : ℕ) (pages2 : List (List ℕ)) → (kind ≡ kind2 → index ≡ index2 → ⊥)
    → IsGoodLine second kind2 index2 dpi2 pages2 → (number : ℕ) (reason : ConfigReason)
    → IsOfSecond second kind index number reason → (number ≡ 2) × (reason ≡ reasons.NoMem)
second_memory second kind kind2 index index2 dpi2 pages2 other good number reason of = (
  of.at,
  only_memory 2 second (of.device ∷ []) kind2 index2 dpi2 pages2 good (omega arith)
      (called_otherwise of.device kind kind2 index index2 of.kind_is of.index_is other) (omega arith) reason of.bad,
)
