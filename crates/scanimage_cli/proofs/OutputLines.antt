-- Lines that are put together piece by piece.
use Rattle.std.proofs.Common.{◌≡◌, ◌∙◌, ℕ, List, [], ◌∷◌, ◌++◌, sym, ap, refl}
use Rattle.std.proofs.lemmas.List.{append-nil, append_assoc}
use Rattle.sane_fixed.specs.declared.device_info.DeviceInfo.{DeviceInfo}
use Rattle.scanimage_cli.specs.DeviceList.{device_line, device_lines}

pub ten : (l a b c d e f g h i j : List ℕ) → (((((((((l ++ a) ++ b) ++ c) ++ d) ++ e) ++ f) ++ g) ++ h) ++ i) ++ j ≡ l ++ (a ++ (b ++ (c ++ (d ++ (e ++ (f ++ (g ++ (h ++ (i ++ j)))))))))
ten l a b c d e f g h i j =
    append_assoc ((((((((l ++ a) ++ b) ++ c) ++ d) ++ e) ++ f) ++ g) ++ h) i j
    ∙ append_assoc (((((((l ++ a) ++ b) ++ c) ++ d) ++ e) ++ f) ++ g) h (i ++ j)
    ∙ append_assoc ((((((l ++ a) ++ b) ++ c) ++ d) ++ e) ++ f) g (h ++ (i ++ j))
    ∙ append_assoc (((((l ++ a) ++ b) ++ c) ++ d) ++ e) f (g ++ (h ++ (i ++ j)))
    ∙ append_assoc ((((l ++ a) ++ b) ++ c) ++ d) e (f ++ (g ++ (h ++ (i ++ j))))
    ∙ append_assoc (((l ++ a) ++ b) ++ c) d (e ++ (f ++ (g ++ (h ++ (i ++ j)))))
    ∙ append_assoc ((l ++ a) ++ b) c (d ++ (e ++ (f ++ (g ++ (h ++ (i ++ j))))))
    ∙ append_assoc (l ++ a) b (c ++ (d ++ (e ++ (f ++ (g ++ (h ++ (i ++ j)))))))
    ∙ append_assoc l a (b ++ (c ++ (d ++ (e ++ (f ++ (g ++ (h ++ (i ++ j))))))))

pub one_more : (prefix done new : List ℕ) (left rest : List DeviceInfo) (info : DeviceInfo) (whole : List ℕ)
    → left ≡ info ∷ rest → new ≡ done ++ device_line prefix info → done ++ device_lines prefix left ≡ whole → new ++ device_lines prefix rest ≡ whole
unfolding device_lines
one_more prefix done new left rest info whole cut is before =
    let step : device_lines prefix left ≡ device_line prefix info ++ device_lines prefix rest = rw cut refl in
    ap (λ (x : List ℕ). x ++ device_lines prefix rest) is ∙ append_assoc done (device_line prefix info) (device_lines prefix rest) ∙ ap (λ (x : List ℕ). done ++ x) (sym step) ∙ before

pub no_more : (prefix done : List ℕ) (left : List DeviceInfo) (whole : List ℕ) → left ≡ [] → done ++ device_lines prefix left ≡ whole → done ≡ whole
unfolding device_lines
no_more prefix done left whole none before = sym (append-nil done) ∙ ap (λ (x : List DeviceInfo). done ++ device_lines prefix x) (sym none) ∙ before
