use Rattle.std.proofs.Common.{◌≡◌, sym, ◌∙◌, ap, subst, ℕ, ◌+◌, ◌≤◌, List, [], ◌++◌, ◌⊎◌, length, take, drop, arith}
use Rattle.std.specs.Prelude.{min}
use Rattle.dkv_io.specs.Disks.{IsShort}
use Rattle.dkv_image_io.specs.Reading.{Sight}
use Rattle.dkv_image_io.proofs.Windows.{filled_same, filled_full}
use Rattle.dkv_image_io.proofs.window.Window.fill.Goals as goal

pub returns-in-Ok-add-clause-same : goal.returns-in-Ok-add-clause-same
returns-in-Ok-add-clause-same g c file told =
    let w = c.args.self.now in
    let v = c.self.view_is in
    let piece = c.deref.result.now in
    let read = c.deref.ensures.value ∙ c.in-Ok.ensures.piece file told in
    let short = subst IsShort told (g.met.D.Disk.short c.args.disk.now) in
    let left = ap (λ (s : Sight). s.left) v in
    let place = ap (λ (s : Sight). s.place) v in
    let h = c.in-Ok-add.ensures.held in
    let l = c.in-Ok-add.ensures.left in
    let p = c.add.ensures.place in
    let next : c.saturating_add.result ≡ min (w.place + length w.held) 18446744073709551615 = omega (arith, c.saturating_add.ensures, ap length c.held-held.ensures, place) in
    (λ i. h i ++ take (l i) (drop (p i + length (h i)) file))
    ∙ filled_same file w.held piece w.place w.left c.min-most.result c.saturating_add.result short next read (omega (arith, c.min-most.ensures, left))

pub returns-in-Ok-add-clause-full : goal.returns-in-Ok-add-clause-full
returns-in-Ok-add-clause-full g c file told =
    let w = c.args.self.now in
    let v = c.self.view_is in
    let piece = c.deref.result.now in
    let read = c.deref.ensures.value ∙ c.in-Ok.ensures.piece file told in
    let short = subst IsShort told (g.met.D.Disk.short c.args.disk.now) in
    let left = ap (λ (s : Sight). s.left) v in
    let place = ap (λ (s : Sight). s.place) v in
    let h = c.in-Ok-add.ensures.held in
    let l = c.in-Ok-add.ensures.left in
    let p = c.add.ensures.place in
    let next : c.saturating_add.result ≡ min (w.place + length w.held) 18446744073709551615 = omega (arith, c.saturating_add.ensures, ap length c.held-held.ensures, place) in
    let full = filled_full file w.held piece w.place w.left c.min-most.result c.saturating_add.result short next read (omega (arith, c.min-most.ensures, left)) in
    subst (λ (s : List ℕ × ℕ × ℕ). (131072 ≤ length s.0) ⊎ (take s.1 (drop (s.2 + length s.0) file) ≡ [])) (λ i. (sym h i, sym l i, sym p i)) full
