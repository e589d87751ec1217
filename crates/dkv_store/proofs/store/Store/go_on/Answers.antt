use Rattle.std.proofs.Common.{◌≡◌, ◌∙◌, refl, sym, ap, subst, arith}
use Rattle.std.specs.Prelude.{option_map}
use Rattle.dkv_base.specs.declared.types.Profile.TheVariants.{Narrow}
use Rattle.dkv_base.specs.Sound.{IsSound}
use Rattle.dkv_base.specs.State.{State}
use Rattle.dkv_files.specs.Crashes.{Identity}
use Rattle.dkv_store.specs.Held.{Hold, Guarded, picked}
use Rattle.dkv_store.specs.Stores.{Contents, Keeps}
use Rattle.dkv_store.proofs.Keeping.{kept_begun, kept_sound}
use Rattle.dkv_store.proofs.store.Store.go_on.Goals as goal

pub invariant_of-self : goal.invariant_of-self
invariant_of-self g c =
    let i = c.self.inside in
    let p = i.files in
    let renewed = c.requires.renewed in
    let me : Identity = record { id = i.id; secret = i.secret; profile = Narrow } in
    let kept = subst (λ (s : Contents g.row.D.Denot). Keeps g.D.Disk.seen g.D.Disk.may_leave g.D.Disk.faults i.files.journal p.used p.other s) c.self.view_is c.self.invariant in
    let moment = ap (λ (s : State). s.moment) renewed.state in
    kept_begun g.D.Disk.seen g.D.Disk.may_leave g.D.Disk.faults i.files.journal p.used p.other _
    (subst IsSound (sym renewed.state) (kept_sound g.D.Disk.seen g.D.Disk.may_leave g.D.Disk.faults i.files.journal p.used p.other c.args.self.now kept))
    renewed.out (omega (arith, moment, renewed.greatest)) c.self.invariant.named
    (ap (λ w. w.state) c.of.ensures) (ap (λ t. t.items) c.replace.ensures.after ∙ c.new.ensures.items)
    (ap (λ f. picked f.in_use.second f.used f.other) c.of-2.ensures) (ap (λ f. picked f.in_use.second f.other f.used) c.of-2.ensures) refl refl
    (λ fa told.
    subst (λ (s : State). Hold (g.D.Disk.may_leave p.used) (Guarded (g.D.Disk.seen p.other) (g.D.Disk.may_leave p.other)) i.files.journal p.in_use (option_map (λ d. d.value) i.files.doubt) s me)
    (sym (renewed.state ∙ sym (ap (λ (s : Contents g.row.D.Denot). s.core.state) c.self.view_is))) (c.self.invariant.stands fa told))
