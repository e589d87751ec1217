use Rattle.std.proofs.Common.{subst, ap, refl}
use Rattle.dkv_store.specs.Held.{picked}
use Rattle.dkv_store.specs.Stores.{Contents, Keeps}
use Rattle.dkv_store.proofs.Standing.{keeps_still}
use Rattle.dkv_store.proofs.store.Store.hold_back.Goals as goal

pub returns-in-Some-clause-moves : goal.returns-in-Some-clause-moves
returns-in-Some-clause-moves g c = λ made.
    let i = c.self.inside in
    let old = c.args.self.now in
    let kept = subst (λ (s : Contents g.row.D.Denot). Keeps g.D.Disk.seen g.D.Disk.may_leave g.D.Disk.faults i.files.journal i.files.used i.files.other s) c.self.view_is c.self.invariant in
    keeps_still g.D.Disk.seen g.D.Disk.may_leave g.D.Disk.faults i.files.journal i.files.used i.files.other old kept g.D.Disk.moment g.D.Disk.left_since made old.a old.b refl refl

pub returns-clause-moves : goal.returns-clause-moves
returns-clause-moves g c = λ made.
    let i = c.self.inside in
    let kept = subst (λ (s : Contents g.row.D.Denot). Keeps g.D.Disk.seen g.D.Disk.may_leave g.D.Disk.faults i.files.journal i.files.used i.files.other s) c.self.view_is c.self.invariant in
    keeps_still g.D.Disk.seen g.D.Disk.may_leave g.D.Disk.faults i.files.journal i.files.used i.files.other c.args.self.now kept g.D.Disk.moment g.D.Disk.left_since made
    (picked i.files.in_use.second i.files.used i.files.other) (picked i.files.in_use.second i.files.other i.files.used) (ap (λ s. s.a) c.self.view_is) (ap (λ s. s.b) c.self.view_is)
