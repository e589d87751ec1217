use Rattle.std.specs.Prelude.{option_map}
use Rattle.dkv_base.specs.declared.types.Profile.TheVariants.{Narrow}
use Rattle.dkv_files.specs.Crashes.{Identity}
use Rattle.dkv_store.specs.Held.{picked}
use Rattle.dkv_store.proofs.Keeping.{kept_stopped}
use Rattle.dkv_store.proofs.store.Store.stop_kept.Goals as goal

pub invariant_of-self-2 : goal.invariant_of-self-2
invariant_of-self-2 g c =
    let i = c.self.inside in
    let n = c.add_stop.new.self in
    let me : Identity = record { id = i.id; secret = i.secret; profile = Narrow } in
    kept_stopped g.D.Disk.seen g.D.Disk.may_leave g.D.Disk.faults i.files.journal i.base.value.state i.core c.raise.new.self i.trail.items n.items i.trail.roomless n.roomless
    (option_map (λ d. d.value) i.files.doubt) me i.limit i.record_bytes i.files.in_use i.files.used i.files.other
    (picked i.first.value.in_use.second i.first.value.used i.first.value.other) (picked i.first.value.in_use.second i.first.value.other i.first.value.used) c.self.invariant
    c.args.who c.moment-at.result c.args.last c.moment-at.ensures.effective.late c.raise.ensures c.in_ok-add_stop.ensures.items
