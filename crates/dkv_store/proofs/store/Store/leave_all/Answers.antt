use Rattle.std.proofs.Common.{◌≡◌, ap, subst, []}
use Rattle.std.specs.Prelude.{option_map}
use Rattle.dkv_base.specs.declared.types.Profile.TheVariants.{Narrow}
use Rattle.dkv_core.specs.Cores.{Database}
use Rattle.dkv_core.specs.Seats.{rows_beside}
use Rattle.dkv_store.specs.Held.{picked}
use Rattle.dkv_store.specs.Stores.{Contents}
use Rattle.dkv_store.specs.Terms.{Leads}
use Rattle.dkv_store.proofs.Leading.{watch_leads}
use Rattle.dkv_store.proofs.store.Store.leave_all.Goals as goal

pub returns-clause-goes : goal.returns-clause-goes
returns-clause-goes g c =
    let i = c.self.inside in
    let was : Contents g.row.D.Denot = record {
      base = i.base.value.state;
      core = i.core;
      trail = i.trail.items;
      roomless = i.trail.roomless;
      doubt = option_map (λ d. d.value) i.files.doubt;
      who = record { id = i.id; secret = i.secret; profile = Narrow };
      limit = i.limit;
      record_bytes = i.record_bytes;
      in_use = i.files.in_use;
      a = picked i.files.in_use.second i.files.used i.files.other;
      b = picked i.files.in_use.second i.files.other i.files.used;
      a_first = picked i.first.value.in_use.second i.first.value.used i.first.value.other;
      b_first = picked i.first.value.in_use.second i.first.value.other i.first.value.used;
    } in
    let now : Contents g.row.D.Denot = record was { core = c.leave_all.new.self } in
    subst (λ (s : Contents g.row.D.Denot). Leads g.D.Disk.seen g.D.Disk.may_leave g.D.Disk.moment g.D.Disk.left_since [] s now) c.self.view_is
    (watch_leads g.D.Disk.seen g.D.Disk.may_leave g.D.Disk.moment g.D.Disk.left_since was now i.core.greatest (rows_beside c.args.seats.items i.core.watches)
    (ap (λ (d : Database). record was { core = d }) c.leave_all.ensures))
