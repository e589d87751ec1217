use Rattle.std.proofs.Common.{◌≡◌, ap, subst, [], Result, Ok, Err, OnErr, IfOk}
use Rattle.std.specs.Prelude.{option_map}
use Rattle.std.proofs.lemmas.Result.{IfOk-weaker}
use Rattle.dkv_base.specs.declared.types.Profile.TheVariants.{Narrow}
use Rattle.dkv_core.specs.Cores.{Database}
use Rattle.dkv_store.specs.Held.{picked}
use Rattle.dkv_store.specs.Stores.{Contents}
use Rattle.dkv_store.specs.Terms.{Leads}
use Rattle.dkv_store.proofs.Leading.{began_leads}
use Rattle.dkv_store.proofs.store.Store.watch.Goals as goal

if_err : {T E : Type 0} (r : Result T E) (P Q : Type 0) → (P → Q) → OnErr r P → OnErr r Q
if_err (Ok x) P Q so has = tt
if_err (Err e) P Q so has = so has

pub returns-clause-goes : goal.returns-clause-goes
returns-clause-goes g c =
    let i = c.self.inside in
    let was : Contents g.row.D.Denot = record {
      base = i.base.value.state;
      core = i.core;
      trail = i.trail.items;
      roomless = i.trail.roomless;
      doubt = option_map (λ d. d.value) i.files.doubt;
      who = record { id = i.id; secret = i.secret; profile = Narrow };
      limit = i.limit;
      record_bytes = i.record_bytes;
      in_use = i.files.in_use;
      a = picked i.files.in_use.second i.files.used i.files.other;
      b = picked i.files.in_use.second i.files.other i.files.used;
      a_first = picked i.first.value.in_use.second i.first.value.used i.first.value.other;
      b_first = picked i.first.value.in_use.second i.first.value.other i.first.value.used;
    } in
    let now : Contents g.row.D.Denot = record was { core = c.watch.new.self } in
    subst (λ (s : Contents g.row.D.Denot). Leads g.D.Disk.seen g.D.Disk.may_leave g.D.Disk.moment g.D.Disk.left_since [] s now) c.self.view_is
    (began_leads g.D.Disk.seen g.D.Disk.may_leave g.D.Disk.moment g.D.Disk.left_since was now c.args.keys c.watch.result
    (IfOk-weaker c.watch.result _ _ (λ w is. ap (λ (d : Database). record was { core = d }) is) c.watch.ensures.row)
    (if_err c.watch.result _ _ (λ is. ap (λ (d : Database). record was { core = d }) is) c.watch.ensures.refused))
