use Rattle.std.proofs.Common.{◌∙◌, refl, sym, ap, subst, ℕ, ◌<◌, [], ◌∷◌, ◌++◌}
use Rattle.std.specs.Prelude.{option_map}
use Rattle.dkv_base.specs.declared.types.Item.TheVariants as item
use Rattle.dkv_base.specs.declared.types.Message.{Message}
use Rattle.dkv_base.specs.declared.types.Profile.TheVariants.{Narrow}
use Rattle.dkv_base.specs.Messages.{is_out}
use Rattle.dkv_base.specs.Trails.{first_stop, weight}
use Rattle.dkv_core.specs.Takes.{IsFirst, IsTaken}
use Rattle.dkv_core.specs.declared.takes.Taken.TheVariants as taken
use Rattle.dkv_files.specs.Crashes.{Identity}
use Rattle.dkv_store.specs.Held.{picked}
use Rattle.dkv_store.specs.Stores.{Contents, effective_at}
use Rattle.dkv_store.proofs.Keeping.{kept_took}
use Rattle.dkv_store.proofs.store.Store.take_kept.Goals as goal

pub invariant_of-self-2 : goal.invariant_of-self-2
invariant_of-self-2 g c =
    let i = c.self.inside in
    let t = c.moment-at.result in
    let m = c.in_ok-message-in-Message.message in
    let d = c.raise-2.new.self in
    let me : Identity = record { id = i.id; secret = i.secret; profile = Narrow } in
    let is : IsTaken i.core t (taken.Leased m) d = (
      subst (λ (x : Message). IsFirst i.core t x) (sym c.in_ok-message-in-Message.ensures) c.in-Message.ensures,
      λ k. ap (λ w. is_out k w.out) c.raise-2.ensures ∙ c.lease.ensures.out k,
      record { state = ap (λ w. w.state) c.raise-2.ensures ∙ c.lease.ensures.state; greatest = ap (λ w. w.greatest) c.raise-2.ensures },
    ) in
    kept_took g.D.Disk.seen g.D.Disk.may_leave g.D.Disk.faults i.files.journal i.base.value.state i.core d i.trail.items c.add_taken.new.self.items i.trail.roomless c.add_taken.new.self.roomless
    (option_map (λ d. d.value) i.files.doubt) me i.limit i.record_bytes i.files.in_use i.files.used i.files.other
    (picked i.first.value.in_use.second i.first.value.used i.first.value.other) (picked i.first.value.in_use.second i.first.value.other i.first.value.used) c.self.invariant
    c.args.who t m (ap (λ s. first_stop s.trail) c.self.view_is ∙ c.requires) c.moment-at.ensures.effective.late is c.in_ok-add_taken.ensures.items
    (c.passes.ensures.within (item.Took c.args.who t m.id) refl c.if-passes.false)

-- ---- a trail that is full

pub returns-then-passes-clause-refused : goal.returns-then-passes-clause-refused
returns-then-passes-clause-refused g c =
    let i = c.self.inside in
    let m = c.in_ok-message-in-Message.message in
    let first = subst (λ (x : Message). IsFirst i.core c.moment-at.result x) (sym c.in_ok-message-in-Message.ensures) c.in-Message.ensures in
    let over = c.passes.ensures.over (item.Took c.args.who c.moment-at.result m.id) refl c.if-passes.true in (
      m,
      subst (λ (s : Contents g.row.D.Denot). IsFirst s.core (effective_at s c.args.at) m) c.self.view_is (subst (λ (t : ℕ). IsFirst i.core t m) c.moment-at.ensures.value first),
      subst (λ (s : Contents g.row.D.Denot). s.limit < weight (s.trail ++ item.Took c.args.who (effective_at s c.args.at) m.id ∷ [])) c.self.view_is
          (subst (λ (t : ℕ). i.limit < weight (i.trail.items ++ item.Took c.args.who t m.id ∷ [])) c.moment-at.ensures.value over),
      c.weight.ensures ∙ ap (λ s. weight s.trail) c.self.view_is,
      ap (λ s. s.limit) c.self.view_is,
      record {
        base = ap (λ s. s.base) c.self.view_is;
        state = ap (λ w. w.state) c.raise-then-passes.ensures ∙ ap (λ s. s.core.state) c.self.view_is;
        out = ap (λ w. w.out) c.raise-then-passes.ensures ∙ ap (λ s. s.core.out) c.self.view_is;
        greatest = ap (λ w. w.greatest) c.raise-then-passes.ensures ∙ c.moment-at.ensures.value ∙ ap (λ s. effective_at s c.args.at) c.self.view_is;
        trail = ap (λ s. s.trail) c.self.view_is;
        doubt = ap (λ s. s.doubt) c.self.view_is;
        roomless = ap (λ s. s.roomless) c.self.view_is;
        who = ap (λ s. s.who) c.self.view_is;
        limit = ap (λ s. s.limit) c.self.view_is;
        record_bytes = ap (λ s. s.record_bytes) c.self.view_is;
        in_use = ap (λ s. s.in_use) c.self.view_is;
        a = ap (λ s. s.a) c.self.view_is;
        b = ap (λ s. s.b) c.self.view_is;
      },
    )
