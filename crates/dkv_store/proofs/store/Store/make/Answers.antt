use Rattle.std.proofs.Common.{◌≡◌, ◌∙◌, sym, ap, subst, List, [], ◌∷◌, ◌++◌, ℕ, ◌+◌, ◌-◌, ◌^◌, ◌≤◌, inl, arith, min, Bool, false, Option, Some, None, Result, Ok, Err, OnOk, refl}
use Rattle.dkv_base.specs.declared.types.Call.{Call}
use Rattle.dkv_base.specs.declared.types.Call.TheVariants as call
use Rattle.dkv_base.specs.declared.types.Commit.{Commit}
use Rattle.dkv_base.specs.declared.types.Commit.TheVariants as commit
use Rattle.dkv_base.specs.declared.types.MsgId.{MsgId}
use Rattle.dkv_base.specs.Trails.{weight}
use Rattle.dkv_base.specs.declared.types.Profile.TheVariants.{Narrow}
use Rattle.dkv_base.specs.Profiles.{body_most}
use Rattle.dkv_base.specs.Spelling.{record_length}
use Rattle.dkv_base.specs.State.{State}
use Rattle.dkv_base.specs.After.{is_legal_in}
use Rattle.std.specs.Prelude.{IsTrue, option_map, is_some, is_err}
use Rattle.dkv_core.specs.Cores.{applied}
use Rattle.dkv_core.specs.Decisions.{commit_of, Goes, OfWrite}
use Rattle.dkv_files.specs.Crashes.{Identity, and_then}
use Rattle.dkv_store.specs.declared.held.InUse.{InUse}
use Rattle.dkv_store.specs.Held.{CommitMoves, MayAdd, Hold, Guarded, picked}
use Rattle.dkv_store.specs.Stores.{Contents, Keeps, IsFull, IsOldOrNew, used_of, other_of}
use Rattle.dkv_store.specs.declared.recall.Recall.{Recall}
use Rattle.dkv_base.specs.declared.types.Item.{Item}
use Rattle.dkv_base.specs.declared.types.Item.TheVariants as item
use Rattle.dkv_io.proofs.Seen.{was_told}
use Rattle.dkv_store.specs.Trails.{message_of, spent, freed, FindsNoStop, FitsIn, IsTooHeavy}
use Rattle.dkv_store.proofs.Keeping.{kept_doubt, kept_made}
use Rattle.dkv_store.proofs.Placing.{freed_spent}
use Rattle.dkv_store.proofs.Results.{err_of, ok_of, failed_of, named_on}
use Rattle.dkv_store.proofs.Standing.{keeps_still, went_leaves}
use Rattle.dkv_store.proofs.store.Store.make.Goals as goal

pub returns-in_default-clause-moves : goal.returns-in_default-clause-moves
returns-in_default-clause-moves g c =
    let i = c.self.inside in
    let kept = subst (λ (s : Contents g.row.D.Denot). Keeps g.D.Disk.seen g.D.Disk.may_leave g.D.Disk.faults i.files.journal i.files.used i.files.other s) c.self.view_is c.self.invariant in
    keeps_still g.D.Disk.seen g.D.Disk.may_leave g.D.Disk.faults i.files.journal i.files.used i.files.other c.args.self.now kept g.D.Disk.moment g.D.Disk.left_since (commit_of c.args.who c.args.at c.args.call) (picked i.files.in_use.second i.files.used i.files.other) (picked i.files.in_use.second i.files.other i.files.used) (ap (λ s. s.a) c.self.view_is) (ap (λ s. s.b) c.self.view_is)

pub returns-then-is_err-clause-moves : goal.returns-then-is_err-clause-moves
returns-then-is_err-clause-moves g c =
    let i = c.self.inside in
    let k = c.commit_for-commit.result in
    let is = c.commit_for-commit.ensures in
    let who : Identity = record { id = i.id; secret = i.secret; profile = Narrow } in
    let may : MayAdd i.core.state k = record {
      back = c.in-Ok.ensures.back;
      short = subst (λ (m : Commit). record_length m ≤ body_most Narrow) (sym is) (c.requires.short c.requires.goes.legal);
      legal = subst (λ (m : Commit). IsTrue (is_legal_in i.core.state m)) (sym is)
          (subst (λ (s : State). IsTrue (is_legal_in s (commit_of c.args.who c.args.at c.args.call))) (sym (ap (λ s. s.core.state) c.self.view_is)) c.requires.goes.legal);
    } in
    let n = c.write.new.files in
    let f = i.files in
    let old : Contents g.row.D.Denot = record {
      base = i.base.value.state;
      core = i.core;
      trail = i.trail.items;
      roomless = i.trail.roomless;
      doubt = option_map (λ d. d.value) f.doubt;
      who = who;
      limit = i.limit;
      record_bytes = i.record_bytes;
      in_use = f.in_use;
      a = picked f.in_use.second f.used f.other;
      b = picked f.in_use.second f.other f.used;
      a_first = picked i.first.value.in_use.second i.first.value.used i.first.value.other;
      b_first = picked i.first.value.in_use.second i.first.value.other i.first.value.used;
    } in
    let kept : Keeps g.D.Disk.seen g.D.Disk.may_leave g.D.Disk.faults f.journal f.used f.other old = c.self.invariant in
    let a = picked n.in_use.second n.used n.other in
    let b = picked n.in_use.second n.other n.used in
    subst (λ (s : Contents g.row.D.Denot). (file beside : List ℕ) → g.D.Disk.seen (used_of s) ≡ Some file → g.D.Disk.seen (other_of s) ≡ Some beside
    → CommitMoves g.D.Disk.may_leave g.D.Disk.moment g.D.Disk.left_since s.in_use.second s.who s.core.state s.doubt (commit_of c.args.who c.args.at c.args.call)
    (used_of s) (other_of s) (picked s.in_use.second a b) (picked s.in_use.second b a)) c.self.view_is
    (went_leaves g.D.Disk.seen g.D.Disk.may_leave g.D.Disk.faults f.journal f.used f.other old kept g.D.Disk.moment g.D.Disk.left_since k (commit_of c.args.who c.args.at c.args.call) is n.used n.other
    a b (ap (λ (u : InUse). picked u.second n.used n.other) c.write.ensures.in_use) (ap (λ (u : InUse). picked u.second n.other n.used) c.write.ensures.in_use)
    (λ file beside told told_beside. c.write.ensures.moves i.core.state who file beside told told_beside (kept.stands file told) may))

pub returns-clause-moves : goal.returns-clause-moves
returns-clause-moves g c =
    let i = c.self.inside in
    let k = c.commit_for-commit.result in
    let is = c.commit_for-commit.ensures in
    let who : Identity = record { id = i.id; secret = i.secret; profile = Narrow } in
    let may : MayAdd i.core.state k = record {
      back = c.in-Ok.ensures.back;
      short = subst (λ (m : Commit). record_length m ≤ body_most Narrow) (sym is) (c.requires.short c.requires.goes.legal);
      legal = subst (λ (m : Commit). IsTrue (is_legal_in i.core.state m)) (sym is)
          (subst (λ (s : State). IsTrue (is_legal_in s (commit_of c.args.who c.args.at c.args.call))) (sym (ap (λ s. s.core.state) c.self.view_is)) c.requires.goes.legal);
    } in
    let n = c.write.new.files in
    let f = i.files in
    let old : Contents g.row.D.Denot = record {
      base = i.base.value.state;
      core = i.core;
      trail = i.trail.items;
      roomless = i.trail.roomless;
      doubt = option_map (λ d. d.value) f.doubt;
      who = who;
      limit = i.limit;
      record_bytes = i.record_bytes;
      in_use = f.in_use;
      a = picked f.in_use.second f.used f.other;
      b = picked f.in_use.second f.other f.used;
      a_first = picked i.first.value.in_use.second i.first.value.used i.first.value.other;
      b_first = picked i.first.value.in_use.second i.first.value.other i.first.value.used;
    } in
    let kept : Keeps g.D.Disk.seen g.D.Disk.may_leave g.D.Disk.faults f.journal f.used f.other old = c.self.invariant in
    let a = picked n.in_use.second n.used n.other in
    let b = picked n.in_use.second n.other n.used in
    subst (λ (s : Contents g.row.D.Denot). (file beside : List ℕ) → g.D.Disk.seen (used_of s) ≡ Some file → g.D.Disk.seen (other_of s) ≡ Some beside
    → CommitMoves g.D.Disk.may_leave g.D.Disk.moment g.D.Disk.left_since s.in_use.second s.who s.core.state s.doubt (commit_of c.args.who c.args.at c.args.call)
    (used_of s) (other_of s) (picked s.in_use.second a b) (picked s.in_use.second b a)) c.self.view_is
    (went_leaves g.D.Disk.seen g.D.Disk.may_leave g.D.Disk.faults f.journal f.used f.other old kept g.D.Disk.moment g.D.Disk.left_since k (commit_of c.args.who c.args.at c.args.call) is n.used n.other
    a b (ap (λ (u : InUse). picked u.second n.used n.other) c.write.ensures.in_use) (ap (λ (u : InUse). picked u.second n.other n.used) c.write.ensures.in_use)
    (λ file beside told told_beside. c.write.ensures.moves i.core.state who file beside told told_beside (kept.stands file told) may))

-- with a record more
more_bytes : (was old size now : ℕ) (c d : Commit) → was ≡ old → c ≡ d → size ≡ 5 + record_length c → now ≡ min (was + size) (2 ^ 64 - 1) → now ≡ min (old + (5 + record_length d)) (2 ^ 64 - 1)
more_bytes was old size now c d same is long sum = sum ∙ (λ i. min (same i + (long ∙ ap (λ (m : Commit). 5 + record_length m) is) i) (2 ^ 64 - 1))

-- a commit fits behind items that are the same
fits_in : (limit : ℕ) (old new : List Item) (c d : Commit) → new ≡ old → c ≡ d → FitsIn limit new c → FitsIn limit old d
fits_in limit old new c d items is fits = subst (λ (xs : List Item). FitsIn limit xs d) items (subst (λ (m : Commit). FitsIn limit new m) is fits)

pub invariant_of-self-then-is_err : goal.invariant_of-self-then-is_err
invariant_of-self-then-is_err g c =
    let i = c.self.inside in
    let k = c.commit_for-commit.result in
    let is = c.commit_for-commit.ensures in
    let me : Identity = record { id = i.id; secret = i.secret; profile = Narrow } in
    let n = c.write.new.files in
    let goes = subst (λ (s : Contents g.row.D.Denot). Goes s.core c.args.who c.args.at c.args.call c.args.prepared) (sym c.self.view_is) c.requires.goes in
    let may : MayAdd i.core.state k = record {
      back = c.in-Ok.ensures.back;
      short = subst (λ (m : Commit). record_length m ≤ body_most Narrow) (sym is) (c.requires.short c.requires.goes.legal);
      legal = subst (λ (m : Commit). IsTrue (is_legal_in i.core.state m)) (sym is) goes.legal;
    } in
    let failed = sym c.is_err.ensures.value ∙ c.if-is_err.true in
    kept_doubt g.D.Disk.seen g.D.Disk.may_leave g.D.Disk.faults i.files.journal n.journal i.base.value.state i.core c.raise-then-is_err.new.self i.trail.items c.add.new.self.items i.trail.roomless c.add.new.self.roomless
    (option_map (λ d. d.value) i.files.doubt) (option_map (λ d. d.value) n.doubt) me i.limit i.record_bytes i.record_bytes i.files.in_use n.in_use i.files.used n.used i.files.other n.other
    (picked i.first.value.in_use.second i.first.value.used i.first.value.other) (picked i.first.value.in_use.second i.first.value.other i.first.value.used) c.self.invariant
    c.args.who c.args.at c.args.call c.args.prepared goes (named_on (λ (d : Recall Commit). d.value) _ n.doubt c.write.ensures.named) (ap (λ (u : InUse). u.second) c.write.ensures.in_use) c.write.ensures.cause.later (omega (arith, ap g.D.Disk.faults c.write.ensures.other))
    (ap (λ w. w.state) c.raise-then-is_err.ensures ∙ ap (λ w. w.state) c.drop_prepared-then-is_err.ensures)
    (ap (λ w. w.out) c.raise-then-is_err.ensures ∙ ap (λ w. w.out) c.drop_prepared-then-is_err.ensures)
    (ap (λ w. w.greatest) c.raise-then-is_err.ensures)
    (c.add.ensures.items ∙ ap (λ (l : List Item). l ++ item.Doubt c.args.who c.args.at ∷ []) c.ready.ensures.items)
    (inl (failed_of c.write.result _ c.write.ensures.cause.failed failed))
    (λ fa told.
    let was = was_told _ _ _ fa told c.write.ensures.told in
    err_of c.write.result _ _ (c.write.ensures.holds i.core.state me was.file was.seen (c.self.invariant.stands was.file was.seen) may) failed)

pub invariant_of-self-2 : goal.invariant_of-self-2
invariant_of-self-2 g c =
    let i = c.self.inside in
    let k = c.commit_for-commit.result in
    let is = c.commit_for-commit.ensures in
    let me : Identity = record { id = i.id; secret = i.secret; profile = Narrow } in
    let n = c.write.new.files in
    let goes = subst (λ (s : Contents g.row.D.Denot). Goes s.core c.args.who c.args.at c.args.call c.args.prepared) (sym c.self.view_is) c.requires.goes in
    let may : MayAdd i.core.state k = record {
      back = c.in-Ok.ensures.back;
      short = subst (λ (m : Commit). record_length m ≤ body_most Narrow) (sym is) (c.requires.short c.requires.goes.legal);
      legal = subst (λ (m : Commit). IsTrue (is_legal_in i.core.state m)) (sym is) goes.legal;
    } in
    let went = sym c.is_err.ensures.value ∙ c.if-is_err.false in
    let fits = fits_in i.limit i.trail.items c.ready.new.self.items k (commit_of c.args.who c.args.at c.args.call) c.ready.ensures.items is (c.is_too_heavy.ensures.within c.if-is_too_heavy.false) in
    kept_made g.D.Disk.seen g.D.Disk.may_leave g.D.Disk.faults i.files.journal n.journal i.base.value.state i.core c.apply-n.new.self i.trail.items c.add_made.new.self.items i.trail.roomless c.add_made.new.self.roomless
    (option_map (λ d. d.value) i.files.doubt) (option_map (λ d. d.value) n.doubt) me i.limit i.record_bytes c.saturating_add-self-inside.result i.files.in_use n.in_use i.files.used n.used i.files.other n.other
    (picked i.first.value.in_use.second i.first.value.used i.first.value.other) (picked i.first.value.in_use.second i.first.value.other i.first.value.used) c.self.invariant
    c.args.who c.args.at c.args.call c.args.prepared goes (named_on (λ (d : Recall Commit). d.value) _ n.doubt c.write.ensures.named) (ap (λ (u : InUse). u.second) c.write.ensures.in_use) c.write.ensures.cause.later (omega (arith, ap g.D.Disk.faults c.write.ensures.other))
    c.apply-n.ensures.state c.apply-n.ensures.out c.apply-n.ensures.moment
    (c.add_made.ensures.items ∙ (λ z. c.ready.ensures.items z ++ item.Made (is z) ∷ []))
    (subst (λ (s : Contents g.row.D.Denot). FindsNoStop c.args.call s.trail) (sym c.self.view_is) c.requires.unstopped) fits
    (λ fa told.
    let was = was_told _ _ _ fa told c.write.ensures.told in
    subst (λ (m : Commit). Hold (g.D.Disk.may_leave n.used) (Guarded (g.D.Disk.seen n.other) (g.D.Disk.may_leave n.other)) n.journal n.in_use (option_map (λ d. d.value) n.doubt) (and_then i.core.state m) me) is
    (ok_of c.write.result _ _ (c.write.ensures.holds i.core.state me was.file was.seen (c.self.invariant.stands was.file was.seen) may) went))

pub returns-then-is_err-clause-doubted : goal.returns-then-is_err-clause-doubted
returns-then-is_err-clause-doubted g c answered =
    let i = c.self.inside in
    let failed = sym c.is_err.ensures.value ∙ c.if-is_err.true in
    let new = option_map (λ d. d.value) c.write.new.files.doubt in
    subst (λ (s : Contents g.row.D.Denot). IsOldOrNew s.doubt (commit_of c.args.who c.args.at c.args.call) new) c.self.view_is
    (subst (λ (m : Commit). IsOldOrNew (option_map (λ d. d.value) i.files.doubt) m new) c.commit_for-commit.ensures
    (failed_of c.write.result _ c.write.ensures.doubted failed))

ok_gives : {T E Q : Type 0} (r : Result T E) → OnOk r Q → is_err r ≡ false → Q
ok_gives (Ok x) has is = has
ok_gives (Err e) has is = absurd (cc is)

none_of : (o : Option (Recall Commit)) → is_some o ≡ false → option_map (λ d. d.value) o ≡ None
none_of None is = refl
none_of (Some d) is = absurd (cc is)

pub returns-clause-answer : goal.returns-clause-answer
returns-clause-answer g c =
    let i = c.self.inside in
    let k = c.commit_for-commit.result in
    let is = c.commit_for-commit.ensures in
    let goes = c.requires.goes in
    let went = sym c.is_err.ensures.value ∙ c.if-is_err.false in
    record {
      number = c.apply-n.ensures.number ∙ goes.ready.number;
      legal = goes.legal;
      base = ap (λ s. s.base) c.self.view_is;
      state = c.apply-n.ensures.state ∙ ap (λ s. applied c.args.prepared s.core.state) c.self.view_is ∙ goes.makes;
      greatest = c.apply-n.ensures.moment ∙ goes.moment;
      trail = c.add_made.ensures.items ∙ (λ z. c.ready.ensures.items z ++ item.Made (is z) ∷ []) ∙ ap (λ s. s.trail ++ item.Made (commit_of c.args.who c.args.at c.args.call) ∷ []) c.self.view_is;
      roomless = c.add_made.ensures.roomless ∙ ap (freed (message_of k)) c.in-Ok.ensures.spent ∙ freed_spent (message_of k) i.trail.roomless
          ∙ (λ z. freed (message_of (is z)) (c.self.view_is z).roomless);
      sure = none_of c.write.new.files.doubt (sym c.write.ensures.named ∙ ok_gives c.write.result c.write.ensures.sure went);
      who = ap (λ s. s.who) c.self.view_is;
      limit = ap (λ s. s.limit) c.self.view_is;
      record_bytes = more_bytes i.record_bytes c.args.self.now.record_bytes c.record_size.result c.saturating_add-self-inside.result k (commit_of c.args.who c.args.at c.args.call) (ap (λ s. s.record_bytes) c.self.view_is) is c.record_size.ensures c.saturating_add-self-inside.ensures;
      in_use = c.write.ensures.in_use ∙ ap (λ s. s.in_use) c.self.view_is;
      fits = subst (λ (s : Contents g.row.D.Denot). FitsIn s.limit s.trail (commit_of c.args.who c.args.at c.args.call)) c.self.view_is
          (fits_in i.limit i.trail.items c.ready.new.self.items k (commit_of c.args.who c.args.at c.args.call) c.ready.ensures.items is (c.is_too_heavy.ensures.within c.if-is_too_heavy.false));
    }

-- ---- a trail that is full

heavy_in : (limit : ℕ) (old new : List Item) (c d : Commit) → new ≡ old → c ≡ d → IsTooHeavy limit new c → IsTooHeavy limit old d
heavy_in limit old new c d items is heavy = subst (λ (xs : List Item). IsTooHeavy limit xs d) items (subst (λ (m : Commit). IsTooHeavy limit new m) is heavy)

-- what weighs too much is a write
full_write : {D : Type 0} (s : Contents D) (who t : ℕ) (a : Call) → IsTrue (is_legal_in s.core.state (commit_of who t a)) → IsTooHeavy s.limit s.trail (commit_of who t a) → OfWrite a (IsFull s who t)
full_write s who t (call.Write w) legal heavy = (legal, heavy)
full_write s who t (call.Ack id) legal heavy = absurd heavy
full_write s who t (call.Fail id) legal heavy = absurd heavy

heavy_spends : (limit : ℕ) (items : List Item) (c : Commit) (lost : List MsgId) → IsTooHeavy limit items c → spent (message_of c) lost ≡ lost
heavy_spends limit items (commit.Wrote who at w) lost heavy = refl
heavy_spends limit items (commit.Acked who at id) lost heavy = absurd heavy
heavy_spends limit items (commit.Failed who at id) lost heavy = absurd heavy

pub returns-then-is_too_heavy-clause-moves : goal.returns-then-is_too_heavy-clause-moves
returns-then-is_too_heavy-clause-moves g c =
    let i = c.self.inside in
    let kept = subst (λ (s : Contents g.row.D.Denot). Keeps g.D.Disk.seen g.D.Disk.may_leave g.D.Disk.faults i.files.journal i.files.used i.files.other s) c.self.view_is c.self.invariant in
    keeps_still g.D.Disk.seen g.D.Disk.may_leave g.D.Disk.faults i.files.journal i.files.used i.files.other c.args.self.now kept g.D.Disk.moment g.D.Disk.left_since (commit_of c.args.who c.args.at c.args.call) (picked i.files.in_use.second i.files.used i.files.other) (picked i.files.in_use.second i.files.other i.files.used) (ap (λ s. s.a) c.self.view_is) (ap (λ s. s.b) c.self.view_is)

pub returns-then-is_too_heavy-clause-answer : goal.returns-then-is_too_heavy-clause-answer
returns-then-is_too_heavy-clause-answer g c =
    let i = c.self.inside in
    let k = c.commit_for-commit.result in
    let over = c.is_too_heavy.ensures.over c.if-is_too_heavy.true in
    let heavy = subst (λ (s : Contents g.row.D.Denot). IsTooHeavy s.limit s.trail (commit_of c.args.who c.args.at c.args.call)) c.self.view_is
    (heavy_in i.limit i.trail.items c.ready.new.self.items k (commit_of c.args.who c.args.at c.args.call) c.ready.ensures.items c.commit_for-commit.ensures over) in (
      full_write c.args.self.now c.args.who c.args.at c.args.call c.requires.goes.legal heavy,
      c.weight.ensures ∙ ap weight c.ready.ensures.items ∙ ap (λ s. weight s.trail) c.self.view_is,
      ap (λ s. s.limit) c.self.view_is,
      record {
        base = ap (λ s. s.base) c.self.view_is;
        state = ap (λ w. w.state) c.raise.ensures ∙ ap (λ w. w.state) c.drop_prepared-then-is_too_heavy.ensures ∙ ap (λ s. s.core.state) c.self.view_is;
        out = ap (λ w. w.out) c.raise.ensures ∙ ap (λ w. w.out) c.drop_prepared-then-is_too_heavy.ensures ∙ ap (λ s. s.core.out) c.self.view_is;
        greatest = ap (λ w. w.greatest) c.raise.ensures;
        trail = c.ready.ensures.items ∙ ap (λ s. s.trail) c.self.view_is;
        doubt = ap (λ s. s.doubt) c.self.view_is;
        roomless = c.in-Ok.ensures.spent ∙ heavy_spends i.limit c.ready.new.self.items k i.trail.roomless over ∙ ap (λ s. s.roomless) c.self.view_is;
        who = ap (λ s. s.who) c.self.view_is;
        limit = ap (λ s. s.limit) c.self.view_is;
        record_bytes = ap (λ s. s.record_bytes) c.self.view_is;
        in_use = ap (λ s. s.in_use) c.self.view_is;
        a = ap (λ s. s.a) c.self.view_is;
        b = ap (λ s. s.b) c.self.view_is;
      },
    )
