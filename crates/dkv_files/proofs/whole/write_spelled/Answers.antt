use Rattle.std.proofs.Common.{◌≡◌, ◌⊎◌, inl, inr, ⊎_elim, sym, ◌∙◌, subst, ℕ, ◌^◌, ◌<◌, ◌≤◌, false, List, [], ◌∷◌, length, Option, Some, arith}
use Rattle.dkv_io.specs.Disks.{AtRest, IsShort}
use Rattle.dkv_io.proofs.Moments.{weaker, joined}
use Rattle.dkv_io.specs.Past.{of_some}
use Rattle.dkv_io.proofs.Seen.{was_told}
use Rattle.dkv_queue.specs.Rows.{messages_of}
use Rattle.dkv_journal.specs.declared.gates.TheConstants.{OPEN_GATE, CLOSED_GATE}
use Rattle.dkv_files.specs.Crashes.{ClearLeaves, FillLeaves, GateLeaves, WholeLeaves, IsWritten}
use Rattle.dkv_files.specs.Filling.{behind_gate}
use Rattle.dkv_files.proofs.Shut.{shut_short, shut_closed, gate_leaves}
use Rattle.dkv_files.proofs.whole.write_spelled.Goals as goal

-- at rest on the file that it tells
rests_as : (seen : Option (List ℕ)) (images : List ℕ → Type 0) (f file : List ℕ) → AtRest seen images f → seen ≡ Some file → 0 < length f → AtRest seen images file × (0 < length file)
rests_as seen images f file rests told long =
    let same : f ≡ file = of_some file f (sym told ∙ rests.told) in
    (subst (AtRest seen images) same rests, subst (λ (l : List ℕ). 0 < length l) same long)

cleared_so : (images : List ℕ → Type 0) (file x : List ℕ) → ClearLeaves images x → WholeLeaves images file x
cleared_so images file x left = ⊎_elim (λ was. inl was) (λ (short : length x ≤ 1). inr (inl (shut_short x (omega (arith, short))))) left

opened_so : (images : List ℕ → Type 0) (bytes x : List ℕ) → length (CLOSED_GATE ∷ bytes) < 2 ^ 63 → GateLeaves (CLOSED_GATE ∷ bytes) x → WholeLeaves images (OPEN_GATE ∷ bytes) x
opened_so images bytes x short left = ⊎_elim (λ shut. inr (inl shut)) (λ is. inr (inr (is, short))) (gate_leaves bytes x left)

pub open_gate-requires : goal.open_gate-requires
open_gate-requires g c file told =
    let mid = was_told _ _ _ file told c.fill_behind.ensures.told in
    let start = was_told _ _ _ mid.file mid.seen c.clear.ensures.told in
    rests_as _ _ _ file (c.in-Ok-fill_behind.ensures.done _ (c.in-Ok.ensures.reads start.file start.seen)) told (omega arith)

pub fill_behind-requires-clause-cleared : goal.fill_behind-requires-clause-cleared
fill_behind-requires-clause-cleared g c file told =
    let start = was_told _ _ _ file told c.clear.ensures.told in
    c.in-Ok.ensures.done start.file start.seen

pub returns-in-Err-clause-leaves : goal.returns-in-Err-clause-leaves
returns-in-Err-clause-leaves g c file told =
    let old = c.args.disk.now in
    let images = g.D.Disk.may_leave old in
    let bytes = behind_gate c.args.front.now (g.T.Table.content c.args.table.now) (messages_of c.args.queue.now.rows) in
    weaker g.D.Disk.moment g.D.Disk.left_since old c.clear.new.disk (ClearLeaves images) (WholeLeaves images (OPEN_GATE ∷ bytes)) (cleared_so images (OPEN_GATE ∷ bytes)) (c.clear.ensures.leaves file told)

pub returns-in-Err-fill_behind-clause-leaves : goal.returns-in-Err-fill_behind-clause-leaves
returns-in-Err-fill_behind-clause-leaves g c file told =
    let moment = g.D.Disk.moment in
    let since = g.D.Disk.left_since in
    let old = c.args.disk.now in
    let images = g.D.Disk.may_leave old in
    let bytes = behind_gate c.args.front.now (g.T.Table.content c.args.table.now) (messages_of c.args.queue.now.rows) in
    let P = WholeLeaves images (OPEN_GATE ∷ bytes) in
    let empty = c.in-Ok.ensures.reads file told in
    let cleared = weaker moment since old c.clear.new.disk (ClearLeaves images) P (cleared_so images (OPEN_GATE ∷ bytes)) (c.clear.ensures.leaves file told) in
    let filled = weaker moment since c.clear.new.disk c.fill_behind.new.disk FillLeaves P (λ x shut. inr (inl (shut_closed x shut))) (c.fill_behind.ensures.leaves _ empty) in
    joined moment since old c.clear.new.disk c.fill_behind.new.disk P cleared filled

pub returns-in-Ok-open_gate-clause-leaves : goal.returns-in-Ok-open_gate-clause-leaves
returns-in-Ok-open_gate-clause-leaves g c file told =
    let moment = g.D.Disk.moment in
    let since = g.D.Disk.left_since in
    let old = c.args.disk.now in
    let images = g.D.Disk.may_leave old in
    let bytes = behind_gate c.args.front.now (g.T.Table.content c.args.table.now) (messages_of c.args.queue.now.rows) in
    let P = WholeLeaves images (OPEN_GATE ∷ bytes) in
    let empty = c.in-Ok.ensures.reads file told in
    let rests = c.in-Ok-fill_behind.ensures.done _ empty in
    let short = subst IsShort rests.told (g.met.D.Disk.short c.fill_behind.new.disk) in
    let cleared = weaker moment since old c.clear.new.disk (ClearLeaves images) P (cleared_so images (OPEN_GATE ∷ bytes)) (c.clear.ensures.leaves file told) in
    let filled = weaker moment since c.clear.new.disk c.fill_behind.new.disk FillLeaves P (λ x shut. inr (inl (shut_closed x shut))) (c.fill_behind.ensures.leaves _ empty) in
    let opened = weaker moment since c.fill_behind.new.disk c.open_gate.new.disk (GateLeaves (CLOSED_GATE ∷ bytes)) P (λ x left. opened_so images bytes x short left) (c.open_gate.ensures.leaves _ rests.told) in
    joined moment since old c.clear.new.disk c.open_gate.new.disk P cleared (joined moment since c.clear.new.disk c.fill_behind.new.disk c.open_gate.new.disk P filled opened)

pub returns-in-Err-open_gate-clause-leaves : goal.returns-in-Err-open_gate-clause-leaves
returns-in-Err-open_gate-clause-leaves g c file told =
    let moment = g.D.Disk.moment in
    let since = g.D.Disk.left_since in
    let old = c.args.disk.now in
    let images = g.D.Disk.may_leave old in
    let bytes = behind_gate c.args.front.now (g.T.Table.content c.args.table.now) (messages_of c.args.queue.now.rows) in
    let P = WholeLeaves images (OPEN_GATE ∷ bytes) in
    let empty = c.in-Ok.ensures.reads file told in
    let rests = c.in-Ok-fill_behind.ensures.done _ empty in
    let short = subst IsShort rests.told (g.met.D.Disk.short c.fill_behind.new.disk) in
    let cleared = weaker moment since old c.clear.new.disk (ClearLeaves images) P (cleared_so images (OPEN_GATE ∷ bytes)) (c.clear.ensures.leaves file told) in
    let filled = weaker moment since c.clear.new.disk c.fill_behind.new.disk FillLeaves P (λ x shut. inr (inl (shut_closed x shut))) (c.fill_behind.ensures.leaves _ empty) in
    let opened = weaker moment since c.fill_behind.new.disk c.open_gate.new.disk (GateLeaves (CLOSED_GATE ∷ bytes)) P (λ x left. opened_so images bytes x short left) (c.open_gate.ensures.leaves _ rests.told) in
    joined moment since old c.clear.new.disk c.open_gate.new.disk P cleared (joined moment since c.clear.new.disk c.fill_behind.new.disk c.open_gate.new.disk P filled opened)

pub returns-in-Ok-open_gate-clause-done : goal.returns-in-Ok-open_gate-clause-done
returns-in-Ok-open_gate-clause-done g c file told =
    c.in-Ok-open_gate.ensures.done _ ((c.in-Ok-fill_behind.ensures.done _ (c.in-Ok.ensures.reads file told)).told)
