use Rattle.std.proofs.Common.{◌≡◌, ◌∙◌, inl, inr, ap, subst, ℕ, List, [], ◌∷◌, ◌++◌, take, drop, Option, Some}
use Rattle.dkv_io.specs.Disks.{Torn, Holds}
use Rattle.dkv_io.proofs.Moments.{started, goes_on}
use Rattle.dkv_io.proofs.Seen.{still_told, only_seen, on_ok, always_ok}
use Rattle.dkv_files.specs.Crashes.{ClearLeaves, cleared}
use Rattle.dkv_files.proofs.Clears.{cut_leaves, torn_first}
use Rattle.dkv_files.proofs.files.clear.Goals as goal

abbrev some : List ℕ → Option (List ℕ)
some l = Some l

pub returns-in_err-write_at-clause-leaves : goal.returns-in_err-write_at-clause-leaves
returns-in_err-write_at-clause-leaves g c file told =
    let moment = g.D.Disk.moment in
    let since = g.D.Disk.left_since in
    let old = c.args.disk.now in
    let P = ClearLeaves (g.D.Disk.may_leave old) in
    let at_start = started moment since old P (λ f left. inl (g.met.D.Disk.only_now old f left)) in
    let was_cut : (f : List ℕ) → g.D.Disk.may_leave c.cut.new.self f → P f = λ f now.
    let from = c.cut.ensures.crash f now in cut_leaves (g.D.Disk.may_leave old) from.0 f from.1 from.2 in
    let cut = goes_on moment since old old c.cut.new.self P _ at_start c.cut.ensures.time was_cut in
    let synced = goes_on moment since old c.cut.new.self c.sync.new.self P _ cut c.sync.ensures.time (λ f now. was_cut f (c.sync.ensures.crash f now)) in
    let e = still_told _ _ _ file told c.in_ok-cut.ensures.cut in
    let was_written : (f : List ℕ) → g.D.Disk.may_leave c.write_at.new.self f → P f = λ f now.
    let from = c.write_at.ensures.crash f now in
    let empty : from.0 ≡ [] = only_seen _ e.file _ e.seen c.in_ok-sync.ensures.durable from.0 from.1 ∙ e.is in
    inr (torn_first f (subst (λ (d : List ℕ). Torn 0 1 d f) empty from.2)) in
    goes_on moment since old c.sync.new.self c.write_at.new.self P _ synced c.write_at.ensures.time was_written

pub returns-clause-leaves : goal.returns-clause-leaves
returns-clause-leaves g c file told =
    let moment = g.D.Disk.moment in
    let since = g.D.Disk.left_since in
    let old = c.args.disk.now in
    let P = ClearLeaves (g.D.Disk.may_leave old) in
    let at_start = started moment since old P (λ f left. inl (g.met.D.Disk.only_now old f left)) in
    let was_cut : (f : List ℕ) → g.D.Disk.may_leave c.cut.new.self f → P f = λ f now.
    let from = c.cut.ensures.crash f now in cut_leaves (g.D.Disk.may_leave old) from.0 f from.1 from.2 in
    let cut = goes_on moment since old old c.cut.new.self P _ at_start c.cut.ensures.time was_cut in
    let synced = goes_on moment since old c.cut.new.self c.sync.new.self P _ cut c.sync.ensures.time (λ f now. was_cut f (c.sync.ensures.crash f now)) in
    let e = still_told _ _ _ file told c.in_ok-cut.ensures.cut in
    let was_written : (f : List ℕ) → g.D.Disk.may_leave c.write_at.new.self f → P f = λ f now.
    let from = c.write_at.ensures.crash f now in
    let empty : from.0 ≡ [] = only_seen _ e.file _ e.seen c.in_ok-sync.ensures.durable from.0 from.1 ∙ e.is in
    inr (torn_first f (subst (λ (d : List ℕ). Torn 0 1 d f) empty from.2)) in
    let written = goes_on moment since old c.sync.new.self c.write_at.new.self P _ synced c.write_at.ensures.time was_written in
    goes_on moment since old c.write_at.new.self c.sync-2.new.self P _ written c.sync-2.ensures.time (λ f now. was_written f (c.sync-2.ensures.crash f now))

is_cleared : (old after : List ℕ) → old ≡ [] → Holds 0 (0 ∷ []) old after → after ≡ cleared
is_cleared old after empty is = is ∙ ap (λ (l : List ℕ). take 0 l ++ 0 ∷ [] ++ drop 1 l) empty

pub returns-clause-done : goal.returns-clause-done
returns-clause-done g c file told =
    let e = still_told _ _ _ file told c.in_ok-cut.ensures.cut in
    let w = still_told _ _ _ e.file (c.sync.ensures.seen ∙ e.seen) c.in_ok-write_at.ensures.written in
    on_ok c.sync-2.result _ _ c.sync-2.ensures.durable (λ only f now. only_seen _ w.file _ w.seen only f now ∙ is_cleared e.file w.file e.is w.is)

pub returns-clause-reads : goal.returns-clause-reads
returns-clause-reads g c file told =
    let e = still_told _ _ _ file told c.in_ok-cut.ensures.cut in
    let w = still_told _ _ _ e.file (c.sync.ensures.seen ∙ e.seen) c.in_ok-write_at.ensures.written in
    always_ok c.sync-2.result _ (c.sync-2.ensures.seen ∙ w.seen ∙ ap some (is_cleared e.file w.file e.is w.is))
