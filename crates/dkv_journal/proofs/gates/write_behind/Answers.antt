use Rattle.std.proofs.Common.{subst, ℕ, List, length, arith}
use Rattle.dkv_io.specs.Disks.{FromStart, Torn}
use Rattle.dkv_io.proofs.Moments.{started, goes_on}
use Rattle.dkv_io.proofs.Seen.{within_told}
use Rattle.dkv_journal.specs.Crashes.{StaysShut}
use Rattle.dkv_journal.proofs.Torn.{shut_still, shut_behind, closed_within, next_place}
use Rattle.dkv_journal.proofs.gates.write_behind.Goals as goal

pub write_at-requires : goal.write_at-requires
write_at-requires g c =
    let old = c.args.disk.now in
    within_told (g.D.Disk.seen old) c.saturating_add.result (λ file told.
    let within = closed_within c.args.place file (c.requires file told file (g.met.D.Disk.reads_as old file told)) in
    omega (arith, within, c.saturating_add.ensures))

pub returns-in_err-write_at-clause-leaves : goal.returns-in_err-write_at-clause-leaves
returns-in_err-write_at-clause-leaves g c file told =
    let old = c.args.disk.now in
    let p = c.args.place in
    let P = FromStart (g.D.Disk.may_leave old) (StaysShut p) in
    let next = next_place p c.saturating_add.result file (g.D.Disk.seen old) told (g.met.D.Disk.short old) (c.requires file told file (g.met.D.Disk.reads_as old file told)) c.saturating_add.ensures in
    let at_start = started g.D.Disk.moment g.D.Disk.left_since old P (λ f left. let now = g.met.D.Disk.only_now old f left in (f, now, shut_still p f (c.requires file told f now))) in
    goes_on g.D.Disk.moment g.D.Disk.left_since old old c.write_at.new.self P _ at_start c.write_at.ensures.time (λ f now.
    let from = c.write_at.ensures.crash f now in
    (from.0, from.1, shut_behind p _ from.0 f (subst (λ (q : ℕ). Torn q (length c.args.bytes.now) from.0 f) next from.2) (c.requires file told from.0 from.1)))

pub returns-clause-leaves : goal.returns-clause-leaves
returns-clause-leaves g c file told =
    let old = c.args.disk.now in
    let p = c.args.place in
    let P = FromStart (g.D.Disk.may_leave old) (StaysShut p) in
    let next = next_place p c.saturating_add.result file (g.D.Disk.seen old) told (g.met.D.Disk.short old) (c.requires file told file (g.met.D.Disk.reads_as old file told)) c.saturating_add.ensures in
    let at_start = started g.D.Disk.moment g.D.Disk.left_since old P (λ f left. let now = g.met.D.Disk.only_now old f left in (f, now, shut_still p f (c.requires file told f now))) in
    let behind : (f : List ℕ) → g.D.Disk.may_leave c.write_at.new.self f → P f = λ f now.
    let from = c.write_at.ensures.crash f now in
    (from.0, from.1, shut_behind p _ from.0 f (subst (λ (q : ℕ). Torn q (length c.args.bytes.now) from.0 f) next from.2) (c.requires file told from.0 from.1)) in
    let written = goes_on g.D.Disk.moment g.D.Disk.left_since old old c.write_at.new.self P _ at_start c.write_at.ensures.time behind in
    goes_on g.D.Disk.moment g.D.Disk.left_since old c.write_at.new.self c.sync.new.self P _ written c.sync.ensures.time (λ f now. behind f (c.sync.ensures.crash f now))
