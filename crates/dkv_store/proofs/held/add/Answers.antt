use Rattle.std.proofs.Common.{◌∙◌, sym, ap, subst, Some}
use Rattle.std.specs.Prelude.{option_map}
use Rattle.dkv_base.specs.declared.types.Commit.{Commit}
use Rattle.dkv_base.specs.Spelling.{record_body}
use Rattle.dkv_io.specs.Disks.{IsShort}
use Rattle.dkv_journal.specs.declared.journal.Journal.{Journal}
use Rattle.dkv_journal.specs.Records.{first_layout}
use Rattle.dkv_journal.proofs.Torn.{closed_within}
use Rattle.dkv_store.specs.Held.{Hold, Guarded}
use Rattle.dkv_store.proofs.Moving.{add_moves, add_done, add_shut, add_doubted, new_place, told_is}
use Rattle.dkv_store.proofs.held.add.Goals as goal

pub returns-in_default-clause-moves : goal.returns-in_default-clause-moves
returns-in_default-clause-moves g c s who fa fb told_a told_b hold may =
    let f = c.args.files.now in
    add_moves g.D.Disk.may_leave g.D.Disk.moment g.D.Disk.left_since g.met.D.Disk.counts_now f.used c.append.new.disk f.other (Guarded (g.D.Disk.seen f.other) (g.D.Disk.may_leave f.other)) f.journal f.in_use s who (λ y has. (told_is (g.D.Disk.seen f.other) fb told_b, has)) c.args.commit.now hold may
    (c.append.ensures.leaves first_layout (record_body c.args.commit.now) c.requires.spelled fa told_a)

pub returns-then-files-clause-moves : goal.returns-then-files-clause-moves
returns-then-files-clause-moves g c s who fa fb told_a told_b hold may =
    let f = c.args.files.now in
    add_moves g.D.Disk.may_leave g.D.Disk.moment g.D.Disk.left_since g.met.D.Disk.counts_now f.used c.append.new.disk f.other (Guarded (g.D.Disk.seen f.other) (g.D.Disk.may_leave f.other)) f.journal f.in_use s who (λ y has. (told_is (g.D.Disk.seen f.other) fb told_b, has)) c.args.commit.now hold may
    (c.append.ensures.leaves first_layout (record_body c.args.commit.now) c.requires.spelled fa told_a)

pub returns-else-files-clause-moves : goal.returns-else-files-clause-moves
returns-else-files-clause-moves g c s who fa fb told_a told_b hold may =
    let f = c.args.files.now in
    add_moves g.D.Disk.may_leave g.D.Disk.moment g.D.Disk.left_since g.met.D.Disk.counts_now f.used c.append.new.disk f.other (Guarded (g.D.Disk.seen f.other) (g.D.Disk.may_leave f.other)) f.journal f.in_use s who (λ y has. (told_is (g.D.Disk.seen f.other) fb told_b, has)) c.args.commit.now hold may
    (c.append.ensures.leaves first_layout (record_body c.args.commit.now) c.requires.spelled fa told_a)

pub returns-in_default-clause-holds : goal.returns-in_default-clause-holds
returns-in_default-clause-holds g c s who fa told_a hold may =
    let f = c.args.files.now in
    let body = record_body c.args.commit.now in
    let now = g.met.D.Disk.reads_as f.used fa told_a in
    let shut = c.requires.closed fa told_a fa now in
    let rest = c.in_default.ensures.done first_layout body c.requires.spelled fa told_a in
    let is = c.in_default.ensures.place in
    let short = subst IsShort rest.told (g.met.D.Disk.short c.append.new.disk) in
    let place = ap (λ (j : Journal). j.place) is ∙ new_place f.journal.place body c.args.laid.now fa (closed_within f.journal.place fa shut) c.requires.spelled short in
    add_done g.D.Disk.may_leave g.D.Disk.moment g.D.Disk.left_since g.met.D.Disk.counts_now f.used c.append.new.disk f.other (Guarded (g.D.Disk.seen f.other) (g.D.Disk.may_leave f.other)) f.journal f.in_use s who
    c.args.commit.now fa _ c.append.new.self _ hold may now shut rest place (ap (λ (j : Journal). j.in_doubt) is) (ap (λ o. option_map (λ d. d.value) o) c.requires.unnamed)

pub returns-then-files-clause-holds : goal.returns-then-files-clause-holds
returns-then-files-clause-holds g c s who fa told_a hold may =
    let f = c.args.files.now in
    let body = record_body c.args.commit.now in
    let now = g.met.D.Disk.reads_as f.used fa told_a in
    let doubted = c.in-Err.ensures.doubted first_layout body c.requires.spelled fa told_a c.if-files.true in
    subst (λ (k : Commit). Hold (g.D.Disk.may_leave c.append.new.disk) (Guarded (g.D.Disk.seen f.other) (g.D.Disk.may_leave f.other)) c.append.new.self f.in_use (Some k) s who) (sym c.of.ensures)
    (add_doubted g.D.Disk.may_leave g.D.Disk.moment g.D.Disk.left_since g.met.D.Disk.counts_now f.used c.append.new.disk f.other (Guarded (g.D.Disk.seen f.other) (g.D.Disk.may_leave f.other)) f.journal f.in_use s who
    c.args.commit.now fa c.append.new.self hold may now doubted c.in-Err.ensures.stays c.if-files.true)

pub returns-else-files-clause-holds : goal.returns-else-files-clause-holds
returns-else-files-clause-holds g c s who fa told_a hold may =
    let f = c.args.files.now in
    add_shut g.D.Disk.may_leave g.D.Disk.moment g.D.Disk.left_since g.met.D.Disk.counts_now f.used c.append.new.disk f.other (Guarded (g.D.Disk.seen f.other) (g.D.Disk.may_leave f.other)) f.journal f.in_use s who
    c.append.new.self _ hold (c.in-Err.ensures.shut fa told_a c.if-files.false) c.in-Err.ensures.stays c.if-files.false (ap (λ o. option_map (λ d. d.value) o) c.requires.unnamed)
