use Rattle.std.proofs.Common.{◌≡◌, ap, subst, ◌+◌, length, arith}
use Rattle.dkv_io.specs.Disks.{AtRest, IsShort}
use Rattle.dkv_io.proofs.Seen.{still_told, was_told, within_told}
use Rattle.dkv_queue.specs.Rows.{messages_of}
use Rattle.dkv_image.specs.Image.{image}
use Rattle.dkv_image_io.proofs.Writing.{writes_one, writes_on}
use Rattle.dkv_files.proofs.Filled.{front_stands, image_stands, image_behind, gate_stands, leaves_shut}
use Rattle.dkv_files.proofs.filling.fill_behind.Goals as goal

pub write_at-requires : goal.write_at-requires
write_at-requires g c =
    let old = c.args.disk.now in
    within_told (g.D.Disk.seen old) 1 (λ file told. omega (arith, ap length (c.requires.cleared file told file (g.met.D.Disk.reads_as old file told))))

pub write_image-requires-clause-within : goal.write_image-requires-clause-within
write_image-requires-clause-within g c =
    let front = c.args.front.now in
    let es = g.T.Table.content c.args.table.now in
    let ms = messages_of c.args.queue.now.rows in
    within_told (g.D.Disk.seen c.write_at.new.self) 96 (λ file told.
    let w = was_told _ _ _ file told c.in-Ok.ensures.written in
    let start = c.requires.cleared w.file w.seen w.file (g.met.D.Disk.reads_as c.args.disk.now w.file w.seen) in
    omega (arith, c.requires.long, ap length (front_stands front es ms c.requires.long w.file file start w.is)))

pub close_behind-requires : goal.close_behind-requires
close_behind-requires g c =
    let front = c.args.front.now in
    let es = g.T.Table.content c.args.table.now in
    let ms = messages_of c.args.queue.now.rows in
    let long = c.requires.long in
    within_told (g.D.Disk.seen c.write_image.new.disk) c.saturating_add-place.result (λ file told.
    let mid = was_told _ _ _ file told c.in-Ok-write_image.ensures.written in
    let w = was_told _ _ _ mid.file mid.seen c.in-Ok.ensures.written in
    let start = c.requires.cleared w.file w.seen w.file (g.met.D.Disk.reads_as c.args.disk.now w.file w.seen) in
    let behind = image_behind front es ms long file (image_stands front es ms long mid.file file (front_stands front es ms long w.file mid.file start w.is) mid.is) in
    omega (arith, behind, c.in-Ok-write_image.ensures.length, c.saturating_add-place.ensures))

pub returns-in-Err-clause-leaves : goal.returns-in-Err-clause-leaves
returns-in-Err-clause-leaves g c file told =
    leaves_shut g.D.Disk.seen g.D.Disk.may_leave g.D.Disk.moment g.D.Disk.left_since g.D.Disk.faults c.args.disk.now c.write_at.new.self file told c.requires.cleared
    (writes_one g.D.Disk.seen g.D.Disk.may_leave g.D.Disk.moment g.D.Disk.left_since g.D.Disk.faults g.met.D.Disk.counts_now g.met.D.Disk.only_now
    1 c.args.front.now c.args.disk.now c.write_at.new.self c.write_at.result c.write_at.ensures.written c.write_at.ensures.crash c.write_at.ensures.time c.write_at.ensures.cause)

pub returns-in-Err-DiskFault-clause-leaves : goal.returns-in-Err-DiskFault-clause-leaves
returns-in-Err-DiskFault-clause-leaves g c file told =
    let first = writes_one g.D.Disk.seen g.D.Disk.may_leave g.D.Disk.moment g.D.Disk.left_since g.D.Disk.faults g.met.D.Disk.counts_now g.met.D.Disk.only_now
    1 c.args.front.now c.args.disk.now c.write_at.new.self c.write_at.result c.write_at.ensures.written c.write_at.ensures.crash c.write_at.ensures.time c.write_at.ensures.cause in
    leaves_shut g.D.Disk.seen g.D.Disk.may_leave g.D.Disk.moment g.D.Disk.left_since g.D.Disk.faults c.args.disk.now c.write_image.new.disk file told c.requires.cleared
    (writes_on g.D.Disk.seen g.D.Disk.may_leave g.D.Disk.moment g.D.Disk.left_since g.D.Disk.faults g.met.D.Disk.counts_now g.met.D.Disk.only_now
    1 96 c.args.disk.now c.write_at.new.self c.write_image.new.disk (omega arith) first (record { told = c.write_image.ensures.told; later = c.write_image.ensures.later; leaves = c.write_image.ensures.leaves }))

pub returns-in-Err-NoMemory-clause-leaves : goal.returns-in-Err-NoMemory-clause-leaves
returns-in-Err-NoMemory-clause-leaves g c file told =
    let first = writes_one g.D.Disk.seen g.D.Disk.may_leave g.D.Disk.moment g.D.Disk.left_since g.D.Disk.faults g.met.D.Disk.counts_now g.met.D.Disk.only_now
    1 c.args.front.now c.args.disk.now c.write_at.new.self c.write_at.result c.write_at.ensures.written c.write_at.ensures.crash c.write_at.ensures.time c.write_at.ensures.cause in
    leaves_shut g.D.Disk.seen g.D.Disk.may_leave g.D.Disk.moment g.D.Disk.left_since g.D.Disk.faults c.args.disk.now c.write_image.new.disk file told c.requires.cleared
    (writes_on g.D.Disk.seen g.D.Disk.may_leave g.D.Disk.moment g.D.Disk.left_since g.D.Disk.faults g.met.D.Disk.counts_now g.met.D.Disk.only_now
    1 96 c.args.disk.now c.write_at.new.self c.write_image.new.disk (omega arith) first (record { told = c.write_image.ensures.told; later = c.write_image.ensures.later; leaves = c.write_image.ensures.leaves }))

pub returns-in-Err-Damaged-clause-leaves : goal.returns-in-Err-Damaged-clause-leaves
returns-in-Err-Damaged-clause-leaves g c file told =
    let first = writes_one g.D.Disk.seen g.D.Disk.may_leave g.D.Disk.moment g.D.Disk.left_since g.D.Disk.faults g.met.D.Disk.counts_now g.met.D.Disk.only_now
    1 c.args.front.now c.args.disk.now c.write_at.new.self c.write_at.result c.write_at.ensures.written c.write_at.ensures.crash c.write_at.ensures.time c.write_at.ensures.cause in
    leaves_shut g.D.Disk.seen g.D.Disk.may_leave g.D.Disk.moment g.D.Disk.left_since g.D.Disk.faults c.args.disk.now c.write_image.new.disk file told c.requires.cleared
    (writes_on g.D.Disk.seen g.D.Disk.may_leave g.D.Disk.moment g.D.Disk.left_since g.D.Disk.faults g.met.D.Disk.counts_now g.met.D.Disk.only_now
    1 96 c.args.disk.now c.write_at.new.self c.write_image.new.disk (omega arith) first (record { told = c.write_image.ensures.told; later = c.write_image.ensures.later; leaves = c.write_image.ensures.leaves }))

pub returns-in-Ok-close_behind-clause-leaves : goal.returns-in-Ok-close_behind-clause-leaves
returns-in-Ok-close_behind-clause-leaves g c file told =
    let place = c.saturating_add-place.result in
    let first = writes_one g.D.Disk.seen g.D.Disk.may_leave g.D.Disk.moment g.D.Disk.left_since g.D.Disk.faults g.met.D.Disk.counts_now g.met.D.Disk.only_now
    1 c.args.front.now c.args.disk.now c.write_at.new.self c.write_at.result c.write_at.ensures.written c.write_at.ensures.crash c.write_at.ensures.time c.write_at.ensures.cause in
    let both = writes_on g.D.Disk.seen g.D.Disk.may_leave g.D.Disk.moment g.D.Disk.left_since g.D.Disk.faults g.met.D.Disk.counts_now g.met.D.Disk.only_now
    1 96 c.args.disk.now c.write_at.new.self c.write_image.new.disk (omega arith) first (record { told = c.write_image.ensures.told; later = c.write_image.ensures.later; leaves = c.write_image.ensures.leaves }) in
    leaves_shut g.D.Disk.seen g.D.Disk.may_leave g.D.Disk.moment g.D.Disk.left_since g.D.Disk.faults c.args.disk.now c.close_behind.new.disk file told c.requires.cleared
    (writes_on g.D.Disk.seen g.D.Disk.may_leave g.D.Disk.moment g.D.Disk.left_since g.D.Disk.faults g.met.D.Disk.counts_now g.met.D.Disk.only_now
    1 place c.args.disk.now c.write_image.new.disk c.close_behind.new.disk (omega (arith, c.saturating_add-place.ensures)) both
    (record { told = c.close_behind.ensures.told; later = c.close_behind.ensures.cause.later; leaves = c.close_behind.ensures.leaves }))

pub returns-in-Err-close_behind-clause-leaves : goal.returns-in-Err-close_behind-clause-leaves
returns-in-Err-close_behind-clause-leaves g c file told =
    let place = c.saturating_add-place.result in
    let first = writes_one g.D.Disk.seen g.D.Disk.may_leave g.D.Disk.moment g.D.Disk.left_since g.D.Disk.faults g.met.D.Disk.counts_now g.met.D.Disk.only_now
    1 c.args.front.now c.args.disk.now c.write_at.new.self c.write_at.result c.write_at.ensures.written c.write_at.ensures.crash c.write_at.ensures.time c.write_at.ensures.cause in
    let both = writes_on g.D.Disk.seen g.D.Disk.may_leave g.D.Disk.moment g.D.Disk.left_since g.D.Disk.faults g.met.D.Disk.counts_now g.met.D.Disk.only_now
    1 96 c.args.disk.now c.write_at.new.self c.write_image.new.disk (omega arith) first (record { told = c.write_image.ensures.told; later = c.write_image.ensures.later; leaves = c.write_image.ensures.leaves }) in
    leaves_shut g.D.Disk.seen g.D.Disk.may_leave g.D.Disk.moment g.D.Disk.left_since g.D.Disk.faults c.args.disk.now c.close_behind.new.disk file told c.requires.cleared
    (writes_on g.D.Disk.seen g.D.Disk.may_leave g.D.Disk.moment g.D.Disk.left_since g.D.Disk.faults g.met.D.Disk.counts_now g.met.D.Disk.only_now
    1 place c.args.disk.now c.write_image.new.disk c.close_behind.new.disk (omega (arith, c.saturating_add-place.ensures)) both
    (record { told = c.close_behind.ensures.told; later = c.close_behind.ensures.cause.later; leaves = c.close_behind.ensures.leaves }))

pub returns-in-Ok-close_behind-clause-done : goal.returns-in-Ok-close_behind-clause-done
returns-in-Ok-close_behind-clause-done g c file told =
    let front = c.args.front.now in
    let es = g.T.Table.content c.args.table.now in
    let ms = messages_of c.args.queue.now.rows in
    let long = c.requires.long in
    let new = c.close_behind.new.disk in
    let start = c.requires.cleared file told file (g.met.D.Disk.reads_as c.args.disk.now file told) in
    let first = still_told _ _ _ file told c.in-Ok.ensures.written in
    let then = still_told _ _ _ first.file first.seen c.in-Ok-write_image.ensures.written in
    let now = image_stands front es ms long first.file then.file (front_stands front es ms long file first.file start first.is) then.is in
    let short = subst IsShort then.seen (g.met.D.Disk.short c.write_image.new.disk) in
    let here : c.saturating_add-place.result ≡ 96 + length (image es ms) = omega (arith, image_behind front es ms long then.file now, short, c.in-Ok-write_image.ensures.length, c.saturating_add-place.ensures) in
    subst (AtRest (g.D.Disk.seen new) (g.D.Disk.may_leave new)) (gate_stands front es ms long c.saturating_add-place.result then.file now here) (c.in-Ok-close_behind.ensures.done then.file then.seen)
