use Rattle.std.proofs.Common.{◌≤◌, [], ◌++◌, length, flat_map, arith}
use Rattle.std.specs.Int.{w64, to_le_bytes}
use Rattle.dkv_queue.specs.Rows.{messages_of}
use Rattle.dkv_image.specs.Image.{image, entry_bytes}
use Rattle.dkv_image_io.proofs.Within.{image_entries, image_messages}
use Rattle.dkv_image_io.proofs.Writing.{writes_on, way_begins, way_ended}
use Rattle.dkv_image_io.proofs.write.write_items.Goals as goal

pub put_table-requires-clause-fit : goal.put_table-requires-clause-fit
put_table-requires-clause-fit g c = image_entries (g.T.Table.content c.args.table.now) (messages_of c.args.queue.now.rows) c.requires.image

pub put_queue-requires-clause-fit : goal.put_queue-requires-clause-fit
put_queue-requires-clause-fit g c = image_messages (g.T.Table.content c.args.table.now) (messages_of c.args.queue.now.rows) c.requires.image

pub returns-in-Err-put_queue-clause-leaves : goal.returns-in-Err-put_queue-clause-leaves
returns-in-Err-put_queue-clause-leaves g c pos =
    (writes_on g.D.Disk.seen g.D.Disk.may_leave g.D.Disk.moment g.D.Disk.left_since g.D.Disk.faults g.met.D.Disk.counts_now g.met.D.Disk.only_now
    c.at-pieces.result.place c.put_table.new.pieces.place c.args.disk.now c.put_table.new.disk c.put_queue.new.disk c.put_table.ensures.onward c.put_table.ensures.writes c.put_queue.ensures.writes).leaves (omega (arith, pos, c.at-pieces.ensures.place))

pub returns-in-Ok-write_held-clause-written : goal.returns-in-Ok-write_held-clause-written
returns-in-Ok-write_held-clause-written g c =
    let es = g.T.Table.content c.args.table.now in
    let ms = messages_of c.args.queue.now.rows in
    let old = g.D.Disk.seen c.args.disk.now in
    let new = g.D.Disk.seen c.write_held.new.disk in
    let all = writes_on g.D.Disk.seen g.D.Disk.may_leave g.D.Disk.moment g.D.Disk.left_since g.D.Disk.faults g.met.D.Disk.counts_now g.met.D.Disk.only_now
    c.at-pieces.result.place c.put_table.new.pieces.place c.args.disk.now c.put_table.new.disk c.put_queue.new.disk c.put_table.ensures.onward c.put_table.ensures.writes c.put_queue.ensures.writes in
    let le : c.at-pieces.result.place ≤ c.put_queue.new.pieces.place = omega (arith, c.put_table.ensures.onward, c.put_queue.ensures.onward) in
    let each = writes_on g.D.Disk.seen g.D.Disk.may_leave g.D.Disk.moment g.D.Disk.left_since g.D.Disk.faults g.met.D.Disk.counts_now g.met.D.Disk.only_now
    c.at-pieces.result.place c.put_queue.new.pieces.place c.args.disk.now c.put_queue.new.disk c.write_held.new.disk le all c.write_held.ensures.writes in
    way_ended c.args.at c.write_held.new.self.place (image es ms) old new each.told (λ file told.
    let first = c.in-Ok.ensures.way c.args.at file [] (way_begins c.args.at c.at-pieces.result.place file c.at-pieces.result.held.items old told c.at-pieces.ensures.place c.at-pieces.ensures.held) in
    let second = c.in-Ok-put_queue.ensures.way c.args.at file (to_le_bytes w64 (length es) ++ flat_map entry_bytes es) first in
    c.in-Ok-write_held.ensures.way c.args.at file (image es ms) second)

pub returns-in-Ok-write_held-clause-leaves : goal.returns-in-Ok-write_held-clause-leaves
returns-in-Ok-write_held-clause-leaves g c pos =
    let all = writes_on g.D.Disk.seen g.D.Disk.may_leave g.D.Disk.moment g.D.Disk.left_since g.D.Disk.faults g.met.D.Disk.counts_now g.met.D.Disk.only_now
    c.at-pieces.result.place c.put_table.new.pieces.place c.args.disk.now c.put_table.new.disk c.put_queue.new.disk c.put_table.ensures.onward c.put_table.ensures.writes c.put_queue.ensures.writes in
    let le : c.at-pieces.result.place ≤ c.put_queue.new.pieces.place = omega (arith, c.put_table.ensures.onward, c.put_queue.ensures.onward) in
    (writes_on g.D.Disk.seen g.D.Disk.may_leave g.D.Disk.moment g.D.Disk.left_since g.D.Disk.faults g.met.D.Disk.counts_now g.met.D.Disk.only_now
    c.at-pieces.result.place c.put_queue.new.pieces.place c.args.disk.now c.put_queue.new.disk c.write_held.new.disk le all c.write_held.ensures.writes).leaves (omega (arith, pos, c.at-pieces.ensures.place))

pub returns-clause-leaves : goal.returns-clause-leaves
returns-clause-leaves g c pos =
    let all = writes_on g.D.Disk.seen g.D.Disk.may_leave g.D.Disk.moment g.D.Disk.left_since g.D.Disk.faults g.met.D.Disk.counts_now g.met.D.Disk.only_now
    c.at-pieces.result.place c.put_table.new.pieces.place c.args.disk.now c.put_table.new.disk c.put_queue.new.disk c.put_table.ensures.onward c.put_table.ensures.writes c.put_queue.ensures.writes in
    let le : c.at-pieces.result.place ≤ c.put_queue.new.pieces.place = omega (arith, c.put_table.ensures.onward, c.put_queue.ensures.onward) in
    (writes_on g.D.Disk.seen g.D.Disk.may_leave g.D.Disk.moment g.D.Disk.left_since g.D.Disk.faults g.met.D.Disk.counts_now g.met.D.Disk.only_now
    c.at-pieces.result.place c.put_queue.new.pieces.place c.args.disk.now c.put_queue.new.disk c.write_held.new.disk le all c.write_held.ensures.writes).leaves (omega (arith, pos, c.at-pieces.ensures.place))
