use Rattle.dkv_files.proofs.Resting.{reads_on, reads_first, reads_both}
use Rattle.dkv_store.proofs.looks.look_at.Goals as goal

pub returns-in-Err-read_head-clause-moves : goal.returns-in-Err-read_head-clause-moves
returns-in-Err-read_head-clause-moves g c =
    let mid = c.both_to_rest.new.pair in
    reads_first g.D.Disk.may_leave g.D.Disk.moment g.D.Disk.left_since g.D.Disk.seen c.args.pair.now.a c.args.pair.now.b mid.a mid.b c.read_head.new.disk
    c.both_to_rest.ensures.moves c.both_to_rest.ensures.crash.0 c.both_to_rest.ensures.crash.1 c.read_head.ensures.reads

pub returns-in-Err-is_new-clause-moves : goal.returns-in-Err-is_new-clause-moves
returns-in-Err-is_new-clause-moves g c =
    let mid = c.both_to_rest.new.pair in
    let reads = reads_on g.D.Disk.may_leave g.D.Disk.moment g.D.Disk.left_since g.D.Disk.seen mid.a c.read_head.new.disk c.is_new.new.disk c.read_head.ensures.reads c.is_new.ensures.reads in
    reads_first g.D.Disk.may_leave g.D.Disk.moment g.D.Disk.left_since g.D.Disk.seen c.args.pair.now.a c.args.pair.now.b mid.a mid.b c.is_new.new.disk
    c.both_to_rest.ensures.moves c.both_to_rest.ensures.crash.0 c.both_to_rest.ensures.crash.1 reads

pub returns-in-Ok-is_open-clause-moves : goal.returns-in-Ok-is_open-clause-moves
returns-in-Ok-is_open-clause-moves g c =
    let mid = c.both_to_rest.new.pair in
    let reads = reads_on g.D.Disk.may_leave g.D.Disk.moment g.D.Disk.left_since g.D.Disk.seen mid.a c.read_head.new.disk c.is_new.new.disk c.read_head.ensures.reads c.is_new.ensures.reads in
    reads_both g.D.Disk.may_leave g.D.Disk.moment g.D.Disk.left_since g.D.Disk.seen c.args.pair.now.a c.args.pair.now.b mid.a mid.b c.is_new.new.disk c.is_open.new.disk
    c.both_to_rest.ensures.moves c.both_to_rest.ensures.crash.0 c.both_to_rest.ensures.crash.1 reads c.is_open.ensures.reads

pub returns-in-Err-is_open-clause-moves : goal.returns-in-Err-is_open-clause-moves
returns-in-Err-is_open-clause-moves g c =
    let mid = c.both_to_rest.new.pair in
    let reads = reads_on g.D.Disk.may_leave g.D.Disk.moment g.D.Disk.left_since g.D.Disk.seen mid.a c.read_head.new.disk c.is_new.new.disk c.read_head.ensures.reads c.is_new.ensures.reads in
    reads_both g.D.Disk.may_leave g.D.Disk.moment g.D.Disk.left_since g.D.Disk.seen c.args.pair.now.a c.args.pair.now.b mid.a mid.b c.is_new.new.disk c.is_open.new.disk
    c.both_to_rest.ensures.moves c.both_to_rest.ensures.crash.0 c.both_to_rest.ensures.crash.1 reads c.is_open.ensures.reads
