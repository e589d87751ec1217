use Rattle.std.proofs.Common.{◌≡◌, ◌∙◌, sym, ap, subst, Bool, false, ◌||◌}
use Rattle.std.specs.Prelude.{IfOk}
use Rattle.dkv_files.specs.Files.{is_open}
use Rattle.dkv_files.proofs.Resting.{reads_first, reads_both}
use Rattle.dkv_files.proofs.rest.is_one_open.Goals as goal

pub returns-in-Ok-true-clause-moves : goal.returns-in-Ok-true-clause-moves
returns-in-Ok-true-clause-moves g c =
    let mid = c.both_to_rest.new.pair in
    reads_first g.D.Disk.may_leave g.D.Disk.moment g.D.Disk.left_since g.D.Disk.seen c.args.pair.now.a c.args.pair.now.b mid.a mid.b c.is_open.new.disk
    c.both_to_rest.ensures.moves c.both_to_rest.ensures.crash.0 c.both_to_rest.ensures.crash.1 c.is_open.ensures.reads

pub returns-in-Err-is_open-clause-moves : goal.returns-in-Err-is_open-clause-moves
returns-in-Err-is_open-clause-moves g c =
    let mid = c.both_to_rest.new.pair in
    reads_first g.D.Disk.may_leave g.D.Disk.moment g.D.Disk.left_since g.D.Disk.seen c.args.pair.now.a c.args.pair.now.b mid.a mid.b c.is_open.new.disk
    c.both_to_rest.ensures.moves c.both_to_rest.ensures.crash.0 c.both_to_rest.ensures.crash.1 c.is_open.ensures.reads

pub returns-in-Ok-false-clause-moves : goal.returns-in-Ok-false-clause-moves
returns-in-Ok-false-clause-moves g c =
    let mid = c.both_to_rest.new.pair in
    reads_both g.D.Disk.may_leave g.D.Disk.moment g.D.Disk.left_since g.D.Disk.seen c.args.pair.now.a c.args.pair.now.b mid.a mid.b c.is_open.new.disk c.is_open-in-Ok-false.new.disk
    c.both_to_rest.ensures.moves c.both_to_rest.ensures.crash.0 c.both_to_rest.ensures.crash.1 c.is_open.ensures.reads c.is_open-in-Ok-false.ensures.reads

pub returns-in-Ok-false-clause-open : goal.returns-in-Ok-false-clause-open
returns-in-Ok-false-clause-open g c fa fb told_a told_b =
    let shut : is_open fa ≡ false = sym (c.in-Ok-false.ensures.open fa (c.both_to_rest.ensures.seen.0 ∙ told_a)) ∙ c.in-Ok-false.field-0-test in
    subst (λ (v : Bool). IfOk c.is_open-in-Ok-false.result (λ is. is ≡ (v || is_open fb))) (sym shut)
    (c.is_open-in-Ok-false.ensures.open fb (c.both_to_rest.ensures.seen.1 ∙ told_b))
