use Rattle.std.proofs.Common.{◌+◌, ◌-◌, length, arith}
use Rattle.dkv_wire.proofs.Turning.{turned_one_more}
use Rattle.dkv_wire.proofs.out.turn_short.Goals as goal

pub loop-preserved : goal.loop-preserved
loop-preserved c =
    let all = c.args.bytes.now in
    turned_one_more all c.loop.bytes c.rotate_right.new.self (length all - (c.loop.counter + 1)) (length all - c.loop.counter) (omega (arith, c.requires, c.loop-test.true)) (omega arith) c.loop.invariant c.rotate_right.ensures.after
