use Rattle.std.proofs.Common.{rules, sym, ◌∙◌, arith}
use Rattle.std.proofs.lemmas.Fn.{always_returns_same}
use Rattle.dkv_table.specs.Blocks.{begins_upto}
use Rattle.dkv_table.proofs.KeyBlocks.{begins_apart, seat_of, some_of}
use Rattle.dkv_table.proofs.seats.seat.Goals as goal

-- the closure tells whether a block begins at the key or below it
pub returns-clause-some : goal.returns-clause-some
returns-clause-some c =
    let key = c.args.key.now in
    let bs = c.args.blocks.now in
    let facts = c.partition_point-above.ensures in
    let split = facts.partitioned (begins_upto key) (always_returns_same _ _ _ (λ a r f called. (search rules, search rules))) (begins_apart key bs c.requires.in_order c.requires.filled) in
    seat_of key bs c.partition_point-above.result c.saturating_sub.result c.saturating_sub.ensures (some_of bs (sym c.is_empty.ensures ∙ c.if-is_empty.false)) c.requires facts.bound
    (λ k d lt. split.0 k d (omega arith) lt) (λ k d le lt. split.1 k d le lt)
