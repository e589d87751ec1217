use Rattle.std.proofs.Common.{◌≡◌, true, not, length, sym, ap, subst, ◌∙◌, arith}
use Rattle.dkv_base.specs.State.{entry_at, without, is_empty, is_in_key_order}
use Rattle.dkv_table.specs.Blocks.{joined}
use Rattle.dkv_table.proofs.KeyBlocks.{entry_at-seat, without-set, without-removed, length-set, length-removed, filled-set, filled-removed, none_of, set_here}
use Rattle.dkv_table.proofs.Parts.{in_order-without}
use Rattle.dkv_table.proofs.changes.take_from.Goals as goal

pub returns-then-is_empty-clause-content : goal.returns-then-is_empty-clause-content
returns-then-is_empty-clause-content c =
    let key = c.args.key.now in
    let bs = c.args.blocks.now.items in
    let new = c.remove-was.new.self in
    let seat = rw c.deref.ensures.value at c.in_ok-at.ensures.some in
    let none = none_of new (ap is_empty (sym (c.index.ensures ∙ set_here bs c.in_ok-at.at new c.index.result.now seat.in_range)) ∙ sym c.is_empty.ensures ∙ c.if-is_empty.true) in
    ap joined c.remove.ensures.items
    ∙ without-removed key bs c.in_ok-at.at c.index_mut.result.now seat new (c.remove-was.ensures.content ∙ ap (without key) c.index_mut.ensures.value) none

pub returns-then-is_empty-clause-was : goal.returns-then-is_empty-clause-was
returns-then-is_empty-clause-was c =
    let seat = rw c.deref.ensures.value at c.in_ok-at.ensures.some in
    c.remove-was.ensures.was ∙ ap (entry_at c.args.key.now) c.index_mut.ensures.value
    ∙ sym (entry_at-seat c.args.key.now c.args.blocks.now.items c.in_ok-at.at c.index_mut.result.now seat)

pub returns-then-is_empty-clause-len : goal.returns-then-is_empty-clause-len
returns-then-is_empty-clause-len c =
    let bs = c.args.blocks.now.items in
    let new = c.remove-was.new.self in
    let seat = rw c.deref.ensures.value at c.in_ok-at.ensures.some in
    let none = ap length (none_of new (ap is_empty (sym (c.index.ensures ∙ set_here bs c.in_ok-at.at new c.index.result.now seat.in_range)) ∙ sym c.is_empty.ensures ∙ c.if-is_empty.true)) in
    let all = length-removed c.args.key.now bs c.in_ok-at.at c.index_mut.result.now seat new in
    let after = ap (λ cs. length (joined cs)) c.remove.ensures.items in
    let same = ap length c.index_mut.ensures.value in
    omega (arith, after, all, same, none, c.remove-was.ensures.len)

pub returns-then-is_empty-clause-blocks : goal.returns-then-is_empty-clause-blocks
returns-then-is_empty-clause-blocks c =
    let key = c.args.key.now in
    let bs = c.args.blocks.now.items in
    let new = c.remove-was.new.self in
    let seat = rw c.deref.ensures.value at c.in_ok-at.ensures.some in
    let none = none_of new (ap is_empty (sym (c.index.ensures ∙ set_here bs c.in_ok-at.at new c.index.result.now seat.in_range)) ∙ sym c.is_empty.ensures ∙ c.if-is_empty.true) in
    let content = without-removed key bs c.in_ok-at.at c.index_mut.result.now seat new (c.remove-was.ensures.content ∙ ap (without key) c.index_mut.ensures.value) none in
    rw c.remove.ensures.items (record {
      in_order = subst (λ es. is_in_key_order es ≡ true) (sym content) (in_order-without key (joined bs) c.requires.blocks.in_order);
      filled = filled-removed key bs c.in_ok-at.at c.index_mut.result.now seat new c.requires.blocks.filled;
    })

pub returns-else-is_empty-clause-content : goal.returns-else-is_empty-clause-content
returns-else-is_empty-clause-content c =
    let key = c.args.key.now in
    let seat = rw c.deref.ensures.value at c.in_ok-at.ensures.some in
    without-set key c.args.blocks.now.items c.in_ok-at.at c.index_mut.result.now seat c.remove-was.new.self
    (c.remove-was.ensures.content ∙ ap (without key) c.index_mut.ensures.value)

pub returns-else-is_empty-clause-was : goal.returns-else-is_empty-clause-was
returns-else-is_empty-clause-was c =
    let seat = rw c.deref.ensures.value at c.in_ok-at.ensures.some in
    c.remove-was.ensures.was ∙ ap (entry_at c.args.key.now) c.index_mut.ensures.value
    ∙ sym (entry_at-seat c.args.key.now c.args.blocks.now.items c.in_ok-at.at c.index_mut.result.now seat)

pub returns-else-is_empty-clause-len : goal.returns-else-is_empty-clause-len
returns-else-is_empty-clause-len c =
    let seat = rw c.deref.ensures.value at c.in_ok-at.ensures.some in
    let all = length-set c.args.key.now c.args.blocks.now.items c.in_ok-at.at c.index_mut.result.now seat c.remove-was.new.self in
    let same = ap length c.index_mut.ensures.value in
    omega (arith, all, same, c.remove-was.ensures.len)

pub returns-else-is_empty-clause-blocks : goal.returns-else-is_empty-clause-blocks
returns-else-is_empty-clause-blocks c =
    let key = c.args.key.now in
    let bs = c.args.blocks.now.items in
    let new = c.remove-was.new.self in
    let seat = rw c.deref.ensures.value at c.in_ok-at.ensures.some in
    let content = without-set key bs c.in_ok-at.at c.index_mut.result.now seat new (c.remove-was.ensures.content ∙ ap (without key) c.index_mut.ensures.value) in
    let filled = ap not (ap is_empty (sym (c.index.ensures ∙ set_here bs c.in_ok-at.at new c.index.result.now seat.in_range)) ∙ sym c.is_empty.ensures ∙ c.if-is_empty.false) in
    record {
      in_order = subst (λ es. is_in_key_order es ≡ true) (sym content) (in_order-without key (joined bs) c.requires.blocks.in_order);
      filled = filled-set key bs c.in_ok-at.at c.index_mut.result.now seat new c.requires.blocks.filled filled;
    }
