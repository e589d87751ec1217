use Rattle.std.proofs.Common.{◌≡◌, true, None, length, refl, sym, ap, subst, ◌∙◌, arith}
use Rattle.dkv_base.specs.State.{entry_at, put, is_in_key_order}
use Rattle.dkv_base.proofs.KeyOrder.{is_in_key_order-put}
use Rattle.dkv_table.specs.Blocks.{joined, is_filled}
use Rattle.dkv_table.proofs.KeyBlocks.{entry_at-seat, put-set, length-set, filled-set, put-divided, length-divided, filled-divided}
use Rattle.dkv_table.proofs.Parts.{filled-put}
use Rattle.dkv_table.proofs.changes.put_into.Goals as goal

pub returns-then-takes-clause-content : goal.returns-then-takes-clause-content
returns-then-takes-clause-content c =
    let seat = rw (c.deref.ensures.value, c.as_slice.ensures) at c.in-Some.ensures.some in
    put-set c.args.entry.key c.args.blocks.now.items c.in-Some.at c.index_mut.result.now seat c.put.new.self c.args.entry refl
    (c.put.ensures.content ∙ ap (put c.args.entry) c.index_mut.ensures.value)

pub returns-then-takes-clause-was : goal.returns-then-takes-clause-was
returns-then-takes-clause-was c =
    let seat = rw (c.deref.ensures.value, c.as_slice.ensures) at c.in-Some.ensures.some in
    c.put.ensures.was ∙ ap (entry_at c.args.entry.key) c.index_mut.ensures.value
    ∙ sym (entry_at-seat c.args.entry.key c.args.blocks.now.items c.in-Some.at c.index_mut.result.now seat)

pub returns-then-takes-clause-len : goal.returns-then-takes-clause-len
returns-then-takes-clause-len c =
    let seat = rw (c.deref.ensures.value, c.as_slice.ensures) at c.in-Some.ensures.some in
    let all = length-set c.args.entry.key c.args.blocks.now.items c.in-Some.at c.index_mut.result.now seat c.put.new.self in
    let same = ap length c.index_mut.ensures.value in
    omega (arith, all, same, c.put.ensures.len)

pub returns-then-takes-clause-blocks : goal.returns-then-takes-clause-blocks
returns-then-takes-clause-blocks c =
    let e = c.args.entry in
    let bs = c.args.blocks.now.items in
    let old = c.index_mut.result.now in
    let seat = rw (c.deref.ensures.value, c.as_slice.ensures) at c.in-Some.ensures.some in
    let content = put-set e.key bs c.in-Some.at old seat c.put.new.self e refl (c.put.ensures.content ∙ ap (put e) c.index_mut.ensures.value) in
    record {
      in_order = subst (λ es. is_in_key_order es ≡ true) (sym content) (is_in_key_order-put e (joined bs) c.requires.blocks.in_order);
      filled = filled-set e.key bs c.in-Some.at old seat c.put.new.self c.requires.blocks.filled (subst (λ b. is_filled b ≡ true) (sym c.put.ensures.content) (filled-put e old));
    }

pub returns-else-takes-clause-content : goal.returns-else-takes-clause-content
returns-else-takes-clause-content c =
    let seat = rw (c.deref.ensures.value, c.as_slice.ensures) at c.in-Some.ensures.some in
    put-divided c.args.entry.key c.args.blocks.now.items c.in-Some.at c.index.result.now seat c.args.entry _ c.divide.ensures.divided refl

pub returns-else-takes-clause-was : goal.returns-else-takes-clause-was
returns-else-takes-clause-was c =
    let key = c.args.entry.key in
    let seat = rw (c.deref.ensures.value, c.as_slice.ensures) at c.in-Some.ensures.some in
    let absent = subst (λ k. entry_at k c.index.result.now ≡ None) c.as_slice-2.ensures (c.takes.ensures.absent c.if-takes.false) in
    sym (entry_at-seat key c.args.blocks.now.items c.in-Some.at c.index.result.now seat ∙ ap (entry_at key) (sym c.index.ensures) ∙ absent)

pub returns-else-takes-clause-len : goal.returns-else-takes-clause-len
returns-else-takes-clause-len c =
    let seat = rw (c.deref.ensures.value, c.as_slice.ensures) at c.in-Some.ensures.some in
    length-divided c.args.entry.key c.args.blocks.now.items c.in-Some.at c.index.result.now seat c.args.entry _ c.divide.ensures.divided

pub returns-else-takes-clause-blocks : goal.returns-else-takes-clause-blocks
returns-else-takes-clause-blocks c =
    let e = c.args.entry in
    let bs = c.args.blocks.now.items in
    let seat = rw (c.deref.ensures.value, c.as_slice.ensures) at c.in-Some.ensures.some in
    let content = put-divided e.key bs c.in-Some.at c.index.result.now seat e _ c.divide.ensures.divided refl in
    record {
      in_order = subst (λ es. is_in_key_order es ≡ true) (sym content) (is_in_key_order-put e (joined bs) c.requires.blocks.in_order);
      filled = filled-divided e.key bs c.in-Some.at c.index.result.now seat e _ c.divide.ensures.divided c.requires.blocks.filled;
    }
