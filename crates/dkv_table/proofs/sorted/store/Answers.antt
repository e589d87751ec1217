use Rattle.std.proofs.Common.{sym, ap, ◌∙◌, Some}
use Rattle.dkv_table.proofs.Edits.{entry_at-at, entry_at-gap, put-at, put-gap}
use Rattle.dkv_table.proofs.sorted.store.Goals as goal

pub returns-in-Ok-clause-content : goal.returns-in-Ok-clause-content
returns-in-Ok-clause-content c =
    let found = rw (c.deref.ensures.value, c.as_slice.ensures) at c.in-Ok.ensures.found in
    rw c.replace.ensures.after (sym (put-at c.args.entry _ _ found))

pub returns-in-Ok-clause-was : goal.returns-in-Ok-clause-was
returns-in-Ok-clause-was c =
    let found = rw (c.deref.ensures.value, c.as_slice.ensures) at c.in-Ok.ensures.found in
    ap Some (c.replace.ensures.value ∙ c.index_mut.ensures.value) ∙ sym (entry_at-at _ _ _ c.index_mut.result.now found)

pub returns-in-Err-clause-content : goal.returns-in-Err-clause-content
returns-in-Err-clause-content c =
    let gap = rw (c.deref.ensures.value, c.as_slice.ensures) at c.in-Err.ensures.absent in
    let done = c.insert.ensures.succeeds (c.requires.room (entry_at-gap _ _ _ gap)) in
    rw (c.insert.ensures.items, done) (sym (put-gap _ _ _ gap))

pub returns-in-Err-clause-was : goal.returns-in-Err-clause-was
returns-in-Err-clause-was c = sym (entry_at-gap _ _ _ (rw (c.deref.ensures.value, c.as_slice.ensures) at c.in-Err.ensures.absent))

pub returns-in-Err-clause-len : goal.returns-in-Err-clause-len
returns-in-Err-clause-len c =
    let gap = rw (c.deref.ensures.value, c.as_slice.ensures) at c.in-Err.ensures.absent in
    let done = c.insert.ensures.succeeds (c.requires.room (entry_at-gap _ _ _ gap)) in
    rw (c.insert.ensures.len, done)

pub returns-in-Err-clause-capacity : goal.returns-in-Err-clause-capacity
returns-in-Err-clause-capacity c =
    let gap = rw (c.deref.ensures.value, c.as_slice.ensures) at c.in-Err.ensures.absent in
    (c.insert.ensures.in_place (c.requires.room (entry_at-gap _ _ _ gap))).1.0
