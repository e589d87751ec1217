use Rattle.std.proofs.Common.{sym, ap, ◌∙◌, Some}
use Rattle.dkv_table.proofs.Edits.{entry_at-at, entry_at-gap, without-at, without-gap}
use Rattle.dkv_table.proofs.sorted.take_out.Goals as goal

pub returns-in-Ok-clause-content : goal.returns-in-Ok-clause-content
returns-in-Ok-clause-content c =
    let found = rw c.deref.ensures.value at c.in-Ok.ensures.found in
    c.remove.ensures.items ∙ sym (without-at _ _ _ c.remove.result found)

pub returns-in-Ok-clause-was : goal.returns-in-Ok-clause-was
returns-in-Ok-clause-was c =
    let found = rw c.deref.ensures.value at c.in-Ok.ensures.found in
    ap Some c.remove.ensures.value ∙ sym (entry_at-at _ _ _ c.remove.result found)

pub returns-in-Err-clause-content : goal.returns-in-Err-clause-content
returns-in-Err-clause-content c = sym (without-gap _ _ _ (rw c.deref.ensures.value at c.in-Err.ensures.absent))

pub returns-in-Err-clause-was : goal.returns-in-Err-clause-was
returns-in-Err-clause-was c = sym (entry_at-gap _ _ _ (rw c.deref.ensures.value at c.in-Err.ensures.absent))
