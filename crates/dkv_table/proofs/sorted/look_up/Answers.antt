use Rattle.std.proofs.Common.{sym, ap, ◌∙◌, Some}
use Rattle.dkv_table.proofs.Edits.{entry_at-at, entry_at-gap}
use Rattle.dkv_table.proofs.sorted.look_up.Goals as goal

pub returns-in-Ok : goal.returns-in-Ok
returns-in-Ok c = ap Some c.index-entries-at.is ∙ sym (entry_at-at _ _ _ c.index-entries-at.result c.in-Ok.ensures.found)

pub returns-in-Err : goal.returns-in-Err
returns-in-Err c = sym (entry_at-gap _ _ _ c.in-Err.ensures.absent)
