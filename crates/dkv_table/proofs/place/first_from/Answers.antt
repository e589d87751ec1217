use Rattle.dkv_table.proofs.Places.{start-at, start-gap}
use Rattle.dkv_table.proofs.place.first_from.Goals as goal

pub returns-in-Ok : goal.returns-in-Ok
returns-in-Ok c = start-at _ _ _ c.in-Ok.ensures.found

pub returns-in-Err : goal.returns-in-Err
returns-in-Err c = start-gap _ _ _ c.in-Err.ensures.absent
