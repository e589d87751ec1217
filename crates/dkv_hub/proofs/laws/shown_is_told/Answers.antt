use Rattle.dkv_hub.proofs.Notes.{told, nothing_new}
use Rattle.dkv_hub.proofs.laws.shown_is_told.Goals as goal

pub returns-clause-told : goal.returns-clause-told
returns-clause-told c = told

pub returns-clause-nothing_new : goal.returns-clause-nothing_new
returns-clause-nothing_new c = nothing_new
