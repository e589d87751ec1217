use Rattle.dkv_base.proofs.KeyOrder as keys
use Rattle.dkv_base.proofs.laws.entries_are_a_map.Goals as goal

pub returns-clause-one_list : goal.returns-clause-one_list
returns-clause-one_list c = keys.entries_are_a_map

pub returns-clause-entry_at : goal.returns-clause-entry_at
returns-clause-entry_at c = keys.looks_up

pub returns-clause-put : goal.returns-clause-put
returns-clause-put c = keys.put_inserts

pub returns-clause-without : goal.returns-clause-without
returns-clause-without c = keys.without_removes
