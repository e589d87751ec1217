use Rattle.std.proofs.Common.{rules}
use Rattle.std.proofs.lemmas.Fn.{always_returns_same}
use Rattle.dkv_base.specs.State.{key_cmp}
use Rattle.dkv_table.proofs.Places.{searched}
use Rattle.dkv_table.proofs.place.place.Goals as goal

-- the closure compares an entry's key with the key
pub returns : goal.returns
returns c =
    let facts = c.binary_search_by.ensures in
    let by_key = facts.position (λ e. key_cmp e.key c.args.key.now) (always_returns_same _ _ _ (λ a r f called. (search rules, search rules))) in
    searched c.args.key.now c.args.entries.now c.requires c.binary_search_by.result facts.bound by_key
