use Rattle.std.proofs.Common.{List, Option, sym, ap, ◌∙◌}
use Rattle.dkv_base.specs.declared.types.Entry.{Entry}
use Rattle.dkv_table.specs.Blocks.{joined}
use Rattle.dkv_expiry.specs.declared.ending.Ending.{Ending}
use Rattle.dkv_expiry.specs.Endings.{has}
use Rattle.dkv_core.specs.Entries.{forgot, is_end}
use Rattle.dkv_core.proofs.Indexed.{indexed-without}
use Rattle.dkv_core.proofs.entries.Entries.remove.Goals as goal

pub invariant_of-self : goal.invariant_of-self
invariant_of-self c q =
    let es : List Entry = joined c.self.inside.table.blocks.items in
    let ps : List Ending = c.self.inside.expiry.pairs in
    ap (λ (k : List Ending). has q k) (c.forget.ensures.pairs ∙ ap (λ (o : Option Entry). forgot o ps) c.remove-was.ensures.was)
    ∙ indexed-without c.args.key.now es ps c.self.invariant q
    ∙ ap (λ (fs : List Entry). is_end fs q) (sym c.remove-was.ensures.content)
