use Rattle.std.proofs.Common.{List, Option, sym, ap, ◌∙◌}
use Rattle.dkv_base.specs.declared.types.Entry.{Entry}
use Rattle.dkv_table.specs.Blocks.{joined}
use Rattle.dkv_expiry.specs.declared.ending.Ending.{Ending}
use Rattle.dkv_expiry.specs.Endings.{has}
use Rattle.dkv_core.specs.Entries.{forgot, noted_of, is_end}
use Rattle.dkv_core.proofs.Indexed.{indexed-put, note_some, note_none}
use Rattle.dkv_core.proofs.entries.Entries.put.Goals as goal

pub invariant_of-self : goal.invariant_of-self
invariant_of-self c q =
    let es : List Entry = joined c.self.inside.table.blocks.items in
    let ps : List Ending = c.self.inside.expiry.pairs in
    let e = c.new.inside.entry in
    let left : List Ending = c.forget.new.expiry.pairs in
    let forgets = c.forget.ensures.pairs ∙ ap (λ (o : Option Entry). forgot o ps) c.put-was.ensures.was in
    ap (λ (k : List Ending). has q k) (c.note.ensures.pairs ∙ note_some e c.in-Some.key left (sym c.in-Some.is ∙ c.new.invariant) ∙ ap (λ (k : List Ending). noted_of e k) forgets)
    ∙ indexed-put e es ps c.self.invariant q
    ∙ ap (λ (fs : List Entry). is_end fs q) (sym c.put-was.ensures.content)

pub invariant_of-self-in_default : goal.invariant_of-self-in_default
invariant_of-self-in_default c q =
    let es : List Entry = joined c.self.inside.table.blocks.items in
    let ps : List Ending = c.self.inside.expiry.pairs in
    let e = c.new.inside.entry in
    let left : List Ending = c.forget.new.expiry.pairs in
    let forgets = c.forget.ensures.pairs ∙ ap (λ (o : Option Entry). forgot o ps) c.put-was.ensures.was in
    ap (λ (k : List Ending). has q k) (note_none e left (sym c.in_default.is ∙ c.new.invariant) ∙ ap (λ (k : List Ending). noted_of e k) forgets)
    ∙ indexed-put e es ps c.self.invariant q
    ∙ ap (λ (fs : List Entry). is_end fs q) (sym c.put-was.ensures.content)
