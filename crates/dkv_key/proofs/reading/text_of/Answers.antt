use Rattle.std.proofs.Common.{◌++◌, List, ℕ, ap, sym, ◌∙◌}
use Rattle.dkv_key.specs.Parts.{escaped}
use Rattle.dkv_key.proofs.Finding.{text_more, text_none}
use Rattle.dkv_key.proofs.reading.text_of.Goals as goal

pub loop-byte-preserved : goal.loop-byte-preserved
loop-byte-preserved c =
    let behind = c.in-Some.behind.now in
    text_more c.args.bytes.now c.loop-byte.text.items c.loop-byte.rest.now behind c.in-Some.byte c.loop-byte.invariant c.in-Some.ensures.found
    ∙ ap (λ (l : List ℕ). escaped l ++ behind) (sym c.in_ok-put.ensures)

pub returns-in-empty-clause-none : goal.returns-in-empty-clause-none
returns-in-empty-clause-none c = text_none c.args.bytes.now c.loop-byte.text.items c.loop-byte.rest.now c.loop-byte.invariant c.in-empty.len_below
