use Rattle.std.proofs.Common.{◌≡◌, eqb, length, ap, ◌∙◌, arith}
use Rattle.std.specs.List.{list_all}
use Rattle.dkv_table.specs.Places.{is_below}
use Rattle.dkv_table.proofs.Parts.{below-start}
use Rattle.dkv_table.proofs.block.Block.is_below.Goals as goal

pub returns : goal.returns
returns c =
    let key = c.args.key.now in
    let es = c.self.inside.entries.items in
    let len : c.len.result ≡ length es = omega arith in
    let all : eqb c.first_from.result c.len.result ≡ list_all (is_below key) es = rw len (below-start key es _ (rw c.deref.ensures.value at c.first_from.ensures)) in
    all ∙ ap (list_all (is_below key)) c.self.view_is
