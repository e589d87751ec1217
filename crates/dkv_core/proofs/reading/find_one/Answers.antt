use Rattle.std.proofs.Common.{◌≡◌, List, take, ◌∙◌}
use Rattle.std.proofs.lemmas.Result.{IfOk-weaker}
use Rattle.dkv_base.specs.declared.types.Entry.{Entry}
use Rattle.dkv_base.specs.Replies.{read_range}
use Rattle.dkv_base.specs.State.{visible}
use Rattle.dkv_table.specs.Walks.{walked}
use Rattle.dkv_core.specs.Found.{entries_of}
use Rattle.dkv_core.proofs.Seen.{seen_of_walk}
use Rattle.dkv_core.proofs.reading.find_one.Goals as goal

pub returns : goal.returns
returns g c =
    let r = c.args.range.now in
    let at = c.args.at in
    let es : List Entry = g.T.Table.content c.args.table.now in
    IfOk-weaker c.first_seen.result (λ a. entries_of a ≡ take c.most_of.result (visible at c.walk-cursor.result)) (λ a. entries_of a ≡ read_range (visible at es) r)
    (λ a is. is
    ∙ (λ i. take (c.most_of.ensures i) (visible at ((c.walk-cursor.ensures ∙ (λ j. walked (c.as_slice.ensures j) (c.as_slice-2.ensures j) r.reverse es)) i)))
    ∙ seen_of_walk at r es)
    c.first_seen.ensures
