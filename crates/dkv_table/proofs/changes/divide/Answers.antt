use Rattle.std.proofs.Common.{◌+◌, ◌<◌, length, ap, ◌∙◌, arith, add-one}
use Rattle.std.proofs.lemmas.List.{get_or_default}
use Rattle.dkv_base.specs.State.{put}
use Rattle.dkv_table.proofs.KeyBlocks.{insert-set}
use Rattle.dkv_table.proofs.changes.divide.Goals as goal

pub returns-clause-divided : goal.returns-clause-divided
returns-clause-divided c =
    let bs = c.args.blocks.now.items in
    let at = c.args.at in
    let old = c.index_mut.result.now in
    let lt : at < length bs = omega (arith, c.requires.in_range) in
    let done = c.insert.ensures.succeeds c.requires.place in
    record {
      lower = c.divide-upper.new.self;
      upper = c.divide-upper.result;
      parts = rw (c.insert.ensures.items, done, add-one) (insert-set bs at c.divide-upper.new.self c.divide-upper.result lt);
      content = λ d. c.divide-upper.ensures.content ∙ ap (put c.args.entry) (c.index_mut.ensures.value ∙ get_or_default bs at old d lt);
      len = λ d. c.divide-upper.ensures.len ∙ ap (λ b. length b + 1) (c.index_mut.ensures.value ∙ get_or_default bs at old d lt);
      lower_filled = c.divide-upper.ensures.lower;
      upper_filled = c.divide-upper.ensures.upper;
    }
