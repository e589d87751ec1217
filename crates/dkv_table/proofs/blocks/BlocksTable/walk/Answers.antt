use Rattle.std.proofs.Common.{◌≡◌, ◌+◌, ◌-◌, ◌++◌, suc, take, drop, filter, sym, ap, ◌∙◌, arith, add-one, append_assoc}
use Rattle.dkv_base.specs.State.{is_between}
use Rattle.dkv_base.specs.Replies.{turned}
use Rattle.dkv_table.specs.Blocks.{joined}
use Rattle.dkv_table.specs.Walks.{walked}
use Rattle.dkv_table.proofs.Walking.{within_one, within_more}
use Rattle.dkv_table.proofs.blocks.BlocksTable.walk.Goals as goal

pub returns-then-first-last : goal.returns-then-first-last
returns-then-first-last c =
    let start = c.args.start.now in
    let end = c.args.end.now in
    let bs = c.args.self.now.blocks.items in
    let first = c.in-Some-Some.first in
    let last = c.in-Some-Some.last in
    let begins = rw c.deref.ensures.value at c.in-Some-Some.ensures.some in
    let ends = rw c.deref-2.ensures.value at c.in-Some-Some.ensures'.some in
    let front = c.range-front.ensures ∙ ap (filter (λ e. is_between start end e.key)) c.index.ensures in
    let back = c.range-back.ensures ∙ ap (filter (λ e. is_between start end e.key)) c.index-then-first-last.ensures in
    let more : suc first + (last - suc first) ≡ last = omega arith in
    let all = within_more start end bs first last begins ends c.index.result.now c.index-then-first-last.result.now (last - suc first) more in
    let between = joined (take (last - suc first) (drop (suc first) bs)) in
    let across : c.across.result ≡ turned c.args.reverse ((c.range-front.result.now ++ between) ++ c.range-back.result.now) = rw (c.deref-then-first-last.ensures.value, add-one) at c.across.ensures in
    let entries : (c.range-front.result.now ++ between) ++ c.range-back.result.now ≡ filter (λ e. is_between start end e.key) (joined bs) = append_assoc c.range-front.result.now between c.range-back.result.now ∙ (λ i. front i ++ (between ++ back i)) ∙ sym all in
    let turned_both : turned c.args.reverse ((c.range-front.result.now ++ between) ++ c.range-back.result.now) ≡ walked start end c.args.reverse (joined bs) = ap (turned c.args.reverse) entries in
    across ∙ turned_both

pub returns-else-first-last : goal.returns-else-first-last
returns-else-first-last c =
    let start = c.args.start.now in
    let end = c.args.end.now in
    let bs = c.args.self.now.blocks.items in
    let begins = rw c.deref.ensures.value at c.in-Some-Some.ensures.some in
    let ends = rw c.deref-2.ensures.value at c.in-Some-Some.ensures'.some in
    let front = c.range-front.ensures ∙ ap (filter (λ e. is_between start end e.key)) c.index.ensures in
    let all = within_one start end bs c.in-Some-Some.first c.in-Some-Some.last begins ends c.index.result.now (omega arith) in
    c.over-else-first-last.ensures ∙ ap (turned c.args.reverse) (front ∙ sym all)
