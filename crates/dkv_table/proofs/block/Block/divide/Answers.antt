use Rattle.std.proofs.Common.{◌≡◌, ◌++◌, [], true, false, arith, sym, ap, subst, ◌∙◌}
use Rattle.std.specs.List.{list_all}
use Rattle.std.proofs.lemmas.List.{append-nil}
use Rattle.dkv_base.specs.State.{entry_at, put, is_in_key_order}
use Rattle.dkv_table.specs.Places.{is_below}
use Rattle.dkv_table.proofs.Parts.{entry_at-behind, entry_at-before, put-behind, put-before, above_rest, one_more}
use Rattle.dkv_table.proofs.block.Block.divide.Goals as goal

pub returns-then-is_below-clause-content : goal.returns-then-is_below-clause-content
returns-then-is_below-clause-content c =
    let e = c.args.entry in
    let es = c.args.self.now in
    let below = subst (λ k. list_all (is_below k) es ≡ true) c.as_slice.ensures (sym c.is_below.ensures ∙ c.if-is_below.true) in
    ap (λ fs. es ++ fs) (c.put.ensures.content ∙ ap (put e) c.requires.empty) ∙ sym (put-behind e es [] below) ∙ ap (put e) (append-nil es)

pub returns-then-is_below-2-clause-content : goal.returns-then-is_below-2-clause-content
returns-then-is_below-2-clause-content c =
    let e = c.args.entry in
    let low = c.halve.new.self in
    let below = subst (λ k. list_all (is_below k) low ≡ true) c.as_slice-2.ensures (sym c.is_below-2.ensures ∙ c.if-is_below-2.true) in
    ap (λ fs. low ++ fs) c.put-then-is_below-2.ensures.content ∙ sym (put-behind e low c.halve.new.upper below) ∙ ap (put e) c.halve.ensures.content

pub returns-then-is_below-2-clause-len : goal.returns-then-is_below-2-clause-len
returns-then-is_below-2-clause-len c =
    let e = c.args.entry in
    let low = c.halve.new.self in
    let below = subst (λ k. list_all (is_below k) low ≡ true) c.as_slice-2.ensures (sym c.is_below-2.ensures ∙ c.if-is_below-2.true) in
    let none = c.put-then-is_below-2.ensures.was ∙ sym (entry_at-behind e.key low c.halve.new.upper below) ∙ ap (entry_at e.key) c.halve.ensures.content ∙ c.requires.absent in
    let more = one_more _ _ _ none c.put-then-is_below-2.ensures.len in
    omega (arith, more)

pub returns-else-is_below-2-clause-content : goal.returns-else-is_below-2-clause-content
returns-else-is_below-2-clause-content c =
    let e = c.args.entry in
    let low = c.halve.new.self in
    let up = c.halve.new.upper in
    let order = subst (λ es. is_in_key_order es ≡ true) (sym c.halve.ensures.content) c.halve.ensures.order in
    let not_below = subst (λ k. list_all (is_below k) low ≡ false) c.as_slice-2.ensures (sym c.is_below-2.ensures ∙ c.if-is_below-2.false) in
    ap (λ fs. fs ++ up) c.put-else-is_below-2.ensures.content ∙ sym (put-before e low up (above_rest e.key low up order not_below)) ∙ ap (put e) c.halve.ensures.content

pub returns-else-is_below-2-clause-len : goal.returns-else-is_below-2-clause-len
returns-else-is_below-2-clause-len c =
    let e = c.args.entry in
    let low = c.halve.new.self in
    let up = c.halve.new.upper in
    let order = subst (λ es. is_in_key_order es ≡ true) (sym c.halve.ensures.content) c.halve.ensures.order in
    let not_below = subst (λ k. list_all (is_below k) low ≡ false) c.as_slice-2.ensures (sym c.is_below-2.ensures ∙ c.if-is_below-2.false) in
    let none = c.put-else-is_below-2.ensures.was ∙ sym (entry_at-before e.key low up (above_rest e.key low up order not_below)) ∙ ap (entry_at e.key) c.halve.ensures.content ∙ c.requires.absent in
    let more = one_more _ _ _ none c.put-else-is_below-2.ensures.len in
    omega (arith, more)
