use Rattle.std.proofs.Common.{◌<◌, List, Option, Some, sym, ap, ◌∙◌, length, arith}
use Rattle.dkv_base.specs.declared.types.Entry.{Entry}
use Rattle.dkv_base.specs.State.{visible, without}
use Rattle.dkv_table.specs.Blocks.{joined}
use Rattle.dkv_expiry.specs.declared.ending.Ending.{Ending}
use Rattle.dkv_expiry.specs.Endings.{has}
use Rattle.dkv_core.specs.Entries.{Stored, forgot, is_end}
use Rattle.dkv_core.proofs.Indexed.{due_ended, none_due, indexed-without, ended_gone, one_less}
use Rattle.std.specs.Option.{option_copied}
use Rattle.dkv_core.proofs.entries.Entries.drop_one.Goals as goal

pub returns-in_default-clause-none : goal.returns-in_default-clause-none
returns-in_default-clause-none c = λ no.
    let es : List Entry = joined c.self.inside.table.blocks.items in
    let due = ap (λ (o : Option _). option_copied o) (sym c.in_default.is) ∙ c.due_upto.ensures.due in
    ap (λ (s : Stored). visible c.args.at s.entries) (sym c.self.view_is)
    ∙ none_due c.args.at es c.self.inside.expiry.pairs c.self.inside.table.kept.blocks.in_order c.self.invariant due
    ∙ ap (λ (s : Stored). s.entries) c.self.view_is

pub invariant_of-self : goal.invariant_of-self
invariant_of-self c q =
    let es : List Entry = joined c.self.inside.table.blocks.items in
    let ps : List Ending = c.self.inside.expiry.pairs in
    let key = c.as_slice.result.now in
    ap (λ (k : List Ending). has q k) (c.forget.ensures.pairs ∙ ap (λ (o : Option Entry). forgot o ps) c.remove-was.ensures.was)
    ∙ indexed-without key es ps c.self.invariant q
    ∙ ap (λ (fs : List Entry). is_end fs q) (sym c.remove-was.ensures.content)

pub returns-clause-entries : goal.returns-clause-entries
returns-clause-entries c =
    let es : List Entry = joined c.self.inside.table.blocks.items in
    let key = c.as_slice.result.now in
    let due = due_ended c.args.at key es c.self.inside.expiry.pairs c.self.invariant (ap Some c.as_slice.ensures ∙ c.in-Some.ensures.due) in
    ap (λ (fs : List Entry). visible c.args.at fs) c.remove-was.ensures.content
    ∙ ended_gone c.args.at key es due.0 c.self.inside.table.kept.blocks.in_order due.1 due.2
    ∙ ap (λ (s : Stored). visible c.args.at s.entries) c.self.view_is

pub returns-clause-one : goal.returns-clause-one
returns-clause-one c = λ yes.
    let es : List Entry = joined c.self.inside.table.blocks.items in
    let key = c.as_slice.result.now in
    let due = due_ended c.args.at key es c.self.inside.expiry.pairs c.self.invariant (ap Some c.as_slice.ensures ∙ c.in-Some.ensures.due) in
    let less : length (without key es) < length es = one_less key es due.0 due.1 in
    omega (arith, less, ap (λ (fs : List Entry). length fs) c.remove-was.ensures.content, ap (λ (s : Stored). length s.entries) c.self.view_is)
