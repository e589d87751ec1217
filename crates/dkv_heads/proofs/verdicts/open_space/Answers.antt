use Rattle.std.proofs.Common.{sym, ◌∙◌, ap, ◌+◌}
use Rattle.std.specs.List.{list_all}
use Rattle.dkv_heads.specs.Heads.{is_open}
use Rattle.dkv_heads.proofs.Judges.{open_none, found_open, found_closed, range_tail}
use Rattle.dkv_heads.proofs.verdicts.open_space.Goals as goal

pub returns-then-is_open : goal.returns-then-is_open
returns-then-is_open c = found_open c.args.bytes.now c.in-Some.at c.in-Some.ensures.0 c.in-Some.ensures.1 (ap (list_all is_open) (sym (range_tail c.args.bytes.now (c.in-Some.at + 1))) ∙ sym c.is_open.ensures ∙ c.if-is_open.true)

pub returns-else-is_open : goal.returns-else-is_open
returns-else-is_open c = found_closed c.args.bytes.now c.in-Some.at c.in-Some.ensures.0 c.in-Some.ensures.1 (ap (list_all is_open) (sym (range_tail c.args.bytes.now (c.in-Some.at + 1))) ∙ sym c.is_open.ensures ∙ c.if-is_open.false)

pub returns-in-None : goal.returns-in-None
returns-in-None c = open_none c.args.bytes.now c.in-None.ensures
