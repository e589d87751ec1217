use Rattle.std.proofs.Common.{◌∙◌, ap, sym, subst}
use Rattle.dkv_generate.specs.Frames.{IsShort}
use Rattle.dkv_generate.specs.Steps.{entry}
use Rattle.dkv_generate.proofs.Short.{read_short}
use Rattle.dkv_generate.proofs.groups.put_entry.Goals as goal

pub put_step-requires-clause-short : goal.put_step-requires-clause-short
put_step-requires-clause-short c = subst IsShort (sym (c.in_ok-ask.ensures ∙ ap entry c.in_ok-key.ensures)) (read_short c.args.group)
