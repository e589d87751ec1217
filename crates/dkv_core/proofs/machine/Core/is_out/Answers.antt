use Rattle.std.proofs.Common.{sym, ap, ◌∙◌}
use Rattle.dkv_base.specs.Messages.{is_out}
use Rattle.dkv_core.specs.Cores.{Database}
use Rattle.dkv_queue.proofs.Laws.{out-rows}
use Rattle.dkv_core.proofs.machine.Core.is_out.Goals as goal

pub returns : goal.returns
returns c = c.is_out.ensures ∙ sym (out-rows c.args.id c.self.inside.queue.rows) ∙ ap (λ (w : Database). is_out c.args.id w.out) c.self.view_is
