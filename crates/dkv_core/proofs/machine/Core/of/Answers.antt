use Rattle.std.proofs.Common.{ap, ◌∙◌, arith}
use Rattle.std.specs.List.{list_all}
use Rattle.dkv_hub.specs.Frames.{are_committed}
use Rattle.dkv_core.specs.Cores.{is_kept}
use Rattle.dkv_core.proofs.Committed.{committed-sound}
use Rattle.dkv_core.proofs.Kept.{kept-sound, schedules-sound}
use Rattle.dkv_core.proofs.machine.Core.of.Goals as goal

pub queue_of-requires-clause-schedules : goal.queue_of-requires-clause-schedules
queue_of-requires-clause-schedules c = schedules-sound c.args.number c.args.messages c.requires.sound.messages

pub invariant_of-result : goal.invariant_of-result
invariant_of-result c = (omega arith, c.requires.sound.moment, ap (list_all (is_kept c.args.number)) c.in_ok-queue_of.ensures.messages ∙ kept-sound c.args.number c.args.messages c.requires.sound.messages, ap are_committed c.in_ok-of.ensures ∙ committed-sound c.args.number c.args.entries c.requires.sound.entries)
