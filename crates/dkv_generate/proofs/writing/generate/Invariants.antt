-- The groups so far were written, and their numbers taken.
use Rattle.std.proofs.Common.{◌≡◌, ◌*◌, ◌≤◌}
use Rattle.std.specs.Io.KnownBytes.{Appends}
use Rattle.dkv_generate.specs.Numbers.{number_after}
use Rattle.dkv_generate.specs.Workload.{groups_bytes}
use Rattle.dkv_generate.proofs.writing.generate.Given as goal

abbrev pub invariant-loop-group : goal.invariant-loop-group
invariant-loop-group g l = record {
  held : Appends (g.K.Sink.held l.initial.sink) (g.K.Sink.held l.sink) (groups_bytes l.group l.fn.number);
  last : l.numbers.last ≡ number_after (9 * l.group) l.fn.number;
  later : g.K.Sink.faults l.initial.sink ≤ g.K.Sink.faults l.sink;
}
