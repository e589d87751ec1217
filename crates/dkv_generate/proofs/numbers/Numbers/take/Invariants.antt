-- So many numbers were taken.
use Rattle.std.proofs.Common.{◌≡◌}
use Rattle.dkv_generate.specs.Numbers.{number_after, numbers_after}
use Rattle.dkv_generate.proofs.numbers.Numbers.take.Given as goal

abbrev pub invariant-loop : goal.invariant-loop
invariant-loop l = record {
  bytes : l.bytes.items ≡ numbers_after l.counter l.initial.self.last;
  last : l.self.last ≡ number_after l.counter l.initial.self.last;
}
