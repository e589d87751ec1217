use Rattle.std.proofs.Common.{inl, refl}
use Rattle.store_tests.proofs.tests.calls.QuietDisk.cut.Goals as goal

pub returns-clause-crash : goal.returns-clause-crash
returns-clause-crash c = λ d left. (d, tt, inl refl)
