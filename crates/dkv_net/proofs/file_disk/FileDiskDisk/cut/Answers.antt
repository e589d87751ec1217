use Rattle.std.proofs.Common.{inl, refl}
use Rattle.dkv_net.proofs.file_disk.FileDiskDisk.cut.Goals as goal

pub returns-clause-crash : goal.returns-clause-crash
returns-clause-crash c = λ d left. (d, tt, inl refl)
