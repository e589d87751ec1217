use Rattle.std.proofs.Common.{◌≡◌, ◌++◌, take}
use Rattle.std.specs.List.{flat_map}
use Rattle.dkv_base.specs.Protobuf.{varint}
use Rattle.dkv_msgs.proofs.write_fields.add_varints.Given as goal

abbrev pub invariant-loop-n : goal.invariant-loop-n
invariant-loop-n l = l.out.bytes ≡ l.initial.out.bytes ++ flat_map varint (take l.n-index l.numbers)
