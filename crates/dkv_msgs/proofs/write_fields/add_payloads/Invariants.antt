use Rattle.std.proofs.Common.{◌≡◌, ◌++◌, take}
use Rattle.std.specs.List.{flat_map}
use Rattle.dkv_base.specs.Protobuf.{delimited}
use Rattle.dkv_msgs.proofs.write_fields.add_payloads.Given as goal

abbrev pub invariant-loop-payload : goal.invariant-loop-payload
invariant-loop-payload l = l.out.bytes ≡ l.initial.out.bytes ++ flat_map (delimited l.field) (take l.payload-index l.payloads)
