use Rattle.std.proofs.Common.{◌≡◌, None, map, take}
use Rattle.dkv_base.specs.Limits.{first_some}
use Rattle.dkv_atomic.proofs.parts.first_limit.Given as goal

-- the parts so far pass no limit
abbrev pub invariant-loop-part : goal.invariant-loop-part
invariant-loop-part g l = first_some (map g.T.Limited.own_limit (take l.part-index l.parts)) ≡ None
