use Rattle.std.proofs.Common.{◌≡◌, length}
use Rattle.httparse.specs.Grammar.{skip_ows}
use Rattle.dkv_heads.proofs.fields.trimmed_front.Given as goal

abbrev pub invariant-loop-part : goal.invariant-loop-part
invariant-loop-part l = skip_ows l.part ≡ skip_ows l.fn.part

abbrev pub decreases-loop-part : goal.decreases-loop-part
decreases-loop-part l = length l.part
