use Rattle.std.proofs.Common.{◌≡◌, length, reverse}
use Rattle.httparse.specs.Grammar.{skip_ows}
use Rattle.dkv_heads.proofs.fields.trimmed_back.Given as goal

abbrev pub invariant-loop-part : goal.invariant-loop-part
invariant-loop-part l = skip_ows (reverse l.part) ≡ skip_ows (reverse l.fn.part)

abbrev pub decreases-loop-part : goal.decreases-loop-part
decreases-loop-part l = length l.part
