use Rattle.std.proofs.Common.{◌≡◌, length}
use Rattle.std.specs.Prelude.{◌==◌, IsTrue}
use Rattle.std.specs.List.{list_all}
use Rattle.std.specs.Char.{is_ascii_digit}
use Rattle.std.specs.Str.Parse.{digits_value}
use Rattle.dkv_heads.proofs.fields.is_zero.Given as goal

abbrev pub invariant-loop-value : goal.invariant-loop-value
invariant-loop-value l = record {
  digits : IsTrue (list_all is_ascii_digit l.value);
  same : (digits_value 10 l.value == 0) ≡ (digits_value 10 l.fn.value == 0);
}

abbrev pub decreases-loop-value : goal.decreases-loop-value
decreases-loop-value l = length l.value
