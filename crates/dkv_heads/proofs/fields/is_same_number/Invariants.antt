use Rattle.std.proofs.Common.{◌≡◌, length}
use Rattle.std.specs.Prelude.{◌==◌, IsTrue}
use Rattle.std.specs.List.{list_all}
use Rattle.std.specs.Char.{is_ascii_digit}
use Rattle.std.specs.Str.Parse.{digits_value}
use Rattle.dkv_heads.proofs.fields.is_same_number.Given as goal

abbrev pub invariant-loop-a : goal.invariant-loop-a
invariant-loop-a l = record {
  a_digits : IsTrue (list_all is_ascii_digit l.a);
  b_digits : IsTrue (list_all is_ascii_digit l.b);
  same : (digits_value 10 l.a == digits_value 10 l.b) ≡ (digits_value 10 l.fn.a == digits_value 10 l.fn.b);
}

abbrev pub decreases-loop-a : goal.decreases-loop-a
decreases-loop-a l = length l.a
