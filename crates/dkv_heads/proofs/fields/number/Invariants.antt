use Rattle.std.proofs.Common.{◌≤◌, ◌<◌, ◌≡◌, ◌+◌, ◌*◌, take}
use Rattle.std.specs.Str.Parse.{digits_value}
use Rattle.dkv_heads.proofs.fields.number.Given as goal

abbrev pub invariant-loop-b : goal.invariant-loop-b
invariant-loop-b l = record {
  most : l.n ≤ l.limit * 10 + 9;
  small : l.n ≤ l.limit → digits_value 10 (take l.b-index l.value) ≡ l.n;
  large : l.limit < l.n → l.limit < digits_value 10 (take l.b-index l.value);
}
