use Rattle.std.proofs.Common.{◌≡◌, ◌+◌, ◌≤◌, length, map}
use Rattle.httparse.specs.Spans.{header_bytes}
use Rattle.dkv_heads.specs.Heads.{values}
use Rattle.dkv_heads.proofs.Values.{fields_from}
use Rattle.dkv_heads.proofs.fields.count_named.Given as goal

abbrev pub invariant-loop-header : goal.invariant-loop-header
invariant-loop-header l = record {
  most : l.count ≤ l.header-index;
  sum : l.count + length (values l.name (fields_from l.head l.headers l.header-index)) ≡ length (values l.name (map (header_bytes l.head) l.headers));
}
