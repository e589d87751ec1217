use Rattle.std.proofs.Common.{◌≡◌, map}
use Rattle.httparse.specs.Spans.{header_bytes}
use Rattle.dkv_heads.specs.Heads.{values}
use Rattle.dkv_heads.proofs.Values.{fields_from}
use Rattle.dkv_heads.proofs.fields.first_named.Given as goal

abbrev pub invariant-loop-header : goal.invariant-loop-header
invariant-loop-header l = values l.name (fields_from l.head l.headers l.header-index) ≡ values l.name (map (header_bytes l.head) l.headers)
