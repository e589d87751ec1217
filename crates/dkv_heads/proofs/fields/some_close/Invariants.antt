use Rattle.std.proofs.Common.{◌≡◌, map, codes}
use Rattle.std.specs.List.{list_any}
use Rattle.httparse.specs.Spans.{header_bytes}
use Rattle.dkv_heads.specs.Heads.{values, says_close}
use Rattle.dkv_heads.proofs.Values.{fields_from}
use Rattle.dkv_heads.proofs.fields.some_close.Given as goal

abbrev pub invariant-loop-header : goal.invariant-loop-header
invariant-loop-header l = list_any says_close (values (codes "connection") (fields_from l.head l.headers l.header-index)) ≡ list_any says_close (values (codes "connection") (map (header_bytes l.head) l.headers))
