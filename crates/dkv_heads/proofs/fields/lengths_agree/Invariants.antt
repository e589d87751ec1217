use Rattle.std.proofs.Common.{◌≡◌, map, codes}
use Rattle.std.specs.List.{list_all}
use Rattle.httparse.specs.Spans.{header_bytes}
use Rattle.dkv_heads.specs.Heads.{values}
use Rattle.dkv_heads.specs.Bodies.{agrees}
use Rattle.dkv_heads.proofs.Values.{fields_from}
use Rattle.dkv_heads.proofs.fields.lengths_agree.Given as goal

abbrev pub invariant-loop-header : goal.invariant-loop-header
invariant-loop-header l = list_all (agrees l.first) (values (codes "content-length") (fields_from l.head l.headers l.header-index)) ≡ list_all (agrees l.first) (values (codes "content-length") (map (header_bytes l.head) l.headers))
