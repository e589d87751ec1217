use Rattle.std.proofs.Common.{◌≡◌, map, take}
use Rattle.httparse.specs.Spans.{header_bytes}
use Rattle.dkv_heads.specs.Heads.{header_map}
use Rattle.dkv_http.proofs.conn.Conn.request.Given as goal

abbrev pub invariant-loop-header : goal.invariant-loop-header
invariant-loop-header l = l.headers ≡ header_map (map (header_bytes l.head) (take l.header-index l.header-items))
