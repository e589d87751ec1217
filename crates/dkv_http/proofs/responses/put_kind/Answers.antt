use Rattle.std.proofs.Common.{◌∙◌, ap, ◌++◌, codes}
use Rattle.httparse.specs.Ascii.{crlf_bytes}
use Rattle.dkv_http.specs.Responses.{type_name}
use Rattle.dkv_http.proofs.Puts.{three}
use Rattle.dkv_http.proofs.responses.put_kind.Goals as goal

pub returns-clause-bytes : goal.returns-clause-bytes
returns-clause-bytes c =
    three c.args.out.now.bytes (codes "content-type: ") (type_name c.args.kind) crlf_bytes _ _ _ c.put_raw.ensures.bytes
    (c.put_raw-2.ensures.bytes ∙ ap (λ l. c.put_raw.new.self.bytes ++ l) c.type_name.ensures.name) c.put_raw-3.ensures.bytes
