use Rattle.std.proofs.Common.{◌∙◌, ap, ◌++◌, rules}
use Rattle.httparse.specs.Ascii.{crlf_bytes}
use Rattle.dkv_http.proofs.Hex.{whole}
use Rattle.dkv_http.proofs.Puts.{lines}
use Rattle.dkv_http.proofs.responses.write_chunk.Goals as goal

pub returns-clause-bytes : goal.returns-clause-bytes
returns-clause-bytes c =
    lines c.args.out.now.bytes _ c.args.bytes.now crlf_bytes _ _ _ _ (c.put_hex.ensures.bytes ∙ ap (λ l. c.args.out.now.bytes ++ l) (whole _ (search rules))) c.put_raw.ensures.bytes c.put_raw-2.ensures.bytes c.put_raw-3.ensures.bytes
