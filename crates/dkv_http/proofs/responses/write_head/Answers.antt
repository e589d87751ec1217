use Rattle.dkv_http.proofs.Puts.{six}
use Rattle.dkv_http.proofs.responses.write_head.Goals as goal

pub returns-clause-bytes : goal.returns-clause-bytes
returns-clause-bytes c = six _ _ _ _ _ _ _ _ _ _ _ _ _ c.put_status.ensures.bytes c.put_kind.ensures.bytes c.put_length.ensures.bytes c.put_allow.ensures.bytes c.put_close.ensures.bytes c.put_raw.ensures.bytes
