use Rattle.std.proofs.Common.{sym, ◌∙◌, codes, map}
use Rattle.std.specs.Str.Parse.{digits_value}
use Rattle.httparse.specs.Spans.{header_bytes}
use Rattle.dkv_heads.specs.Heads.{values}
use Rattle.dkv_heads.proofs.Values.{framed_sized}
use Rattle.dkv_heads.proofs.fields.sized.Goals as goal

pub returns-then-n-limit : goal.returns-then-n-limit
returns-then-n-limit c e = (
  digits_value 10 c.args.first.now,
  framed_sized c.args.first.now (values (codes "content-length") (map (header_bytes c.args.head.now) c.args.headers.now)) e (sym c.is_number.ensures ∙ c.if-not-is_number.false) (sym c.lengths_agree.ensures ∙ c.if-not-lengths_agree.false),
  c.number-n.ensures.large c.if-n-limit.true,
)
