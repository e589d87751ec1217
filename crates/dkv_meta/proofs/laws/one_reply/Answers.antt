use Rattle.std.proofs.Common.{sym, ap, ◌∙◌}
use Rattle.dkv_token.specs.Token.{sign}
use Rattle.dkv_meta.specs.Reply.{expiry, reply_text}
use Rattle.dkv_meta.proofs.Shown.{one_text}
use Rattle.dkv_meta.proofs.laws.one_reply.Goals as goal

pub returns : goal.returns
returns c site t version text other x y =
    x.2 ∙ ap (λ ends. reply_text site ends (sign site (expiry t)) version) (one_text (expiry t) x.0 y.0 x.1 y.1) ∙ sym y.2
