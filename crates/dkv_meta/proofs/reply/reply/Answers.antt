use Rattle.std.proofs.Common.{◌≡◌, ◌∙◌, ap}
use Rattle.std.proofs.lemmas.Result.{IfOk-weaker}
use Rattle.std.specs.Prelude.{decimal}
use Rattle.uuid.specs.Text.{hyphenated_text, lower}
use Rattle.dkv_meta.specs.Reply.{IsReply, reply_text, date_time}
use Rattle.dkv_meta.proofs.Parts.{parts_are}
use Rattle.dkv_meta.proofs.reply.reply.Goals as goal

pub returns : goal.returns
returns c =
    let id : c.as_bytes.result.now ≡ hyphenated_text lower c.args.site.now.database_id =
    c.as_bytes.ensures.value ∙ c.encode_lower.ensures.text ∙ ap (hyphenated_text lower) (c.hyphenated.ensures ∙ c.from_bytes.ensures) in
    let digits : c.as_bytes-2.result.now ≡ decimal c.args.version = c.as_bytes-2.ensures.value ∙ c.format.ensures.text in
    IfOk-weaker c.joined.result _ (λ text. IsReply c.args.site.now c.args.expiry c.args.version text)
    (λ text is. (
      c.shown.result,
      c.shown.ensures,
      is ∙ parts_are c.args.site.now c.as_bytes.result.now c.as_slice.result.now c.date_time.result c.sign.result c.as_bytes-2.result.now c.args.version id c.as_slice.ensures digits
          ∙ ap (λ ends. reply_text c.args.site.now ends c.sign.result c.args.version) c.date_time.ensures
          ∙ ap (λ token. reply_text c.args.site.now (date_time c.shown.result) token c.args.version) c.sign.ensures,
    ))
    c.joined.ensures
