use Rattle.std.proofs.Common.{◌∙◌, sym}
use Rattle.dkv_image.specs.Image.{is_good_message}
use Rattle.dkv_image_io.specs.Reading.{narrow}
use Rattle.dkv_image_io.proofs.Follows.{message_is, first_holds, first_fails}
use Rattle.dkv_image_io.proofs.message.MessageItem.follows.Goals as goal

pub returns-then-message_stands : goal.returns-then-message_stands
returns-then-message_stands c =
    let good = message_is c.args.n c.args._now c.args.self.now ∙ sym c.message_stands.ensures ∙ c.if-message_stands.true in
    first_holds (is_good_message (narrow c.args.n c.args._now) c.args.self.now) _ c.is_above.result good c.is_above.ensures

pub returns-else-message_stands : goal.returns-else-message_stands
returns-else-message_stands c =
    let is = c.message_stands.ensures ∙ sym (message_is c.args.n c.args._now c.args.self.now) in
    first_fails (is_good_message (narrow c.args.n c.args._now) c.args.self.now) _ c.message_stands.result is c.if-message_stands.false
