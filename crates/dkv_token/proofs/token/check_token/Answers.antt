use Rattle.std.proofs.Common.{◌≡◌, ◌∙◌, ap}
use Rattle.dkv_token.specs.Token.{answer_at, token_expiry}
use Rattle.dkv_token.proofs.Checked as checked
use Rattle.dkv_token.proofs.token.check_token.Goals as goal

pub returns-clause-bad : goal.returns-clause-bad
returns-clause-bad c =
    let is : c.answer_at.result ≡ answer_at c.args.at (token_expiry c.args.site.now c.args.text.now) = c.answer_at.ensures ∙ ap (answer_at c.args.at) c.token_expiry.ensures in
    rw is (checked.bad c.args.site.now c.args.text.now c.args.at)

pub returns-clause-expired : goal.returns-clause-expired
returns-clause-expired c =
    let is : c.answer_at.result ≡ answer_at c.args.at (token_expiry c.args.site.now c.args.text.now) = c.answer_at.ensures ∙ ap (answer_at c.args.at) c.token_expiry.ensures in
    rw is (checked.expired c.args.site.now c.args.text.now c.args.at)

pub returns-clause-good : goal.returns-clause-good
returns-clause-good c =
    let is : c.answer_at.result ≡ answer_at c.args.at (token_expiry c.args.site.now c.args.text.now) = c.answer_at.ensures ∙ ap (answer_at c.args.at) c.token_expiry.ensures in
    rw is (checked.good c.args.site.now c.args.text.now c.args.at)
