use Rattle.std.proofs.Common.{ap, ◌∙◌, arith, refl, subst}
use Rattle.http_header.specs.FieldValue.{plain_value}
use Rattle.http_header.specs.Token.{lowercase}
use Rattle.dkv_http.proofs.Taking.{Copies, one_entry, copies_give, copies_of}
use Rattle.dkv_http.specs.Conns.{Follows}
use Rattle.dkv_http.proofs.Going.{serves}
use Rattle.dkv_http.proofs.conn.Conn.request.Goals as goal

pub loop-header-preserved : goal.loop-header-preserved
loop-header-preserved c =
    one_entry _ _ _ _ _ _ _ _ c.loop-header-test.true c.loop-header.invariant (c.in-Ok.ensures.ok ∙ ap lowercase c.of-in-loop-header.ensures) (c.in-Ok-from_bytes.ensures.ok ∙ ap plain_value c.of-in-loop-header-2.ensures) c.in-Ok-append.ensures.ok

copies : (c : goal.After-pass) → Copies c.args.self.now (record {
  method = c.in_ok-method.method;
  target = c.in_ok-target.target;
  version_minor = c.self.inside.state.spans.version;
  headers = c.loop-header.headers;
  body = c.in_ok-body.body;
  close = c.self.inside.state.close;
})
copies c =
    copies_of c.self.inside.state c.args.self.now c.self.view_is _ c.as_slice-head.result.now c.deref.result.now c.loop-header.header-index c.as_slice-head.ensures c.deref.ensures.value
    (c.in_ok-method.ensures ∙ c.of.ensures) (c.in_ok-target.ensures ∙ c.of-2.ensures) refl c.loop-header.invariant (omega (arith, c.loop-header-test.false))
    (c.in_ok-body.ensures ∙ c.as_slice.ensures) refl

pub returns-clause-request : goal.returns-clause-request
returns-clause-request c = copies_give c.args.self.now _ c.requires (copies c)

pub returns-clause-session : goal.returns-clause-session
returns-clause-session c =
    serves c.args.self.now c.pass.new.self _ c.requires (copies c)
    (subst (λ z. Follows z c.pass.new.self) c.self.view_is c.pass.ensures.follows) (c.pass.ensures.profile ∙ ap (λ z. z.profile) c.self.view_is)
