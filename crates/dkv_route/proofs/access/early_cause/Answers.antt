use Rattle.std.proofs.Common.{sym, ◌∙◌}
use Rattle.std.specs.Prelude.{codes}
use Rattle.std.specs.Option.{option_copied}
use Rattle.dkv_route.proofs.Accesses.{field_is, unauthorized, opened, of_data}
use Rattle.dkv_route.proofs.access.early_cause.Goals as goal

pub returns-in-Some : goal.returns-in-Some
returns-in-Some c = λ q is.
    unauthorized c.args.site.now c.args.at c.args.path q c.as_slice.result.now (option_copied c.field-authorization.result) c.in-Some.cause
    (c.as_slice.ensures ∙ is.method)
    (sym c.is_post.ensures ∙ c.if-not-is_post.false)
    (field_is (codes "authorization") q.fields c.args.request.now.headers (option_copied c.field-authorization.result) is.headers c.field-authorization.ensures)
    (sym c.authorization_cause.ensures ∙ c.in-Some.is)

pub returns-then-needs_access : goal.returns-then-needs_access
returns-then-needs_access c = λ q is.
    opened c.args.site.now c.args.at c.args.path q c.as_slice.result.now (option_copied c.field-authorization.result)
    (c.as_slice.ensures ∙ is.method)
    (sym c.is_post.ensures ∙ c.if-not-is_post.false)
    (field_is (codes "authorization") q.fields c.args.request.now.headers (option_copied c.field-authorization.result) is.headers c.field-authorization.ensures)
    (sym c.authorization_cause.ensures ∙ c.in_default.is)
    (sym c.needs_access.ensures ∙ c.if-needs_access.true)

pub returns : goal.returns
returns c = λ q is.
    of_data c.args.site.now c.args.at c.args.path q c.as_slice.result.now (option_copied c.field-authorization.result) (option_copied c.field-id.result) (option_copied c.field-version.result) c.args.request.now.version_minor c.data_cause.result
    (c.as_slice.ensures ∙ is.method)
    (sym c.is_post.ensures ∙ c.if-not-is_post.false)
    (field_is (codes "authorization") q.fields c.args.request.now.headers (option_copied c.field-authorization.result) is.headers c.field-authorization.ensures)
    (sym c.authorization_cause.ensures ∙ c.in_default.is)
    (sym c.needs_access.ensures ∙ c.if-needs_access.false)
    (field_is (codes "x-denokv-database-id") q.fields c.args.request.now.headers (option_copied c.field-id.result) is.headers c.field-id.ensures)
    (field_is (codes "x-denokv-version") q.fields c.args.request.now.headers (option_copied c.field-version.result) is.headers c.field-version.ensures)
    is.minor
    c.data_cause.ensures
