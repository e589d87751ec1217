use Rattle.dkv_heads.specs.declared.fields.Body.TheVariants as body_is
use Rattle.dkv_http.proofs.Stepping.{whole_unclear, whole_large, whole_none, fields_said, body_said, last_said}
use Rattle.dkv_http.proofs.state.State.whole_head.Goals as goal

pub returns-in-Unclear-clause-holds : goal.returns-in-Unclear-clause-holds
returns-in-Unclear-clause-holds c h at whole few size =
    let s = c.args.self.now in
    let f = fields_said s.head.bytes c.as_slice.result.now s.headers.items c.deref.result.now c.args.spans h at c.as_slice.ensures c.deref.ensures.value in
    let g = fields_said s.head.bytes c.as_slice-2.result.now s.headers.items c.deref.result.now c.args.spans h at c.as_slice-2.ensures c.deref.ensures.value in
    whole_unclear s c.args.spans c.is_last-close.result h at whole few size (last_said _ _ _ h at.version g c.is_last-close.ensures)
    (body_said s.profile _ _ _ body_is.Unclear h c.body_limit-most.ensures at.version f c.in-Unclear.ensures)

pub returns-in-TooLarge-clause-holds : goal.returns-in-TooLarge-clause-holds
returns-in-TooLarge-clause-holds c h at whole few size =
    let s = c.args.self.now in
    let f = fields_said s.head.bytes c.as_slice.result.now s.headers.items c.deref.result.now c.args.spans h at c.as_slice.ensures c.deref.ensures.value in
    let g = fields_said s.head.bytes c.as_slice-2.result.now s.headers.items c.deref.result.now c.args.spans h at c.as_slice-2.ensures c.deref.ensures.value in
    whole_large s c.args.spans c.is_last-close.result h at whole few size (last_said _ _ _ h at.version g c.is_last-close.ensures)
    (body_said s.profile _ _ _ body_is.TooLarge h c.body_limit-most.ensures at.version f c.in-TooLarge.ensures)

pub returns-then-n-eq0-clause-holds : goal.returns-then-n-eq0-clause-holds
returns-then-n-eq0-clause-holds c h at whole few size =
    let s = c.args.self.now in
    let f = fields_said s.head.bytes c.as_slice.result.now s.headers.items c.deref.result.now c.args.spans h at c.as_slice.ensures c.deref.ensures.value in
    let g = fields_said s.head.bytes c.as_slice-2.result.now s.headers.items c.deref.result.now c.args.spans h at c.as_slice-2.ensures c.deref.ensures.value in
    whole_none s c.args.spans c.is_last-close.result h at whole few size c.in-Sized.n c.if-n-eq0.true c.requires.body (last_said _ _ _ h at.version g c.is_last-close.ensures)
    (body_said s.profile _ _ _ (body_is.Sized c.in-Sized.n) h c.body_limit-most.ensures at.version f c.in-Sized.ensures)
