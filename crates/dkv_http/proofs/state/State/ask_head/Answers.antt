use Rattle.std.proofs.Common.{sym, ◌∙◌, ap, subst, ◌≡◌, ◌≤◌, ◌<◌, length, ℕ, List}
use Rattle.dkv_http.specs.declared.phases.HeadAt.TheVariants as head_at
use Rattle.httparse.specs.Spans.{IsRequestAt}
use Rattle.dkv_heads.specs.Scans.{IsNever, IsOpen}
use Rattle.dkv_http.specs.Holds.{Holds, HoldsIn, waiting}
use Rattle.dkv_http.proofs.Headless.{never_refused, waits_holds}
use Rattle.dkv_http.proofs.Stepping.{seam_back, head_len, some_head}
use Rattle.dkv_http.proofs.state.State.ask_head.Goals as goal
use Rattle.dkv_http.proofs.state.State.ask_head.Goals.{else-byte-eq10-via-then-byte-eq10+then-len-lt-MAX_HEAD_BYTES+else-ends_first_line, else-byte-eq10-via-then-byte-eq10+else-len-lt-MAX_HEAD_BYTES, else-byte-eq10-via-else-byte-eq10}

pub returns-in-Never-clause-holds : goal.returns-in-Never-clause-holds
returns-in-Never-clause-holds c front none e =
    never_refused c.args.self.now.profile c.args.self.now.head.bytes (subst IsNever c.as_slice.ensures c.in-Never.ensures) (some_head c.args.self.now.head.bytes front c.args.byte e) c.requires.most

pub returns-else-byte-eq10-clause-holds : goal.returns-else-byte-eq10-clause-holds
returns-else-byte-eq10-clause-holds c front none e =
    let s = c.args.self.now in
    let t = c.else-byte-eq10.self in
    let kept : t.head.bytes ≡ s.head.bytes = elim c.else-byte-eq10.branch [
      | else-byte-eq10-via-then-byte-eq10+then-len-lt-MAX_HEAD_BYTES+else-ends_first_line w ↦ ap (λ z. z.head.bytes) w.self-is ∙ ap (λ f. f.bytes) w.ends_first_line.ensures.same
      | else-byte-eq10-via-then-byte-eq10+else-len-lt-MAX_HEAD_BYTES w ↦ ap (λ z. z.head.bytes) w.self-is
      | else-byte-eq10-via-else-byte-eq10 w ↦ ap (λ z. z.head.bytes) w.self-is
    ] in
    let is : IsOpen t.head.bytes = subst IsOpen (c.as_slice.ensures ∙ sym kept) c.in-Open.ensures in
    let some : 0 < length t.head.bytes = subst (λ (l : List ℕ). 0 < length l) (sym kept) (some_head s.head.bytes front c.args.byte e) in
    let most : length t.head.bytes ≤ 65536 = subst (λ (l : List ℕ). length l ≤ 65536) (sym kept) c.requires.most in
    subst (λ z. Holds z s.head.bytes) (sym c.wait-else-byte-eq10.ensures)
    (subst (HoldsIn (waiting head_at.Tail t.head.bytes) t.profile t.head.bytes t.body.bytes t.line.bytes t.headers.items t.spans t.close) kept
    (waits_holds t.profile head_at.Tail t.head.bytes t.body.bytes t.line.bytes t.headers.items t.spans t.close is some most))

pub returns-in-Whole-clause-holds : goal.returns-in-Whole-clause-holds
returns-in-Whole-clause-holds c front none e =
    let s = c.args.self.now in
    let x = c.in-Whole.ensures.1 in
    let at = subst (λ t. IsRequestAt t c.judge.new.headers c.in-Whole.spans x.0) c.as_slice.ensures x.1 in
    c.whole_head.ensures.holds x.0 (subst (λ k. IsRequestAt s.head.bytes k c.in-Whole.spans x.0) (sym (seam_back _ c.judge.new.headers _ (sym (c.judge.auto.headers ∙ c.deref_mut.ensures.len)))) at) (head_len s.head.bytes front c.args.byte c.judge.new.headers c.in-Whole.spans x.0 none e at x.2 c.requires.most) x.2 c.requires.most
