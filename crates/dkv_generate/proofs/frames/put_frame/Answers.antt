use Rattle.std.proofs.Common.{◌≡◌, ◌∙◌, ℕ, ◌+◌, List, ◌++◌, length, append_assoc, ap}
use Rattle.dkv_generate.specs.Frames.{kind_of, body_of, head_bytes}
use Rattle.dkv_generate.proofs.frames.put_frame.Goals as goal

pub returns : goal.returns
returns c =
    let s = c.args.step in
    let spelled : List ℕ = body_of s.ask in
    let counted : ℕ = length spelled + 13 in
    let body : c.as_slice.result.now ≡ spelled = c.as_slice.ensures ∙ c.in_ok-body.ensures in
    let len : c.len.result + 13 ≡ counted = ap (λ (n : ℕ). n + 13) (c.len.ensures ∙ ap length c.in_ok-body.ensures) in
    let head : c.head.result ≡ head_bytes counted s.who s.at (kind_of s.ask) =
    c.head.ensures
    ∙ ap (λ (n : ℕ). head_bytes n s.who s.at c.kind_of-kind.result) len
    ∙ ap (λ (k : ℕ). head_bytes counted s.who s.at k) c.kind_of-kind.ensures in
    c.in_ok-extend_from_slice-2.ensures.items
    ∙ ap (λ (l : List ℕ). c.extend_from_slice.new.self.items ++ l) body
    ∙ ap (λ (l : List ℕ). l ++ spelled) (c.in_ok-extend_from_slice.ensures.items ∙ ap (λ (l : List ℕ). c.args.out.now.items ++ l) head)
    ∙ append_assoc c.args.out.now.items (head_bytes counted s.who s.at (kind_of s.ask)) spelled
