use Rattle.std.proofs.Common.{◌≡◌, ◌+◌, sym, subst, rules, arith}
use Rattle.dkv_pipe.specs.declared.frames.Head.{Head}
use Rattle.dkv_pipe.specs.Frames.{length_at, caller_at, moment_at, code_at}
use Rattle.dkv_pipe.specs.Running.{IsWholeOf}
use Rattle.dkv_pipe.proofs.Fronts.{Tests, head_at, look_whole}
use Rattle.dkv_pipe.proofs.frames.look_at.Goals as goal

pub returns : goal.returns
returns c =
    let bytes = c.args.bytes.now in
    let len = c.from_le_bytes-len.result in
    let k = c.in-Ok.kind in
    let caller_is : c.in-Some-head_of.caller ≡ caller_at bytes = search rules in
    let moment_is : c.in-Some-head_of.moment ≡ moment_at bytes = search rules in
    let code_is : c.in-Some-head_of.code ≡ code_at bytes = search rules in
    let len_is : len ≡ length_at bytes = search rules in
    let tests : Tests bytes k = record {
      range = search (len_is, rules);
      long = search rules;
      kind = search (code_is, rules);
      fits = search (len_is, rules);
      whole = omega (arith, len_is, c.if-bytes-len.false);
    } in
    let same : head_at k bytes len ≡ record { caller = c.in-Some-head_of.caller; moment = c.in-Some-head_of.moment; kind = k; len = 4 + len } =
    λ i. record { caller = sym caller_is i; moment = sym moment_is i; kind = k; len = 4 + len } in
    subst (λ (h : Head). IsWholeOf h bytes) same (look_whole bytes k len tests len_is (omega (arith, c.if-len-lt-HEAD_BYTES.false)))
