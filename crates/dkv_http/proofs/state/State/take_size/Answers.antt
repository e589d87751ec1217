use Rattle.std.proofs.Common.{refl, ap, sym, ◌∙◌, subst, arith, ◌≡◌, ◌<◌, ◌++◌, ◌∷◌, [], true, ℕ, drop}
use Rattle.std.specs.Prelude.{nat_lt}
use Rattle.std.proofs.lemmas.Bool.Decides.{nat_tests}
use Rattle.httparse.specs.Grammar.{HasNoChunkLine, NeverHasChunkLine, MayBecomeChunkLine, ReadsChunkLine}
use Rattle.dkv_http.specs.declared.phases.Phase.TheVariants as phase
use Rattle.dkv_http.specs.Holds.{Holds}
use Rattle.dkv_http.proofs.Stepping.{as_phase, size_on, size_judged, size_never, size_whole}
use Rattle.dkv_http.proofs.state.State.take_size.Goals as goal

less : (n k m : ℕ) → n ≡ m → nat_lt n k ≡ true → m < k
less n k m e t = let l : n < k = grind (arith, nat_tests, t) in omega (arith, l, e)

more : (n m : ℕ) → n ≡ m → nat_lt 0 n ≡ true → 0 < m
more n m e t = let l : 0 < n = grind (arith, nat_tests, t) in omega (arith, l, e)

pub returns-in-Some-clause-holds : goal.returns-in-Some-clause-holds
returns-in-Some-clause-holds c held x =
    subst (λ t. Holds t (held ++ c.args.byte ∷ [])) (sym c.wait_size.ensures)
    (size_on c.args.self.now c.args.at c.args.byte c.push.new.self.bytes held (as_phase (phase.Size c.args.at) c.args.self.now held c.requires.phase x) (ap (λ f. f.bytes) c.push.ensures)
    c.in-Some.next (nat_lt c.len-few.result 16) (nat_lt 0 c.len-some.result) (sym c.next_size.ensures.next ∙ c.in-Some.is)
    (λ t. less c.len-few.result 16 _ c.len-few.ensures t) (λ t. more c.len-some.result _ c.len-some.ensures t))

pub returns-in-Err-clause-holds : goal.returns-in-Err-clause-holds
returns-in-Err-clause-holds c held x =
    size_never c.args.self.now c.args.at c.args.byte c.push.new.self.bytes held (as_phase (phase.Size c.args.at) c.args.self.now held c.requires.phase x) (ap (λ f. f.bytes) c.push.ensures)
    (subst NeverHasChunkLine c.as_slice.ensures c.in-Err.ensures.invalid)

pub returns-in-Ok-Partial-clause-holds : goal.returns-in-Ok-Partial-clause-holds
returns-in-Ok-Partial-clause-holds c held x =
    subst (λ t. Holds t (held ++ c.args.byte ∷ [])) (sym c.wait_size-in-Ok-Partial.ensures)
    (size_judged c.args.self.now c.args.at c.args.byte c.push.new.self.bytes held (as_phase (phase.Size c.args.at) c.args.self.now held c.requires.phase x) (ap (λ f. f.bytes) c.push.ensures)
    (subst MayBecomeChunkLine c.as_slice.ensures (rw c.in-Ok-Partial.field-0-is at c.in-Ok-Partial.ensures.unfinished)) (subst HasNoChunkLine c.as_slice.ensures (rw c.in-Ok-Partial.field-0-is at c.in-Ok-Partial.ensures.partial)))

pub returns-in-Ok-Complete-clause-holds : goal.returns-in-Ok-Complete-clause-holds
returns-in-Ok-Complete-clause-holds c held x =
    let r = rw c.in-Ok-Complete.field-0-is at c.in-Ok-Complete.ensures.complete in
    size_whole c.args.self.now c.args.at c.args.byte c.push.new.self.bytes held (as_phase (phase.Size c.args.at) c.args.self.now held c.requires.phase x) (ap (λ f. f.bytes) c.push.ensures)
    c.whole_size.new.self c.push.new.self c.in-Ok-Complete.found.1 r.0 (drop c.in-Ok-Complete.found.0 c.as_slice.result.now) refl
    (subst (λ t. ReadsChunkLine t r.0 (drop c.in-Ok-Complete.found.0 c.as_slice.result.now)) c.as_slice.ensures r.1.reads) r.1.size_is c.whole_size.ensures.holds
