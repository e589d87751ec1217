use Rattle.std.proofs.Common.{◌≡◌, ◌∙◌, subst, ℕ, Bool, true, false, List, Some, Ok, Err, Result, IfOk}
use Rattle.dkv_base.specs.declared.types.Commit.{Commit}
use Rattle.dkv_base.specs.After.{is_legal_in}
use Rattle.dkv_core.specs.Cores.{Database}
use Rattle.dkv_msgs.specs.Readings.{reads_atomic_write}
use Rattle.dkv_record.specs.Records.{commit_of}
use Rattle.dkv_store.specs.Making.{IsMadeAgain, IsRemade}
use Rattle.dkv_store.proofs.again.remake.Goals as goal

one_commit : (body : List ℕ) (c d : Commit) → commit_of reads_atomic_write body ≡ Some c → commit_of reads_atomic_write body ≡ Some d → c ≡ d
one_commit body c d first then = cc (first, then)

remade : {E : Type 0} (r : Result Bool E) (old new : Database) (body : List ℕ) (m c : Commit) → m ≡ c → commit_of reads_atomic_write body ≡ Some c → IfOk r (IsMadeAgain old m new) → IfOk r (IsRemade old body new)
remade (Ok true) old new body m c same found made = (c, found, subst (λ (x : Commit). IsMadeAgain old x new true) same made)
remade (Ok false) old new body m c same found made = λ d is. subst (λ (x : Commit). is_legal_in old.state x ≡ false) (same ∙ one_commit body c d found is) made
remade (Err e) old new body m c same found made = tt

pub returns-in-Ok : goal.returns-in-Ok
returns-in-Ok c = remade c.make_again.result c.args.core.now c.make_again.new.core c.args.body.now _ c.in-Ok.commit c.call_of-who.ensures c.in-Ok.ensures.read c.make_again.ensures
