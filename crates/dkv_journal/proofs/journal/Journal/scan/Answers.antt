use Rattle.std.proofs.Common.{◌≡◌, ◌∙◌, sym, ap, subst, ℕ, ◌+◌, ◌≤◌, List, [], ◌∷◌, ◌++◌, arith, false, Result, Ok, Err, OnOk}
use Rattle.std.specs.Result.{is_err}
use Rattle.dkv_io.specs.Disks.{LeavesOnly}
use Rattle.dkv_journal.specs.Records.{first_layout, scanned_at, record_size, place_after}
use Rattle.dkv_journal.specs.Laws.{scans_on}
use Rattle.dkv_journal.specs.Scanning.{IsNext}
use Rattle.dkv_io.proofs.Moments.{weaker, joined}
use Rattle.dkv_journal.proofs.Ends.{place_push}
use Rattle.dkv_journal.proofs.Stepping.{one_more}
use Rattle.dkv_journal.proofs.journal.Journal.scan.Goals as goal

-- a run that writes nothing, and then another
still : {D : Type 0} (moment : D → ℕ) (since : D → ℕ → List ℕ → Type 0) (images : D → List ℕ → Type 0) → ((disk : D) (t : ℕ) (c : List ℕ) → t ≤ moment disk → images disk c → since disk t c)
    → (old mid new : D) → LeavesOnly moment since old mid (images old) → LeavesOnly moment since mid new (images mid) → LeavesOnly moment since old new (images old)
still moment since images counts old mid new first then =
    joined moment since old mid new (images old) first (weaker moment since mid new (images mid) (images old) (λ f now. first.each f (counts mid (moment old) f first.later now)) then)

-- what an Ok says
of_ok : {T E : Type 0} (r : Result T E) (P : Type 0) → is_err r ≡ false → OnOk r P → P
of_ok (Ok x) P is has = has
of_ok (Err e) P is has = absurd (cc is)

pub returns-then-is_err-clause-leaves : goal.returns-then-is_err-clause-leaves
returns-then-is_err-clause-leaves g c =
    still g.D.Disk.moment g.D.Disk.left_since g.D.Disk.may_leave g.met.D.Disk.counts_now c.args.disk.now c.loop-body.disk c.look.new.disk c.loop-body.invariant.leaves c.in-Ok-Record.ensures.leaves

pub loop-body-preserved : goal.loop-body-preserved
loop-body-preserved g c =
    let inv = c.loop-body.invariant in
    let body = c.in-Ok-Record.body in
    let grown : c.push.new.self ≡ c.loop-body.bodies ++ body ∷ [] = of_ok c.push.result _ (sym c.is_err.ensures.value ∙ c.if-is_err.false) c.push.ensures.ok in
    let size : c.loop-body.at + record_size first_layout body ≡ c.loop-body.at + (5 + c.len-in-Ok-Record.result) = omega (arith, c.len-in-Ok-Record.ensures) in
    record {
      on = λ file told.
          let next = subst (IsNext c.loop-body.at file) c.in-Ok-Record.field-0-is (c.in-Ok-Record.ensures.next file (inv.seen ∙ told)) in
          inv.on file told
          ∙ ap (scans_on c.loop-body.bodies) next
          ∙ one_more c.loop-body.bodies body (scanned_at first_layout (c.loop-body.at + record_size first_layout body) file)
          ∙ ap (λ (n : ℕ). scans_on (c.loop-body.bodies ++ body ∷ []) (scanned_at first_layout n file)) size
          ∙ ap (λ (l : List (List ℕ)). scans_on l (scanned_at first_layout (c.loop-body.at + (5 + c.len-in-Ok-Record.result)) file)) (sym grown);
      ends = ap (λ (l : List (List ℕ)). place_after first_layout c.args.place l) grown ∙ place_push first_layout c.args.place c.loop-body.bodies body
          ∙ ap (λ (n : ℕ). n + record_size first_layout body) inv.ends ∙ size;
      long = inv.long;
      seen = c.in-Ok-Record.ensures.seen ∙ inv.seen;
      leaves = still g.D.Disk.moment g.D.Disk.left_since g.D.Disk.may_leave g.met.D.Disk.counts_now c.args.disk.now c.loop-body.disk c.look.new.disk inv.leaves c.in-Ok-Record.ensures.leaves;
      later = omega (arith, inv.later, c.in-Ok-Record.ensures.later);
    }
