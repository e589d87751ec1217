use Rattle.std.proofs.Common.{◌∙◌, subst, ◌+◌, arith, inl, inr, ⊎_elim}
use Rattle.dkv_journal.specs.Records.{first_layout}
use Rattle.dkv_journal.specs.Scanning.{IsGate, IsBodyAt}
use Rattle.dkv_journal.proofs.Stepping.{closed_scan, ends_scan, damaged_scan, record_scan, not_whole}
use Rattle.dkv_journal.proofs.scan.look.Goals as goal

pub returns-in-Ok-Closed-clause-next : goal.returns-in-Ok-Closed-clause-next
returns-in-Ok-Closed-clause-next g c file told = closed_scan first_layout c.args.at file (subst (IsGate c.args.at file) c.in-Ok-Closed.field-0-is (c.in-Ok-Closed.ensures.gate file told))

pub returns-in-Ok-Ends-clause-next : goal.returns-in-Ok-Ends-clause-next
returns-in-Ok-Ends-clause-next g c file told = let is = subst (IsGate c.args.at file) c.in-Ok-Ends.field-0-is (c.in-Ok-Ends.ensures.gate file told) in ends_scan c.args.at file is.0 is.1

pub returns-then-not-is_whole-clause-next : goal.returns-then-not-is_whole-clause-next
returns-then-not-is_whole-clause-next g c file told =
    let is = subst (IsGate c.args.at file) c.in-Ok-Opens.field-0-is (c.in-Ok-Opens.ensures.gate file told) in
    damaged_scan c.args.at c.in-Ok-Opens.count file is.0 is.2
    (⊎_elim (λ long. inl (omega (arith, long))) (λ short. inr (omega (arith, is.1, short, c.saturating_sub.ensures, c.requires file told)))
    (not_whole c.in-Ok-Opens.count c.saturating_sub.result c.is_whole.result c.is_whole.ensures c.if-not-is_whole.true))

pub returns-in-Ok-Some-clause-next : goal.returns-in-Ok-Some-clause-next
returns-in-Ok-Some-clause-next g c file told =
    let is = subst (IsGate c.args.at file) c.in-Ok-Opens.field-0-is (c.in-Ok-Opens.ensures.gate file told) in
    let whole = c.is_whole.ensures.0 c.if-not-is_whole.false in
    record_scan c.args.at c.in-Ok-Opens.count c.in-Ok-Some.body file is.0 is.2 (omega (arith, whole.0)) (omega (arith, is.1, c.saturating_sub.ensures, whole.1, c.requires file told)) (subst (IsBodyAt (c.args.at + 5) c.in-Ok-Opens.count file) c.in-Ok-Some.field-0-is (c.in-Ok-Some.ensures.body file (c.gate_at.ensures.seen ∙ told)))
