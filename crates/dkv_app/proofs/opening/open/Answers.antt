use Rattle.std.proofs.Common.{◌≡◌, ◌∙◌, ap, subst}
use Rattle.dkv_base.specs.State.{State}
use Rattle.dkv_store.specs.declared.answers.OpenRefusal.{OpenRefusal}
use Rattle.dkv_store.specs.Stores.{IsUnopened}
use Rattle.dkv_app.proofs.opening.open.Goals as goal

pub returns-then-n-lt-WORN-clause-told : goal.returns-then-n-lt-WORN-clause-told
returns-then-n-lt-WORN-clause-told g c = c.in-Ok.ensures.told

pub returns-then-n-lt-WORN-clause-later : goal.returns-then-n-lt-WORN-clause-later
returns-then-n-lt-WORN-clause-later g c = c.in-Ok.ensures.later

pub returns-then-n-lt-WORN-clause-limited : goal.returns-then-n-lt-WORN-clause-limited
returns-then-n-lt-WORN-clause-limited g c = c.in-Ok.ensures.limited

pub returns-else-n-lt-WORN-clause-refused : goal.returns-else-n-lt-WORN-clause-refused
returns-else-n-lt-WORN-clause-refused g c = λ fa fb told_a told_b.
    let opened = c.in-Ok.ensures.opened fa fb told_a told_b in
    record {
      database = opened.found;
      recovered = opened.recovered;
      last = c.number-n.ensures ∙ ap (λ (s : State). s.number) (opened.state ∙ opened.base);
      worn = c.if-n-lt-WORN.false;
    }

pub returns-in-Err-NoDatabase-default-clause-refused :
    goal.returns-in-Err-NoDatabase-default-clause-refused
returns-in-Err-NoDatabase-default-clause-refused g c = λ fa fb told_a told_b.
    subst (λ (r : OpenRefusal). IsUnopened fa fb r) c.in-Err-NoDatabase-default.field-0-0-is (c.in-Err-NoDatabase-default.ensures.refused fa fb told_a told_b)

pub returns-in-Err-Damaged-default-clause-refused :
    goal.returns-in-Err-Damaged-default-clause-refused
returns-in-Err-Damaged-default-clause-refused g c = λ fa fb told_a told_b.
    subst (λ (r : OpenRefusal). IsUnopened fa fb r) c.in-Err-Damaged-default.field-0-0-is (c.in-Err-Damaged-default.ensures.refused fa fb told_a told_b)

pub returns-in-Err-NotBuilt-default-clause-refused :
    goal.returns-in-Err-NotBuilt-default-clause-refused
returns-in-Err-NotBuilt-default-clause-refused g c = λ fa fb told_a told_b.
    subst (λ (r : OpenRefusal). IsUnopened fa fb r) c.in-Err-NotBuilt-default.field-0-0-is (c.in-Err-NotBuilt-default.ensures.refused fa fb told_a told_b)
