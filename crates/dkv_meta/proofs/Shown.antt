-- One date and time is shown at a moment.
use Rattle.std.proofs.Common.{◌≡◌, ℕ, sym, ◌∙◌}
use Rattle.jiff_core.specs.declared.civil.datetime.DateTime.{DateTime}
use Rattle.jiff_core.proofs.DateLemmas.{epoch_day_injective}
use Rattle.jiff_core.proofs.DateTimeLemmas.{civil_nanos_injective, time_nanos_injective}
use Rattle.dkv_meta.specs.Reply.{IsShown, date_time}

-- two that are shown at one moment have one text
pub one_text : (e : ℕ) (a b : DateTime) → IsShown e a → IsShown e b → date_time a ≡ date_time b
one_text e a b x y =
    let parts = civil_nanos_injective a b (x ∙ sym y) in
    let date = epoch_day_injective a.date b.date parts.0 in
    let time = time_nanos_injective a.time b.time parts.1 in
    cc (date.0, date.1, date.2, time.0, time.1, time.2)
