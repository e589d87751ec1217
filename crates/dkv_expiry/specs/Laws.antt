-- What the definitions of endings add up to.
--     FirstIsLeast      among endings in rising order the first one up to a moment is the least of those up to it
use Rattle.std.specs.Prelude.{ℕ, ◌≡◌, ◌||◌, nat_lt, IsTrue, List, Some}
use Rattle.std.specs.List.{list_all}
use Rattle.std.specs.Ordering.{is_le}
use Rattle.dkv_base.specs.Ordered.{is_rising}
use Rattle.dkv_expiry.specs.declared.ending.Ending.{Ending}
use Rattle.dkv_expiry.specs.Endings.{ending_cmp, first_upto}

-- each ending is later than the moment, or the first one is that ending or is before it
abbrev pub FirstIsLeast : Type 0
FirstIsLeast =
    (at : ℕ) (ps : List Ending) (p : Ending) → IsTrue (is_rising ending_cmp ps) → first_upto at ps ≡ Some p
    → IsTrue (list_all (λ q. nat_lt at q.at || is_le (ending_cmp p q)) ps)
