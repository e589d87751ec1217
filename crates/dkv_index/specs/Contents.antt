-- What an index holds.
use Rattle.std.specs.Prelude.{ℕ, List, refl}
use Rattle.std.specs.Coded.{Coded, code_by, coded×, coded_ℕ, coded_list}

-- the items in rising order, and how many more find room without memory
pub record Contents (T : Type 0) : Type 0 where
  pub items : List T
  pub spare : ℕ

-- they are stored as a pair
abbrev pub contents_code : {T : Type 0} → Coded T → Coded (Contents T)
contents_code {T} code =
    code_by (List T × ℕ) (coded× (coded_list code) coded_ℕ) (λ c. (c.items, c.spare)) (λ p. record { items = p.0; spare = p.1 }) (λ _. refl)

-- how many nodes wait for an item, and for how many there is room
pub record Nodes : Type 0 where
  pub ready : ℕ
  pub places : ℕ
