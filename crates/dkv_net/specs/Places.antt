-- What a read at a place gives, where it may give fewer bytes than there are.
use Rattle.std.specs.Prelude.{◌≡◌, ◌⊎◌, ℕ, ◌-◌, ◌≤◌, ⊤, List, length, take, drop, None, Some}
use Rattle.std.specs.declared.option.Option.{Option}

-- the first n bytes of the buffer are those from the place on, where they are told
abbrev pub IsFront : Option (List ℕ) → ℕ → List ℕ → ℕ → Type 0
IsFront None at into n = ⊤
IsFront (Some xs) at into n = (n ≤ length xs - at) × (take n into ≡ take n (drop at xs))

-- nothing comes only where there is no room, or where no byte stands at the place
abbrev pub EndsThere : Option (List ℕ) → ℕ → List ℕ → ℕ → Type 0
EndsThere None at into n = ⊤
EndsThere (Some xs) at into n = n ≡ 0 → (length into ≡ 0) ⊎ (length xs ≤ at)
