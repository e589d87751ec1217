-- What a clear that a crash cuts short leaves.
use Rattle.std.proofs.Common.{◌≡◌, inl, inr, ⊎_elim, ℕ, ◌≤◌, List, [], length, sym, ap, subst, arith}
use Rattle.dkv_io.specs.Disks.{Torn, HalfCut}
use Rattle.dkv_files.specs.Crashes.{ClearLeaves}

pub cut_leaves : (start : List ℕ → Type 0) (d c : List ℕ) → start d → HalfCut 0 d c → ClearLeaves start c
cut_leaves start d c was (inl same) = inl (subst start (sym same) was)
cut_leaves start d c was (inr cut) = let none : length c ≡ 0 = ap length cut in inr (omega (arith, none))

pub torn_first : (c : List ℕ) → Torn 0 1 [] c → length c ≤ 1
torn_first c torn = ⊎_elim (λ same. omega (arith, same)) (λ grown. omega (arith, grown)) torn.size
