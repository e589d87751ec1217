use Rattle.std.proofs.Common.{◌≡◌, ◌∙◌, ℕ, List, ◌++◌, length, take, drop, ap, subst, sym, arith}
use Rattle.std.specs.Io.KnownBytes.{Consumes}
use Rattle.std.proofs.lemmas.List.{take-append-drop, length-drop, take_all}
use Rattle.dkv_app.proofs.creating.draw.Goals as goal

-- 48 bytes in two parts
two_parts : (l : List ℕ) → length l ≡ 48 → take 16 l ++ take 32 (drop 16 l) ≡ l
two_parts l long =
    let rest : take 32 (drop 16 l) ≡ drop 16 l = take_all 32 (drop 16 l) (omega (arith, long, length-drop 16 l)) in
    ap (λ (r : List ℕ). take 16 l ++ r) rest ∙ take-append-drop 16 l

pub returns-clause-drawn : goal.returns-clause-drawn
returns-clause-drawn g c =
    let parts : c.copy_from_slice.new.self ++ c.copy_from_slice-2.new.self ≡ c.fill.new.into =
    ap (λ (l : List ℕ). l ++ c.copy_from_slice-2.new.self) c.copy_from_slice.ensures.after
    ∙ ap (λ (l : List ℕ). take 16 c.fill.new.into ++ l) c.copy_from_slice-2.ensures.after
    ∙ two_parts c.fill.new.into c.fill.auto.into in
    subst (λ (l : List ℕ). Consumes (g.R.Random.stream c.args.random.now) (g.R.Random.stream c.fill.new.self) l) (sym parts) c.in_default.ensures.all
