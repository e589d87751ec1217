-- Fields that are read one after another.
use Rattle.std.proofs.Common.{◌≡◌, refl, sym, ◌∙◌, ap, ℕ, suc, List, [], ◌∷◌, ◌++◌, Option, Some, None, append_assoc}
use Rattle.std.proofs.lemmas.List.{append-nil}
use Rattle.dkv_image.specs.Image.{◌>>=◌, many_at}

-- fields behind those that were read
abbrev pub many_behind : {X : Type 0} → List X → Option (List X × List ℕ) → Option (List X × List ℕ)
many_behind xs o = o >>= λ others. Some (xs ++ others.0, others.1)

pub many_begins : {X : Type 0} (o : Option (List X × List ℕ)) → o ≡ many_behind [] o
many_begins None = refl
many_begins (Some x) = refl

behind_on : {X : Type 0} (xs : List X) (x : X) (o : Option (List X × List ℕ)) → many_behind xs (o >>= λ others. Some (x ∷ others.0, others.1)) ≡ many_behind (xs ++ x ∷ []) o
behind_on xs x None = refl
behind_on {X = X} xs x (Some others) = ap (λ (l : List X). (let o : Option (List X × List ℕ) = Some (l, others.1) in o)) (sym (append_assoc xs (x ∷ []) others.0))

module _ {X : Type 0} (one : List ℕ → Option (X × List ℕ)) where
  pub many_on : (xs : List X) (x : X) (left k : ℕ) (bytes rest : List ℕ) → left ≡ suc k → one bytes ≡ Some (x, rest) → many_behind xs (many_at one left bytes) ≡ many_behind (xs ++ x ∷ []) (many_at one k rest)
  many_on xs x left k bytes rest is read =
      ap (λ (n : ℕ). many_behind xs (many_at one n bytes)) is
      ∙ ap (λ (o : Option (X × List ℕ)). many_behind xs (o >>= λ y. many_at one k y.1 >>= λ others. Some (y.0 ∷ others.0, others.1))) read
      ∙ behind_on xs x (many_at one k rest)

  pub many_falls : (xs : List X) (left k : ℕ) (bytes : List ℕ) → left ≡ suc k → one bytes ≡ None → many_behind xs (many_at one left bytes) ≡ None
  many_falls xs left k bytes is none =
      ap (λ (n : ℕ). many_behind xs (many_at one n bytes)) is
      ∙ ap (λ (o : Option (X × List ℕ)). many_behind xs (o >>= λ y. many_at one k y.1 >>= λ others. Some (y.0 ∷ others.0, others.1))) none

  pub many_ended : (xs : List X) (left : ℕ) (bytes : List ℕ) → left ≡ 0 → many_behind xs (many_at one left bytes) ≡ Some (xs, bytes)
  many_ended xs left bytes is =
      ap (λ (n : ℕ). many_behind xs (many_at one n bytes)) is ∙ ap (λ (l : List X). (let o : Option (List X × List ℕ) = Some (l, bytes) in o)) (append-nil xs)
