-- What is put behind some bytes and then enclosed is a field behind them.
use Rattle.std.proofs.Common.{◌≡◌, ℕ, ◌≤◌, ◌<◌, List, [], ◌∷◌, ◌++◌, length, take, drop, refl, sym, ap, ◌∙◌, length-append, arith}
use Rattle.std.proofs.Math.Seq.{take-append_seam, drop-append_seam}
use Rattle.dkv_base.specs.Protobuf.{bytes_field, delimited}
use Rattle.dkv_wire.proofs.Sizes.{some_bytes}

-- a payload behind the bytes before it
pub enclosing : (old text mid : List ℕ) (k from : ℕ) → from ≡ length old → mid ≡ old ++ text → take from mid ++ delimited k (drop from mid) ≡ old ++ delimited k text
enclosing old text mid k from is put =
    ap (λ (l : List ℕ). take from l ++ delimited k (drop from l)) put
    ∙ ap (λ (n : ℕ). take n (old ++ text) ++ delimited k (drop n (old ++ text))) is
    ∙ ap (λ (l : List ℕ). l ++ delimited k (drop (length old) (old ++ text))) (take-append_seam old text)
    ∙ ap (λ (l : List ℕ). old ++ delimited k l) (drop-append_seam old text)

-- one that isn't empty, where only such are written
pub enclosing_some : (old text mid : List ℕ) (k from : ℕ) → from ≡ length old → mid ≡ old ++ text → from < length mid → take from mid ++ delimited k (drop from mid) ≡ old ++ bytes_field k text
enclosing_some old text mid k from is put more =
    enclosing old text mid k from is put
    ∙ ap (λ (l : List ℕ). old ++ l) (sym (some_bytes k text (omega (arith, more, is, ap length put, length-append old text))))

-- an empty one isn't written
pub enclosing_none : (old text mid : List ℕ) (k from : ℕ) → from ≡ length old → mid ≡ old ++ text → length mid ≤ from → mid ≡ old ++ bytes_field k text
enclosing_none old [] mid k from is put none = put
enclosing_none old (b ∷ text) mid k from is put none = absurd (omega (arith, none, is, ap length put, length-append old (b ∷ text)))
