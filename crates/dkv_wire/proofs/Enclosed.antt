-- A head that was put last comes before the payload that it heads.
use Rattle.std.proofs.Common.{◌≡◌, ℕ, ◌≤◌, ◌+◌, ◌*◌, ◌-◌, List, ◌++◌, length, take, drop, sym, ap, ◌∙◌, append_assoc, length-drop}
use Rattle.std.proofs.Math.Seq.{take-append_seam, drop-append_seam}
use Rattle.std.proofs.lemmas.List.{take-append-le, drop-append-le}
use Rattle.dkv_base.specs.Protobuf.{varint, delimited}
use Rattle.dkv_wire.specs.Rooms.{turned}

-- what was put last goes to place `from`
turned_head : (bytes head : List ℕ) (from : ℕ) → from ≤ length bytes → turned from (length bytes) (bytes ++ head) ≡ take from bytes ++ head ++ drop from bytes
turned_head bytes head from within =
    ap (λ (l : List ℕ). l ++ drop (length bytes) (bytes ++ head) ++ take (length bytes - from) (drop from (bytes ++ head))) (take-append-le from bytes head within)
    ∙ ap (λ (l : List ℕ). take from bytes ++ l ++ take (length bytes - from) (drop from (bytes ++ head))) (drop-append_seam bytes head)
    ∙ ap (λ (l : List ℕ). take from bytes ++ head ++ take (length bytes - from) l) (drop-append-le from bytes head within)
    ∙ ap (λ (n : ℕ). take from bytes ++ head ++ take n (drop from bytes ++ head)) (sym (length-drop from bytes))
    ∙ ap (λ (l : List ℕ). take from bytes ++ head ++ l) (take-append_seam (drop from bytes) head)

-- a payload from place `from` on, with its head put behind it
pub enclosed : (k from : ℕ) (bytes : List ℕ) → from ≤ length bytes → turned from (length bytes) ((bytes ++ varint (k * 8 + 2)) ++ varint (length bytes - from)) ≡ take from bytes ++ delimited k (drop from bytes)
enclosed k from bytes within =
    ap (λ (l : List ℕ). turned from (length bytes) l) (append_assoc bytes (varint (k * 8 + 2)) (varint (length bytes - from)))
    ∙ turned_head bytes (varint (k * 8 + 2) ++ varint (length bytes - from)) from within
    ∙ append_assoc (take from bytes) (varint (k * 8 + 2) ++ varint (length bytes - from)) (drop from bytes)
    ∙ ap (λ (n : ℕ). take from bytes ++ (varint (k * 8 + 2) ++ varint n ++ drop from bytes)) (sym (length-drop from bytes))
