use Rattle.std.proofs.Common.{◌∙◌, sym, ap, ◌++◌, ◌∷◌, [], List, ℕ, arith, ◌/◌, ◌-◌, ◌%◌}
use Rattle.std.specs.Prelude.{false}
use Rattle.std.specs.Fmt.{digits_onto, digit_glyph}
use Rattle.dkv_http.proofs.Hex.{one, many}
use Rattle.dkv_http.proofs.Puts.{two}
use Rattle.dkv_http.proofs.responses.+put_hex.Goals as goal
use Rattle.dkv_http.proofs.responses.+put_hex.Goals.{then-n-ge16, else-n-ge16}

pub returns-clause-bytes : goal.returns-clause-bytes
returns-clause-bytes t c =
    let o = c.args.out.now.bytes in
    let last = ap (λ (g : ℕ). c.if-n-ge16.out.bytes ++ g ∷ []) c.glyph.ensures in
    elim c.if-n-ge16.branch [
      | then-n-ge16 w ↦
          two o (digits_onto (c.args.more - 1) 16 false (c.args.n / 16) []) (digit_glyph false (c.args.n % 16) ∷ []) _ _ (ap (λ z. z.bytes) w.out-is ∙ w.put_hex.ensures.bytes) (c.put_raw.ensures.bytes ∙ last)
          ∙ ap (λ (l : List ℕ). o ++ l) (sym (many c.args.more c.args.n c.requires.some (omega (arith, w.if-n-ge16.true))))
      | else-n-ge16 w ↦
          c.put_raw.ensures.bytes ∙ last ∙ ap (λ z. z.bytes ++ digit_glyph false (c.args.n % 16) ∷ []) w.out-is
          ∙ ap (λ (l : List ℕ). o ++ l) (sym (one c.args.more c.args.n c.requires.some (omega (arith, w.if-n-ge16.false))))
    ]
