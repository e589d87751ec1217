use Rattle.std.proofs.Common.{◌≡◌, ◌++◌, ◌∷◌, [], List, ℕ, take, get_or, ap, sym, ◌∙◌, append_assoc, Vec, Global}
use Rattle.std.proofs.lemmas.List.{take_all}
use Rattle.dkv_key.specs.Parts.{escaped}
use Rattle.dkv_key.proofs.Escapes.{more_plain, more_zero}
use Rattle.dkv_key.proofs.writing.put_text.Goals as goal
use Rattle.dkv_key.proofs.writing.put_text.Goals.{then-byte-eq0+in_ok-put-2, else-byte-eq0}

pub returns-clause-spelled : goal.returns-clause-spelled
returns-clause-spelled c =
    let whole : take c.loop-byte.byte-index c.args.text.now ≡ c.args.text.now = take_all c.loop-byte.byte-index c.args.text.now c.loop-byte-test.false in
    let e : c.loop-byte.out.items ++ 0 ∷ [] ≡ c.args.out.now.items ++ (escaped c.args.text.now ++ 0 ∷ []) =
    ap (λ (l : List ℕ). l ++ 0 ∷ []) (c.loop-byte.invariant ∙ ap (λ (l : List ℕ). c.args.out.now.items ++ escaped l) whole) ∙ append_assoc c.args.out.now.items (escaped c.args.text.now) (0 ∷ []) in
    rw e at c.put-2.ensures

pub loop-byte-preserved : goal.loop-byte-preserved
loop-byte-preserved c =
    let i = c.loop-byte.byte-index in
    let text : List ℕ = c.args.text.now in
    let out : List ℕ = c.args.out.now.items in
    let b = get_or c.args.text.now c.loop-byte.byte-index 0 in
    let one : c.put.new.out.items ≡ out ++ (escaped (take i text) ++ b ∷ []) =
    c.in_ok-put.ensures ∙ ap (λ (l : List ℕ). l ++ b ∷ []) c.loop-byte.invariant ∙ append_assoc out (escaped (take i text)) (b ∷ []) in
    elim c.if-byte-eq0.branch [
      | then-byte-eq0+in_ok-put-2 w ↦
          ap (λ (v : Vec ℕ Global). v.items) w.out-is ∙ w.in_ok-put-2.ensures ∙ ap (λ (l : List ℕ). l ++ 255 ∷ []) one ∙ append_assoc out (escaped (take i text) ++ b ∷ []) (255 ∷ [])
          ∙ ap (λ (l : List ℕ). out ++ l) (sym (more_zero text i c.loop-byte-test.true w.if-byte-eq0.true))
      | else-byte-eq0 w ↦ ap (λ (v : Vec ℕ Global). v.items) w.out-is ∙ one ∙ ap (λ (l : List ℕ). out ++ l) (sym (more_plain text i c.loop-byte-test.true w.if-byte-eq0.false))
    ]
