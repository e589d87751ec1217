use Rattle.std.proofs.Common.{◌≡◌, ◌++◌, ◌∷◌, [], List, ℕ, ap, sym, ◌∙◌, append_assoc}
use Rattle.std.specs.Int.{w64, to_be_bytes}
use Rattle.dkv_key.specs.declared.part.Part.{Part}
use Rattle.dkv_key.specs.Parts.{double_bytes, spelling}
use Rattle.dkv_key.proofs.writing.put_part.Goals as goal

pub returns-in_ok-put-in-Double-clause-spelled : goal.returns-in_ok-put-in-Double-clause-spelled
unfolding double_bytes
returns-in_ok-put-in-Double-clause-spelled c =
    let out : List ℕ = c.args.out.now.items in
    let bytes : c.to_be_bytes.result ≡ double_bytes c.in-Double.pattern = c.to_be_bytes.ensures ∙ ap (to_be_bytes w64) c.stored_pattern.ensures.value in
    let e : c.put-in-Double.new.out.items ++ c.to_be_bytes.result ≡ out ++ spelling c.args.part.now =
    (λ i. c.in_ok-put-in-Double.ensures i ++ bytes i) ∙ append_assoc out (33 ∷ []) (double_bytes c.in-Double.pattern) ∙ ap (λ (p : Part). out ++ spelling p) (sym c.in-Double.is) in
    rw e at c.put_all.ensures
