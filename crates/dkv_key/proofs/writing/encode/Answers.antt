use Rattle.std.proofs.Common.{◌≡◌, ◌+◌, ◌++◌, ◌∷◌, [], List, ℕ, take, ap, sym, subst, ◌∙◌}
use Rattle.std.specs.List.{All}
use Rattle.std.proofs.lemmas.List.{take_more, append-nil}
use Rattle.std.proofs.lemmas.List.Elements.{All-nil, All-cons, All-append}
use Rattle.std.proofs.lemmas.Grind.{flat_map-append}
use Rattle.dkv_key.specs.declared.part.Part.{Part}
use Rattle.dkv_key.specs.Parts.{FitsPart, spelling, key}
use Rattle.dkv_key.proofs.writing.encode.Goals as goal

pub loop-part-preserved : goal.loop-part-preserved
loop-part-preserved c =
    let front : List Part = take c.loop-part.part-index c.args.parts.now in
    let part : Part = c.part-item.result in
    let more : take (c.loop-part.part-index + 1) c.args.parts.now ≡ front ++ part ∷ [] =
    take_more c.args.parts.now c.loop-part.part-index part c.loop-part-test.true ∙ ap (λ (p : Part). front ++ p ∷ []) (sym c.part-item.is) in
    record {
      spelled =
          c.in_ok-put_part.ensures.spelled ∙ ap (λ (l : List ℕ). l ++ spelling part) c.loop-part.invariant.spelled
          ∙ ap (λ (l : List ℕ). key front ++ l) (sym (append-nil (spelling part))) ∙ sym (flat_map-append spelling front (part ∷ [])) ∙ ap key (sym more);
      fit =
          subst (λ (ps : List Part). All FitsPart ps) (sym more)
          (All-append FitsPart front (part ∷ []) c.loop-part.invariant.fit (All-cons FitsPart part [] c.in_ok-put_part.ensures.fits (All-nil FitsPart)));
    }
