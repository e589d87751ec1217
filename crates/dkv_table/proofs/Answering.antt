-- One more call in a run.
use Rattle.std.proofs.Common.{◌≡◌, List, [], ◌∷◌, ◌++◌, length, take, refl, ap, sym, ◌∙◌}
use Rattle.std.proofs.Math.Seq.{take-append_seam}
use Rattle.dkv_base.specs.declared.types.Entry.{Entry}
use Rattle.dkv_table.specs.declared.calls.TableCall.{TableCall}
use Rattle.dkv_table.specs.Runs.{answer_of, after_call, answers, content_after, IsAfterSome}

-- one more call is made after the others
pub content_after-more : (calls : List TableCall) (call : TableCall) (es : List Entry) → content_after (calls ++ call ∷ []) es ≡ after_call call (content_after calls es)
content_after-more [] call es = refl
content_after-more (first ∷ calls) call es = content_after-more calls call (after_call first es)

-- and answered after them
pub answers-more : (calls : List TableCall) (call : TableCall) (es : List Entry) → answers (calls ++ call ∷ []) es ≡ answers calls es ++ answer_of call (content_after calls es) ∷ []
answers-more [] call es = refl
answers-more (first ∷ calls) call es = ap (λ given. answer_of first es ∷ given) (answers-more calls call (after_call first es))

-- some first calls of all were made
pub made : (all done rest : List TableCall) (es fs : List Entry) → done ++ rest ≡ all → fs ≡ content_after done es → IsAfterSome all es fs
made all done rest es fs is after = (length done, after ∙ ap (λ calls. content_after calls es) (sym (take-append_seam done rest) ∙ ap (take (length done)) is))
