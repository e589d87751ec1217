use Rattle.std.proofs.Common.{◌≡◌, ◌∙◌, ℕ, ◌∷◌, map, string_bytes, List, codes, Err, sym, ap, subst}
use Rattle.std.proofs.lemmas.Bool.{true≢false}
use Rattle.dkv_app.specs.Commands.{ReadsAs}
use Rattle.dkv_app.specs.Options.{AddsOption, AreOptions}
use Rattle.dkv_app.proofs.OptionWords.{two_words, one_more_summary, still_bad_summary, one_more_option, still_bad}
use Rattle.dkv_app.proofs.options.+options_in.Goals as goal

pub returns-in-Ok : goal.returns-in-Ok
returns-in-Ok t c =
    let named : string_bytes c.in-Some.name.now ≡ codes "--summary" = sym c.as_str.ensures.value ∙ c.is_word.ensures.0 c.if-is_word.true in
    subst (λ (ws : List (List ℕ)). ReadsAs c.with_summary.result (AreOptions ws)) (sym (ap (map string_bytes) c.in-Some.ensures.cases.0))
    (one_more_summary _ _ c.in-Ok.others c.with_summary.result named c.in-Ok.ensures c.with_summary.ensures)

pub returns-in-Err : goal.returns-in-Err
returns-in-Err t c =
    let named : string_bytes c.in-Some.name.now ≡ codes "--summary" = sym c.as_str.ensures.value ∙ c.is_word.ensures.0 c.if-is_word.true in
    subst (λ (ws : List (List ℕ)). ReadsAs (Err c.in-Err.error) (AreOptions ws)) (sym (ap (map string_bytes) c.in-Some.ensures.cases.0))
    (still_bad_summary _ _ c.in-Err.error named c.in-Err.ensures)

pub returns-in-Ok-options_in : goal.returns-in-Ok-options_in
returns-in-Ok-options_in t c =
    let unnamed : string_bytes c.in-Some.name.now ≡ codes "--summary" → ⊥ = λ named. true≢false (sym (c.is_word.ensures.1 (c.as_str.ensures.value ∙ named)) ∙ c.if-is_word.false) in
    let valued = subst (λ (v : List ℕ). ReadsAs c.with.result (AddsOption c.as_str-in-Ok-options_in.result.now v c.in-Ok-options_in.others)) c.as_str-in-Ok-options_in-2.ensures.value c.with.ensures in
    let adds = subst (λ (n : List ℕ). ReadsAs c.with.result (AddsOption n (string_bytes c.in-Some-split_first.value.now) c.in-Ok-options_in.others)) c.as_str-in-Ok-options_in.ensures.value valued in
    subst (λ (ws : List (List ℕ)). ReadsAs c.with.result (AreOptions ws)) (sym (two_words string_bytes _ _ _ _ _ c.in-Some.ensures.cases.0 c.in-Some-split_first.ensures.cases.0))
    (one_more_option _ _ _ c.in-Ok-options_in.others c.with.result unnamed c.in-Ok-options_in.ensures adds)

pub returns-in-Err-options_in : goal.returns-in-Err-options_in
returns-in-Err-options_in t c =
    let unnamed : string_bytes c.in-Some.name.now ≡ codes "--summary" → ⊥ = λ named. true≢false (sym (c.is_word.ensures.1 (c.as_str.ensures.value ∙ named)) ∙ c.if-is_word.false) in
    subst (λ (ws : List (List ℕ)). ReadsAs (Err c.in-Err-options_in.error) (AreOptions ws)) (sym (two_words string_bytes _ _ _ _ _ c.in-Some.ensures.cases.0 c.in-Some-split_first.ensures.cases.0))
    (still_bad _ _ _ c.in-Err-options_in.error unnamed c.in-Err-options_in.ensures)
