use Rattle.std.proofs.Common.{◌≡◌, codes, inl, inr}
use Rattle.dkv_app.specs.Options.{AddsFolder, AddsTrail, AddsOption}
use Rattle.dkv_app.proofs.Answered.{reads_same, adds_folder, adds_trail}
use Rattle.dkv_app.proofs.options.Options.with.Goals as goal

pub returns-then-is_word : goal.returns-then-is_word
returns-then-is_word c =
    let named : c.args.name.now ≡ codes "--folder" = c.is_word.ensures.0 c.if-is_word.true in
    reads_same c.with_folder.result (AddsFolder c.args.value.now c.args.self) (AddsOption c.args.name.now c.args.value.now c.args.self)
    (λ all adds. inl (named, adds)) (λ all adds. adds_folder _ _ _ all named adds) c.with_folder.ensures

pub returns-then-is_word-2 : goal.returns-then-is_word-2
returns-then-is_word-2 c =
    let named : c.args.name.now ≡ codes "--trail" = c.is_word-else-is_word.ensures.0 c.if-is_word-2.true in
    reads_same c.with_trail.result (AddsTrail c.args.value.now c.args.self) (AddsOption c.args.name.now c.args.value.now c.args.self)
    (λ all adds. inr (named, adds)) (λ all adds. adds_trail _ _ _ all named adds) c.with_trail.ensures
