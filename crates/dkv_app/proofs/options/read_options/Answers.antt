use Rattle.std.proofs.Common.{arith}
use Rattle.std.specs.Prelude.{string_bytes}
use Rattle.std.proofs.lemmas.List.{length-map}
use Rattle.dkv_app.proofs.OptionWords.{few_words}
use Rattle.dkv_app.proofs.options.read_options.Goals as goal

pub returns-then-words-gt-MAX_WORDS : goal.returns-then-words-gt-MAX_WORDS
returns-then-words-gt-MAX_WORDS c = λ all are.
    absurd (omega (arith, few_words _ all are, length-map c.args.words.now string_bytes))
