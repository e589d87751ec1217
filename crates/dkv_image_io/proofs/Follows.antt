-- What stands in an image of the narrow profile, by what the code looks at.
use Rattle.std.proofs.Common.{◌≡◌, sym, ◌∙◌, ap, ℕ, Bool, true, false, ◌&&◌}
use Rattle.std.specs.Cmp.{both_ways}
use Rattle.dkv_base.specs.declared.types.Message.{Message}
use Rattle.dkv_base.specs.Sound.{is_waiting}
use Rattle.dkv_image.specs.Image.{is_good_message}
use Rattle.dkv_image_io.specs.Reading.{narrow}
use Rattle.dkv_image.proofs.Sound.{message_good, message_waits}

pub message_is : (n now : ℕ) (m : Message) → is_good_message (narrow n now) m ≡ is_waiting n m
message_is n now m = both_ways (is_good_message (narrow n now) m) (is_waiting n m) (message_waits n now m) (message_good n now m)

-- the answer of a test of two parts, the second of which is asked where the first holds
pub first_holds : (good above b : Bool) → good ≡ true → b ≡ above → b ≡ (good && above)
first_holds good above b is so = so ∙ ap (λ (v : Bool). v && above) (sym is)

pub first_fails : (good above b : Bool) → b ≡ good → b ≡ false → b ≡ (good && above)
first_fails good above b is failed = failed ∙ ap (λ (v : Bool). v && above) (sym failed ∙ is)
