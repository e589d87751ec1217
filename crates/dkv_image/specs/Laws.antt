-- Laws of images, as statements.
use Rattle.std.specs.Prelude.{ℕ, ◌≡◌, ◌^◌, ◌<◌, ◌≤◌, IsTrue, List, Ok}
use Rattle.dkv_base.specs.declared.types.Commit.{Commit}
use Rattle.dkv_base.specs.declared.types.Entry.{Entry}
use Rattle.dkv_base.specs.declared.types.Message.{Message}
use Rattle.dkv_base.specs.declared.types.Profile.{Profile}
use Rattle.dkv_base.specs.declared.types.Profile.TheVariants.{Narrow}
use Rattle.dkv_base.specs.State.{State}
use Rattle.dkv_base.specs.declared.moments.TheConstants.{MAX_MOMENT}
use Rattle.dkv_base.specs.Sound.{IsSound}
use Rattle.dkv_base.specs.After.{after, is_legal_at}
use Rattle.dkv_base.specs.Fits.{AreBytes}
use Rattle.dkv_image.specs.Image.{Bounds, bounds, image, image_of, is_image, FitsImage}

abbrev pub ImageIsSpelled : Type 0
ImageIsSpelled = (b : Bounds) (bytes : List ℕ) (es : List Entry) (ms : List Message) → AreBytes bytes
    → image_of b bytes ≡ Ok (es, ms) → (bytes ≡ image es ms) × IsTrue (is_image b es ms) × FitsImage es ms

abbrev pub SpelledIsImage : Type 0
SpelledIsImage = (b : Bounds) (es : List Entry) (ms : List Message) → b.n < 2 ^ 64 → IsTrue (is_image b es ms) → FitsImage es ms
    → image_of b (image es ms) ≡ Ok (es, ms)

-- at the narrow profile, what a state may hold is what an image of it may hold
abbrev pub SoundIsImage : Type 0
SoundIsImage = (s : State) → IsSound s → IsTrue (is_image (bounds Narrow s) s.entries s.messages)

abbrev pub ImageIsSound : Type 0
ImageIsSound = (s : State) → s.moment ≤ MAX_MOMENT → IsTrue (is_image (bounds Narrow s) s.entries s.messages) → IsSound s

-- legal commits lead from what an image may hold to what an image may hold
abbrev pub AfterIsImage : Profile → Type 0
AfterIsImage p = (base : State) (cs : List Commit) → base.moment ≤ MAX_MOMENT → IsTrue (is_image (bounds p base) base.entries base.messages) → IsTrue (is_legal_at p base cs)
    → IsTrue (is_image (bounds p (after base cs)) (after base cs).entries (after base cs).messages)
