use Rattle.std.proofs.Common.{sym, ap, subst, List, [], ◌∷◌, arith}
use Rattle.std.specs.Prelude.{pos}
use Rattle.dkv_base.specs.declared.types.Entry.{Entry}
use Rattle.dkv_base.specs.declared.types.Message.{Message}
use Rattle.dkv_queue.specs.Rows.{messages_of}
use Rattle.dkv_image.specs.Image.{is_image, FitsImage}
use Rattle.dkv_image_io.specs.Reading.{narrow}
use Rattle.dkv_files.proofs.tests.renewed.Goals as goal

-- the entry of the file
abbrev one : Entry
one = record { key = 2 ∷ 97 ∷ 0 ∷ []; bytes = 120 ∷ []; encoding = pos 3; commit = 1; expire = 0 }

one_fits : FitsImage (one ∷ []) []
one_fits = record { entry_count = omega arith; message_count = omega arith; entries = (record { expire = omega arith }, tt); messages = tt }

pub renew-requires-clause-image : goal.renew-requires-clause-image
renew-requires-clause-image c = λ i. is_image (narrow 1 5) (c.in-Ok.ensures i) (messages_of (c.new-queue.ensures.rows i))

pub renew-requires-clause-fits : goal.renew-requires-clause-fits
renew-requires-clause-fits c =
    subst (λ (es : List Entry). FitsImage es (messages_of c.new-queue.result.rows)) (sym c.in-Ok.ensures)
    (subst (λ (ms : List Message). FitsImage (one ∷ []) ms) (sym (ap messages_of c.new-queue.ensures.rows)) one_fits)
