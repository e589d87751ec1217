use Rattle.dkv_queue.specs.Rows.{messages_of}
use Rattle.dkv_image.specs.Image.{is_image}
use Rattle.dkv_image_io.specs.Reading.{narrow}
use Rattle.dkv_image_io.proofs.tests.written.Goals as goal

pub image_len-len-requires : goal.image_len-len-requires
image_len-len-requires c = (narrow 0 0, λ i. is_image (narrow 0 0) (c.new-table.ensures.content i) (messages_of (c.new-queue.ensures.rows i)))

pub write_image-requires-clause-image : goal.write_image-requires-clause-image
write_image-requires-clause-image c = (narrow 0 0, λ i. is_image (narrow 0 0) (c.new-table.ensures.content i) (messages_of (c.new-queue.ensures.rows i)))
