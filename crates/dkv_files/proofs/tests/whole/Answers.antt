use Rattle.dkv_queue.specs.Rows.{messages_of}
use Rattle.dkv_image.specs.Image.{is_image}
use Rattle.dkv_image_io.specs.Reading.{narrow}
use Rattle.dkv_files.proofs.tests.whole.Goals as goal

pub write_whole-requires-clause-image : goal.write_whole-requires-clause-image
write_whole-requires-clause-image c = λ i. is_image (narrow 1 5) (c.in-Ok.ensures i) (messages_of (c.new-queue.ensures.rows i))
