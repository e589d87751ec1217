use Rattle.dkv_image.proofs.Images.{spelled_is_image}
use Rattle.dkv_image.proofs.Spelled.{image_is_spelled}
use Rattle.dkv_image.proofs.laws.images_are_spelled.Goals as goal

pub returns-clause-spelled : goal.returns-clause-spelled
returns-clause-spelled c = image_is_spelled

pub returns-clause-read : goal.returns-clause-read
returns-clause-read c = spelled_is_image
