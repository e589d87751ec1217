use Rattle.dkv_image.proofs.Sound.{after_is_image, image_is_sound, sound_is_image}
use Rattle.dkv_image.proofs.laws.sound_states_have_images.Goals as goal

pub returns-clause-image : goal.returns-clause-image
returns-clause-image c = sound_is_image

pub returns-clause-sound : goal.returns-clause-sound
returns-clause-sound c = image_is_sound

pub returns-clause-after : goal.returns-clause-after
returns-clause-after c = after_is_image
