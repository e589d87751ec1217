use Rattle.dkv_base.proofs.Composes.{after_composes, legal_composes}
use Rattle.dkv_base.proofs.StaysSound.{after_is_sound}
use Rattle.dkv_base.proofs.AfterNothing.{after_nothing}
use Rattle.dkv_base.proofs.laws.commits_compose.Goals as goal

pub returns-clause-after : goal.returns-clause-after
returns-clause-after c = after_composes

pub returns-clause-legal : goal.returns-clause-legal
returns-clause-legal c = legal_composes

pub returns-clause-nothing : goal.returns-clause-nothing
returns-clause-nothing c = after_nothing

pub returns-clause-sound : goal.returns-clause-sound
returns-clause-sound c = after_is_sound
