use Rattle.std.proofs.Common.{◌≡◌, ◌∙◌, sym, subst, List, IsTrue}
use Rattle.dkv_base.specs.Sound.{IsSound}
use Rattle.dkv_base.specs.State.{is_in_id_order}
use Rattle.dkv_base.specs.declared.types.Message.{Message}
use Rattle.dkv_store.proofs.terms.renewed.Goals as goal

pub of-requires-clause-sound : goal.of-requires-clause-sound
of-requires-clause-sound c =
    subst IsSound (λ i. record {
      number = sym c.number.ensures i;
      moment = sym c.now.ensures i;
      entries = sym c.in_ok-entries.ensures i;
      messages = sym (c.in_ok-messages.ensures ∙ c.queue.ensures.messages) i;
    }) c.requires.sound

pub messages_of-requires : goal.messages_of-requires
messages_of-requires c = subst (λ (ms : List Message). IsTrue (is_in_id_order ms)) (sym c.queue.ensures.messages) c.requires.sound.id_order
