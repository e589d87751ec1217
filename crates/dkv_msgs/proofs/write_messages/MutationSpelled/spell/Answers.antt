use Rattle.std.proofs.Common.{◌≡◌, ◌++◌, List, ℕ, ap, ◌∙◌, append_assoc, rules}
use Rattle.dkv_base.specs.Protobuf.{bytes_field, number_field, unsigned}
use Rattle.dkv_base.specs.Spelling.{spell_value}
use Rattle.dkv_msgs.specs.Spellings.{delimited_if_some}
use Rattle.dkv_msgs.proofs.write_messages.MutationSpelled.spell.Goals as goal

four_parts : (old a b c d : List ℕ) → (((old ++ a) ++ b) ++ c) ++ d ≡ old ++ (((a ++ b) ++ c) ++ d)
four_parts old a b c d =
    ap (λ (l : List ℕ). l ++ d) (ap (λ (l : List ℕ). l ++ c) (append_assoc old a b) ∙ append_assoc old (a ++ b) c)
    ∙ append_assoc old ((a ++ b) ++ c) d

pub returns-clause-spelled : goal.returns-clause-spelled
returns-clause-spelled c =
    let old = c.args.out.now.bytes in
    let m = c.args.self.now in
    let value = delimited_if_some 2 spell_value m.value in
    let kind = number_field 3 (unsigned m.kind) in
    let expire = number_field 4 (unsigned m.expire_at_ms) in
    let key_put : c.add_bytes.new.out.bytes ≡ old ++ bytes_field 1 m.key = search rules in
    let value_put : c.add_optional.new.out.bytes ≡ (old ++ bytes_field 1 m.key) ++ value = c.in_ok-add_optional.ensures.bytes ∙ ap (λ (l : List ℕ). l ++ value) key_put in
    let kind_more : c.add_signed.new.out.bytes ≡ c.add_optional.new.out.bytes ++ kind = search rules in
    let expire_more : c.add_signed-2.new.out.bytes ≡ c.add_signed.new.out.bytes ++ expire = search rules in
    let kind_put : c.add_signed.new.out.bytes ≡ ((old ++ bytes_field 1 m.key) ++ value) ++ kind = kind_more ∙ ap (λ (l : List ℕ). l ++ kind) value_put in
    expire_more ∙ ap (λ (l : List ℕ). l ++ expire) kind_put ∙ four_parts old (bytes_field 1 m.key) value kind expire
