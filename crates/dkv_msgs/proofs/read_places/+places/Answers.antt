use Rattle.std.proofs.Common.{List, Bor, ◌≡◌, ◌+◌, ℕ, length, sym, ap, ◌∙◌, subst, arith}
use Rattle.dkv_wire.specs.Wire.{Walk, Begins, ALen}
use Rattle.dkv_wire.specs.Reading.{content}
use Rattle.dkv_wire.specs.declared.fields.Payload.{Payload}
use Rattle.dkv_wire.specs.declared.fields.Payload.TheVariants as payload
use Rattle.dkv_wire.proofs.Steps.{payload_inside, whole_stays}
use Rattle.dkv_msgs.proofs.Table.{still_bad, by_table}
use Rattle.dkv_msgs.proofs.read_places.+places.Goals as goal

pub first_bad-loop-malformed-init : goal.first_bad-loop-malformed-init
first_bad-loop-malformed-init t c = record {
  least = ap (λ (w : Walk). still_bad c.args.kind w) c.at-fields.ensures ∙ sym (by_table c.args.kind c.args.place c.args.bytes.now);
  whole = ap (λ (w : Walk). w.place + length w.bytes) c.at-fields.ensures;
  behind = omega (arith, ap (λ (w : Walk). w.place) c.at-fields.ensures);
}

-- where the payload of a field stands
begins_text : (old new : Walk) (number : ℕ) (p : Payload) (text : Bor (List ℕ)) → Begins old new number (content p) → p ≡ payload.Len text → Begins old new number (ALen text.now)
begins_text old new number p text b is = subst (λ (q : Payload). Begins old new number (content q)) is b

pub first_bad-bad_inside-requires : goal.first_bad-bad_inside-requires
first_bad-bad_inside-requires t c =
    let first = (rw c.in-Ok-Some.field-0-is at c.in-Ok-Some.ensures.field).1 in
    let b = begins_text c.loop-malformed.fields c.next.new.self c.in-Ok-Some.found.number c.in-Ok-Some.found.payload c.in-Len.text first c.in-Len.is in
    let within = payload_inside c.loop-malformed.fields c.next.new.self c.in-Ok-Some.found.number c.in-Len.text.now b in
    let whole = whole_stays c.loop-malformed.fields c.next.new.self c.in-Ok-Some.found.number (ALen c.in-Len.text.now) b in
    let d = c.decreases in
    (omega (arith, within, whole, d), omega (arith, within, whole))
