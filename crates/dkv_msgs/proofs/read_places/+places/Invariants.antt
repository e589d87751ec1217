use Rattle.std.proofs.Common.{◌≡◌, ◌≤◌, ◌+◌, ◌*◌, length}
use Rattle.dkv_msgs.specs.Kinds.{bad_message}
use Rattle.dkv_msgs.specs.Places.{earlier}
use Rattle.dkv_msgs.proofs.Table.{still_bad}
use Rattle.dkv_msgs.proofs.read_places.+places.Given as goal

abbrev pub decreases-bad_inside : goal.decreases-bad_inside
decreases-bad_inside l = 2 * length l.text.now + 2

abbrev pub decreases-first_bad : goal.decreases-first_bad
decreases-first_bad l = 2 * length l.bytes.now + 1

abbrev pub invariant-first_bad-loop-malformed : goal.invariant-first_bad-loop-malformed
invariant-first_bad-loop-malformed l = record {
  least : earlier l.least (still_bad l.kind l.fields) ≡ bad_message l.kind l.place l.bytes;
  whole : l.fields.place + length l.fields.bytes ≡ l.place + length l.bytes;
  behind : l.place ≤ l.fields.place;
}

abbrev pub decreases-first_bad-loop-malformed : goal.decreases-first_bad-loop-malformed
decreases-first_bad-loop-malformed l = length l.fields.bytes
