use Rattle.std.proofs.Common.{◌≡◌, ◌∙◌, ap, sym, refl}
use Rattle.std.specs.Int.{w64, to_le_bytes}
use Rattle.dkv_generate.specs.Numbers.{next, number_after, numbers_after}
use Rattle.dkv_generate.proofs.Following.{one_number_more, one_more_in_bytes}
use Rattle.dkv_generate.proofs.numbers.Numbers.take.Goals as goal

pub loop-init : goal.loop-init
unfolding number_after numbers_after
loop-init c = record { bytes = c.new-bytes.ensures.items; last = refl }

pub loop-preserved : goal.loop-preserved
loop-preserved c =
    let x = c.args.self.now.last in
    let k = c.loop.counter in
    let last : c.next.result ≡ next (number_after k x) = c.next.ensures.value ∙ ap next c.loop.invariant.last in
    let spelled : c.to_le_bytes.result ≡ to_le_bytes w64 (next (number_after k x)) = c.to_le_bytes.ensures ∙ ap (to_le_bytes w64) last in
    record {
      bytes = cc (one_more_in_bytes k x, spelled, c.in_ok-extend_from_slice.ensures.items, c.loop.invariant.bytes);
      last = c.next.ensures.last ∙ last ∙ sym (one_number_more k x);
    }
