use Rattle.std.proofs.Common.{◌≡◌, refl, ◌∙◌, sym, ap, subst, ◌-◌, ◌++◌, length, Some, None}
use Rattle.std.specs.Prelude.{MatchOption}
use Rattle.dkv_image.specs.Image.{message_at_front, may_follow_message}
use Rattle.dkv_image_io.specs.Reading.{narrow}
use Rattle.dkv_image_io.proofs.Shares.{taken_is, found_on, none_on}
use Rattle.dkv_image_io.proofs.MessageShares.{message_length, reads_message, message_small}
use Rattle.dkv_image_io.proofs.message.MessageItem.read.Goals as goal

pub overflow_sub-result : goal.overflow_sub-result
overflow_sub-result c =
    let p = c.args.bytes.now in
    let m = c.in-Some.message in
    let left = c.rest.result.now in
    let old = c.of-front.result in
    let new = c.read_message.new.front in
    let read = subst (λ o. MatchOption o (message_at_front old ≡ None) (λ x. message_at_front old ≡ Some (x, new))) c.in-Some.is c.in_ok-message.ensures in
    let has : message_at_front p ≡ Some (m, left) = ap message_at_front (sym c.of-front.ensures) ∙ read ∙ (λ i. Some (m, sym c.rest.ensures i)) in
    (taken_is message_at_front message_length reads_message p (m, left) has).0

pub returns-in-Some-clause-found : goal.returns-in-Some-clause-found
returns-in-Some-clause-found c rest =
    let p = c.args.bytes.now in
    let m = c.in-Some.message in
    let left = c.rest.result.now in
    let old = c.of-front.result in
    let new = c.read_message.new.front in
    let read = subst (λ o. MatchOption o (message_at_front old ≡ None) (λ x. message_at_front old ≡ Some (x, new))) c.in-Some.is c.in_ok-message.ensures in
    let has : message_at_front p ≡ Some (m, left) = ap message_at_front (sym c.of-front.ensures) ∙ read ∙ (λ i. Some (m, sym c.rest.ensures i)) in
    found_on message_at_front message_length reads_message p rest m left (length p - length left) has refl

pub returns-in-None-clause-none : goal.returns-in-None-clause-none
returns-in-None-clause-none c rest n now before is enough =
    let p = c.args.bytes.now in
    let old = c.of-front.result in
    let new = c.read_message.new.front in
    let read = subst (λ o. MatchOption o (message_at_front old ≡ None) (λ x. message_at_front old ≡ Some (x, new))) c.in-None.is c.in_ok-message.ensures in
    let none = ap message_at_front (sym c.of-front.ensures) ∙ read in
    none_on message_at_front message_length (may_follow_message (narrow n now) before) reads_message (message_small n now before) p rest none enough (message_at_front (p ++ rest)) refl
