use Rattle.std.proofs.Common.{◌≡◌, refl, ◌∙◌, sym, ap, ◌-◌, ◌++◌, length, Some}
use Rattle.dkv_image.specs.Image.{entry_at_front, may_follow_entry}
use Rattle.dkv_image_io.specs.Reading.{narrow}
use Rattle.dkv_image_io.proofs.Shares.{taken_is, found_on, none_on}
use Rattle.dkv_image_io.proofs.EntryShares.{entry_size, reads_entry, entry_small}
use Rattle.dkv_image_io.proofs.entry.EntryItem.read.Goals as goal

pub overflow_sub-result : goal.overflow_sub-result
overflow_sub-result c =
    let p = c.args.bytes.now in
    let e = c.in_ok-entry-in-Some.entry in
    let left = c.rest.result.now in
    let has : entry_at_front p ≡ Some (e, left) = ap entry_at_front (sym c.of-front.ensures) ∙ c.in-Some.ensures.found ∙ (λ i. Some (sym c.in_ok-entry-in-Some.ensures i, sym c.rest.ensures i)) in
    (taken_is entry_at_front entry_size reads_entry p (e, left) has).0

pub returns-in_ok-entry-in-Some-clause-found : goal.returns-in_ok-entry-in-Some-clause-found
returns-in_ok-entry-in-Some-clause-found c rest =
    let p = c.args.bytes.now in
    let e = c.in_ok-entry-in-Some.entry in
    let left = c.rest.result.now in
    let has : entry_at_front p ≡ Some (e, left) = ap entry_at_front (sym c.of-front.ensures) ∙ c.in-Some.ensures.found ∙ (λ i. Some (sym c.in_ok-entry-in-Some.ensures i, sym c.rest.ensures i)) in
    found_on entry_at_front entry_size reads_entry p rest e left (length p - length left) has refl

pub returns-in-None-clause-none : goal.returns-in-None-clause-none
returns-in-None-clause-none c rest n now before is enough =
    let p = c.args.bytes.now in
    let none = ap entry_at_front (sym c.of-front.ensures) ∙ c.in-None.ensures.none in
    none_on entry_at_front entry_size (may_follow_entry (narrow n now) before) reads_entry (entry_small n now before) p rest none enough (entry_at_front (p ++ rest)) refl
