-- A join keeps the rule, and the looks before and after it tell of both histories.
use Rattle.std.proofs.Common.{rules, ap, ◌∙◌, subst}
use mathlib.Core.List.{IsPrefix}
use Rattle.dkv_turn.proofs.Splits.{joins}
use Rattle.dkv_turn.proofs.Recalls.{recalls, joined}
use Rattle.dkv_turn.proofs.turn.Turn.join.Goals as goal

pub load-keep-requires : goal.load-keep-requires
load-keep-requires g c = let v = c.args.keep.now.seat in let o = c.requires.outside in
    (search rules, search rules, recalls _ _ _ _ _ _ _ v.me.0 v.me.1 o.0.1)

pub join_seat-requires : goal.join_seat-requires
join_seat-requires g c = let v = c.load-keep.new.seat in let w = c.into_parts-seat.result.0 in let h = c.into_parts-seat.ensures.parts.0 in let o = c.requires.outside in let same = c.load-keep.ensures.2.seat in
    (search rules, search rules, search rules, search rules, joins _ _ _ _ _ _ v.me.0 _ w.me.0 (ap (λ m. m.0.spent) same ∙ o.0.0) (ap (λ m. m.0.stage) same ∙ o.0.1) (ap (λ s. s.me.0.spent) h ∙ o.1.0) (ap (λ s. s.me.0.stage) h ∙ o.1.1) (ap (λ s. s.me.0.loan) h ∙ c.requires.none_lent))

pub load-keep-requires-2 : goal.load-keep-requires-2
load-keep-requires-2 g c = let v = c.join_seat.new.seat in let o = c.requires.outside in
    (search rules, search rules, recalls _ _ _ _ _ _ _ v.me.0 v.me.1 (ap (λ m. m.0.stage) c.join_seat.ensures.2 ∙ (ap (λ m. m.0.stage) c.load-keep.ensures.2.seat ∙ o.0.1)))

pub returns-clause-begins_other : goal.returns-clause-begins_other
returns-clause-begins_other g c = let h = c.into_parts-seat.ensures.parts.0 in
    subst (λ s. IsPrefix s.me.0.seen c.load-keep-2.new.seat.me.0.seen) h (joined c.into_parts-seat.result.0.me.0 c.args.keep.now.seat.me c.load-keep.new.seat.me c.join_seat.new.seat.me c.load-keep-2.new.seat.me c.load-keep.ensures.2 c.join_seat.ensures.2 c.load-keep-2.ensures.2 c.requires.outside.0.0).0

pub returns-clause-others : goal.returns-clause-others
returns-clause-others g c = (joined c.into_parts-seat.result.0.me.0 c.args.keep.now.seat.me c.load-keep.new.seat.me c.join_seat.new.seat.me c.load-keep-2.new.seat.me c.load-keep.ensures.2 c.join_seat.ensures.2 c.load-keep-2.ensures.2 c.requires.outside.0.0).1
