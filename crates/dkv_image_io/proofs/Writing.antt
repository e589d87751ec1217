-- Calls that write an image to a disk, one after another.
use Rattle.std.proofs.Common.{◌≡◌, refl, sym, ◌∙◌, ap, subst, ℕ, ◌+◌, ◌-◌, ◌^◌, ◌≤◌, List, [], ◌++◌, length, take, drop, Option, Some, None, Result, Ok, Err, arith, append_assoc, length-append, length-take, take-append-drop}
use Rattle.std.specs.Prelude.{min}
use Rattle.std.proofs.lemmas.List.{append-nil, take-take}
use Rattle.dkv_io.specs.Causes.{HasCause}
use Rattle.dkv_io.specs.Past.{of_some}
use Rattle.dkv_io.specs.Disks.{WithinTold, Told, AnyBytes, Holds, Written, Torn, Follows, TimeGoesOn, FromStart, IsShort}
use Rattle.dkv_io.proofs.Moments.{started, goes_on, weaker, joined}
use Rattle.dkv_io.proofs.Seen.{still_told, told_any, told_on}
use Rattle.dkv_image_io.specs.Writing.{KeepsFront, Writes, IsUnderWay}
use Rattle.dkv_image_io.proofs.Joining.{holds_on}

-- ---- places

-- the place behind what was written is within what is told then
pub within_on : (old new : Option (List ℕ)) (at next : ℕ) (bytes : List ℕ) → WithinTold old at → Told (Holds at bytes) old new → next ≤ at + length bytes → WithinTold new next
within_on None None at next bytes within told le = tt
within_on None (Some ys) at next bytes within told le = absurd told
within_on (Some xs) None at next bytes within told le = absurd told
within_on (Some xs) (Some ys) at next bytes within told le =
    omega (arith, le, within, ap length told, length-append (take at xs ++ bytes) (drop (at + length bytes) xs), length-append (take at xs) bytes, length-take at xs)

pub told_either : {E : Type 0} (at : ℕ) (bytes : List ℕ) (r : Result (Unit {0}) E) (old new : Option (List ℕ)) → Written at bytes r old new → Told AnyBytes old new
told_either at bytes (Ok x) old new is = told_any (Holds at bytes) old new is
told_either at bytes (Err e) old new is = is

-- ---- images

-- a write behind the first byte leaves that byte
pub torn_front : (at n : ℕ) (file image : List ℕ) → 1 ≤ at → Torn at n file image → KeepsFront file image
torn_front at n file image le torn = sym (short image) ∙ ap (take 1) torn.before ∙ short file
  where
    short : (xs : List ℕ) → take 1 (take at xs) ≡ take 1 xs
    short xs = take-take 1 at xs le

module _ {D : Type 0} (seen : D → Option (List ℕ)) (images : D → List ℕ → Type 0) (moment : D → ℕ) (since : D → ℕ → List ℕ → Type 0) (faults : D → ℕ)
    (counts : (disk : D) (t : ℕ) (c : List ℕ) → t ≤ moment disk → images disk c → since disk t c) (only : (disk : D) (c : List ℕ) → since disk (moment disk) c → images disk c) where
  -- nothing was written
  pub writes_none : (place : ℕ) (old : D) → Writes seen images moment since faults place old old
  writes_none place old = record {
    told = told_itself (seen old);
    later = omega arith;
    leaves = λ le. started moment since old (FromStart (images old) KeepsFront) (λ c left. (c, only old c left, refl));
  }
    where
      told_itself : (a : Option (List ℕ)) → Told AnyBytes a a
      told_itself None = tt
      told_itself (Some xs) = tt

  -- one write
  pub writes_one : {E : Type 0} (place : ℕ) (bytes : List ℕ) (old new : D) (r : Result (Unit {0}) E) → Written place bytes r (seen old) (seen new) → Follows (Torn place (length bytes)) (images old) (images new)
      → TimeGoesOn images moment since old new → HasCause (faults old) (faults new) r → Writes seen images moment since faults place old new
  writes_one place bytes old new r written crash time cause = record {
    told = told_either place bytes r (seen old) (seen new) written;
    later = cause.later;
    leaves = λ le.
        let P = FromStart (images old) KeepsFront in
        goes_on moment since old old new P (images new) ((writes_none place old).leaves le) time
        (λ f now. let from = crash f now in (from.0, from.1, torn_front place (length bytes) from.0 f le from.2));
  }

  -- some calls and then others, which write no earlier
  pub writes_on : (place next : ℕ) (old mid new : D) → place ≤ next → Writes seen images moment since faults place old mid → Writes seen images moment since faults next mid new
      → Writes seen images moment since faults place old new
  writes_on place next old mid new le first then = record {
    told = told_on (seen old) (seen mid) (seen new) first.told then.told;
    later = omega (arith, first.later, then.later);
    leaves = λ pos.
        let P = FromStart (images old) KeepsFront in
        let earlier = first.leaves pos in
        let later = then.leaves (omega (arith, pos, le)) in
        joined moment since old mid new P earlier
        (weaker moment since mid new (FromStart (images mid) KeepsFront) P
        (λ f from. let was = earlier.each from.0 (counts mid (moment old) from.0 earlier.later from.1) in (was.0, was.1, from.2 ∙ was.2)) later);
  }

-- ---- what is written and what is held

-- what was held is written
pub way_written : (start place next : ℕ) (file spelled held : List ℕ) (old new : Option (List ℕ)) → IsUnderWay start file spelled old place held → WithinTold old place
    → Told (Holds place held) old new → IsShort new → next ≡ min (place + length held) (2 ^ 64 - 1) → IsUnderWay start file spelled new next []
way_written start place next file spelled held old new w within told short is =
    let t = still_told (Holds place held) old new w.now w.told told in
    let here = subst (λ (o : Option (List ℕ)). WithinTold o place) w.told within in
    let below = subst IsShort t.seen short in
    let ended = subst (λ (o : Option (List ℕ)). WithinTold o (place + length held)) t.seen (within_on old new place (place + length held) held within told (omega arith)) in
    record {
      written = w.written ++ held;
      now = t.file;
      told = t.seen;
      stands = holds_on start file w.written w.now w.stands (subst (λ (n : ℕ). n ≤ length w.now) w.behind here) held t.file (subst (λ (n : ℕ). Holds n held w.now t.file) w.behind t.is);
      behind = omega (arith, is, w.behind, below, ended, length-append w.written held);
      parts = w.parts ∙ sym (append-nil (w.written ++ held));
    }

-- more is spelled, and held
pub way_spelled : (start place : ℕ) (file spelled held more : List ℕ) (seen : Option (List ℕ)) → IsUnderWay start file spelled seen place held → IsUnderWay start file (spelled ++ more) seen place (held ++ more)
way_spelled start place file spelled held more seen w = record {
  written = w.written;
  now = w.now;
  told = w.told;
  stands = w.stands;
  behind = w.behind;
  parts = ap (λ (l : List ℕ). l ++ more) w.parts ∙ append_assoc w.written held more;
}

-- what was taken from the front of what was held is written
pub way_parted : (start place next : ℕ) (file spelled part rest : List ℕ) (old new : Option (List ℕ)) (w : IsUnderWay start file spelled old place (part ++ rest))
    → ((IsUnderWay start file (w.written ++ part) old place part) → IsUnderWay start file (w.written ++ part) new next []) → IsUnderWay start file spelled new next rest
way_parted start place next file spelled part rest old new w on =
    let u = on (record { written = w.written; now = w.now; told = w.told; stands = w.stands; behind = w.behind; parts = refl }) in
    record {
      written = u.written;
      now = u.now;
      told = u.told;
      stands = u.stands;
      behind = u.behind;
      parts = w.parts ∙ sym (append_assoc w.written part rest) ∙ ap (λ (l : List ℕ). l ++ rest) (u.parts ∙ append-nil u.written);
    }

-- nothing is written yet, and nothing is spelled
pub way_begins : (start place : ℕ) (file held : List ℕ) (seen : Option (List ℕ)) → seen ≡ Some file → place ≡ start → held ≡ [] → IsUnderWay start file [] seen place held
way_begins start place file held seen told is none =
    let here : start + 0 ≡ start = omega arith in
    record {
      written = [];
      now = file;
      told = told;
      stands = sym (ap (λ (l : List ℕ). l ++ drop (start + 0) file) (append-nil (take start file)) ∙ ap (λ (n : ℕ). take start file ++ drop n file) here ∙ take-append-drop start file);
      behind = omega (arith, is);
      parts = sym none;
    }

-- what is under way to its end stands there
pub way_ended : (start place : ℕ) (spelled : List ℕ) (old new : Option (List ℕ)) → Told AnyBytes old new → ((file : List ℕ) → old ≡ Some file → IsUnderWay start file spelled new place []) → Told (Holds start spelled) old new
way_ended start place spelled None None told way = tt
way_ended start place spelled None (Some ys) told way = absurd told
way_ended start place spelled (Some xs) None told way = absurd told
way_ended start place spelled (Some xs) (Some ys) told way =
    let w = way xs refl in
    let is : w.written ≡ spelled = sym (w.parts ∙ append-nil w.written) in
    subst (λ (l : List ℕ). Holds start l xs ys) is (subst (λ (l : List ℕ). Holds start w.written xs l) (of_some ys w.now w.told) w.stands)
