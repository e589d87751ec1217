-- What is known of the payloads of a message that is nowhere bad and passes no limit.
use Rattle.std.proofs.Common.{◌≡◌, ℕ, ◌+◌, ◌-◌, ◌≤◌, ◌⊎◌, Bool, true, false, cond, eqb, List, [], ◌∷◌, ◌++◌, length, map, Option, Some, None, refl, inl, inr, arith}
use Rattle.std.specs.Prelude.{ℤ, pos, negsuc, not}
use Rattle.std.specs.List.{AllByRecursion}
use Rattle.std.specs.Option.{option_or}
use Rattle.std.proofs.lemmas.Bool.{eqb-true}
use Rattle.dkv_base.proofs.ByteLists.{Below}
use Rattle.dkv_base.specs.declared.codes.Limit.{Limit}
use Rattle.dkv_base.specs.Limits.{first_some, when, is_known_kind}
use Rattle.dkv_wire.specs.Wire.{Item, Content, AVarint, AFixed64, ALen, AFixed32}
use Rattle.dkv_wire.proofs.Shortest.{IsSized, span}
use Rattle.dkv_msgs.specs.ByField.{bytes_in, payloads}
use Rattle.dkv_msgs.specs.Places.{earlier, look_in, in_fields, embedded}
use Rattle.dkv_msgs.proofs.Short.{weight, AreSized}

-- ---- what the numbers' fields weigh together

cases_eqb : (a b : ℕ) → (eqb a b ≡ true) ⊎ (eqb a b ≡ false)
cases_eqb a b = elim (eqb a b) as (λ v. (v ≡ true) ⊎ (v ≡ false)) [ true ↦ inl refl | false ↦ inr refl ]

once : (a b c d : Bool) (n s : ℕ) → eqb n 1 ≡ a → eqb n 2 ≡ b → eqb n 3 ≡ c → eqb n 4 ≡ d → cond a s 0 + cond b s 0 + cond c s 0 + cond d s 0 ≤ s
once true true c d n s x y z w = absurd (omega (arith, eqb-true n 1 x, eqb-true n 2 y))
once true false true d n s x y z w = absurd (omega (arith, eqb-true n 1 x, eqb-true n 3 z))
once true false false true n s x y z w = absurd (omega (arith, eqb-true n 1 x, eqb-true n 4 w))
once true false false false n s x y z w = omega arith
once false true true d n s x y z w = absurd (omega (arith, eqb-true n 2 y, eqb-true n 3 z))
once false true false true n s x y z w = absurd (omega (arith, eqb-true n 2 y, eqb-true n 4 w))
once false true false false n s x y z w = omega arith
once false false true true n s x y z w = absurd (omega (arith, eqb-true n 3 z, eqb-true n 4 w))
once false false true false n s x y z w = omega arith
once false false false true n s x y z w = omega arith
once false false false false n s x y z w = omega arith

-- the fields of four numbers weigh no more than all
pub all_weigh : (fs : List Item) → weight 1 fs + weight 2 fs + weight 3 fs + weight 4 fs ≤ span fs
all_weigh [] = omega arith
all_weigh (f ∷ fs) = omega (arith, all_weigh fs, once (eqb f.number 1) (eqb f.number 2) (eqb f.number 3) (eqb f.number 4) f.number (f.end - f.at) refl refl refl refl)

-- ---- what is known of each payload

-- two facts of each of a list give a third
pub combine : {X : Type 0} {P Q R : X → Type 0} (xs : List X) → ((x : X) → P x → Q x → R x) → AllByRecursion P xs → AllByRecursion Q xs → AllByRecursion R xs
combine [] f ps qs = tt
combine (x ∷ xs) f ps qs = (f x ps.0 qs.0, combine xs f ps.1 qs.1)

below_step : (b : Bool) (k long : ℕ) (c : Content) (texts : List (List ℕ)) → IsSized k long c → AllByRecursion Below texts → AllByRecursion Below (cond b (bytes_in c) [] ++ texts)
below_step true k long (AVarint n) texts is all = all
below_step true k long (AFixed64 n) texts is all = all
below_step true k long (ALen text) texts is all = (is.1, all)
below_step true k long (AFixed32 n) texts is all = all
below_step false k long c texts is all = all

-- the payloads of bytes are bytes
pub payloads_below : (k : ℕ) (fs : List Item) → AreSized fs → AllByRecursion Below (payloads k fs)
payloads_below k [] are = tt
payloads_below k (f ∷ fs) are = below_step (eqb f.number k) f.number (f.end - f.at) f.content (payloads k fs) are.0 (payloads_below k fs are.1)

-- where the earlier of two places is none, both are
pub not_earlier : (a b : Option ℕ) → earlier a b ≡ None → (a ≡ None) × (b ≡ None)
not_earlier None b e = (refl, e)
not_earlier (Some x) None e = absurd cc
not_earlier (Some x) (Some y) e = absurd cc

-- no bad place, wherever the message stands
abbrev pub IsWhole : (ℕ → List ℕ → Option ℕ) → List ℕ → Type 0
IsWhole bad_message text = (p : ℕ) × (bad_message p text ≡ None)

whole_step : (b : Bool) (bad_message : ℕ → List ℕ → Option ℕ) (f : Item) (c : Content) (texts : List (List ℕ)) → cond b (look_in (embedded bad_message) f c) None ≡ None → AllByRecursion (IsWhole bad_message) texts
    → AllByRecursion (IsWhole bad_message) (cond b (bytes_in c) [] ++ texts)
whole_step true bad_message f (AVarint n) texts e all = all
whole_step true bad_message f (AFixed64 n) texts e all = all
whole_step true bad_message f (ALen text) texts e all = ((f.end - length text, e), all)
whole_step true bad_message f (AFixed32 n) texts e all = all
whole_step false bad_message f c texts e all = all

-- the payloads of a message that is nowhere bad are nowhere bad
pub payloads_whole : (k : ℕ) (bad_message : ℕ → List ℕ → Option ℕ) (fs : List Item) → in_fields k (embedded bad_message) fs ≡ None → AllByRecursion (IsWhole bad_message) (payloads k fs)
payloads_whole k bad_message [] e = tt
payloads_whole k bad_message (f ∷ fs) e =
    let both = not_earlier (cond (eqb f.number k) (look_in (embedded bad_message) f f.content) None) (in_fields k (embedded bad_message) fs) e in
    whole_step (eqb f.number k) bad_message f f.content (payloads k fs) both.0 (payloads_whole k bad_message fs both.1)

-- ---- limits that are not passed

-- where the first of two is none, both are
pub both_none : (a b : Option Limit) → option_or a b ≡ None → (a ≡ None) × (b ≡ None)
both_none None b e = (refl, e)
both_none (Some x) b e = absurd cc

-- a limit that is not passed tells its test
pub not_when : (b : Bool) (l : Limit) → when b l ≡ None → b ≡ false
not_when true l e = absurd cc
not_when false l e = refl

-- each message of a list is within its limits
pub each_within : {M : Type 0} (lim : M → Option Limit) (read : List ℕ → M) (texts : List (List ℕ)) → first_some (map lim (map read texts)) ≡ None → AllByRecursion (λ text. lim (read text) ≡ None) texts
each_within lim read [] e = tt
each_within lim read (t ∷ ts) e = let both = both_none (lim (read t)) (first_some (map lim (map read ts))) e in (both.0, each_within lim read ts both.1)

-- a kind of mutation is known
abbrev pub known : ℤ → Bool
known z = is_known_kind (record { key = []; value = None; kind = z; expire_at_ms = pos 0 })

-- a kind that is known is not negative
pub known_is : (z : ℤ) → not (known z) ≡ false → (n : ℕ) × (z ≡ pos n)
known_is (pos n) e = (n, refl)
known_is (negsuc n) e = absurd cc
