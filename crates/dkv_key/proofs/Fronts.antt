-- Parts at the front of bytes, and keys.
use Rattle.std.proofs.Common.{◌≡◌, ◌≢◌, inl, inr, ℕ, ◌-◌, ◌<◌, Bool, true, false, List, [], ◌∷◌, ◌++◌, length, refl, sym, ap, subst, ◌∙◌, arith, append_assoc, length-append}
use Rattle.std.specs.Ordering.{ordering_then, is_le, is_lt}
use Rattle.std.proofs.lemmas.Bool.{and_parts, and_from}
use Rattle.std.proofs.lemmas.List.{append-nil}
use Rattle.std.proofs.lemmas.List.Elements.{All-head, All-tail, All-nil, All-cons}
use Rattle.std.proofs.lemmas.Grind.{flat_map-append}
use Rattle.dkv_base.specs.State.{is_between, key_cmp}
use Rattle.dkv_key.specs.declared.part.Part.{Part}
use Rattle.dkv_key.specs.declared.part.Part.TheVariants as part
use Rattle.dkv_key.specs.Parts.{IsPart, AreParts, HasMore, spelling, key, part_cmp, parts_cmp, range_start, range_end}
use Rattle.dkv_key.specs.Reading.{StartsBelowFF, MayFollow, Begins, NoPart, IsFront, IsKey, FirstFault, NoKey}
use Rattle.dkv_base.proofs.Orders.{ranked, key_cmp-same, first_less, first_greater, first_equal, same_length}
use Rattle.dkv_key.proofs.PartOrder.{head_of, part_order, one_part}

may_follow : (p : Part) (rest : List ℕ) → StartsBelowFF rest → MayFollow p rest
may_follow (part.Bytes a) rest f = f
may_follow (part.Text a) rest f = f
may_follow p rest f = tt

-- what begins with parts, or with what begins below FF, begins below FF
pub key_below : (ps : List Part) (rest : List ℕ) → AreParts ps → StartsBelowFF rest → StartsBelowFF (key ps ++ rest)
key_below [] rest all f = f
key_below (p ∷ ps) rest all f =
    let h = head_of p (All-head IsPart p ps all).well_formed in
    let low : h.first < 255 = omega (arith, h.below) in
    subst (λ (l : List ℕ). StartsBelowFF ((l ++ key ps) ++ rest)) (sym h.is) low

pub key_follows : (p : Part) (ps : List Part) → AreParts ps → MayFollow p (key ps)
key_follows p ps all = may_follow p (key ps) (subst (λ (l : List ℕ). StartsBelowFF l) (append-nil (key ps)) (key_below ps [] all tt))

pub front_spelled : (ps : List Part) (bytes rest : List ℕ) → IsFront ps bytes rest → bytes ≡ key ps ++ rest
front_spelled [] bytes rest f = f
front_spelled (p ∷ ps) bytes rest f = f.1.spelled ∙ ap (λ (l : List ℕ). spelling p ++ l) (front_spelled ps f.0 rest f.2) ∙ sym (append_assoc (spelling p) (key ps) rest)

pub front_parts : (ps : List Part) (bytes rest : List ℕ) → IsFront ps bytes rest → AreParts ps
front_parts [] bytes rest f = All-nil IsPart
front_parts (p ∷ ps) bytes rest f = All-cons IsPart p ps f.1.is_part (front_parts ps f.0 rest f.2)

pub front_of : (ps : List Part) (rest : List ℕ) → AreParts ps → StartsBelowFF rest → IsFront ps (key ps ++ rest) rest
front_of [] rest all f = refl
front_of (p ∷ ps) rest all f =
    let tail = All-tail IsPart p ps all in (
      key ps ++ rest,
      record { is_part = All-head IsPart p ps all; spelled = append_assoc (spelling p) (key ps) rest; follows = may_follow p (key ps ++ rest) (key_below ps rest tail f) },
      front_of ps rest tail f,
    )

pub whole_front : (ps : List Part) → AreParts ps → IsFront ps (key ps) []
whole_front ps all = subst (λ (l : List ℕ). IsFront ps l []) (append-nil (key ps)) (front_of ps [] all tt)

-- one part more
pub front_more : (ps : List Part) (p : Part) (bytes rest behind : List ℕ) → IsFront ps bytes rest → Begins rest p behind → IsFront (ps ++ p ∷ []) bytes behind
front_more [] p bytes rest behind f b = (behind, subst (λ (l : List ℕ). Begins l p behind) (sym f) b, refl)
front_more (q ∷ ps) p bytes rest behind f b = (f.0, f.1, front_more ps p f.0 rest behind f.2 b)

pub no_part : NoPart []
no_part p rest b =
    let h = head_of p b.is_part.well_formed in
    let e = ap length (b.spelled ∙ ap (λ (l : List ℕ). l ++ rest) h.is) in
    omega (arith, e)

-- bytes begin with one list of parts, where none begins behind it
pub one_front : (ps qs : List Part) (bytes r s : List ℕ) → IsFront ps bytes r → IsFront qs bytes s → NoPart r → NoPart s → (ps ≡ qs) × (r ≡ s)
one_front [] [] bytes r s f g n m = (refl, sym f ∙ g)
one_front [] (q ∷ qs) bytes r s f g n m = absurd (n q g.0 (subst (λ (l : List ℕ). Begins l q g.0) f g.1))
one_front (p ∷ ps) [] bytes r s f g n m = absurd (m p f.0 (subst (λ (l : List ℕ). Begins l p f.0) g f.1))
one_front (p ∷ ps) (q ∷ qs) bytes r s f g n m =
    let both = one_part bytes p q f.0 g.0 f.1 g.1 in
    let rest = one_front ps qs f.0 r s f.2 (subst (λ (l : List ℕ). IsFront qs l s) (sym both.1) g.2) n m in
    ((λ i. both.0 i ∷ rest.0 i), rest.1)

pub one_list : (ps qs : List Part) → AreParts ps → AreParts qs → key ps ≡ key qs → ps ≡ qs
one_list ps qs f g e = (one_front ps qs (key ps) [] [] (whole_front ps f) (subst (λ (l : List ℕ). IsFront qs l []) (sym e) (whole_front qs g)) no_part no_part).0

pub one_fault : (at other : ℕ) (bytes : List ℕ) → FirstFault at bytes → FirstFault other bytes → at ≡ other
one_fault at other bytes f g =
    let both = one_front f.before g.before bytes f.rest g.rest f.is_front g.is_front f.none g.none in
    sym f.place ∙ ap (λ (ps : List Part). length (key ps)) both.0 ∙ g.place

pub no_key : (at : ℕ) (bytes : List ℕ) → FirstFault at bytes → NoKey bytes
no_key at bytes f ps k =
    let front = subst (λ (l : List ℕ). IsFront ps l []) (sym k.spelled) (whole_front ps k.are_parts) in
    f.more (one_front f.before ps bytes f.rest [] f.is_front front f.none no_part).1

pub front_key : (ps : List Part) (bytes : List ℕ) → IsFront ps bytes [] → IsKey ps bytes
front_key ps bytes f = record { are_parts = front_parts ps bytes [] f; spelled = front_spelled ps bytes [] f ∙ append-nil (key ps) }

pub front_fault : (ps : List Part) (bytes rest : List ℕ) → IsFront ps bytes rest → rest ≢ [] → NoPart rest → FirstFault (length bytes - length rest) bytes
front_fault ps bytes rest f some none = record {
  before = ps;
  rest = rest;
  is_front = f;
  place = omega (arith, ap length (front_spelled ps bytes rest f), length-append (key ps) rest);
  more = some;
  none = none;
}

pub keys_order : (ps qs : List Part) → AreParts ps → AreParts qs → key_cmp (key ps) (key qs) ≡ parts_cmp ps qs
keys_order [] [] f g = refl
keys_order [] (q ∷ qs) f g = let h = head_of q (All-head IsPart q qs g).well_formed in (λ i. key_cmp [] (h.is i ++ key qs))
keys_order (p ∷ ps) [] f g = let h = head_of p (All-head IsPart p ps f).well_formed in (λ i. key_cmp (h.is i ++ key ps) [])
keys_order (p ∷ ps) (q ∷ qs) f g =
    let f' = All-tail IsPart p ps f in
    let g' = All-tail IsPart q qs g in
    part_order p q (All-head IsPart p ps f) (All-head IsPart q qs g) (key ps) (key qs) (key_follows p ps f') (key_follows q qs g')
    ∙ ap (ordering_then (part_cmp p q)) (keys_order ps qs f' g')

-- a key that begins with the spelling of parts begins with these parts
pub front_split : (ps qs : List Part) (r : List ℕ) → AreParts ps → AreParts qs → key qs ≡ key ps ++ r → StartsBelowFF r → (more : List Part) × (qs ≡ ps ++ more) × (key more ≡ r)
front_split [] qs r f g e below = (qs, refl, e)
front_split (p ∷ ps) [] r f g e below =
    let h = head_of p (All-head IsPart p ps f).well_formed in
    absurd (omega (arith, ap length (e ∙ ap (λ (l : List ℕ). (l ++ key ps) ++ r) h.is)))
front_split (p ∷ ps) (q ∷ qs) r f g e below =
    let f' = All-tail IsPart p ps f in
    let g' = All-tail IsPart q qs g in
    let one : Begins (spelling q ++ key qs) q (key qs) = record { is_part = All-head IsPart q qs g; spelled = refl; follows = key_follows q qs g' } in
    let other : Begins (spelling q ++ key qs) p (key ps ++ r) = record {
      is_part = All-head IsPart p ps f;
      spelled = e ∙ append_assoc (spelling p) (key ps) r;
      follows = may_follow p (key ps ++ r) (key_below ps r f' below);
    } in
    let both = one_part (spelling q ++ key qs) q p (key qs) (key ps ++ r) one other in
    let rest = front_split ps qs r f' g' both.1 below in
    (rest.0, (λ i. both.0 i ∷ rest.1 i), rest.2)

-- bytes from a key and 00 on, and before the key and FF, begin with the key and a byte below FF
between : (k y : List ℕ) → is_le (key_cmp (k ++ 0 ∷ []) y) ≡ true → is_lt (key_cmp y (k ++ 255 ∷ [])) ≡ true → (c : ℕ) × (t : List ℕ) × (y ≡ k ++ c ∷ t) × (c < 255)
between [] [] a b = absurd (cc a)
between [] (c ∷ t) a b = (
  c,
  t,
  refl,
  elim (ranked c 255) [
    | inl lt ↦ lt
    | inr more ↦ elim more [
      | inl e ↦ absurd (not_less t (ap is_lt (sym (first_equal c 255 t [] e)) ∙ b))
      | inr gt ↦ absurd (no_more (sym (ap is_lt (first_greater c 255 t [] gt)) ∙ b))
    ]
  ],
)
  where
    not_less : (t : List ℕ) → is_lt (key_cmp t []) ≡ true → ⊥
    not_less [] e = cc e
    not_less (d ∷ t) e = cc e

    no_more : (let b : Bool = false in b ≡ true) → ⊥
    no_more e = cc e
between (x ∷ k) [] a b = absurd (cc a)
between (x ∷ k) (y ∷ ys) a b =
    elim (ranked x y) [
      | inl lt ↦ absurd (no_more (sym (ap is_lt (first_greater y x ys (k ++ 255 ∷ []) lt)) ∙ b))
      | inr more ↦ elim more [
        | inl e ↦
            let rest = between k ys (ap is_le (sym (first_equal x y (k ++ 0 ∷ []) ys e)) ∙ a) (ap is_lt (sym (first_equal y x ys (k ++ 255 ∷ []) (sym e))) ∙ b) in
            (rest.0, rest.1, (λ i. sym e i ∷ rest.2 i), rest.3)
        | inr gt ↦ absurd (no_more (sym (ap is_le (first_greater x y (k ++ 0 ∷ []) ys gt)) ∙ a))
      ]
    ]
  where
    no_more : (let b : Bool = false in b ≡ true) → ⊥
    no_more e = cc e

behind_same : (k a b : List ℕ) → key_cmp (k ++ a) (k ++ b) ≡ key_cmp a b
behind_same k a b = same_length k k a b refl ∙ ap (λ o. ordering_then o (key_cmp a b)) (key_cmp-same k)

is_behind : (k t : List ℕ) (c : ℕ) → 0 < c → c < 255 → is_between (range_start k) (range_end k) (k ++ c ∷ t) ≡ true
is_behind k t c some below =
    and_from _ _
    (ap is_le (behind_same k (0 ∷ []) (c ∷ t) ∙ first_less 0 c [] t some))
    (ap is_lt (behind_same k (c ∷ t) (255 ∷ []) ∙ first_less c 255 t [] below))

part_behind : (ps : List Part) (m : Part) (ms : List Part) → AreParts (ps ++ m ∷ ms) → IsPart m
part_behind [] m ms all = All-head IsPart m ms all
part_behind (p ∷ ps) m ms all = part_behind ps m ms (All-tail IsPart p (ps ++ m ∷ ms) all)

pub range_has_more : (ps qs : List Part) → AreParts ps → AreParts qs → is_between (range_start (key ps)) (range_end (key ps)) (key qs) ≡ true → HasMore ps qs
range_has_more ps qs f g is =
    let parts = and_parts _ _ is in
    let at = between (key ps) (key qs) parts.0 parts.1 in
    let split = front_split ps qs (at.0 ∷ at.1) f g at.2 at.3 in
    (split.0, (λ e. omega (arith, ap length (sym split.2 ∙ ap key e))), split.1)

pub more_in_range : (ps qs : List Part) → AreParts qs → (more : List Part) → more ≢ [] → qs ≡ ps ++ more → is_between (range_start (key ps)) (range_end (key ps)) (key qs) ≡ true
more_in_range ps qs g [] some is = absurd (some refl)
more_in_range ps qs g (m ∷ ms) some is =
    let h = head_of m (part_behind ps m ms (subst AreParts is g)).well_formed in
    let spelled : key qs ≡ key ps ++ h.first ∷ (h.rest ++ key ms) = ap key is ∙ flat_map-append spelling ps (m ∷ ms) ∙ ap (λ (l : List ℕ). key ps ++ (l ++ key ms)) h.is in
    subst (λ (l : List ℕ). is_between (range_start (key ps)) (range_end (key ps)) l ≡ true) (sym spelled) (is_behind (key ps) (h.rest ++ key ms) h.first h.some (omega (arith, h.below)))
