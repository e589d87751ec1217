-- What written bytes show: which fields they are, wherever they stand and whatever comes behind them.
--     Shown bytes gs      the bytes are the fields of the groups gs, each a number and what its fields hold in order
--     held_by_shown, bad_shown      what the fields of a number hold, and that each field begins where the last one ended
use Rattle.std.proofs.Common.{◌≡◌, ℕ, ◌+◌, ◌*◌, ◌<◌, Bool, true, false, cond, eqb, List, [], ◌∷◌, ◌++◌, length, map, None, refl, sym, ap, ◌∙◌, append_assoc, arith, length-append}
use Rattle.std.specs.List.{flat_map, AllByRecursion}
use Rattle.std.proofs.lemmas.List.{append-nil}
use Rattle.std.proofs.lemmas.List.Concat.{flat_map-append}
use Rattle.std.proofs.lemmas.List.Folds.{flat_map-map}
use Rattle.dkv_base.specs.Protobuf.{varint, delimited, number_field, bytes_field}
use Rattle.dkv_wire.specs.Wire.{Item, Content, AVarint, ALen, IsFieldNumber}
use Rattle.dkv_wire.specs.FieldLists.{fields, bad}
use Rattle.dkv_wire.proofs.Written.{Before, before_delimited, before_number}
use Rattle.dkv_wire.proofs.Steps.{fields_end, bad_end}
use Rattle.dkv_msgs.specs.ByField.{held_by}
use Rattle.dkv_msgs.specs.Spellings.{all_delimited}

-- fields without their places
abbrev pub contents : List Item → List (ℕ × Content)
contents fs = map (λ f. (f.number, f.content)) fs

-- the fields of groups, one group behind the other
abbrev pub spread : List (ℕ × List Content) → List (ℕ × Content)
spread [] = []
spread (g ∷ gs) = map (λ c. (g.0, c)) g.1 ++ spread gs

pub record Shows (bytes : List ℕ) (gs : List (ℕ × List Content)) : Type 0 where
  pub items : (at : ℕ) (rest : List ℕ) → contents (fields at (bytes ++ rest)) ≡ spread gs ++ contents (fields (at + length bytes) rest)
  pub whole : (at : ℕ) (rest : List ℕ) → bad at (bytes ++ rest) ≡ bad (at + length bytes) rest

-- of bytes whose length a varint tells
abbrev pub Shown : List ℕ → List (ℕ × List Content) → Type 0
Shown bytes gs = length bytes < 18446744073709551616 → Shows bytes gs

-- ---- bytes one behind the other

spread-append : (gs hs : List (ℕ × List Content)) → spread (gs ++ hs) ≡ spread gs ++ spread hs
spread-append [] hs = refl
spread-append (g ∷ gs) hs = ap (λ (x : List (ℕ × Content)). map (λ c. (g.0, c)) g.1 ++ x) (spread-append gs hs) ∙ sym (append_assoc (map (λ c. (g.0, c)) g.1) (spread gs) (spread hs))

both_show : (a b : List ℕ) (gs hs : List (ℕ × List Content)) → Shows a gs → Shows b hs → Shows (a ++ b) (gs ++ hs)
both_show a b gs hs x y = record {
  items = λ at rest.
      let end : (at + length a) + length b ≡ at + length (a ++ b) = omega (arith, length-append a b) in
      ap (λ (l : List ℕ). contents (fields at l)) (append_assoc a b rest)
      ∙ x.items at (b ++ rest)
      ∙ ap (λ (l : List (ℕ × Content)). spread gs ++ l) (y.items (at + length a) rest)
      ∙ sym (append_assoc (spread gs) (spread hs) (contents (fields ((at + length a) + length b) rest)))
      ∙ ap (λ (l : List (ℕ × Content)). l ++ contents (fields ((at + length a) + length b) rest)) (sym (spread-append gs hs))
      ∙ ap (λ (k : ℕ). spread (gs ++ hs) ++ contents (fields k rest)) end;
  whole = λ at rest.
      let end : (at + length a) + length b ≡ at + length (a ++ b) = omega (arith, length-append a b) in
      ap (bad at) (append_assoc a b rest) ∙ x.whole at (b ++ rest) ∙ y.whole (at + length a) rest ∙ ap (λ (k : ℕ). bad k rest) end;
}

pub both : (a b : List ℕ) (gs hs : List (ℕ × List Content)) → Shown a gs → Shown b hs → Shown (a ++ b) (gs ++ hs)
both a b gs hs x y lt = both_show a b gs hs (x (omega (arith, lt, length-append a b))) (y (omega (arith, lt, length-append a b)))

pub nothing_shown : (k : ℕ) → Shows [] ((k, []) ∷ [])
nothing_shown k = record {
  items = λ at rest. let e : at ≡ at + 0 = omega arith in ap (λ (k : ℕ). contents (fields k rest)) e;
  whole = λ at rest. let e : at ≡ at + 0 = omega arith in ap (λ (k : ℕ). bad k rest) e;
}

-- ---- the fields that are written

before_shows : (k : ℕ) (held : Content) (head : List ℕ) → ((at : ℕ) (rest : List ℕ) → Before at k held head rest) → Shows head ((k, held ∷ []) ∷ [])
before_shows k held head before = record { items = λ at rest. ap contents (before at rest).fields; whole = λ at rest. (before at rest).bad }

pub delimited_shown : (k : ℕ) (bytes : List ℕ) → IsFieldNumber k → Shown (delimited k bytes) ((k, ALen bytes ∷ []) ∷ [])
delimited_shown k bytes is lt =
    let long : length bytes < 18446744073709551616 = omega (arith, lt, length-append (varint (k * 8 + 2) ++ varint (length bytes)) bytes, length-append (varint (k * 8 + 2)) (varint (length bytes) ++ bytes), length-append (varint (length bytes)) bytes) in
    before_shows k (ALen bytes) (delimited k bytes) (λ at rest. before_delimited at k bytes rest is long)

abbrev pub bytes_content : List ℕ → List Content
bytes_content [] = []
bytes_content (b ∷ bs) = ALen (b ∷ bs) ∷ []

abbrev pub number_content : ℕ → List Content
number_content n = cond (eqb n 0) [] (AVarint n ∷ [])

pub bytes_shown : (k : ℕ) (bytes : List ℕ) → IsFieldNumber k → Shown (bytes_field k bytes) ((k, bytes_content bytes) ∷ [])
bytes_shown k [] is lt = nothing_shown k
bytes_shown k (b ∷ bs) is lt = delimited_shown k (b ∷ bs) is lt

number_if : (b : Bool) (k n : ℕ) → IsFieldNumber k → n < 18446744073709551616 → Shows (cond b [] (varint (k * 8) ++ varint n)) ((k, cond b [] (AVarint n ∷ [])) ∷ [])
number_if true k n is lt = nothing_shown k
number_if false k n is lt = before_shows k (AVarint n) (varint (k * 8) ++ varint n) (λ at rest. before_number at k n rest is lt)

pub number_shown : (k n : ℕ) → IsFieldNumber k → n < 18446744073709551616 → Shown (number_field k n) ((k, number_content n) ∷ [])
number_shown k n is fits lt = number_if (eqb n 0) k n is fits

pub all_delimited_shown : {X : Type 0} (k : ℕ) (f : X → List ℕ) (xs : List X) → IsFieldNumber k → Shown (all_delimited k f xs) ((k, map (λ x. ALen (f x)) xs) ∷ [])
all_delimited_shown k f [] is lt = nothing_shown k
all_delimited_shown k f (x ∷ xs) is lt =
    let one = both (delimited k (f x)) (all_delimited k f xs) ((k, ALen (f x) ∷ []) ∷ []) ((k, map (λ x. ALen (f x)) xs) ∷ []) (delimited_shown k (f x) is) (all_delimited_shown k f xs is) lt in
    record { items = one.items; whole = one.whole }

-- the payloads are no longer than all of the bytes
pub all_delimited_small : {X : Type 0} (k : ℕ) (f : X → List ℕ) (xs : List X) (n : ℕ) → length (all_delimited k f xs) < n → AllByRecursion (λ x. length (f x) < n) xs
all_delimited_small k f [] n lt = tt
all_delimited_small k f (x ∷ xs) n lt = (
  omega (arith, lt, length-append (delimited k (f x)) (all_delimited k f xs), length-append (varint (k * 8 + 2) ++ varint (length (f x))) (f x), length-append (varint (k * 8 + 2)) (varint (length (f x)) ++ f x), length-append (varint (length (f x))) (f x)),
  all_delimited_small k f xs n (omega (arith, lt, length-append (delimited k (f x)) (all_delimited k f xs))),
)

-- ---- what is read of them

-- what the groups of number k hold
abbrev pub picked : {X : Type 0} → (Content → List X) → ℕ → List (ℕ × List Content) → List X
picked what k [] = []
picked what k (g ∷ gs) = cond (eqb g.0 k) (flat_map what g.1) [] ++ picked what k gs

abbrev pub held : {X : Type 0} → (Content → List X) → ℕ → List (ℕ × Content) → List X
held what k ps = flat_map (λ p. cond (eqb p.0 k) (what p.1) []) ps

pub held_contents : {X : Type 0} (what : Content → List X) (k : ℕ) (fs : List Item) → held_by what k fs ≡ held what k (contents fs)
held_contents what k fs = sym (flat_map-map (λ p. cond (eqb p.0 k) (what p.1) []) (λ f. (f.number, f.content)) fs)

one_group : {X : Type 0} (b : Bool) (what : Content → List X) (cs : List Content) → flat_map (λ c. cond b (what c) []) cs ≡ cond b (flat_map what cs) []
one_group true what cs = refl
one_group false what [] = refl
one_group false what (c ∷ cs) = one_group false what cs

held_spread : {X : Type 0} (what : Content → List X) (k : ℕ) (gs : List (ℕ × List Content)) → held what k (spread gs) ≡ picked what k gs
held_spread what k [] = refl
held_spread what k (g ∷ gs) =
    flat_map-append (λ p. cond (eqb p.0 k) (what p.1) []) (map (λ c. (g.0, c)) g.1) (spread gs)
    ∙ ap (λ l. l ++ held what k (spread gs)) (flat_map-map (λ p. cond (eqb p.0 k) (what p.1) []) (λ c. (g.0, c)) g.1 ∙ one_group (eqb g.0 k) what g.1)
    ∙ ap (λ l. cond (eqb g.0 k) (flat_map what g.1) [] ++ l) (held_spread what k gs)

contents_all : (at : ℕ) (bytes : List ℕ) (gs : List (ℕ × List Content)) → Shows bytes gs → contents (fields at bytes) ≡ spread gs
contents_all at bytes gs x =
    ap (λ (l : List ℕ). contents (fields at l)) (sym (append-nil bytes))
    ∙ x.items at []
    ∙ ap (λ (fs : List Item). spread gs ++ contents fs) (fields_end (at + length bytes))
    ∙ append-nil (spread gs)

pub held_by_shown : {X : Type 0} (what : Content → List X) (k at : ℕ) (bytes : List ℕ) (gs : List (ℕ × List Content)) → Shows bytes gs → held_by what k (fields at bytes) ≡ picked what k gs
held_by_shown what k at bytes gs x = held_contents what k (fields at bytes) ∙ ap (held what k) (contents_all at bytes gs x) ∙ held_spread what k gs

pub bad_shown : (at : ℕ) (bytes : List ℕ) (gs : List (ℕ × List Content)) → Shows bytes gs → bad at bytes ≡ None
bad_shown at bytes gs x = ap (bad at) (sym (append-nil bytes)) ∙ x.whole at [] ∙ bad_end (at + length bytes)
