-- A field takes its bytes from the front, whatever follows it.
use Rattle.std.proofs.Common.{◌≡◌, refl, sym, ◌∙◌, ap, subst, ℕ, ◌+◌, ◌-◌, ◌≤◌, inl, inr, Bool, true, false, nat_le, List, [], ◌++◌, length, take, drop, Option, Some, None, arith, append_assoc, length-append, length-take, length-drop, take-append-drop}
use Rattle.std.specs.Prelude.{option_map, if◌then◌else◌}
use Rattle.std.specs.Int.{Width, byte_len, from_le_bytes}
use Rattle.std.proofs.lemmas.Bool.{leb-true, le-leb}
use Rattle.std.proofs.lemmas.Option.{cond_some}
use Rattle.std.proofs.lemmas.List.{append-nil, drop_at, take-append-le, drop-append-le}
use Rattle.dkv_image.specs.Image.{◌>>=◌, bytes_at, number_at}
use Rattle.dkv_image_io.specs.Reading.{IsEnough, StandsNot}
use Rattle.dkv_image.proofs.Fields.{on}
use Rattle.dkv_image.proofs.Taken.{some_is, bound, mapped}

-- the bytes that were taken, and how many these are
pub record Takes {X : Type 0} (S : X → ℕ → Type 0) (p : List ℕ) (x : X × List ℕ) : Type 0 where
  pub text : List ℕ
  pub split : p ≡ text ++ x.1
  pub size : S x.0 (length text)

pub record Reads {X : Type 0} (one : List ℕ → Option (X × List ℕ)) (S : X → ℕ → Type 0) : Type 0 where
  pub takes : (p : List ℕ) (x : X × List ℕ) → one p ≡ Some x → Takes S p x
  -- with more bytes behind it is the same
  pub more : (p q : List ℕ) (x : X × List ℕ) → one p ≡ Some x → one (p ++ q) ≡ Some (x.0, x.1 ++ q)
  -- and without those that it doesn't take
  pub less : (p q : List ℕ) (x : X × List ℕ) → one (p ++ q) ≡ Some x → length q ≤ length x.1 → (t : List ℕ) × (one p ≡ Some (x.0, t))

-- one size is another
pub resized : {X : Type 0} (one : List ℕ → Option (X × List ℕ)) (S R : X → ℕ → Type 0) → ((x : X) (n : ℕ) → S x n → R x n) → Reads one S → Reads one R
resized one S R so r = record {
  takes = λ p x is. let t = r.takes p x is in record { text = t.text; split = t.split; size = so x.0 (length t.text) t.size };
  more = r.more;
  less = r.less;
}

-- nothing is taken
pub reads_none : {X : Type 0} (y : X) → Reads (λ p. Some (y, p)) (λ x n. (x ≡ y) × (n ≡ 0))
reads_none {X = X} y = record {
  takes = λ p x is.
      subst (λ (z : X × List ℕ). Takes (λ x n. (x ≡ y) × (n ≡ 0)) p z) (some_is (y, p) x is) (record { text = []; split = refl; size = (refl, refl) });
  more = λ p q x is. ap (λ (z : X × List ℕ). (let o : Option (X × List ℕ) = Some (z.0, z.1 ++ q) in o)) (some_is (y, p) x is);
  less = λ p q x is le. (p, ap (λ (z : X × List ℕ). (let o : Option (X × List ℕ) = Some (z.0, p) in o)) (some_is (y, p ++ q) x is));
}

-- bytes
pub reads_bytes : (n : ℕ) → Reads (bytes_at n) (λ x k. (k ≡ n) × (length x ≡ n))
reads_bytes n = record {
  takes = λ p x is.
      let kept = cond_some (nat_le n (length p)) (take n p, drop n p) x is in
      let most = leb-true n (length p) kept.0 in
      subst (λ (z : List ℕ × List ℕ). Takes (λ x k. (k ≡ n) × (length x ≡ n)) p z) kept.1 (record {
        text = take n p;
        split = sym (take-append-drop n p);
        size = (omega (arith, length-take n p, most), omega (arith, length-take n p, most));
      });
  more = λ p q x is.
      let kept = cond_some (nat_le n (length p)) (take n p, drop n p) x is in
      let most = leb-true n (length p) kept.0 in
      let within = le-leb n (length (p ++ q)) (omega (arith, most, length-append p q)) in
      (λ i. if within i then Some (take-append-le n p q most i, drop-append-le n p q most i) else None)
      ∙ ap (λ (z : List ℕ × List ℕ). (let o : Option (List ℕ × List ℕ) = Some (z.0, z.1 ++ q) in o)) kept.1;
  less = λ p q x is le.
      let kept = cond_some (nat_le n (length (p ++ q))) (take n (p ++ q), drop n (p ++ q)) x is in
      let most = leb-true n (length (p ++ q)) kept.0 in
      let left : length x.1 ≡ length (p ++ q) - n = sym (ap (λ (z : List ℕ × List ℕ). length z.1) kept.1) ∙ length-drop n (p ++ q) in
      let here : n ≤ length p = omega (arith, most, left, le, length-append p q) in
      let within = le-leb n (length p) here in
      let front : take n p ≡ x.0 = sym (take-append-le n p q here) ∙ ap (λ (z : List ℕ × List ℕ). z.0) kept.1 in
      (drop n p, λ i. if within i then Some (front i, drop n p) else None);
}

-- what is made of a field
pub reads_mapped : {A B : Type 0} (h : A → B) (one : List ℕ → Option (A × List ℕ)) (S : A → ℕ → Type 0) → Reads one S
    → Reads (λ p. option_map (λ x. (h x.0, x.1)) (one p)) (λ b n. (a : A) × S a n × (b ≡ h a))
reads_mapped {A = A} {B = B} h one S r = record {
  takes = λ p x is.
      let from = mapped (λ y. (h y.0, y.1)) (one p) x is in
      let t = r.takes p from.0 from.1 in
      subst (λ (z : B × List ℕ). Takes (λ b n. (a : A) × S a n × (b ≡ h a)) p z) from.2 (record { text = t.text; split = t.split; size = ((from.0).0, t.size, refl) });
  more = λ p q x is.
      let from = mapped (λ y. (h y.0, y.1)) (one p) x is in
      ap (λ (o : Option (A × List ℕ)). option_map (λ y. (h y.0, y.1)) o) (r.more p q from.0 from.1)
      ∙ ap (λ (z : B × List ℕ). (let o : Option (B × List ℕ) = Some (z.0, z.1 ++ q) in o)) from.2;
  less = λ p q x is le.
      let from = mapped (λ y. (h y.0, y.1)) (one (p ++ q)) x is in
      let l = r.less p q from.0 from.1 (subst (λ (z : B × List ℕ). length q ≤ length z.1) (sym from.2) le) in
      (l.0, ap (λ (o : Option (A × List ℕ)). option_map (λ y. (h y.0, y.1)) o) l.1 ∙ ap (λ (z : B × List ℕ). (let o : Option (B × List ℕ) = Some (z.0, l.0) in o)) from.2);
}

-- one field and then others
pub reads_on : {A B : Type 0} (one : List ℕ → Option (A × List ℕ)) (next : A → List ℕ → Option (B × List ℕ)) (S : A → ℕ → Type 0) (R : A → B → ℕ → Type 0)
    → Reads one S → ((a : A) → Reads (next a) (R a)) → Reads (λ p. one p >>= λ x. next x.0 x.1) (λ b n. (a : A) × (k : ℕ) × (m : ℕ) × S a k × R a b m × (n ≡ k + m))
reads_on {A = A} {B = B} one next S R first second = record {
  takes = λ p x is.
      let from = bound (one p) (λ x. next x.0 x.1) x is in
      let t = first.takes p from.0 from.1 in
      let u = (second (from.0).0).takes (from.0).1 x from.2 in
      record {
        text = t.text ++ u.text;
        split = t.split ∙ ap (λ (l : List ℕ). t.text ++ l) u.split ∙ sym (append_assoc t.text u.text x.1);
        size = ((from.0).0, length t.text, length u.text, t.size, u.size, length-append t.text u.text);
      };
  more = λ p q x is.
      let from = bound (one p) (λ x. next x.0 x.1) x is in
      on (one (p ++ q)) ((from.0).0, (from.0).1 ++ q) (λ x. next x.0 x.1) (first.more p q from.0 from.1) ∙ (second (from.0).0).more (from.0).1 q x from.2;
  less = λ p q x is le.
      let from = bound (one (p ++ q)) (λ x. next x.0 x.1) x is in
      let y = from.0 in
      let u = (second y.0).takes y.1 x from.2 in
      let l = first.less p q y from.1 (omega (arith, le, ap length u.split, length-append u.text x.1)) in
      let same : y ≡ (y.0, l.0 ++ q) = some_is y (y.0, l.0 ++ q) (sym from.1 ∙ first.more p q (y.0, l.0) l.1) in
      let here : next y.0 (l.0 ++ q) ≡ Some x = ap (λ (z : A × List ℕ). next y.0 z.1) (sym same) ∙ from.2 in
      let m = (second y.0).less l.0 q x here le in
      (m.0, on (one p) (y.0, l.0) (λ x. next x.0 x.1) l.1 ∙ m.1);
}

-- ---- numbers

-- a number has as many bytes as its width
pub reads_number : (w : Width) → Reads (number_at w) (λ _ n. n ≡ byte_len w)
reads_number w =
    resized (number_at w) (λ b n. (a : List ℕ) × ((n ≡ byte_len w) × (length a ≡ byte_len w)) × (b ≡ from_le_bytes w a)) (λ _ n. n ≡ byte_len w) (λ b n s. s.1.0)
    (reads_mapped (from_le_bytes w) (bytes_at (byte_len w)) (λ x k. (k ≡ byte_len w) × (length x ≡ byte_len w)) (reads_bytes (byte_len w)))

-- how much of the bytes was taken is told by what is left
pub taken_is : {X : Type 0} (one : List ℕ → Option (X × List ℕ)) (S : X → ℕ → Type 0) → Reads one S → (p : List ℕ) (x : X × List ℕ) → one p ≡ Some x
    → (length x.1 ≤ length p) × (one p ≡ Some (x.0, drop (length p - length x.1) p))
taken_is {X = X} one S r p x is =
    let t = r.takes p x is in
    let k : length p - length x.1 ≡ length t.text = omega (arith, ap length t.split, length-append t.text x.1) in
    let back : x.1 ≡ drop (length p - length x.1) p = sym (ap (λ (n : ℕ). drop n p) k ∙ ap (drop (length t.text)) t.split ∙ drop_at t.text x.1 (length t.text) refl) in
    (omega (arith, ap length t.split, length-append t.text x.1), is ∙ ap (λ (l : List ℕ). (let o : Option (X × List ℕ) = Some (x.0, l) in o)) back)

-- what was read is read whatever follows
pub found_on : {X : Type 0} (one : List ℕ → Option (X × List ℕ)) (S : X → ℕ → Type 0) → Reads one S → (p rest : List ℕ) (x : X) (left : List ℕ) (k : ℕ) → one p ≡ Some (x, left) → k ≡ length p - length left
    → (k ≤ length p) × (one (p ++ rest) ≡ Some (x, drop k p ++ rest))
found_on one S r p rest x left k is size =
    let t = taken_is one S r p (x, left) is in (
      omega (arith, size, t.0),
      r.more p rest (x, drop (length p - length left) p) t.1 ∙ ap (λ (n : ℕ). (let o : Option _ = Some (x, drop n p ++ rest) in o)) (sym size),
    )

-- and where none was read, none that is small is
pub none_on : {X : Type 0} (one : List ℕ → Option (X × List ℕ)) (S : X → ℕ → Type 0) (test : X → Bool) → Reads one S → ((x : X) (n : ℕ) → S x n → test x ≡ true → n ≤ 131072)
    → (p rest : List ℕ) → one p ≡ None → IsEnough p rest → (o : Option (X × List ℕ)) → one (p ++ rest) ≡ o → StandsNot test o
none_on one S test r small p rest none enough None is = tt
none_on one S test r small p rest none (inr end) (Some x) is = absurd (cc (sym none ∙ (ap one (sym (append-nil p)) ∙ ap (λ (l : List ℕ). one (p ++ l)) (sym end) ∙ is)))
none_on one S test r small p rest none (inl long) (Some x) is =
    elim (test x.0) as (λ (v : Bool). test x.0 ≡ v → v ≡ false) [
      | true ↦ λ passes.
          let t = r.takes (p ++ rest) x is in
          let short = small x.0 (length t.text) t.size passes in
          let l = r.less p rest x is (omega (arith, long, short, ap length t.split, length-append t.text x.1, length-append p rest)) in
          absurd (cc (sym none ∙ l.1))
      | false ↦ λ _. refl
    ] refl
