-- The groups of a workload, one behind the other: their bytes, and that each step has room in a frame.
use Rattle.std.proofs.Common.{◌≡◌, ◌∙◌, ℕ, zero, suc, ◌+◌, ◌-◌, ◌*◌, ◌<◌, ◌≤◌, List, [], ◌∷◌, ◌++◌, Option, append_assoc, ap, sym, subst, refl, arith}
use Rattle.std.specs.Prelude.{flat_map}
use Rattle.std.specs.List.{All}
use Rattle.std.specs.Io.KnownBytes.{Appends}
use Rattle.std.proofs.lemmas.List.Elements.{All-nil, All-cons, All-append}
use Rattle.std.proofs.lemmas.Grind.{flat_map-append}
use Rattle.std.proofs.lemmas.List.{append-nil}
use Rattle.dkv_io.specs.Streams.{AppendsFront}
use Rattle.dkv_io.proofs.Written.{appends_nothing, appends_then, appends_front_then, appends_front_more}
use Rattle.dkv_base.specs.declared.types.Ask.{Ask}
use Rattle.dkv_base.specs.declared.types.Ask.TheVariants as ask
use Rattle.dkv_base.specs.declared.types.Step.{Step}
use Rattle.dkv_generate.specs.Frames.{IsFrame, IsShort, frame_bytes}
use Rattle.dkv_generate.specs.Keys.{item_key}
use Rattle.dkv_generate.specs.Numbers.{number_after}
use Rattle.dkv_generate.specs.Steps.{step, entry, item_step, sum_step, message_step, settle_step, group_steps, steps_of}
use Rattle.dkv_generate.specs.Workload.{groups_bytes, workload}
use Rattle.dkv_generate.proofs.Short.{item_short, sum_short, read_short, enqueued_short, take_short, settle_short}

-- ---- bytes

-- the bytes of group g
abbrev pub group_bytes : ℕ → ℕ → List ℕ
group_bytes g number = flat_map frame_bytes (group_steps g (number_after (9 * g) number))

-- of no groups
pub no_groups : (number : ℕ) → groups_bytes 0 number ≡ []
unfolding steps_of
no_groups number = refl

-- one group more
pub one_group_more : (g number : ℕ) → groups_bytes (g + 1) number ≡ groups_bytes g number ++ group_bytes g number
unfolding steps_of
one_group_more g number =
    let same : g + 1 ≡ suc g = omega arith in
    ap (λ (n : ℕ). groups_bytes n number) same ∙ flat_map-append frame_bytes (steps_of g number) (group_steps g (number_after (9 * g) number))

-- it was written behind the others
pub one_group_written : (k number x : ℕ) (a b c : Option (List ℕ)) → x ≡ number_after (9 * k) number
    → Appends a b (groups_bytes k number) → Appends b c (flat_map frame_bytes (group_steps k x)) → Appends a c (groups_bytes (k + 1) number)
one_group_written k number x a b c is before written =
    subst (λ (l : List ℕ). Appends a c l) (sym (one_group_more k number))
    (appends_then a b c (groups_bytes k number) (group_bytes k number) before
    (subst (λ (y : ℕ). Appends b c (flat_map frame_bytes (group_steps k y))) is written))

-- none were written
pub none_written : (number : ℕ) (a : Option (List ℕ)) → Appends a a (groups_bytes 0 number)
none_written number a = subst (λ (l : List ℕ). Appends a a l) (sym (no_groups number)) (appends_nothing a)

-- and so no part
pub none_in_front : (number : ℕ) (a : Option (List ℕ)) → AppendsFront a a (workload number)
none_in_front number a = (0, appends_nothing a)

-- six frames, one behind the other
six_frames : (out a b c d e f : List ℕ) → (((((out ++ a) ++ b) ++ c) ++ d) ++ e) ++ f ≡ out ++ (a ++ (b ++ (c ++ (d ++ (e ++ (f ++ []))))))
six_frames out a b c d e f = simp (append_assoc, append-nil)

-- each was added in turn
pub six_added : (out o1 o2 o3 o4 o5 o6 a b c d e f : List ℕ) → o1 ≡ out ++ a → o2 ≡ o1 ++ b → o3 ≡ o2 ++ c → o4 ≡ o3 ++ d → o5 ≡ o4 ++ e → o6 ≡ o5 ++ f
    → o6 ≡ out ++ (a ++ (b ++ (c ++ (d ++ (e ++ (f ++ []))))))
six_added out o1 o2 o3 o4 o5 o6 a b c d e f one two three four five six = cc (six_frames out a b c d e f)

-- some groups more keep a front a front
more_groups : (d k number : ℕ) (a c : Option (List ℕ)) → AppendsFront a c (groups_bytes k number) → AppendsFront a c (groups_bytes (d + k) number)
more_groups zero k number a c front =
    let same : zero + k ≡ k = omega arith in
    subst (λ (n : ℕ). AppendsFront a c (groups_bytes n number)) (sym same) front
more_groups (suc d) k number a c front =
    let same : suc d + k ≡ (d + k) + 1 = omega arith in
    subst (λ (n : ℕ). AppendsFront a c (groups_bytes n number)) (sym same)
    (subst (λ (l : List ℕ). AppendsFront a c l) (sym (one_group_more (d + k) number))
    (appends_front_more a c (groups_bytes (d + k) number) (group_bytes (d + k) number) (more_groups d k number a c front)))

-- whole groups and a front of the next are a front of the workload
pub front_of_workload : (k number x : ℕ) (a b c : Option (List ℕ)) → k < 4000 → x ≡ number_after (9 * k) number
    → Appends a b (groups_bytes k number) → AppendsFront b c (flat_map frame_bytes (group_steps k x)) → AppendsFront a c (workload number)
front_of_workload k number x a b c some is before part =
    let front : AppendsFront b c (group_bytes k number) = subst (λ (y : ℕ). AppendsFront b c (flat_map frame_bytes (group_steps k y))) is part in
    let next : AppendsFront a c (groups_bytes (k + 1) number) =
    subst (λ (l : List ℕ). AppendsFront a c l) (sym (one_group_more k number)) (appends_front_then a b c (groups_bytes k number) (group_bytes k number) before front) in
    let same : (3999 - k) + (k + 1) ≡ 4000 = omega arith in
    subst (λ (n : ℕ). AppendsFront a c (groups_bytes n number)) same (more_groups (3999 - k) (k + 1) number a c next)

-- ---- frames

-- by its caller at its moment
fits : (g : ℕ) (a : Ask) → g < 4000 → IsShort a → IsFrame (step g a)
fits g a some short = record { caller = omega arith; moment = omega arith; short = short }

-- one more before others
more : (s : Step) (steps : List Step) → IsFrame s → All IsFrame steps → All IsFrame (s ∷ steps)
more s steps fit others = All-cons IsFrame s steps fit others

-- what a group asks
group_fits : (g x : ℕ) → g < 4000 → All IsFrame (group_steps g x)
group_fits g x some =
    let settle = settle_step g in
    let take = step g ask.Take in
    let enqueue = message_step g (number_after 8 x) in
    let read = step g (entry (item_key g)) in
    let sum = sum_step g in
    more (item_step g x) (sum ∷ read ∷ enqueue ∷ take ∷ settle ∷ []) (fits g (item_step g x).ask some (item_short g x))
    (more sum (read ∷ enqueue ∷ take ∷ settle ∷ []) (fits g sum.ask some (sum_short g))
    (more read (enqueue ∷ take ∷ settle ∷ []) (fits g read.ask some (read_short g))
    (more enqueue (take ∷ settle ∷ []) (fits g enqueue.ask some (enqueued_short g (number_after 8 x)))
    (more take (settle ∷ []) (fits g ask.Take some take_short)
    (more settle [] (fits g settle.ask some (settle_short (4 * g + 3))) (All-nil IsFrame))))))

-- and all groups
pub groups_fit : (k number : ℕ) → k ≤ 4000 → All IsFrame (steps_of k number)
unfolding steps_of
groups_fit zero number most = All-nil IsFrame
groups_fit (suc g) number most =
    All-append IsFrame (steps_of g number) (group_steps g (number_after (9 * g) number))
    (groups_fit g number (omega arith)) (group_fits g (number_after (9 * g) number) (omega arith))
