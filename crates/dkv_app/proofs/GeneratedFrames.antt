-- The steps of a workload have the frames that `pipe` takes.
use Rattle.std.proofs.Common.{◌≡◌, ◌∙◌, ℕ, ◌^◌, ◌≤◌, true, false, ◌&&◌, List, [], ◌∷◌, ◌++◌, length, map, ap, refl, arith}
use Rattle.std.specs.Prelude.{IsTrue, nat_lt, flat_map}
use Rattle.std.proofs.lemmas.Bool.{and_from, lt-ltb, le-leb}
use Rattle.std.proofs.lemmas.List.Elements.{All-map, All-weaker}
use Rattle.dkv_base.specs.declared.types.Ask.{Ask}
use Rattle.dkv_base.specs.declared.types.Ask.TheVariants as ask
use Rattle.dkv_base.specs.declared.types.Step.{Step}
use Rattle.dkv_generate.specs.Frames.{IsFrame, body_of, frame_bytes as step_bytes}
use Rattle.dkv_generate.specs.Steps.{steps_of}
use Rattle.dkv_generate.proofs.Whole.{groups_fit}
use Rattle.dkv_pipe.specs.Frames.{PipeFrame, frame_bytes, is_frame, is_body_length}
use Rattle.dkv_app.specs.Generating.{frame_kind, frame_of, AreTheFrames}

-- the frame of a step is spelled so
spelled_so : (who at : ℕ) (a : Ask) → step_bytes (record { who = who; at = at; ask = a }) ≡ frame_bytes (frame_of (record { who = who; at = at; ask = a }))
spelled_so who at (ask.Read ranges) = refl
spelled_so who at (ask.Write w) = refl
spelled_so who at (ask.Watch keys) = refl
spelled_so who at ask.Poll = refl
spelled_so who at ask.Take = refl
spelled_so who at (ask.Settle id true) = refl
spelled_so who at (ask.Settle id false) = refl

-- and so are those of steps in a row
all_spelled_so : (steps : List Step) → flat_map step_bytes steps ≡ flat_map frame_bytes (map frame_of steps)
all_spelled_so [] = refl
all_spelled_so (s ∷ steps) =
    ap (λ (l : List ℕ). l ++ flat_map step_bytes steps) (spelled_so s.who s.at s.ask)
    ∙ ap (λ (l : List ℕ). frame_bytes (frame_of s) ++ l) (all_spelled_so steps)

-- its body may have its length
may_have : (a : Ask) → length (body_of a) ≤ 2097152 → is_body_length (frame_kind a) (length (body_of a)) ≡ true
may_have (ask.Read ranges) most = le-leb (length (body_of (ask.Read ranges))) 2097152 most
may_have (ask.Write w) most = le-leb (length (body_of (ask.Write w))) 2097152 most
may_have (ask.Watch keys) most = le-leb (length (body_of (ask.Watch keys))) 2097152 most
may_have ask.Poll most = refl
may_have ask.Take most = refl
may_have (ask.Settle id true) most = refl
may_have (ask.Settle id false) most = refl

-- an input may have it
is_one : (s : Step) → IsFrame s → IsTrue (is_frame (frame_of s))
is_one s fits =
    and_from (nat_lt s.who (2 ^ 32) && nat_lt s.at (2 ^ 64)) (is_body_length (frame_kind s.ask) (length (body_of s.ask)))
    (and_from (nat_lt s.who (2 ^ 32)) (nat_lt s.at (2 ^ 64)) (lt-ltb s.who (2 ^ 32) fits.caller) (lt-ltb s.at (2 ^ 64) fits.moment))
    (may_have s.ask fits.short.most)

-- the workload of a number is the frames of its steps
pub are_the_frames : (number : ℕ) → AreTheFrames number
are_the_frames number = record {
  bytes = all_spelled_so (steps_of 4000 number);
  each = All-map (λ (f : PipeFrame). IsTrue (is_frame f)) frame_of (steps_of 4000 number)
      (All-weaker IsFrame (λ s. IsTrue (is_frame (frame_of s))) is_one (steps_of 4000 number) (groups_fit 4000 number (omega arith)));
}
