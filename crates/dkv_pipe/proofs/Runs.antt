-- A run goes on, or ends.
use Rattle.std.proofs.Common.{◌≡◌, ℕ, ◌+◌, ◌<◌, Bool, List, [], ◌∷◌, ◌++◌, length, drop, Option, Some, None, refl, sym, ap, subst, ◌∙◌, arith, append_assoc, length-append, inl, inr}
use Rattle.std.specs.Prelude.{IsTrue, false, not, max}
use Rattle.std.specs.Io.KnownBytes.{Consumes, IsAtEnd}
use Rattle.std.proofs.lemmas.List.{length-drop, append-nil}
use Rattle.dkv_base.specs.declared.types.MsgId.{MsgId}
use Rattle.dkv_base.specs.Messages.{is_out}
use Rattle.dkv_base.specs.Moments.{capped_moment}
use Rattle.dkv_base.specs.State.{State}
use Rattle.dkv_base.specs.Steps.{Situation, raised}
use Rattle.dkv_store.specs.Attempts.{Attempt}
use Rattle.dkv_store.specs.Stores.{Contents, IsRaised, IsRaisedTo, effective_at}
use Rattle.dkv_store.specs.Situations.{StandsFor}
use Rattle.dkv_store.specs.Terms.{Leads}
use Rattle.dkv_pipe.specs.declared.frames.Head.{Head}
use Rattle.dkv_pipe.specs.declared.pipe.PipeEnd.{PipeEnd}
use Rattle.dkv_pipe.specs.declared.pipe.PipeEnd.TheVariants as end
use Rattle.dkv_pipe.specs.declared.sizes.TheConstants.{MAX_PLACE}
use Rattle.dkv_pipe.specs.Frames.{PipeFrame, Partial, Refused, Whole, front}
use Rattle.dkv_pipe.specs.Wishes.{readings, wish}
use Rattle.dkv_pipe.specs.Pipe.{frame_step, after_frames, summary_lines}
use Rattle.dkv_pipe.specs.Built.{is_built}
use Rattle.dkv_pipe.specs.Courses.{Course, IsCourse, situation_of}
use Rattle.dkv_pipe.specs.Attempts.{attempts_of, frame_attempts}
use Rattle.dkv_pipe.specs.Grants.{Answers, IsRefusedFor}
use Rattle.dkv_pipe.specs.Stores.{Reaches, EndsIn, RunsTo}
use Rattle.dkv_pipe.specs.Ends.{Streams, NoFrame, EndsAt, Puts, PutsFront, Writes}
use Rattle.dkv_pipe.specs.Running.{Running, IsWholeOf, frame_with, body_at, store_lines}
use Rattle.dkv_pipe.proofs.RepliedFrames.{course_more, course_one, course_with, after_one, attempts_one}
use Rattle.dkv_pipe.proofs.Reaching.{reaches_none, reaches_one, reaches_same, leads_none, leads_then}
use Rattle.dkv_pipe.proofs.Putting.{puts_nothing, puts_then, lines_stand, all_put, lines_unwritten, reply_unwritten, at_reply, at_end}

-- ---- what was read

consumes_nothing : (left : Option (List ℕ)) → Consumes left left []
consumes_nothing None = tt
consumes_nothing (Some xs) = refl

consumes_then : (a b c : Option (List ℕ)) (xs ys : List ℕ) → Consumes a b xs → Consumes b c ys → Consumes a c (xs ++ ys)
consumes_then None b c xs ys first second = tt
consumes_then (Some all) None c xs ys first second = absurd first
consumes_then (Some all) (Some bs) None xs ys first second = absurd second
consumes_then (Some all) (Some bs) (Some cs) xs ys first second = first ∙ ap (λ (l : List ℕ). xs ++ l) second ∙ sym (append_assoc xs ys cs)

-- ---- situations

-- a store at another moment stands for the situation at that moment
raised_stands : {D : Type 0} (s : Situation) (old new : Contents D) (t : ℕ) → StandsFor s old → IsRaisedTo t old new → StandsFor (raised t s) new
raised_stands s old new t stands is = record {
  state = stands.state ∙ sym is.state;
  out = λ id. stands.out id ∙ ap (λ (ids : List MsgId). is_out id ids) (sym is.out);
  greatest = sym is.greatest;
  trail = stands.trail ∙ sym is.trail;
  limited = stands.limited ∙ sym is.limit;
}

same_stands : {D : Type 0} (s : Situation) (old new : Contents D) → StandsFor s old → IsRaisedTo old.core.greatest old new → StandsFor s new
same_stands s old new stands is = record {
  state = stands.state ∙ sym is.state;
  out = λ id. stands.out id ∙ ap (λ (ids : List MsgId). is_out id ids) (sym is.out);
  greatest = stands.greatest ∙ sym is.greatest;
  trail = stands.trail ∙ sym is.trail;
  limited = stands.limited ∙ sym is.limit;
}

module _ {D : Type 0} (seen : D → Option (List ℕ)) (images : D → List ℕ → Type 0) (faults moment : D → ℕ) (since : D → ℕ → List ℕ → Type 0) (summary : Bool) where
  -- ---- steps

  -- at the start nothing is read, and the buffer is empty
  pub at_start : (s : Contents D) (before : Streams) → Running seen images faults moment since summary s before before s [] 0 0
  at_start s before = record {
    read = [];
    frames = [];
    marks = [];
    out = [];
    taken = consumes_nothing before.left;
    answered = record { whole = refl; built = tt; early = tt; place = refl; replied = refl; many = refl; marked = tt };
    written = puts_nothing (not summary) before.held;
    counted = refl;
    stands = record { state = refl; out = λ id. refl; greatest = refl; trail = refl; limited = refl };
    reaches = reaches_none faults s;
    leads = leads_none seen images moment since s;
  }

  module _ (old : Contents D) (before now : Streams) (s : Contents D) (buffer : List ℕ) (at count : ℕ) (is : Running seen images faults moment since summary old before now s buffer at count) where
    abbrev from : Situation
    from = situation_of old

    abbrev here : Situation
    here = after_frames readings from is.frames is.marks

    abbrev c : Course
    c = record { frames = is.frames; marks = is.marks; at = at; out = is.out; rest = buffer }

    -- a piece is read
    pub more_on : (next : Streams) (piece : List ℕ) → Consumes now.left next.left piece → now.held ≡ next.held → Running seen images faults moment since summary old before next s (buffer ++ piece) at count
    more_on next piece takes keeps = record {
      read = is.read ++ piece;
      frames = is.frames;
      marks = is.marks;
      out = is.out;
      taken = consumes_then before.left now.left next.left is.read piece is.taken takes;
      answered = course_more from is.read piece c is.answered;
      written = subst (λ (held : Option (List ℕ)). Puts (not summary) before.held held is.out) keeps is.written;
      counted = is.counted;
      stands = is.stands;
      reaches = is.reaches;
      leads = is.leads;
    }

    -- ---- one more frame is answered

    module _ (new : Contents D) (h : Head) (reply : List ℕ) (early : at < MAX_PLACE) (w : IsWholeOf h buffer)
        (e : Answers seen images faults moment since s (frame_with h (body_at h.len buffer)) reply new) where
      abbrev f : PipeFrame
      f = frame_with h (body_at h.len buffer)

      abbrev m : Bool
      m = e.1.mark

      step_is : ((frame_step readings here f m).0 ≡ reply) × StandsFor (frame_step readings here f m).1 new
      step_is = e.1.steps here is.stands

      abbrev longer : Course
      longer = course_with c f m reply (at + h.len) (drop h.len buffer)

      course_is : IsCourse from is.read longer
      course_is = course_one from is.read c f m reply (at + h.len) (drop h.len buffer) is.answered early w.whole e.0 step_is.0 e.1.marked (omega (arith, w.most, length-drop h.len buffer))

      stands_is : StandsFor (after_frames readings from longer.frames longer.marks) new
      stands_is = subst (λ (u : Situation). StandsFor u new) (sym (after_one from is.frames is.marks f m is.answered.many)) step_is.1

      reaches_is : Reaches faults (length longer.frames) longer.marks old new
      reaches_is = subst (λ (n : ℕ). Reaches faults n longer.marks old new) (sym (length-append is.frames (f ∷ []))) (reaches_one faults (length is.frames) is.marks m old s new is.reaches e.1.reaches)

      leads_is : Leads seen images moment since (attempts_of from longer.frames longer.marks) old new
      leads_is =
          subst (λ (l : List Attempt). Leads seen images moment since l old new) (sym (attempts_one from is.frames is.marks f m is.answered.many))
          (leads_then seen images moment since old s new (attempts_of from is.frames is.marks) (frame_attempts here f m) is.leads (e.1.leads here is.stands))

      pub frame_on : (next : Streams) → now.left ≡ next.left → Puts (not summary) now.held next.held reply → Running seen images faults moment since summary old before next new (drop h.len buffer) (at + h.len) (count + 1)
      frame_on next keeps grows = record {
        read = is.read;
        frames = longer.frames;
        marks = longer.marks;
        out = longer.out;
        taken = subst (λ (left : Option (List ℕ)). Consumes before.left left is.read) keeps is.taken;
        answered = course_is;
        written = puts_then (not summary) before.held now.held next.held is.out reply is.written grows;
        counted = omega (arith, is.counted, length-append is.frames (f ∷ []));
        stands = stands_is;
        reaches = reaches_is;
        leads = leads_is;
      }

      -- and the write of its reply fails
      pub fault_ends : (next : Streams) → now.left ≡ next.left → PutsFront (not summary) now.held next.held reply → RunsTo seen images faults moment since summary end.WriteFault before next old new
      fault_ends next keeps grows = record {
        course = longer;
        ran = record {
          read = is.read;
          taken = subst (λ (left : Option (List ℕ)). Consumes before.left left is.read) keeps is.taken;
          answered = course_is;
          written = reply_unwritten summary from is.read before.held now.held next.held longer is.out reply is.written grows (λ all part. record {
            earlier = c;
            frame = f;
            mark = m;
            last = reply;
            held = now.held;
            answered = is.answered;
            next = w.whole;
            frames = refl;
            marks = refl;
            reply = sym step_is.0;
            out = refl;
            written = all;
            part = part;
          });
          ends = at_reply summary now.held next.held reply next (at + h.len) (drop h.len buffer) grows;
        };
        ends = stands_is;
        reaches = reaches_is;
        leads = leads_is;
      }

    -- ---- ends

    -- at an end behind these frames
    ended : (e : PipeEnd) (next : Streams) (new : Contents D) → now.left ≡ next.left → Writes summary e from is.read before.held next.held c → EndsAt summary e next at buffer → EndsIn e here buffer new
        → Reaches faults (length is.frames) is.marks old new → Leads seen images moment since (attempts_of from is.frames is.marks) old new
        → RunsTo seen images faults moment since summary e before next old new
    ended e next new keeps written ends stands reaches leads = record {
      course = c;
      ran = record {
        read = is.read;
        taken = subst (λ (left : Option (List ℕ)). Consumes before.left left is.read) keeps is.taken;
        answered = is.answered;
        written = written;
        ends = ends;
      };
      ends = stands;
      reaches = reaches;
      leads = leads;
    }

    -- memory is wanted for a piece
    pub piece_ends : at < MAX_PLACE → RunsTo seen images faults moment since summary end.NoMemory before now old s
    piece_ends early = ended end.NoMemory now s refl is.written early (inl is.stands) is.reaches is.leads

    raised_ends : (new : Contents D) (f : PipeFrame) (more : List ℕ) → front buffer ≡ Whole f more → IsRaised (effective_at s f.moment) s new → EndsIn end.NoMemory here buffer new
    raised_ends new f more whole (inl same) = inl (same_stands here s new is.stands same)
    raised_ends new f more whole (inr later) = inr (record {
      frame = f;
      more = more;
      whole = whole;
      stands = subst (λ (t : ℕ). StandsFor (raised t here) new) (sym (ap (λ (g : ℕ). max (capped_moment f.moment) g) is.stands.greatest)) (raised_stands here s new (effective_at s f.moment) is.stands later);
    })

    raised_reaches : (new : Contents D) (t : ℕ) → IsRaised t s new → Reaches faults (length is.frames) is.marks old new
    raised_reaches new t (inl same) = reaches_same faults (length is.frames) is.marks old s new is.reaches same.a same.b (ap (λ (x : State). x.number) same.state)
    raised_reaches new t (inr same) = reaches_same faults (length is.frames) is.marks old s new is.reaches same.a same.b (ap (λ (x : State). x.number) same.state)

    -- memory is wanted for a frame
    pub memory_ends : (new : Contents D) (h : Head) → at < MAX_PLACE → IsWholeOf h buffer → IsRefusedFor seen images moment since s h.moment new → RunsTo seen images faults moment since summary end.NoMemory before now old new
    memory_ends new h early w refused =
        ended end.NoMemory now new refl is.written early (raised_ends new (frame_with h (body_at h.len buffer)) (drop h.len buffer) w.whole refused.raised)
        (raised_reaches new (effective_at s h.moment) refused.raised)
        (subst (λ (l : List Attempt). Leads seen images moment since l old new) (append-nil (attempts_of from is.frames is.marks))
        (leads_then seen images moment since old s new (attempts_of from is.frames is.marks) [] is.leads refused.leads))

    pub read_fault_ends : at < MAX_PLACE → front buffer ≡ Partial → RunsTo seen images faults moment since summary end.ReadFault before now old s
    read_fault_ends early part = ended end.ReadFault now s refl is.written (record { early = early; part = part }) is.stands is.reaches is.leads

    -- the lines of the store are those of the frames so far
    lines_are : store_lines count s ≡ summary_lines (length is.frames) here
    lines_are = lines_stand here s count (length is.frames) is.stands is.counted

    -- the source said End between two frames, and a summary is written, if one is wanted
    pub input_ends : (next : Streams) → now.left ≡ next.left → at < MAX_PLACE → buffer ≡ [] → IsAtEnd next.left → Puts summary now.held next.held (store_lines count s)
        → RunsTo seen images faults moment since summary end.Ok before next old s
    input_ends next keeps early none last puts =
        ended end.Ok next s keeps
        (all_put summary before.held now.held next.held is.out (summary_lines (length is.frames) here) is.written (subst (λ (l : List ℕ). Puts summary now.held next.held l) lines_are puts))
        (record { early = early; none = none; last = last }) is.stands is.reaches is.leads

    -- or its write fails
    pub summary_ends : (next : Streams) → now.left ≡ next.left → at < MAX_PLACE → buffer ≡ [] → IsAtEnd next.left → IsTrue next.ended → PutsFront summary now.held next.held (store_lines count s)
        → RunsTo seen images faults moment since summary end.WriteFault before next old s
    summary_ends next keeps early none last said puts =
        ended end.WriteFault next s keeps
        (lines_unwritten summary from is.read before.held now.held next.held c is.written (subst (λ (l : List ℕ). PutsFront summary now.held next.held l) lines_are puts))
        (at_end summary next at buffer (record { early = early; none = none; last = last }) said) is.stands is.reaches is.leads

    -- no frame begins at the place
    pub bad_frame_ends : NoFrame now at buffer → RunsTo seen images faults moment since summary (end.BadFrame at) before now old s
    bad_frame_ends none = ended (end.BadFrame at) now s refl is.written (refl, none) is.stands is.reaches is.leads

    -- the source said End within a frame
    pub cut_ends : front buffer ≡ Partial → 0 < length buffer → IsAtEnd now.left → IsTrue now.ended → RunsTo seen images faults moment since summary (end.BadFrame at) before now old s
    cut_ends part some last said = bad_frame_ends (inr (inl (record { part = part; some = some; last = last; said = said })))

    -- the bytes at the front are refused
    pub refused_ends : front buffer ≡ Refused → RunsTo seen images faults moment since summary (end.BadFrame at) before now old s
    refused_ends refused = bad_frame_ends (inl refused)

    -- a frame that isn't built
    pub unbuilt_ends : (h : Head) → at < MAX_PLACE → IsWholeOf h buffer → is_built h.kind ≡ false → RunsTo seen images faults moment since summary (end.NotBuilt at) before now old s
    unbuilt_ends h early w none =
        ended (end.NotBuilt at) now s refl is.written (refl, record { frame = frame_with h (body_at h.len buffer); more = drop h.len buffer; early = early; whole = w.whole; unbuilt = none }) is.stands is.reaches is.leads
