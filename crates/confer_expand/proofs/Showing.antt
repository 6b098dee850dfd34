-- The lines of the messages of one cast, one behind the other.
use Rattle.std.proofs.Common.{◌≡◌, ℕ, get_or, ◌+◌, ◌-◌, ◌*◌, ◌<◌, ◌≤◌, List, [], ◌∷◌, ◌++◌, length, map, take, drop, refl, sym, ap, ap₂, subst, ◌∙◌, arith, append_assoc}
use Rattle.std.specs.Prelude.{slice_set}
use Rattle.std.specs.List.{concat}
use Rattle.std.proofs.lemmas.List.{append-nil, drop_more, length-append, length-take, map-append, set-set, take_all, take_more}
use Rattle.std.proofs.lemmas.List.Concat.{flat_map-append}
use Rattle.cb_frames.specs.declared.frame.Cast.{Cast}
use Rattle.cb_frames.specs.declared.frame.TheConstants.{LAST_NUMBER}
use Rattle.cb_frames.specs.declared.frame.Burst.{Burst}
use Rattle.cb_frames.specs.declared.frame.Unit.TheVariants.{Many}
use Rattle.cb_frames.specs.Fields.{Carried, CastFields, cast_fields, burst_fields, numbered, messages_of}
use Rattle.cb_diffs.specs.Expansion.{expanded_time}
use Rattle.cb_frames.specs.Fields.{first_number}
use Rattle.cb_frames.specs.Carrying.{AreNumberedFrom, IsNumbered}
use Rattle.cb_frames.proofs.Carried.{burst_ends, carried_in_order, carries_one}
use Rattle.confer_expand.specs.Answers.{message_text}
use Rattle.confer_expand.specs.declared.messages.TheConstants.{LONGEST_LINE}
use Rattle.confer_expand.specs.Progress.{Group, SameButTime}
use Rattle.confer_expand.specs.Lines.{line_feed, as_lines}
use Rattle.confer_expand.specs.Texts.{accepted_text, carried_text, cast_lines}

-- ---- the lines are those of the messages with their times

lines_with_times : (size : ℕ) (casts : List CastFields) (time : List ℕ) (sender n : ℕ) (ms : List Carried) → AreNumberedFrom sender n ms
    → ((number : ℕ) → n ≤ number → slice_set time sender number ≡ expanded_time size casts sender number)
    → map (carried_text time) ms ≡ map (message_text size casts) ms
lines_with_times size casts time sender n [] row times = refl
lines_with_times size casts time sender n (m ∷ ms) row times =
    let here : slice_set time m.sender m.number ≡ expanded_time size casts m.sender m.number =
    subst (λ (k : ℕ). slice_set time k m.number ≡ expanded_time size casts k m.number) (sym row.0) (times m.number (omega (arith, row.1))) in
    ap₂ (λ (t : List ℕ) (ts : List (List ℕ)). t ∷ ts)
    (ap (λ (t : List ℕ). accepted_text (record { sender = m.sender; number = m.number }) t m.payload) here)
    (lines_with_times size casts time sender (n + 1) ms row.2 (λ number le. times number (omega (arith, le))))

pub cast_lines_are : (size : ℕ) (casts : List CastFields) (c : CastFields) (time : List ℕ)
    → ((number : ℕ) → first_number c ≤ number → slice_set time c.sender number ≡ expanded_time size casts c.sender number)
    → cast_lines c time ≡ as_lines (map (message_text size casts) (messages_of c))
cast_lines_are size casts c time times =
    ap as_lines (lines_with_times size casts time c.sender (first_number c) (messages_of c) (carried_in_order c) times)

-- ---- one message

pub cast_line : (cast : Cast) (time : List ℕ) → cast_lines (cast_fields cast) time
    ≡ accepted_text (record { sender = cast.sender; number = cast.number }) (slice_set time cast.sender cast.number) cast.payload ++ line_feed ∷ []
cast_line cast time =
    ap (λ (ms : List Carried). as_lines (map (carried_text time) ms)) (carries_one (cast_fields cast) tt)
    ∙ append-nil (accepted_text (record { sender = cast.sender; number = cast.number }) (slice_set time cast.sender cast.number) cast.payload ++ line_feed ∷ [])

-- ---- those of a burst

-- What the loop over the payloads knows: the lines of the first ones, that nothing but the time has changed, and that in no field but
-- the sender's, and room for the other lines.
pub record ShownSoFar (burst : Burst) (place : ℕ) (old now : Group) (before after : List ℕ) (count room : ℕ) : Type 0 where
  pub lines : after ≡ before ++ as_lines (map (carried_text old.time) (numbered burst.sender burst.first (take place burst.payloads.items)))
  pub times : (number : ℕ) → slice_set now.time burst.sender number ≡ slice_set old.time burst.sender number
  pub stays : SameButTime old now
  pub reserved : count + (length burst.payloads.items - place) * LONGEST_LINE + 2 * length (concat (drop place burst.payloads.items)) ≤ room

-- each message has a number
pub number_fits : (burst : Burst) (place : ℕ) → IsNumbered (Many burst) → place < length burst.payloads.items → burst.first + place ≤ LAST_NUMBER
number_fits burst place numbered lt = omega (arith, burst_ends burst numbered.0, numbered.1, lt)

numbered-push : (sender n : ℕ) (xs : List (List ℕ)) (p : List ℕ) → numbered sender n (xs ++ p ∷ []) ≡ numbered sender n xs ++ record { sender = sender; number = n + length xs; payload = p } ∷ []
numbered-push sender n [] p =
    let there : n ≡ n + length {A = List ℕ} [] = omega arith in
    ap (λ (k : ℕ). record { sender = sender; number = k; payload = p } ∷ []) there
numbered-push sender n (x ∷ xs) p =
    let there : n + 1 + length xs ≡ n + length (x ∷ xs) = omega arith in
    ap (λ (ms : List Carried). record { sender = sender; number = n; payload = x } ∷ ms)
    (numbered-push sender (n + 1) xs p ∙ ap (λ (k : ℕ). numbered sender (n + 1) xs ++ record { sender = sender; number = k; payload = p } ∷ []) there)

as_lines-push : (time : List ℕ) (ms : List Carried) (m : Carried) → as_lines (map (carried_text time) (ms ++ m ∷ [])) ≡ as_lines (map (carried_text time) ms) ++ (carried_text time m ++ line_feed ∷ [])
as_lines-push time ms m =
    ap as_lines (map-append (carried_text time) ms (m ∷ []))
    ∙ flat_map-append (λ (text : List ℕ). text ++ line_feed ∷ []) (map (carried_text time) ms) (carried_text time m ∷ [])
    ∙ ap (λ (t : List ℕ). as_lines (map (carried_text time) ms) ++ t) (append-nil (carried_text time m ++ line_feed ∷ []))

-- the lines of one payload more
pub shows_one : (burst : Burst) (place : ℕ) (old now new : Group) (before after after' : List ℕ) (count count' room room' : ℕ) (p : List ℕ)
    → place < length burst.payloads.items → p ≡ get_or burst.payloads.items place p → ShownSoFar burst place old now before after count room
    → new ≡ record now { time = slice_set now.time burst.sender (burst.first + place) }
    → after' ≡ after ++ (accepted_text (record { sender = burst.sender; number = burst.first + place }) new.time p ++ line_feed ∷ [])
    → count' ≤ count + LONGEST_LINE + 2 * length p → room ≤ room' → ShownSoFar burst (place + 1) old new before after' count' room'
shows_one burst place old now new before after after' count count' room room' p lt at f moved line long roomy =
    let payloads = burst.payloads.items in
    let number = burst.first + place in
    let done = numbered burst.sender burst.first (take place payloads) in
    let m : Carried = record { sender = burst.sender; number = number; payload = p } in
    let time : new.time ≡ slice_set now.time burst.sender number = ap (λ (g : Group). g.time) moved in
    let parts : take (place + 1) payloads ≡ take place payloads ++ p ∷ [] = take_more payloads place p lt ∙ ap (λ (x : List ℕ). take place payloads ++ x ∷ []) (sym at) in
    let count_is : burst.first + length (take place payloads) ≡ number = simp length-take (omega (arith, lt)) in
    let ms : numbered burst.sender burst.first (take (place + 1) payloads) ≡ done ++ m ∷ [] =
    ap (numbered burst.sender burst.first) parts ∙ numbered-push burst.sender burst.first (take place payloads) p
    ∙ ap (λ (k : ℕ). done ++ record { sender = burst.sender; number = k; payload = p } ∷ []) count_is in
    let shown : accepted_text (record { sender = burst.sender; number = number }) new.time p ≡ carried_text old.time m =
    ap (λ (t : List ℕ). accepted_text (record { sender = burst.sender; number = number }) t p) (time ∙ f.times number) in
    let rest : concat (drop place payloads) ≡ p ++ concat (drop (place + 1) payloads) =
    ap concat (drop_more payloads place p lt) ∙ ap (λ (x : List ℕ). x ++ concat (drop (place + 1) payloads)) (sym at) in
    record {
      lines = line ∙ ap₂ (λ (t u : List ℕ). t ++ (u ++ line_feed ∷ [])) f.lines shown
          ∙ append_assoc before (as_lines (map (carried_text old.time) done)) (carried_text old.time m ++ line_feed ∷ [])
          ∙ ap (λ (t : List ℕ). before ++ t) (sym (as_lines-push old.time done m) ∙ ap (λ (xs : List Carried). as_lines (map (carried_text old.time) xs)) (sym ms));
      times = λ n. ap (λ (t : List ℕ). slice_set t burst.sender n) time ∙ set-set now.time burst.sender number n ∙ f.times n;
      stays = record {
        number = ap (λ (g : Group). g.number) moved ∙ f.stays.number;
        kept = ap (λ (g : Group). g.kept) moved ∙ f.stays.kept;
      };
      reserved = omega (arith, f.reserved, ap length rest, length-append p (concat (drop (place + 1) payloads)), long, roomy, lt);
    }

pub all_shown : (burst : Burst) (place : ℕ) (old now : Group) (before after : List ℕ) (count room : ℕ) → length burst.payloads.items ≤ place
    → ShownSoFar burst place old now before after count room → after ≡ before ++ cast_lines (burst_fields burst) old.time
unfolding messages_of
all_shown burst place old now before after count room le f =
    f.lines ∙ ap (λ (ps : List (List ℕ)). before ++ as_lines (map (carried_text old.time) (numbered burst.sender burst.first ps))) (take_all place burst.payloads.items le)
